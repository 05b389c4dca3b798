-- What the lines of an input ask for. Assumes nothing.
use Rattle.std.specs.Prelude.{ℕ, cond, List, [], ◌∷◌, ◌++◌, Some, None, Option, ◌==◌}
use Rattle.byte_strings.specs.Order.{Bytes}
use Rattle.bound.specs.Value.{BoundValue, unbounded, included, excluded}
use Rattle.input.specs.declared.kind.Kind.{Kind}
use Rattle.input.specs.declared.kind.Kind.TheVariants.{Ge, Gt, Le, Lt, Prefix, Subsequence, Shift, Name}
use Rattle.input.specs.Number.{number}

pub record Asked : Type 0 where
  pub lower : BoundValue
  pub upper : BoundValue
  pub prefix : Bytes
  pub subsequence : Bytes
  pub shift : ℕ
  pub names : List Bytes

-- what no line asks for
abbrev pub nothing_asked : Asked
nothing_asked = record { lower = unbounded; upper = unbounded; prefix = []; subsequence = []; shift = 0; names = [] }

abbrev pub with_lower : BoundValue → Asked → Asked
with_lower b a = record { lower = b; upper = a.upper; prefix = a.prefix; subsequence = a.subsequence; shift = a.shift; names = a.names }

abbrev pub with_upper : BoundValue → Asked → Asked
with_upper b a = record { lower = a.lower; upper = b; prefix = a.prefix; subsequence = a.subsequence; shift = a.shift; names = a.names }

abbrev pub with_prefix : Bytes → Asked → Asked
with_prefix p a = record { lower = a.lower; upper = a.upper; prefix = p; subsequence = a.subsequence; shift = a.shift; names = a.names }

abbrev pub with_subsequence : Bytes → Asked → Asked
with_subsequence s a = record { lower = a.lower; upper = a.upper; prefix = a.prefix; subsequence = s; shift = a.shift; names = a.names }

abbrev pub with_shift : Option ℕ → Asked → Option Asked
with_shift None a = None
with_shift (Some n) a = Some (record { lower = a.lower; upper = a.upper; prefix = a.prefix; subsequence = a.subsequence; shift = n; names = a.names })

abbrev pub with_name : Bytes → Asked → Asked
with_name k a = record { lower = a.lower; upper = a.upper; prefix = a.prefix; subsequence = a.subsequence; shift = a.shift; names = a.names ++ (k ∷ []) }

-- what the first character of a line says of the rest
abbrev pub kind_of : ℕ → Option Kind
kind_of c =
    cond (c == 71) (Some Ge)
    (cond (c == 103) (Some Gt)
    (cond (c == 76) (Some Le)
    (cond (c == 108) (Some Lt)
    (cond (c == 80) (Some Prefix)
    (cond (c == 83) (Some Subsequence)
    (cond (c == 66) (Some Shift)
    (cond (c == 43) (Some Name) None)))))))

-- a line of a kind, whose rest is given: a later one replaces, a name is added, and a shift that is no number is bad
abbrev pub act : Asked → Kind → Bytes → Option Asked
act a Ge rest = Some (with_lower (included rest) a)
act a Gt rest = Some (with_lower (excluded rest) a)
act a Le rest = Some (with_upper (included rest) a)
act a Lt rest = Some (with_upper (excluded rest) a)
act a Prefix rest = Some (with_prefix rest a)
act a Subsequence rest = Some (with_subsequence rest a)
act a Shift rest = with_shift (number rest) a
act a Name rest = Some (with_name rest a)

abbrev pub act_by : Asked → Option Kind → Bytes → Option Asked
act_by a None rest = None
act_by a (Some kind) rest = act a kind rest

-- one line; an empty one is bad
abbrev pub act_line : Asked → Bytes → Option Asked
act_line a [] = None
act_line a (c ∷ rest) = act_by a (kind_of c) rest

-- after a bad line nothing helps
abbrev pub act_on : Option Asked → Bytes → Option Asked
act_on None line = None
act_on (Some a) line = act_line a line

-- the lines act in order
unfoldable pub act_lines : Option Asked → List Bytes → Option Asked
act_lines o [] = o
act_lines o (line ∷ more) = act_lines (act_on o line) more
