-- What the code's values are in the words of the law. Assumes nothing.
use Rattle.std.specs.Prelude.{ℕ, List}
use Rattle.byte_strings.specs.Order.{Bytes}
use Rattle.bound.specs.Value.{value_of}
use Rattle.law.specs.declared.Row.{Row}
use Rattle.law.specs.Values.{View, Search as SearchValue}
use Rattle.search.specs.declared.search.Search.{Search}

-- all that a search holds
abbrev pub search_of : {S : Type 0} → Search S → SearchValue
search_of s = record { upper = value_of s.upper; depth = s.stack.depth; waiting = s.waiting; standing = s.standing; count = s.count }

-- with the work areas of a call
abbrev pub view_of : {S : Type 0} → Search S → List (Row S) → Bytes → View S
view_of s rows area = record { search = search_of s; rows = rows; key_area = area }

-- how many keys it has handed out
abbrev pub count_of : {S : Type 0} → Search S → ℕ
count_of s = (search_of s).count
