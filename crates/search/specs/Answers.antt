-- What the code answers, in the words of the law. Assumes nothing.
use Rattle.std.specs.Prelude.{ℕ, Ok, Err, Result, Some, None, Option}
use Rattle.byte_strings.specs.Order.{Bytes}
use Rattle.law.specs.Values.{Result as ResultValue, View, Answer, Handed, End, Refused, Part, Standing, NoPart}
use Rattle.law.specs.Next.{Move, More, Done}
use Rattle.search.specs.declared.refusal.Refusal.{Refusal}
use Rattle.search.specs.declared.look.Look.{Look}
use Rattle.search.specs.declared.look.Look.TheVariants.{More as Goes, Done as Ends}
use Rattle.search.specs.Numbers.{number_of}

-- a part of the key area by the bytes behind its reference, or a refusal by its number
abbrev pub part_by : {P : Type 0} → (P → Bytes) → Result P Refusal → Part
part_by bytes (Ok p) = Standing (bytes p)
part_by bytes (Err e) = NoPart (number_of e)

-- a key's length, total and state, or the end
abbrev pub item_of : {S : Type 0} → Option (ℕ × ℕ × S) → Answer S
item_of None = End
item_of (Some item) = Handed item.0 item.1 item.2

abbrev pub answer_of : {S : Type 0} → Result (Option (ℕ × ℕ × S)) Refusal → Answer S
answer_of (Ok item) = item_of item
answer_of (Err e) = Refused (number_of e)

-- an answer that leaves the view y
abbrev pub result_of : {S : Type 0} → View S → Result (Option (ℕ × ℕ × S)) Refusal → ResultValue S
result_of y r = record { answer = answer_of r; left = y }

-- a look that leaves the view y
abbrev pub move_of : {S : Type 0} → View S → Result (Look S) Refusal → Move S
move_of y (Ok Goes) = More y
move_of y (Ok (Ends item)) = Done (item_of item) y
move_of y (Err e) = Done (Refused (number_of e)) y
