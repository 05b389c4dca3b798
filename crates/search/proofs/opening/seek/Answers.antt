use Rattle.std.proofs.Common.{◌≡◌, rules, ◌+◌, ◌<◌, ◌∷◌, ◌∙◌, length, get_or, drop, drop-cons, add-one}
use Rattle.search.proofs.opening.seek.Goals as goal

pub loop-byte-preserved : goal.loop-byte-preserved
loop-byte-preserved g c =
    let i = c.loop-byte.byte-index in
    let bytes = c.args.bytes.now in
    let inside : i < length bytes = search rules in
    let e = rw c.in-Some.is at c.in_ok-beneath.ensures.answer in
    let parts : drop i bytes ≡ get_or bytes i 0 ∷ drop (i + 1) bytes = rw (add-one, drop-cons bytes i 0 inside) in
    record {
      depth = search rules;
      same = λ upper. e c.args.inclusive upper (drop (i + 1) bytes) ∙ (rw parts at (c.loop-byte.invariant.same upper));
    }
