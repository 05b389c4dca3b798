use Rattle.std.proofs.Common.{rules, sym, ◌∙◌, arith}
use Rattle.input.proofs.Numbers.{read_on, read_out, read_number}
use Rattle.input.proofs.number.read_number.Goals as goal

pub loop-byte-preserved : goal.loop-byte-preserved
loop-byte-preserved c =
    rw (← c.in_ok-value.ensures) at (sym (read_on c.args.digits.now c.loop-byte.byte-index c.loop-byte.value (omega arith))) ∙ c.loop-byte.invariant

pub returns-in_err-value : goal.returns-in_err-value
returns-in_err-value c =
    c.from_residual.ensures
    ∙ rw (← c.in_err-value.ensures) at (sym (read_on c.args.digits.now c.loop-byte.byte-index c.loop-byte.value (omega arith)))
    ∙ c.loop-byte.invariant ∙ read_number c.args.digits.now (search rules) (omega arith)

pub returns : goal.returns
returns c =
    sym (read_out c.args.digits.now c.loop-byte.byte-index c.loop-byte.value (omega arith)) ∙ c.loop-byte.invariant
    ∙ read_number c.args.digits.now (search rules) (omega arith)
