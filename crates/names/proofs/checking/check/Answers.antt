use Rattle.std.proofs.Common.{◌≡◌, ◌≤◌, length, Ok, Err, None, sym, ◌∙◌, arith, rules}
use Rattle.std.proofs.lemmas.Result.{err_from_is_err_and}
use Rattle.std.proofs.lemmas.Bool.Decides.{nat_tests}
use Rattle.std.specs.Result.{result_err}
use Rattle.names.specs.Refusals.{refusal_of}
use Rattle.names.specs.declared.refusal.Refusal.TheVariants.{CountOutOfRange}
use Rattle.names.proofs.First.{first_past, counted_first, refused_next, passed_next}
use Rattle.names.proofs.RefusalLaws.{accepted_in_words, refused_in_words}
use Rattle.names.proofs.checking.check.Goals as goal

pub returns-then-is_empty-clause-refused : goal.returns-then-is_empty-clause-refused
returns-then-is_empty-clause-refused c =
    refused_in_words {T = Unit {0}} c.args.text.now c.args.rows.now (Err CountOutOfRange) (search rules)

pub returns-in_err-next_name : goal.returns-in_err-next_name
returns-in_err-next_name c =
    let text = c.args.text.now in
    let rows = c.args.rows.now in
    let m : length rows ≤ 65536 = omega arith in
    let p = err_from_is_err_and c.from_residual.result c.from_residual.ensures.1 in
    let q = refused_next text rows c.loop-i.i _ c.loop-i.invariant.0 c.loop-i.invariant.1 c.in_err-next_name.field-0.0 (omega arith) m c.in_err-next_name.ensures.answer in
    let e : result_err c.from_residual.result ≡ refusal_of text rows = rw (p.1, p.2) (sym q) in
    record {
      answer = e;
      accepted = accepted_in_words text rows c.from_residual.result e;
      refused = refused_in_words text rows c.from_residual.result e;
    }

pub loop-i-preserved : goal.loop-i-preserved
loop-i-preserved c =
    passed_next c.args.text.now c.args.rows.now c.loop-i.i _ c.loop-i.invariant.0 c.loop-i.invariant.1 _ (omega arith) c.in_ok-next_name.ensures.answer c.in_ok-next_name.ensures.bytes

pub returns : goal.returns
returns c =
    let text = c.args.text.now in
    let rows = c.args.rows.now in
    let m : length rows ≤ 65536 = omega arith in
    let k : 1 ≤ length rows = grind (arith, nat_tests) in
    let e : None ≡ refusal_of text rows = sym (counted_first text rows k m ∙ c.loop-i.invariant.1 ∙ first_past text rows c.loop-i.i (omega arith)) in
    record {
      answer = e;
      accepted = accepted_in_words text rows (Ok (tt {0})) e;
      refused = refused_in_words text rows (Ok (tt {0})) e;
    }
