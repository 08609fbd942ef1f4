use Rattle.std.proofs.Common.{ℕ, List, arith, sym, Bor}
use Rattle.std.proofs.lemmas.Result.{err_from_is_err_and}
use Rattle.answer_text.specs.declared.answer.PartAnswer.{PartAnswer}
use Rattle.answer_text.specs.Blocks.{part_at, parts_at}
use Rattle.answer_text.proofs.Grammar.{part_shorter, parts_end, parts_on, parts_stop}
use Rattle.answer_text.proofs.Loops.{loop_on, loop_stop, loop_end, stops_alike}
use Rattle.answer_text.proofs.blocks.parts.Goals as goal

pub returns-in_err-part : goal.returns-in_err-part
returns-in_err-part c =
    let p = err_from_is_err_and c.from_residual.result c.from_residual.ensures.1 in
    rw (p.1, p.2) (stops_alike (λ (x : PartAnswer × Bor (List ℕ)). (x.0, x.1.now)) (λ (x : List PartAnswer × Bor (List ℕ)). (x.0, x.1.now)) c.in_err-part.field-0.0 (part_at c.each.rest.now) (parts_at c.args.bytes.now)
    (λ left e. loop_stop c.each.parts (parts_at c.each.rest.now) (parts_at c.args.bytes.now) c.each.invariant.items left (parts_stop c.each.rest.now left (sym c.each-test.ensures) e)) c.in_err-part.ensures)

pub each-smaller : goal.each-smaller
each-smaller c = part_shorter c.each.rest.now (c.in_ok-part.part, c.in_ok-part.after.now) c.in_ok-part.ensures

pub each-preserved : goal.each-preserved
each-preserved c = record {
  within = omega (arith, part_shorter c.each.rest.now (c.in_ok-part.part, c.in_ok-part.after.now) c.in_ok-part.ensures);
  items = loop_on c.each.parts (parts_at c.each.rest.now) (parts_at c.args.bytes.now) c.each.invariant.items c.in_ok-part.part c.push.new.self (parts_at c.in_ok-part.after.now)
      (parts_on c.each.rest.now (c.in_ok-part.part, c.in_ok-part.after.now) (sym c.each-test.ensures) c.in_ok-part.ensures) c.in_ok-push.ensures.ok;
}

pub returns : goal.returns
returns c =
    loop_end c.each.parts (parts_at c.each.rest.now) (parts_at c.args.bytes.now) c.each.invariant.items c.each.rest.now (parts_end c.each.rest.now (sym c.each-test.ensures))
