use Rattle.std.proofs.Common.{ℕ, List, sym, Bor}
use Rattle.std.proofs.lemmas.Result.{err_from_is_err_and}
use Rattle.answer_text.specs.declared.answer.WorldText.{WorldText}
use Rattle.answer_text.specs.Blocks.{world_at, worlds_at}
use Rattle.answer_text.proofs.Grammar.{world_shorter, worlds_end, worlds_on, worlds_stop}
use Rattle.answer_text.proofs.Loops.{loop_on, loop_stop, loop_end, stops_alike}
use Rattle.answer_text.proofs.blocks.worlds.Goals as goal

pub returns-in_err-world : goal.returns-in_err-world
returns-in_err-world c =
    let p = err_from_is_err_and c.from_residual.result c.from_residual.ensures.1 in
    rw (p.1, p.2) (stops_alike (λ (x : WorldText × Bor (List ℕ)). (x.0, x.1.now)) (λ (x : List WorldText × Bor (List ℕ)). (x.0, x.1.now)) c.in_err-world.field-0.0 (world_at c.each.rest.now) (worlds_at c.args.bytes.now)
    (λ left e. loop_stop c.each.worlds (worlds_at c.each.rest.now) (worlds_at c.args.bytes.now) c.each.invariant left (worlds_stop c.each.rest.now left (sym c.each-test.ensures) e)) c.in_err-world.ensures)

pub each-smaller : goal.each-smaller
each-smaller c = world_shorter c.each.rest.now (c.in_ok-world.world, c.in_ok-world.after.now) c.in_ok-world.ensures

pub each-preserved : goal.each-preserved
each-preserved c =
    loop_on c.each.worlds (worlds_at c.each.rest.now) (worlds_at c.args.bytes.now) c.each.invariant c.in_ok-world.world c.push.new.self (worlds_at c.in_ok-world.after.now)
    (worlds_on c.each.rest.now (c.in_ok-world.world, c.in_ok-world.after.now) (sym c.each-test.ensures) c.in_ok-world.ensures) c.in_ok-push.ensures.ok

pub returns : goal.returns
returns c =
    loop_end c.each.worlds (worlds_at c.each.rest.now) (worlds_at c.args.bytes.now) c.each.invariant c.each.rest.now (worlds_end c.each.rest.now (sym c.each-test.ensures))
