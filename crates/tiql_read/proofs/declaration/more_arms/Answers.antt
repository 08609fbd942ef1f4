use Rattle.std.proofs.Common.{rules, arith}
use Rattle.tiql_read.proofs.Loops.{left_init, left_on, left_stop, left_end, left_gives}
use Rattle.tiql_read.proofs.declaration.more_arms.Goals as goal

pub loop-init : goal.loop-init
loop-init c = left_init _ _ c.args.arms c.args.words.now

pub loop-preserved : goal.loop-preserved
loop-preserved c =
    left_on _ _ c.loop.arms _ _ c.loop.counter c.loop.rest.now _ _ _ (omega arith) (cc) c.in_ok-select.ensures (search rules) c.loop.invariant

pub returns-then-not-begins_key : goal.returns-then-not-begins_key
returns-then-not-begins_key c = left_stop _ _ c.loop.arms _ c.loop.rest.now _ (cc) c.loop.invariant

pub returns-in_err-select : goal.returns-in_err-select
returns-in_err-select c =
    search (rules, left_gives _ _ c.loop.arms _ c.loop.counter c.loop.rest.now c.in_err-select.field-0.0 _ (omega arith) (cc) c.in_err-select.ensures c.loop.invariant)

pub returns : goal.returns
returns c = left_end _ _ c.loop.arms _ c.loop.counter c.loop.rest.now _ (omega arith) c.loop.invariant
