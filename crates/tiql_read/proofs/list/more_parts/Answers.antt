use Rattle.std.proofs.Common.{rules, arith}
use Rattle.tiql_read.proofs.Loops.{left_init, left_end, next_left_on, next_left_stop, next_left_gives}
use Rattle.tiql_read.proofs.list.more_parts.Goals as goal

pub loop-init : goal.loop-init
loop-init g c = left_init _ _ c.args.parts c.args.words.now

pub loop-preserved : goal.loop-preserved
loop-preserved g c =
    next_left_on _ _ c.loop.parts _ _ c.loop.counter c.loop.rest.now c.in-Some.behind.now _ _ _ (omega arith) c.in-Some.ensures c.in_ok-part.ensures (search rules) c.loop.invariant

pub returns-in_default : goal.returns-in_default
returns-in_default g c = next_left_stop _ _ c.loop.parts _ c.loop.rest.now _ c.in_default.ensures c.loop.invariant

pub returns-in_err-part : goal.returns-in_err-part
returns-in_err-part g c =
    search (rules, next_left_gives _ _ c.loop.parts _ c.loop.counter c.loop.rest.now c.in-Some.behind.now c.in_err-part.field-0.0 _ (omega arith) c.in-Some.ensures c.in_err-part.ensures c.loop.invariant)

pub returns : goal.returns
returns g c = left_end _ _ c.loop.parts _ c.loop.counter c.loop.rest.now _ (omega arith) c.loop.invariant
