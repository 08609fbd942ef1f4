use Rattle.std.proofs.Common.{arith}
use Rattle.bool_encode.specs.declared.stand.Stand.TheVariants as stand
use Rattle.bool_encode.specs.Stands.{column_of}
use Rattle.bool_encode.proofs.StandLemmas.{first_here, first_later, first_end}
use Rattle.bool_encode.proofs.stand.first.Goals as goal

pub returns-then-is_it : goal.returns-then-is_it
returns-then-is_it c =
    first_here c.args.stands.now c.loop-place.place (stand.World 0) c.args.sought (column_of c.args.stands.now c.args.sought) c.loop-place-test.true (c.is_it.ensures.0 c.if-is_it.true) c.loop-place.invariant

pub loop-place-preserved : goal.loop-place-preserved
loop-place-preserved c =
    first_later c.args.stands.now c.loop-place.place (stand.World 0) c.args.sought (column_of c.args.stands.now c.args.sought) c.loop-place-test.true (λ is. cc (c.is_it.ensures.1 is, c.if-is_it.false)) c.loop-place.invariant

pub returns : goal.returns
returns c =
    let end = first_end c.args.stands.now c.loop-place.place c.args.sought (column_of c.args.stands.now c.args.sought) c.loop-place-test.false c.loop-place.invariant in
    omega (arith, end, c.loop-place-test.false, c.loop-place.auto.place-end)
