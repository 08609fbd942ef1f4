use Rattle.std.proofs.Common.{rules, pos, get_or, FitsSigned}
use Rattle.std.specs.Int.{w64}
use Rattle.std.proofs.lemmas.Int.{to_z-of_z}
use Rattle.dict_pivot.proofs.StartRows.{lows_more}
use Rattle.dict_pivot.proofs.begin.lower_sides.Goals as goal

pub loop-side-preserved : goal.loop-side-preserved
loop-side-preserved c =
    let i = c.loop-side.side-index in
    let fits : FitsSigned w64 (get_or c.args.sides.now c.loop-side.side-index (record { lo = pos 0; hi = pos 0 })).lo = search rules in
    lows_more c.args.sides.now i c.loop-side.low.items _ _ c.loop-side-test.true c.in_ok-push.ensures.items (to_z-of_z w64 (get_or c.args.sides.now i (record { lo = pos 0; hi = pos 0 })).lo fits) c.loop-side.invariant
