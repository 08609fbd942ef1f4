use Rattle.std.proofs.Common.{◌≡◌, map, take}
use Rattle.ip_rows.specs.declared.Bounds.{Bounds}
use Rattle.dict_pivot.proofs.begin.lower_sides.Given as goal

abbrev pub invariant-loop-side : goal.invariant-loop-side
invariant-loop-side l = l.low.items ≡ map (λ (side : Bounds). side.lo) (take l.side-index l.sides)
