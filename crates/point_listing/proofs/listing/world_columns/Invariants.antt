use Rattle.std.proofs.Common.{◌≡◌, ◌≤◌, count_by, take}
use Rattle.whole_points.specs.Matched.{is_world}
use Rattle.point_listing.proofs.listing.world_columns.Given as goal

abbrev pub invariant-loop-stand : goal.invariant-loop-stand
invariant-loop-stand l = record { so_far : l.count ≡ count_by (λ s. is_world s) (take l.stand-index l.stands); few : l.count ≤ l.stand-index }
