use Rattle.std.proofs.Common.{◌≡◌, ◌++◌, map, drop}
use Rattle.std.specs.Prelude.{option_map}
use Rattle.world_def.specs.Worlds.{number_in}
use Rattle.world_def.proofs.numbers.with_row.Given as goal

abbrev pub invariant-loop-column : goal.invariant-loop-column
invariant-loop-column l = l.made ++ map (number_in (option_map (λ r. r.now) l.row)) (drop l.column-index l.columns) ≡ l.fn.before ++ map (number_in (option_map (λ r. r.now) l.row)) l.columns
