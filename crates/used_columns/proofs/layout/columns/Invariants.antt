use Rattle.std.proofs.Common.{◌≡◌, ◌++◌, drop, map}
use Rattle.used_columns.specs.Columns.{column_for}
use Rattle.used_columns.proofs.layout.columns.Given as goal

abbrev pub invariant-loop-stand : goal.invariant-loop-stand
invariant-loop-stand l = l.columns ++ map (column_for l.fold l.sides) (drop l.stand-index l.stands) ≡ map (column_for l.fold l.sides) l.stands
