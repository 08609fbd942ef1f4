use Rattle.std.proofs.Common.{◌≡◌, ◌++◌, map}
use Rattle.sym_groups.specs.Groups.{together}
use Rattle.sym_groups.specs.Together.{lent_rows}
use Rattle.sym_groups.proofs.rows.together.Given as goal

abbrev pub invariant-loop-group : goal.invariant-loop-group
invariant-loop-group l = map lent_rows (l.made.items ++ l.group-iterator) ≡ together l.keys l.rows
