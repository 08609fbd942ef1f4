use Rattle.sym_groups.proofs.Gathering.{AreTogether}
use Rattle.sym_groups.proofs.rows.groups_of.Given as goal

abbrev pub invariant-loop-at : goal.invariant-loop-at
invariant-loop-at l = AreTogether l.keys l.rows l.at l.groups
