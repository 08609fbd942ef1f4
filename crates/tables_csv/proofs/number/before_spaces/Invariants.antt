use Rattle.std.proofs.Common.{◌≡◌, length}
use Rattle.tables_csv.specs.Numbers.{before_spaces}
use Rattle.tables_csv.proofs.number.before_spaces.Given as goal

abbrev pub invariant-loop-rest : goal.invariant-loop-rest
invariant-loop-rest l = before_spaces l.rest ≡ before_spaces l.field

abbrev pub decreases-loop-rest : goal.decreases-loop-rest
decreases-loop-rest l = length l.rest
