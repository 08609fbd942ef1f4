use Rattle.std.proofs.Common.{◌≡◌, length}
use Rattle.tables_csv.specs.Numbers.{after_spaces}
use Rattle.tables_csv.proofs.number.after_spaces.Given as goal

abbrev pub invariant-loop-rest : goal.invariant-loop-rest
invariant-loop-rest l = after_spaces l.rest ≡ after_spaces l.field

abbrev pub decreases-loop-rest : goal.decreases-loop-rest
decreases-loop-rest l = length l.rest
