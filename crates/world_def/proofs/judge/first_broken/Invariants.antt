use Rattle.std.proofs.Common.{◌≡◌, ◌+◌, drop}
use Rattle.world_def.specs.Judging.{first_broken}
use Rattle.world_def.proofs.judge.first_broken.Given as goal

abbrev pub invariant-loop-at : goal.invariant-loop-at
invariant-loop-at l = first_broken l.test (l.at + 1) (drop l.at l.rows) ≡ first_broken l.test 1 l.rows
