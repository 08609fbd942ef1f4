use Rattle.std.proofs.Common.{◌≡◌, drop}
use Rattle.world_def.specs.Judging.{one_meets}
use Rattle.world_def.proofs.judge.one_meets.Given as goal

abbrev pub invariant-loop-row : goal.invariant-loop-row
invariant-loop-row l = one_meets l.test (drop l.row-index l.rows) ≡ one_meets l.test l.rows
