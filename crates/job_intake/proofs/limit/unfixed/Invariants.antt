use Rattle.std.proofs.Common.{◌≡◌, ◌≤◌, take}
use Rattle.std.specs.Prelude.{count_by}
use Rattle.job_intake.specs.Bounding as spec
use Rattle.job_intake.proofs.limit.unfixed.Given as goal

abbrev pub invariant-loop-column : goal.invariant-loop-column
invariant-loop-column l = record {
  so_far : l.count ≡ count_by spec.has_choice (take l.column-index l.columns);
  room : l.count ≤ l.column-index;
}
