use Rattle.std.proofs.Common.{ap, ◌∙◌, arith}
use Rattle.std.specs.Prelude.{count_by}
use Rattle.std.proofs.lemmas.List.{take_all}
use Rattle.job_intake.specs.Bounding.{unfixed, has_choice}
use Rattle.job_intake.proofs.limit.unfixed.Goals as goal

pub returns-clause-value : goal.returns-clause-value
unfolding unfixed
returns-clause-value c = c.loop-column.invariant.so_far ∙ ap (count_by has_choice) (take_all c.loop-column.column-index c.args.columns.now (omega arith))
