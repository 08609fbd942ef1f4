-- What stands in a verdict.
use Rattle.std.specs.Prelude.{ℤ, Option, Some, None}
use Rattle.answer_text.specs.declared.answer.Verdict.{Verdict}
use Rattle.answer_text.specs.declared.answer.Verdict.TheVariants as verdict

-- the objective of an optimal answer
abbrev pub objective_of : Verdict → Option ℤ
objective_of (verdict.Optimal objective worlds parts) = Some objective
objective_of (verdict.FalseRow row) = None
objective_of (verdict.NoWorld part) = None
objective_of (verdict.Unfinished nodes parts) = None
