use Rattle.std.proofs.Common.{◌∙◌, Some, ap, ℕ, List}
use Rattle.tables_csv.proofs.Readings.{unmarked_stays}
use Rattle.tables_csv.proofs.record.reader_of.Goals as goal

pub returns-clause-source : goal.returns-clause-source
returns-clause-source c = c.from_reader.ensures.source ∙ ap (λ (l : List ℕ). Some l) (unmarked_stays c.args.bytes.now c.requires)
