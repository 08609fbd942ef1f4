use Rattle.std.proofs.Common.{◌≡◌, map, take, []}
use Rattle.csv.specs.Records.{fields_of, partial_of}
use Rattle.tables_csv.specs.WholeTexts.{value_text}
use Rattle.tables_csv.proofs.write.value_fields.Given as goal

abbrev pub invariant-loop-value : goal.invariant-loop-value
invariant-loop-value l = record { front : fields_of l.fields ≡ map value_text (take l.value-index l.row); partial : partial_of l.fields ≡ [] }
