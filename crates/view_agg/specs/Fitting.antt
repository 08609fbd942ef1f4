-- relations whose unknown columns are numbers, and possible rows that fit their columns
use Rattle.std.specs.Prelude.{◌≡◌, true, false, List, All}
use Rattle.tiql_query.specs.declared.relation.Column.{Column}

-- unknown columns are numbers
abbrev pub AreMarked : List Column → Type 0
AreMarked columns = All (λ (column : Column). column.unknown ≡ true → column.text ≡ false) columns
