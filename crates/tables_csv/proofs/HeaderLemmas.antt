-- the names of columns, by their places
use Rattle.std.proofs.Common.{◌≡◌, ◌∙◌, ◌<◌, ℕ, List, ap, sym, arith, length, get_or}
use Rattle.std.proofs.lemmas.List.{get_or-map, length-map}
use Rattle.tiql_query.specs.declared.relation.Column.{Column}
use Rattle.tables_csv.specs.WholeTables.{names_of}

pub name_at : (columns : List Column) (i : ℕ) (column : Column) → i < length columns → column ≡ get_or columns i column → column.name ≡ get_or (names_of columns) i column.name
name_at columns i column there is = ap (λ (c : Column). c.name) is ∙ sym (get_or-map (λ (c : Column). c.name) columns i column column.name there)

pub name_there : (columns : List Column) (i : ℕ) → i < length columns → i < length (names_of columns)
name_there columns i there = let size = length-map columns (λ (c : Column). c.name) in omega arith
