-- the sections that are written of the tables of a world
use Rattle.std.specs.Prelude.{◌≡◌, ◌<◌, IsTrue, List, [], ◌∷◌, length}
use Rattle.base_kit.specs.Names.{is_name}
use Rattle.tiql_query.specs.Rows.{AreRowsOf}
use Rattle.tiql_query.specs.declared.relation.QHypo.{QHypo}
use Rattle.tiql_query.specs.declared.relation.QTable.{QTable}
use Rattle.answer_text.specs.declared.answer.WorldText.{WorldText}
use Rattle.tables_csv.specs.WholeTables.{IsTableOf}
use Rattle.tables_csv.specs.WholeTexts.{records_text}
use Rattle.world_def.specs.declared.world.WorldTable.{WorldTable}

-- the section of a hypothetical table: its name, the number of its rows, and what is written of them
pub record IsWritten (hypo : QHypo) (table : WorldTable) (text : WorldText) : Type 0 where
  pub name : text.name ≡ hypo.name
  pub named : IsTrue (is_name text.name)
  pub rows : text.rows ≡ length table.rows
  pub bytes : text.bytes ≡ records_text hypo.columns table.rows
  -- they are read again as a table with these columns, where it may have the rows
  pub read : (declared : QTable) → declared.columns ≡ hypo.columns → 0 < length hypo.columns → AreRowsOf declared table.rows → IsTableOf text.bytes declared table.rows

-- one section for each hypothetical table, in order
unfoldable pub AreWritten : List QHypo → List WorldTable → List WorldText → Type 0
AreWritten [] [] [] = Unit {0}
AreWritten (hypo ∷ hypos) (table ∷ tables) (text ∷ texts) = IsWritten hypo table text × AreWritten hypos tables texts
AreWritten hypos tables texts = ⊥
