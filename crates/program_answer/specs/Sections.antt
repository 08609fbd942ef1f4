-- which tables can be written as sections
use Rattle.std.specs.Prelude.{◌≡◌, ◌≤◌, List, [], ◌∷◌, length, All}
use Rattle.tiql_query.specs.declared.relation.QHypo.{QHypo}
use Rattle.world_def.specs.declared.world.WorldTable.{WorldTable}

-- the table has few rows, and each has a value for each column
pub record IsFit (hypo : QHypo) (table : WorldTable) : Type 0 where
  pub few : length table.rows ≤ 200000
  pub wide : All (λ row. length row ≡ length hypo.columns) table.rows

-- a table for each hypothetical table, in order
unfoldable pub AreFit : List QHypo → List WorldTable → Type 0
AreFit [] [] = Unit {0}
AreFit (hypo ∷ hypos) (table ∷ tables) = IsFit hypo table × AreFit hypos tables
AreFit hypos tables = ⊥
