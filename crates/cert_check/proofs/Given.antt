-- The world that the sections of an answer give.
use Rattle.std.proofs.Common.{◌≡◌, ◌≤◌, ℕ, List, [], ◌∷◌, length, true, false, refl, sym, ◌∙◌, ap, subst}
use Rattle.std.specs.Prelude.{Option, Some, None, is_some, All, ◌↔◌}
use Rattle.std.proofs.lemmas.List.Elements.{All-cons, All-nil}
use Rattle.tiql_query.specs.declared.query.Query.{Query}
use Rattle.tiql_query.specs.declared.relation.QHypo.{QHypo}
use Rattle.tiql_query.specs.Rows.{AreTables}
use Rattle.answer_text.specs.declared.answer.WorldText.{WorldText}
use Rattle.answer_text.specs.Worlds.{AreSections, IsWorldOf}
use Rattle.answer_text.proofs.Worlds.{world_one}
use Rattle.world_def.specs.declared.world.World.{World}
use Rattle.world_def.specs.declared.world.WorldTable.{WorldTable}
use Rattle.world_def.specs.Columns.{IsSmall, Tables}
use Rattle.world_def.specs.Judging.{IsSmallWorld}
use Rattle.world_def.specs.Meaning.{IsPossible}

abbrev IsFew : WorldTable → Type 0
IsFew table = length table.rows ≤ 200000

module _ (query : Query) (tables : Tables) where
  given_few : (hypos : List QHypo) (worlds : List WorldText) (given : List WorldTable) → AreSections query tables hypos worlds given → All IsFew given
  given_few [] [] [] are = All-nil IsFew
  given_few [] [] (table ∷ given) are = absurd are
  given_few [] (text ∷ worlds) given are = absurd are
  given_few (hypo ∷ hypos) [] given are = absurd are
  given_few (hypo ∷ hypos) (text ∷ worlds) [] are = absurd are
  given_few (hypo ∷ hypos) (text ∷ worlds) (table ∷ given) are = All-cons IsFew table given are.0.right.rows.given.few (given_few hypos worlds given are.1)

  pub given_small : (worlds : List WorldText) (world : World) → IsSmall query tables → IsWorldOf query tables worlds world → IsSmallWorld tables world
  given_small worlds world small is = record { tables_rows = small.rows; world_rows = given_few query.hypos worlds world.tables is }

no_table : (found : Option ℕ) → is_some found ≡ false → found ≡ None
no_table None is = refl
no_table (Some hypo) is = cc

-- a test of the world tells None exactly where it is possible
module _ (query : Query) (tables : Tables) (worlds : List WorldText) (world : World) (is : IsWorldOf query tables worlds world) (found : Option ℕ) (told : (found ≡ None) ↔ IsPossible query tables world) where
  pub given_possible : is_some found ≡ false → IsPossible query tables world
  given_possible none = told.0 (no_table found none)

  pub not_given : AreTables query tables → is_some found ≡ true → (other : World) → IsWorldOf query tables worlds other → IsPossible query tables other → ⊥
  not_given are some other other_is possible =
      let same : other ≡ world = world_one query tables are worlds other world other_is is in
      let none : found ≡ None = told.1 (subst (IsPossible query tables) same possible) in
      let no : true ≡ false = sym some ∙ ap is_some none in
      cc
