-- what the single truths of a requirement mean, which private contracts cite
use Rattle.std.specs.Prelude.{◌≡◌, ℕ, ℤ, Bool, true, not, ◌&&◌, ◌||◌, List, [], ◌∷◌, map, All}
use Rattle.std.specs.List.{list_all, list_any}
use Rattle.base_kit.specs.declared.value.Value.{Value}
use Rattle.tiql_query.specs.Kinds.{is_fit}
use Rattle.tiql_query.specs.declared.relation.Column.{Column}
use Rattle.tiql_query.specs.declared.condition.Cond.{Cond}
use Rattle.tiql_query.specs.declared.aim.Require.{Require}
use Rattle.tiql_query.specs.declared.aim.Require.TheVariants as needs
use Rattle.row_values.specs.Values.{truth}
use Rattle.prov_fold.specs.Values.{holds}
use Rattle.sym_rows.specs.declared.row.SymRow.{SymRow}
use Rattle.sym_rows.specs.Cells.{row_in, is_there}
use Rattle.sym_values.specs.Meanings.{IsRowFit}
use Rattle.sym_goals.specs.Meant.{IsNeedFit}

-- whether a row does what a requirement asks of it
unfoldable pub does : Require → Bool → List Value → Bool
does (needs.All source test) there row = not there || truth (row ∷ []) test
does (needs.Some source test) there row = there && truth (row ∷ []) test
does (needs.None source) there row = not there

-- likewise of a possible row
abbrev pub does_in : (ℕ → ℤ) → Require → SymRow → Bool
does_in v need row = does need (is_there v row) (row_in v row)

-- the truth holds where the row is not there
abbrev pub IsAbsent : SymRow → ℕ → List ℤ → (ℕ → ℤ) → Type 0
IsAbsent row id numbers v = holds v id ≡ not (is_there v row)

-- the truth holds where the row is not there or meets the condition
abbrev pub IsAbsentOr : List Column → Cond → SymRow → ℕ → List ℤ → (ℕ → ℤ) → Type 0
IsAbsentOr columns test row id numbers v = IsRowFit columns row → is_fit (columns ∷ []) test ≡ true → holds v id ≡ (not (is_there v row) || truth (row_in v row ∷ []) test)

-- the truth holds where the row is there and meets the condition
abbrev pub IsThereAnd : List Column → Cond → SymRow → ℕ → List ℤ → (ℕ → ℤ) → Type 0
IsThereAnd columns test row id numbers v = IsRowFit columns row → is_fit (columns ∷ []) test ≡ true → holds v id ≡ (is_there v row && truth (row_in v row ∷ []) test)

-- the truth holds where the row does what the requirement asks of it
abbrev pub IsPartOf : List Column → Require → SymRow → ℕ → List ℤ → (ℕ → ℤ) → Type 0
IsPartOf columns need row id numbers v = IsRowFit columns row → IsNeedFit columns need → holds v id ≡ does_in v need row

-- the truths are those of the rows
abbrev pub ArePartsOf : List Column → Require → List SymRow → List ℕ → List ℤ → (ℕ → ℤ) → Type 0
ArePartsOf columns need rows made numbers v = All (IsRowFit columns) rows → IsNeedFit columns need → map (holds v) made ≡ map (does_in v need) rows

-- what a requirement asks of its rows together: of one of them, or of all
unfoldable pub together : Require → List Bool → Bool
together (needs.All source test) done = list_all (λ b. b) done
together (needs.Some source test) done = list_any (λ b. b) done
together (needs.None source) done = list_all (λ b. b) done

-- all roots hold where one of the truths does
abbrev pub IsOneOf : List ℕ → List ℕ → List ℤ → (ℕ → ℤ) → Type 0
IsOneOf parts made numbers v = list_all (holds v) made ≡ list_any (holds v) parts

-- all roots hold where what is asked of the rows together holds
abbrev pub AreFrom : Require → List ℕ → List ℕ → List ℤ → (ℕ → ℤ) → Type 0
AreFrom need parts made numbers v = list_all (holds v) made ≡ together need (map (holds v) parts)
