-- the tables of a query, and rows with one key
use Rattle.std.proofs.Common.{◌≡◌, ◌≤◌, ◌<◌, ℕ, zero, suc, List, [], ◌∷◌, Some, refl, sym, inl, inr, arith, length}
use Rattle.std.proofs.lemmas.Bool.{cases_lt}
use Rattle.std.proofs.lemmas.List.Elements.{All-cons, All-nil}
use Rattle.std.specs.List.{All, AllZip}
use Rattle.std.specs.Prelude.{slice_get}
use Rattle.base_kit.specs.declared.value.Value.{Value}
use Rattle.tiql_query.specs.declared.query.Query.{Query}
use Rattle.tiql_query.specs.declared.relation.QTable.{QTable}
use Rattle.tiql_query.specs.Keys.{HaveDistinctKeys, key_at}
use Rattle.tiql_query.specs.Rows.{AreRowsOf, AreTables}

few_each : (tables : List QTable) (lists : List (List (List Value))) → AllZip AreRowsOf tables lists → All (λ rows. length rows ≤ 200000) lists
few_each [] [] are = All-nil (λ (rows : List (List Value)). length rows ≤ 200000)
few_each [] (rows ∷ lists) are = absurd are
few_each (table ∷ tables) [] are = absurd are
few_each (table ∷ tables) (rows ∷ lists) are = All-cons (λ (rows : List (List Value)). length rows ≤ 200000) rows lists are.0.few (few_each tables lists are.1)

-- each table has at most 200,000 rows
pub tables-few : (query : Query) (tables : List (List (List Value))) → AreTables query tables → All (λ rows. length rows ≤ 200000) tables
tables-few query tables are = few_each query.tables tables are

rows_there : (tables : List QTable) (lists : List (List (List Value))) (n : ℕ) (table : QTable) → AllZip AreRowsOf tables lists → slice_get tables n ≡ Some table
    → (rows : List (List Value)) × (slice_get lists n ≡ Some rows) × AreRowsOf table rows
rows_there [] lists n table are there = cc
rows_there (first ∷ tables) [] n table are there = absurd are
rows_there (first ∷ tables) (rows ∷ lists) zero table are there = let same : first ≡ table = cc in (rows, refl, rw same at are.0)
rows_there (first ∷ tables) (rows ∷ lists) (suc n) table are there = rows_there tables lists n table are.1 there

-- a table of the query has rows
pub table_has_rows : (query : Query) (tables : List (List (List Value))) (n : ℕ) (table : QTable) → AreTables query tables → slice_get query.tables n ≡ Some table
    → (rows : List (List Value)) × (slice_get tables n ≡ Some rows) × AreRowsOf table rows
table_has_rows query tables n table are there = rows_there query.tables tables n table are there

-- one row has a key
pub key_one : (key : List ℕ) (rows : List (List Value)) (i j : ℕ) → HaveDistinctKeys key rows → 0 < length key → i < length rows → j < length rows
    → key_at key rows i ≡ key_at key rows j → i ≡ j
key_one key rows i j distinct some within also same = elim (cases_lt i j) as (λ _. i ≡ j) [
  | inl less ↦ absurd (distinct some i j less also same)
  | inr past ↦ elim (cases_lt j i) as (λ _. i ≡ j) [ inl less ↦ absurd (distinct some j i less within (sym same)) | inr more ↦ omega arith ]
]
