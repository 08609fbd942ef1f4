-- lists of the possible rows of relations, by number
use Rattle.std.proofs.Common.{◌≡◌, ◌∙◌, ap, ap₂, subst, refl, ℕ, zero, suc, ◌<◌, ℤ, pos, cond, List, [], ◌∷◌, ◌++◌, length, map, filter, get_or, All, arith, Option, Some, None}
use Rattle.std.specs.Prelude.{slice_get, option_map}
use Rattle.std.specs.List.{AllZip}
use Rattle.std.specs.Ordering.{int_eq}
use Rattle.std.proofs.lemmas.List.Elements.{All-head, All-tail, All-nil, All-map}
use Rattle.base_kit.specs.declared.value.Value.{Value}
use Rattle.tiql_query.specs.declared.relation.QTable.{QTable}
use Rattle.tiql_query.specs.declared.relation.Source.{Source}
use Rattle.tiql_query.specs.declared.relation.Source.TheVariants as sources
use Rattle.tiql_query.specs.Rows as tables_of
use Rattle.tiql_query.specs.WellFormed.{IsTableFit}
use Rattle.world_def.specs.declared.world.World.{World}
use Rattle.world_def.specs.Columns.{Rows, Tables, rows_of}
use Rattle.world_def.specs.Relations.{rows_over}
use Rattle.prov_fold.specs.Graphs.{Graph, HasTruth}
use Rattle.prov_fold.specs.Folds.{IsFold}
use Rattle.prov_fold.specs.Kinds.{is_truth}
use Rattle.sym_rows.specs.declared.row.Cell.TheVariants as cells
use Rattle.sym_rows.specs.declared.row.SymRow.{SymRow}
use Rattle.sym_rows.specs.declared.row.Known.{Known}
use Rattle.sym_rows.specs.Cells.{cell_in, row_in, rows_in, is_there, IsCellOf, IsRowOf, AreRowsOf, sure_row}
use Rattle.sym_values.specs.Meanings.{IsRowFit}
use Rattle.view_join.specs.Sources.{rows_at}
use Rattle.view_agg.proofs.Fits.{sure_fit}
use Rattle.sym_query.specs.Relations.{at, there_at, AreOn}

-- an item with a number that is there
pub there : {X : Type 0} (xs : List X) (n : ℕ) → n < length xs → (x : X) × (slice_get xs n ≡ Some x)
there [] n lt = absurd (omega (arith, lt))
there (x ∷ xs) zero lt = (x, refl)
there (x ∷ xs) (suc n) lt = there xs n (omega (arith, lt))

-- where it is read, it is there
pub mapped_some : {X Y : Type 0} (f : X → Y) (o : Option X) (y : Y) → option_map f o ≡ Some y → (x : X) × (o ≡ Some x) × (f x ≡ y)
mapped_some {X} {Y} f None y e = absurd (let k : ◌≡◌ {A = Option Y} None (Some y) = e in cc)
mapped_some {X} {Y} f (Some x) y e = (x, refl, same (f x) y e)
  where
    same : (a b : Y) → ◌≡◌ {A = Option Y} (Some a) (Some b) → a ≡ b
    same a b e = cc

-- what holds of those so far and of one more
pub at_push : (P : ℕ → List SymRow → Type 0) (all : List (List SymRow)) (rows : List SymRow) → ((n : ℕ) → P n (at all n)) → P (length all) rows → (n : ℕ) → P n (at (all ++ rows ∷ []) n)
at_push P [] rows old new zero = new
at_push P [] rows old new (suc n) = old (suc n)
at_push P (one ∷ all) rows old new zero = old zero
at_push P (one ∷ all) rows old new (suc n) = at_push (λ m. P (suc m)) all rows (λ m. old (suc m)) new n

-- the rows that are there, by number
pub at_mapped : (v : ℕ → ℤ) (all : List (List SymRow)) (n : ℕ) → rows_in v (at all n) ≡ rows_of (map (rows_in v) all) n
unfolding rows_of
at_mapped v [] n = refl
at_mapped v (rows ∷ all) zero = refl
at_mapped v (rows ∷ all) (suc n) = at_mapped v all n

-- ---- the rows of relations

module _ (tables : Tables) (world : World) (views : List Rows) (known : Known) (v : ℕ → ℤ) (on : AreOn tables world views known v) where
  on_source : (source : Source) → there_at v known source ≡ rows_over tables world views source
  unfolding rows_at rows_over
  on_source (sources.Table n) = at_mapped v known.tables n ∙ ap (λ (l : Tables). rows_of l n) on.of_tables
  on_source (sources.Hypo n) = at_mapped v known.hypos n ∙ ap (λ (l : Tables). rows_of l n) on.of_hypos
  on_source (sources.View n) = at_mapped v known.views n ∙ ap (λ (l : Tables). rows_of l n) on.of_views

  -- of all relations at once
  pub on_rows : there_at v known ≡ rows_over tables world views
  on_rows = λ i source. on_source source i

-- ---- the rows of tables

module _ (v : ℕ → ℤ) (one : v 1 ≡ pos 1) where
  sure_cells_in : (row : List Value) → map (cell_in v) (map (λ (value : Value). cells.Fixed value) row) ≡ row
  sure_cells_in [] = refl
  sure_cells_in (value ∷ row) = ap (λ (l : List Value). value ∷ l) (sure_cells_in row)

  sure_rows_in : (rows : Rows) → rows_in v (map sure_row rows) ≡ rows
  sure_rows_in [] = refl
  sure_rows_in (row ∷ rows) =
      ap (λ (n : ℤ). map (row_in v) (cond (int_eq n (pos 1)) (sure_row row ∷ filter (is_there v) (map sure_row rows)) (filter (is_there v) (map sure_row rows)))) one
      ∙ ap₂ (λ (r : List Value) (l : Rows). r ∷ l) (sure_cells_in row) (sure_rows_in rows)

  pub sure_tables_in : (tables : Tables) → map (rows_in v) (map (map sure_row) tables) ≡ tables
  sure_tables_in [] = refl
  sure_tables_in (rows ∷ tables) = ap₂ (λ (r : Rows) (l : Tables). r ∷ l) (sure_rows_in rows) (sure_tables_in tables)

module _ (g : Graph) (fold : IsFold g) where
  true_there : HasTruth g 1
  true_there = let some = fold.graph.some in record { below = omega (arith, some); kind = ap is_truth fold.graph.true_at }

  sure_is : (row : List Value) → IsRowOf g (sure_row row)
  sure_is row = record { presence = true_there; possible = λ e. absurd (let k : suc 0 ≡ 0 = e in cc); cells = All-map (IsCellOf g) (λ (value : Value). cells.Fixed value) row (λ k d lt. tt) }

  pub sure_tables_are : (tables : Tables) (n : ℕ) → AreRowsOf g (at (map (map sure_row) tables) n)
  sure_tables_are [] n = All-nil (IsRowOf g)
  sure_tables_are (rows ∷ tables) zero = All-map (IsRowOf g) sure_row rows (λ k d lt. sure_is (get_or rows k d))
  sure_tables_are (rows ∷ tables) (suc n) = sure_tables_are tables n

pub sure_tables_fit : (declared : List QTable) (tables : Tables) → All IsTableFit declared → AllZip tables_of.AreRowsOf declared tables → (n : ℕ) (table : QTable) → slice_get declared n ≡ Some table → All (IsRowFit table.columns) (at (map (map sure_row) tables) n)
sure_tables_fit [] tables fit are n table is = absurd (let k : ◌≡◌ {A = Option QTable} None (Some table) = is in cc)
sure_tables_fit (one ∷ declared) [] fit are n table is = absurd are
sure_tables_fit (one ∷ declared) (rows ∷ tables) fit are zero table is =
    subst (λ (t : QTable). All (IsRowFit t.columns) (map sure_row rows)) (same one table is) (sure_fit one rows are.0.each (All-head IsTableFit one declared fit))
  where
    same : (a b : QTable) → ◌≡◌ {A = Option QTable} (Some a) (Some b) → a ≡ b
    same a b e = cc
sure_tables_fit (one ∷ declared) (rows ∷ tables) fit are (suc n) table is = sure_tables_fit declared tables (All-tail IsTableFit one declared fit) are.1 n table is
