-- DISTINCT: the rows that are made, by the values that are the same in every world
use Rattle.std.proofs.Common.{◌≡◌, ◌∙◌, sym, ap, ap₂, refl, ℕ, suc, ℤ, pos, ◌+ℤ◌, true, false, cond, List, [], ◌∷◌, get_or, map, filter, flat_map, All, arith}
use Rattle.std.proofs.lemmas.Int.{ints}
use Rattle.base_kit.specs.declared.value.Value.{Value}
use Rattle.base_kit.specs.declared.value.Value.TheVariants.{Int}
use Rattle.prov_arena.specs.Formulas.{Formula}
use Rattle.prov_fold.specs.Graphs.{Graph}
use Rattle.prov_fold.specs.Meanings.{IsLater, values_in}
use Rattle.prov_fold.specs.Values.{value_of}
use Rattle.prov_fold.proofs.PlaceLemmas.{value_kept}
use Rattle.view_select.specs.Selects.{distinct}
use Rattle.sym_rows.specs.declared.row.Cell.{Cell}
use Rattle.sym_rows.specs.declared.row.Cell.TheVariants as cells
use Rattle.sym_rows.specs.declared.row.SymRow.{SymRow}
use Rattle.sym_rows.specs.Cells.{cell_in, row_in, rows_in, is_there, AreRowsOf, IsCellOf}
use Rattle.sym_groups.specs.Groups.{constant_by, value_at, values_at, beside, together, first_cells}
use Rattle.sym_groups.specs.Meanings.{IsPlainCell, ArePlain, some_there}
use Rattle.sym_groups.proofs.Grouping.{beside_is, first_key, has_key, rows_together, all_filter, FirstHas, map_agree}

-- ---- values that are the same in every world

plus_nothing : (n : ℤ) → n +ℤ pos 0 ≡ n
plus_nothing n = omega (arith, ints)

plain_cell : (g h : Graph) (world : List ℤ) → IsLater g h world → (cell : Cell) → IsCellOf g cell → IsPlainCell g cell → value_at g cell ≡ cell_in (values_in h world) cell
unfolding value_at
plain_cell g h world later (cells.Fixed value) is plain = refl
plain_cell g h world later (cells.Number id) is plain =
    ap (λ (f : Formula). Int (constant_by f)) plain.1
    ∙ ap (λ (n : ℤ). Int n) (sym (value_kept g h world later id is.below ∙ ap (value_of world (values_in h world)) plain.1 ∙ plus_nothing plain.0))

plain_cells : (g h : Graph) (world : List ℤ) → IsLater g h world → (row : List Cell) → All (IsCellOf g) row → All (IsPlainCell g) row → values_at g row ≡ map (cell_in (values_in h world)) row
plain_cells g h world later [] are plain = refl
plain_cells g h world later (cell ∷ row) are plain =
    ap₂ (λ (x : Value) (l : List Value). x ∷ l) (plain_cell g h world later cell (are 0 cell (omega arith)) (plain 0 cell (omega arith)))
    (plain_cells g h world later row (λ k d lt. are (suc k) d (omega (arith, lt))) (λ k d lt. plain (suc k) d (omega (arith, lt))))

module _ (g h : Graph) (world : List ℤ) (later : IsLater g h world) (rows : List SymRow) (are : AreRowsOf g rows) (plain : ArePlain g rows) where
  abbrev key : SymRow → List Value
  key row = values_at g row.cells

  abbrev v : ℕ → ℤ
  v = values_in h world

  rows_plain : All (λ row. key row ≡ row_in v row) rows
  rows_plain = λ k d lt. plain_cells g h world later (get_or rows k d).cells (are k d lt).cells (plain k d lt)

  -- the first row of a group has its values
  group_values : (k : List Value) (group : List SymRow) → FirstHas (λ row. key row ≡ k) group → All (λ row. key row ≡ row_in v row) group → some_there group v ≡ true → map (cell_in v) (first_cells group) ≡ k
  unfolding first_cells
  group_values k [] first all e = absurd (let c : false ≡ true = e in cc)
  group_values k (row ∷ group) first all e = sym (all 0 row (omega arith)) ∙ first

  values_of : (k : List Value) → some_there (beside (map key rows) rows k) v ≡ true → map (cell_in v) (first_cells (beside (map key rows) rows k)) ≡ k
  values_of k e =
      ap (λ (l : List SymRow). map (cell_in v) (first_cells l)) (beside_is key rows k)
      ∙ group_values k (filter (has_key key k) rows) (first_key key rows k) (all_filter (λ row. key row ≡ row_in v row) (has_key key k) rows rows_plain) (sym (ap (λ (l : List SymRow). some_there l v) (beside_is key rows k)) ∙ e)

  map_same : (ks : List (List Value)) → map (λ k. k) ks ≡ ks
  map_same [] = refl
  map_same (k ∷ ks) = ap (λ (l : List (List Value)). k ∷ l) (map_same ks)

  pub distinct_there : (made : List SymRow) → rows_in v made ≡ flat_map (λ group. cond (some_there group v) (map (cell_in v) (first_cells group) ∷ []) []) (together (map key rows) rows) → rows_in v made ≡ distinct (rows_in v rows)
  distinct_there made h =
      h ∙ rows_together key rows v (λ group. some_there group v) (λ group. map (cell_in v) (first_cells group)) (λ k. k) (λ group. refl) values_of
      ∙ map_same (distinct (map key (filter (is_there v) rows)))
      ∙ ap distinct (map_agree key (row_in v) (filter (is_there v) rows) (all_filter (λ row. key row ≡ row_in v row) (is_there v) rows rows_plain))
