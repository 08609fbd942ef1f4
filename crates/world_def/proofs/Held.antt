-- a row that stands over a row of a table holds what the table's columns may hold, and has the key of that row
use Rattle.std.proofs.Common.{◌≡◌, ◌≤◌, ◌+◌, ◌==◌, ℕ, zero, suc, ℤ, ◌≤ℤ◌, Bool, true, false, List, [], ◌∷◌, ◌++◌, map, get_or, refl, sym, ◌∙◌, ap, ap₂, subst, arith, unsigned_abs, Option, Some, None, if◌then◌else◌}
use Rattle.std.specs.Prelude.{slice_get, int_le, All, IsTrue}
use Rattle.std.specs.List.{AllZip, list_any}
use Rattle.std.specs.Ordering.{is_eq}
use Rattle.std.specs.declared.cmp.Ordering.{Ordering}
use Rattle.std.specs.declared.cmp.Ordering.TheVariants.{Less, Equal, Greater}
use Rattle.std.proofs.lemmas.Int.{ints}
use Rattle.std.proofs.lemmas.Bool.Decides.{nat_tests}
use Rattle.std.proofs.lemmas.List.Elements.{All-head, All-tail}
use Rattle.std.proofs.lemmas.Bool.{and_parts, or_parts}
use Rattle.base_kit.specs.Orders.{value_order}
use Rattle.base_kit.proofs.Orders.{value_order-Equal}
use Rattle.base_kit.specs.declared.value.Value.{Value}
use Rattle.base_kit.specs.declared.value.Value.TheVariants.{Int, Text}
use Rattle.tiql_query.specs.declared.relation.Column.{Column}
use Rattle.tiql_query.specs.declared.relation.QBound.{QBound}
use Rattle.tiql_query.specs.declared.relation.QHypo.{QHypo}
use Rattle.tiql_query.specs.declared.world_column.WorldColumn.{WorldColumn}
use Rattle.tiql_query.specs.Kinds.{kind_at, is_number}
use Rattle.tiql_query.specs.WellFormed.{IsBoundFit}
use Rattle.tiql_query.specs.Keys.{key_of}
use Rattle.tiql_query.specs.Rows.{IsOfColumn}
use Rattle.world_def.specs.Worlds.{column_at, is_equal, fits_cell, row_fits}
use Rattle.world_def.specs.Meaning.{may_change, cell_choice, presence_choice, choices}
use Rattle.world_def.proofs.Bounded.{AreBounded, IsBounded}

-- ---- cells

equal_is : (o : Ordering) → is_equal o ≡ true → o ≡ Equal
equal_is Less e = absurd (let t : false ≡ true = e in cc)
equal_is Equal e = refl
equal_is Greater e = absurd (let t : false ≡ true = e in cc)

-- a cell that is not set holds what it holds in the table
same_cell : (base value : Value) → fits_cell None base value ≡ true → value ≡ base
same_cell base value e = sym ((value_order-Equal base value).0 (ap is_eq (equal_is (value_order base value) e)))

between_small : (lo n hi : ℤ) (most : ℕ) → int_le lo n ≡ true → int_le n hi ≡ true → unsigned_abs lo ≤ most → unsigned_abs hi ≤ most → unsigned_abs n ≤ most
between_small lo n hi most low high one other = let below = at_most lo n low in let above = at_most n hi high in omega (arith, ints, below, above, one, other)
  where
    at_most : (m n : ℤ) → int_le m n ≡ true → m ≤ℤ n
    at_most m n e = grind (arith, ints)

-- a set column is a number, and its bounds are small
abbrev IsNumberCell : Column → Option WorldColumn → Type 0
IsNumberCell column None = Unit {0}
IsNumberCell column (Some cell) = (column.text ≡ false) × IsBounded cell

held_cell : (column : Column) (cell : Option WorldColumn) (base value : Value) → IsNumberCell column cell → IsOfColumn column base → fits_cell cell base value ≡ true → IsOfColumn column value
held_cell column None base value is of e = subst (IsOfColumn column) (sym (same_cell base value e)) of
held_cell column (Some cell) base (Int n) is of e =
    let parts = and_parts (int_le cell.lo n) (int_le n cell.hi) e in
    (is.0, between_small cell.lo n cell.hi _ parts.0 parts.1 is.1.lo is.1.hi)
held_cell column (Some cell) base (Text t) is of e = absurd (let k : false ≡ true = e in cc)

-- ---- rows

-- each set column is a number, and its bounds are small, from the one in this place on
AreNumberCells : List Column → ℕ → List WorldColumn → Type 0
AreNumberCells columns place cells = (k : ℕ) (column : Column) → slice_get columns k ≡ Some column → IsNumberCell column (column_at cells (place + k))

held_row : (columns : List Column) (cells : List WorldColumn) (place : ℕ) (base row : List Value) → AreNumberCells columns place cells → AllZip IsOfColumn columns base → row_fits cells place base row ≡ true
    → AllZip IsOfColumn columns row
unfolding row_fits AreNumberCells
held_row [] cells place [] [] are all e = tt
held_row [] cells place [] (value ∷ row) are all e = absurd (let k : false ≡ true = e in cc)
held_row [] cells place (v ∷ base) row are all e = absurd all
held_row (column ∷ columns) cells place [] row are all e = absurd all
held_row (column ∷ columns) cells place (v ∷ base) [] are all e = absurd (let k : false ≡ true = e in cc)
held_row (column ∷ columns) cells place (v ∷ base) (value ∷ row) are all e =
    let parts = and_parts (fits_cell (column_at cells place) v value) (row_fits cells (place + 1) base row) e in
    let from : place + 0 ≡ place = omega arith in
    let here : IsNumberCell column (column_at cells place) = subst (λ (n : ℕ). IsNumberCell column (column_at cells n)) from (are 0 column refl) in
    (held_cell column (column_at cells place) v value here all.0 parts.0, held_row columns cells (place + 1) base row later all.1 parts.1)
  where
    later : (k : ℕ) (d : Column) → slice_get columns k ≡ Some d → IsNumberCell d (column_at cells ((place + 1) + k))
    later k d is = let next : place + suc k ≡ (place + 1) + k = omega arith in subst (λ (n : ℕ). IsNumberCell d (column_at cells n)) next (are (suc k) d is)

-- a cell that is not set is the same
same_at : (cells : List WorldColumn) (place : ℕ) (base row : List Value) (k : ℕ) → row_fits cells place base row ≡ true → column_at cells (place + k) ≡ None → slice_get row k ≡ slice_get base k
unfolding row_fits
same_at cells place [] [] k e none = refl
same_at cells place [] (value ∷ row) k e none = absurd (let t : false ≡ true = e in cc)
same_at cells place (v ∷ base) [] k e none = absurd (let t : false ≡ true = e in cc)
same_at cells place (v ∷ base) (value ∷ row) zero e none =
    let parts = and_parts (fits_cell (column_at cells place) v value) (row_fits cells (place + 1) base row) e in
    let from : place + 0 ≡ place = omega arith in
    let here : fits_cell None v value ≡ true = subst (λ (c : Option WorldColumn). fits_cell c v value ≡ true) (ap (column_at cells) (sym from) ∙ none) parts.0 in
    ap (λ (x : Value). Some x) (same_cell v value here)
same_at cells place (v ∷ base) (value ∷ row) (suc k) e none =
    let parts = and_parts (fits_cell (column_at cells place) v value) (row_fits cells (place + 1) base row) e in
    let next : (place + 1) + k ≡ place + suc k = omega arith in
    same_at cells (place + 1) base row k parts.1 (ap (column_at cells) next ∙ none)

-- ---- the columns of a row's choices

is_number_text : (columns : List Column) (n : ℕ) (column : Column) → slice_get columns n ≡ Some column → IsTrue (is_number (kind_at (columns ∷ []) (record { source = 0; column = n }))) → column.text ≡ false
unfolding kind_at
is_number_text columns n column is e = by_text column.text (let t : not_text column.text ≡ true = sym (rw is refl) ∙ e in t)
  where
    not_text : Bool → Bool
    not_text true = false
    not_text false = true

    by_text : (b : Bool) → not_text b ≡ true → b ≡ false
    by_text true e = absurd (let k : false ≡ true = e in cc)
    by_text false e = refl

equal_of : (m n : ℕ) → (m == n) ≡ true → m ≡ n
equal_of m n e = grind (arith, nat_tests)

turned : (m n : ℕ) → (m == n) ≡ false → (n == m) ≡ false
turned m n e = grind (arith, nat_tests)

module _ (hypo : ℕ) (droppable : Bool) (at : ℕ) (base : List Value) where
  past_presence : (d : Bool) (cells : List WorldColumn) (place : ℕ) → column_at (presence_choice hypo d at ++ cells) place ≡ column_at cells place
  unfolding column_at
  past_presence true cells place = refl
  past_presence false cells place = refl

  cells_numbers : (columns : List Column) (set : List QBound) → All (IsBoundFit columns) set → AreBounded (map (cell_choice hypo droppable at base) set)
      → (k : ℕ) (column : Column) → slice_get columns k ≡ Some column → IsNumberCell column (column_at (map (cell_choice hypo droppable at base) set) k)
  unfolding column_at cell_choice
  cells_numbers columns [] fit bounded k column is = tt
  cells_numbers columns (bound ∷ set) fit bounded k column is =
      by_test (bound.column == k) refl (cells_numbers columns set (All-tail (IsBoundFit columns) bound set fit) bounded.1 k column is)
    where
      by_test : (b : Bool) → (bound.column == k) ≡ b → IsNumberCell column (column_at (map (cell_choice hypo droppable at base) set) k)
          → IsNumberCell column (if b then Some (cell_choice hypo droppable at base bound) else column_at (map (cell_choice hypo droppable at base) set) k)
      by_test true e later =
          let same = equal_of bound.column k e in
          let here = All-head (IsBoundFit columns) bound set fit in
          (is_number_text columns bound.column column (ap (slice_get columns) same ∙ is) here.column, bounded.0)
      by_test false e later = later

  cells_none : (set : List QBound) (k : ℕ) → All (λ bound. (k == bound.column) ≡ false) set → column_at (map (cell_choice hypo droppable at base) set) k ≡ None
  unfolding column_at cell_choice
  cells_none [] k all = refl
  cells_none (bound ∷ set) k all =
      let here : (bound.column == k) ≡ false = turned k bound.column (All-head (λ (b : QBound). (k == b.column) ≡ false) bound set all) in
      rw here (cells_none set k (All-tail (λ (b : QBound). (k == b.column) ≡ false) bound set all))

module _ (hypo : ℕ) (table : QHypo) (at : ℕ) (base : List Value) where
  behind : (d : Bool) (cells : List WorldColumn) → AreBounded (presence_choice hypo d at ++ cells) → AreBounded cells
  behind true cells all = all.1
  behind false cells all = all

  choices_numbers : (columns : List Column) → All (IsBoundFit columns) table.set → AreBounded (choices hypo table at base) → AreNumberCells columns 0 (choices hypo table at base)
  unfolding choices column_at AreNumberCells
  choices_numbers columns fit = by_test (may_change table.filter base) table.droppable
    where
      by_test : (b d : Bool) → AreBounded (if b then presence_choice hypo d at ++ map (cell_choice hypo table.droppable at base) table.set else [])
          → (k : ℕ) (column : Column) → slice_get columns k ≡ Some column → IsNumberCell column (column_at (if b then presence_choice hypo d at ++ map (cell_choice hypo table.droppable at base) table.set else []) (0 + k))
      by_test true d bounded k column is =
          let from : 0 + k ≡ k = omega arith in
          let cells = map (cell_choice hypo table.droppable at base) table.set in
          subst (λ (c : Option WorldColumn). IsNumberCell column c) (sym (ap (column_at (presence_choice hypo d at ++ cells)) from ∙ past_presence hypo table.droppable at base d cells k))
          (cells_numbers hypo table.droppable at base columns table.set fit (behind d cells bounded) k column is)
      by_test false d bounded k column is = tt

  choices_none : (k : ℕ) → All (λ bound. (k == bound.column) ≡ false) table.set → column_at (choices hypo table at base) (0 + k) ≡ None
  unfolding choices column_at
  choices_none k all = let from : 0 + k ≡ k = omega arith in rw from (by_test (may_change table.filter base) table.droppable)
    where
      by_test : (b d : Bool) → column_at (if b then presence_choice hypo d at ++ map (cell_choice hypo table.droppable at base) table.set else []) k ≡ None
      by_test true d = past_presence hypo table.droppable at base d (map (cell_choice hypo table.droppable at base) table.set) k ∙ cells_none hypo table.droppable at base table.set k all
      by_test false d = refl

  -- such a row holds what the columns may hold
  pub row_held : (columns : List Column) (row : List Value) → All (IsBoundFit columns) table.set → AreBounded (choices hypo table at base) → AllZip IsOfColumn columns base
      → row_fits (choices hypo table at base) 0 base row ≡ true → AllZip IsOfColumn columns row
  row_held columns row fit bounded all e = held_row columns (choices hypo table at base) 0 base row (choices_numbers columns fit bounded) all e

  -- and no column of the key is set, so that it has the key of the row of the table
  pub key_kept : (key : List ℕ) (row : List Value) → All (λ bound. list_any (λ column. column == bound.column) key ≡ false) table.set → row_fits (choices hypo table at base) 0 base row ≡ true
      → key_of key row ≡ key_of key base
  unfolding key_of
  key_kept [] row free e = refl
  key_kept (k ∷ key) row free e =
      let here : slice_get row k ≡ slice_get base k = same_at (choices hypo table at base) 0 base row k e (choices_none k
      (λ n d less. (or_parts (k == (get_or table.set n d).column) (list_any (λ column. column == (get_or table.set n d).column) key) (free n d less)).0)) in
      ap₂ (λ (x : Option Value) (xs : List (Option Value)). x ∷ xs) here
      (key_kept key row (λ n d less. (or_parts (k == (get_or table.set n d).column) (list_any (λ column. column == (get_or table.set n d).column) key) (free n d less)).1) e)
