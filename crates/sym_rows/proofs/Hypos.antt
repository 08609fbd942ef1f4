-- cells and rows of a hypothetical table
use Rattle.std.proofs.Common.{◌≡◌, ◌∙◌, sym, ap, subst, refl, ℕ, suc, ◌+◌, ◌<◌, ◌≤◌, ℤ, pos, Bool, true, false, cond, List, [], ◌∷◌, ◌++◌, length, get_or, drop, take, map, filter, All, Result, Ok, Err, arith, append_assoc, append-nil, Option, Some, None}
use Rattle.std.specs.Prelude.{if◌then◌else◌}
use Rattle.std.specs.Ordering.{int_eq}
use Rattle.std.proofs.lemmas.List.{drop_more, drop_all, map-append}
use Rattle.base_kit.specs.declared.value.Value.{Value}
use Rattle.base_kit.specs.declared.value.Value.TheVariants.{Int}
use Rattle.tiql_query.specs.declared.relation.Column.{Column}
use Rattle.tiql_query.specs.declared.world_column.WorldColumn.{WorldColumn}
use Rattle.row_values.specs.Values.{number}
use Rattle.world_def.specs.Worlds.{is_cell}
use Rattle.prov_fold.specs.declared.span.Span.{Span}
use Rattle.prov_fold.specs.Graphs.{Graph, Keeps, HasTruth, HasNumber}
use Rattle.prov_fold.specs.Values.{number_at, IsThere, holds}
use Rattle.prov_fold.specs.Meanings.{Means, values_in}
use Rattle.prov_fold.specs.Rules as rule
use Rattle.prov_fold.proofs.PlaceLemmas.{told_by}
use Rattle.sym_rows.specs.declared.fault.WalkFault.{WalkFault}
use Rattle.sym_rows.specs.declared.row.Cell.{Cell}
use Rattle.sym_rows.specs.declared.row.Cell.TheVariants as cells
use Rattle.sym_rows.specs.Cells.{cell_in, IsCellOf}
use Rattle.sym_rows.specs.Walks.{Walked, Walk, gives, ◌>>=◌, by_rule, Makes}
use Rattle.sym_rows.specs.declared.row.SymRow.{SymRow}
use Rattle.sym_rows.specs.Cells.{Rows, row_in, rows_in, is_there, IsRowOf, AreRowsOf}
use Rattle.sym_rows.specs.Hypos.{may_miss, presence, is_there_then, IsPresence, IsPresenceThen, cells_of, row_of, rows_from, rows_then, IsRowThen, CellsThere, RowsThere, AreRowsThen, sides, column_of, as_cell, settled, cell_by, cells_then, HasSides, HasFoundSides, IsCellThen, AreCellsThen, is_unknown_in}
use Rattle.std.proofs.lemmas.List.{drop-drop}
use Rattle.std.proofs.lemmas.List.Elements.{filter-append, All-nil, All-cons, All-append}
use Rattle.world_def.specs.Worlds.{leading, of_row}
use Rattle.prov_fold.specs.Folds.{IsFold}
use Rattle.prov_fold.proofs.StandLemmas.{keeps_same, keeps_on}
use Rattle.prov_fold.proofs.PlaceLemmas.{later_of, means_by, value_one}
use Rattle.sym_rows.proofs.Makes.{makes_gives, makes_so, makes_then, number_kept, truth_kept, still}

-- ---- cells

pub cell_kept : (g h : Graph) (cell : Cell) → Keeps g h → IsCellOf g cell → IsCellOf h cell
cell_kept g h (cells.Fixed value) kept is = tt
cell_kept g h (cells.Number id) kept is = number_kept g h id kept is

module _ (T : ℕ → List ℤ → (ℕ → ℤ) → Type 0) (T' : Cell → List ℤ → (ℕ → ℤ) → Type 0) (walked : Walked ℕ) (g after : Graph) where
  pub as_ok : (id : ℕ) → ((h : Graph) (world : List ℤ) → T id world (values_in h world) → T' (cells.Number id) world (values_in h world)) → Makes walked HasNumber T g (Ok id) after → Makes (walked >>= as_cell) IsCellOf T' g (Ok (cells.Number id)) after
  as_ok id so h = makes_then HasNumber T IsCellOf T' walked as_cell g after id after (Ok (cells.Number id)) h (makes_gives IsCellOf T' (cells.Number id) after h.good (λ l world later. so l world (told_by after (T id) h.means l world later)))

-- a cell of a world column
module _ (unknown : Bool) (value : Value) (found : Option (ℕ × WorldColumn)) (n : ℕ) (column : WorldColumn) (s : Span) (g after : Graph) (is : found ≡ Some (n, column)) (same : s ≡ sides column) where
  abbrev IsNumberThere : ℕ → List ℤ → (ℕ → ℤ) → Type 0
  IsNumberThere id numbers v = IsThere numbers n s → v id ≡ number_at numbers n

  pub found_ok : (id : ℕ) → Makes (by_rule (rule.cell n s) g) HasNumber IsNumberThere g (Ok id) after → Makes (cell_by unknown value found g) IsCellOf (IsCellThen unknown value found) g (Ok (cells.Number id)) after
  found_ok id h =
      subst (λ (it : Option (ℕ × WorldColumn)). Makes (cell_by unknown value it g) IsCellOf (IsCellThen unknown value it) g (Ok (cells.Number id)) after) (sym is)
      (as_ok (λ id numbers v. IsThere numbers n (sides column) → v id ≡ number_at numbers n) (IsCellThen unknown value (Some (n, column))) (by_rule (rule.cell n (sides column)) g) g after id
      (λ h world so there. ap (λ (m : ℤ). Int m) (so there))
      (subst (λ (s : Span). Makes (by_rule (rule.cell n s) g) HasNumber (λ id numbers v. IsThere numbers n s → v id ≡ number_at numbers n) g (Ok id) after) same h))

pub cell_same : (u u' : Bool) (value : Value) (o o' : Option (ℕ × WorldColumn)) (g after : Graph) (r : Result Cell WalkFault) → u ≡ u' → o ≡ o' → Makes (cell_by u value o g) IsCellOf (IsCellThen u value o) g r after → Makes (cell_by u' value o' g) IsCellOf (IsCellThen u' value o') g r after
cell_same u u' value o o' g after r a b h = subst (λ (o : Option (ℕ × WorldColumn)). Makes (cell_by u' value o g) IsCellOf (IsCellThen u' value o) g r after) b (subst (λ (u : Bool). Makes (cell_by u value o g) IsCellOf (IsCellThen u value o) g r after) a h)

-- a cell without one
module _ (unknown : Bool) (value : Value) (g after : Graph) where
  pub known_ok : (m : ℤ) (id : ℕ) → unknown ≡ true → m ≡ number value → Makes (by_rule (rule.constant m) g) HasNumber (λ id _ v. v id ≡ m) g (Ok id) after → Makes (settled unknown value g) IsCellOf (IsCellThen unknown value None) g (Ok (cells.Number id)) after
  known_ok m id is same h =
      subst (λ (b : Bool). Makes (settled b value g) IsCellOf (IsCellThen b value None) g (Ok (cells.Number id)) after) (sym is)
      (as_ok (λ id _ v. v id ≡ number value) (IsCellThen true value None) (by_rule (rule.constant (number value)) g) g after id (λ h world so there. ap (λ (m : ℤ). Int m) so)
      (subst (λ (m : ℤ). Makes (by_rule (rule.constant m) g) HasNumber (λ id _ v. v id ≡ m) g (Ok id) after) same h))

pub fixed_ok : (unknown : Bool) (value copied : Value) (g : Graph) → unknown ≡ false → copied ≡ value → Makes (settled unknown value g) IsCellOf (IsCellThen unknown value None) g (Ok (cells.Fixed copied)) g
fixed_ok unknown value copied g is same =
    subst (λ (b : Bool). Makes (settled b value g) IsCellOf (IsCellThen b value None) g (Ok (cells.Fixed copied)) g) (sym is)
    (subst (λ (it : Value). Makes (settled false value g) IsCellOf (IsCellThen false value None) g (Ok (cells.Fixed it)) g) (sym same)
    (makes_gives IsCellOf (IsCellThen false value None) (cells.Fixed value) g tt (λ h world later there. refl)))

-- ---- world columns of a row

-- the column that is found is there, with a number that it may have
pub found_sides : (place first : ℕ) (chosen : List WorldColumn) → All HasSides chosen → HasFoundSides (column_of place first chosen)
unfolding column_of
found_sides place first [] h = tt
found_sides place first (column ∷ columns) h = by_cell (is_cell place column.cell) (found_sides place (first + 1) columns (λ k d lt. h (suc k) d (omega (arith, lt))))
  where
    by_cell : (b : Bool) → HasFoundSides (column_of place (first + 1) columns) → HasFoundSides (cond b (Some (first, column)) (column_of place (first + 1) columns))
    by_cell true more = h 0 column (omega arith)
    by_cell false more = more

module _ (place first : ℕ) (chosen : List WorldColumn) where
  -- a search for the column of a cell
  pub column_left : ℕ → Option (ℕ × WorldColumn)
  column_left i = column_of place (first + i) (drop i chosen)

  pub column_here : (i : ℕ) (d : WorldColumn) (r : Option (ℕ × WorldColumn)) → i < length chosen → is_cell place (get_or chosen i d).cell ≡ true → column_left i ≡ r → Some (first + i, get_or chosen i d) ≡ r
  unfolding column_left column_of
  column_here i d r lt e h = sym (rw (drop_more chosen i d lt, e) refl) ∙ h

  pub column_on : (i : ℕ) (d : WorldColumn) (r : Option (ℕ × WorldColumn)) → i < length chosen → is_cell place (get_or chosen i d).cell ≡ false → column_left i ≡ r → column_left (i + 1) ≡ r
  unfolding column_left column_of
  column_on i d r lt e h = ap (λ (n : ℕ). column_of place n (drop (i + 1) chosen)) (let k : first + (i + 1) ≡ first + i + 1 = omega arith in k) ∙ sym (rw (drop_more chosen i d lt, e) refl) ∙ h

  pub column_end : (i : ℕ) (r : Option (ℕ × WorldColumn)) → length chosen ≤ i → column_left i ≡ r → None ≡ r
  unfolding column_left column_of
  column_end i r le h = sym (rw (drop_all i chosen le) refl) ∙ h

  pub column_all : column_left 0 ≡ column_of place first chosen
  unfolding column_left
  column_all = ap (λ (n : ℕ). column_of place n chosen) (let k : first + 0 ≡ first = omega arith in k)

-- ---- cells of a row

-- the cells that are made, and those that follow
abbrev pub CellsSo : List Column → ℕ → List WorldColumn → List Value → ℕ → List Cell → List ℤ → (ℕ → ℤ) → Type 0
CellsSo columns first chosen base i made numbers v = CellsThere numbers first chosen base → map (cell_in v) made ++ cells_then numbers columns first chosen i (drop i base) ≡ cells_then numbers columns first chosen 0 base

pub cells_step : (columns : List Column) (first : ℕ) (chosen : List WorldColumn) (base : List Value) (i : ℕ) (value : Value) (made : List Cell) (cell : Cell) (numbers : List ℤ) (v : ℕ → ℤ) → i < length base → value ≡ get_or base i value
    → CellsSo columns first chosen base i made numbers v → IsCellThen (is_unknown_in columns i) value (column_of i first chosen) cell numbers v → CellsSo columns first chosen base (i + 1) (made ++ cell ∷ []) numbers v
unfolding cells_then
cells_step columns first chosen base i value made cell numbers v lt is so one there =
    ap (λ (l : List Value). l ++ cells_then numbers columns first chosen (i + 1) (drop (i + 1) base)) (map-append (cell_in v) made (cell ∷ []))
    ∙ append_assoc (map (cell_in v) made) (cell_in v cell ∷ []) (cells_then numbers columns first chosen (i + 1) (drop (i + 1) base))
    ∙ ap (λ (w : Value). map (cell_in v) made ++ w ∷ cells_then numbers columns first chosen (i + 1) (drop (i + 1) base)) (one (there i lt))
    ∙ sym (rw (drop_more base i value lt, ← is) refl) ∙ so there

pub cells_end : (columns : List Column) (first : ℕ) (chosen : List WorldColumn) (base : List Value) (i : ℕ) (made : List Cell) (numbers : List ℤ) (v : ℕ → ℤ) → length base ≤ i
    → CellsSo columns first chosen base i made numbers v → AreCellsThen columns first chosen base made numbers v
unfolding cells_then
cells_end columns first chosen base i made numbers v le so there = sym (append-nil (map (cell_in v) made)) ∙ ap (λ (l : List Value). map (cell_in v) made ++ l) (sym (rw (drop_all i base le) refl)) ∙ so there

abbrev pub AreCellsOf : Graph → List Cell → Type 0
AreCellsOf g made = All (IsCellOf g) made

-- ---- rows

module _ (first : ℕ) (chosen : List WorldColumn) (g : Graph) where
  pub presence_yes : (after : Graph) (r : Result ℕ WalkFault) → may_miss chosen ≡ true → Makes (by_rule (rule.pres first) g) IsPresence (λ id numbers v. v id ≡ number_at numbers first) g r after → Makes (presence first chosen g) IsPresence (IsPresenceThen first chosen) g r after
  unfolding presence
  presence_yes after r is h =
      subst (λ (b : Bool). Makes (cond b (by_rule (rule.pres first) g) (gives 1 g)) IsPresence (λ id numbers v. holds v id ≡ cond b (int_eq (number_at numbers first) (pos 1)) true) g r after) (sym is)
      (makes_so IsPresence (λ id numbers v. v id ≡ number_at numbers first) (by_rule (rule.pres first) g) IsPresence (λ id numbers v. holds v id ≡ int_eq (number_at numbers first) (pos 1)) g after r (λ a good. good)
      (λ a l world later so. ap (λ (n : ℤ). int_eq n (pos 1)) so) h)

  pub presence_no : (id : ℕ) → may_miss chosen ≡ false → id ≡ 1 → HasTruth g id → IsFold g → Makes (presence first chosen g) IsPresence (IsPresenceThen first chosen) g (Ok id) g
  unfolding presence
  presence_no id is one truth fold =
      subst (λ (b : Bool). Makes (cond b (by_rule (rule.pres first) g) (gives 1 g)) IsPresence (λ id numbers v. holds v id ≡ cond b (int_eq (number_at numbers first) (pos 1)) true) g (Ok id) g) (sym is)
      (subst (λ (n : ℕ). Makes (gives n g) IsPresence (λ id numbers v. holds v id ≡ true) g (Ok id) g) one
      (makes_gives IsPresence (λ id numbers v. holds v id ≡ true) id g (record { truth = truth; possible = λ e. omega (arith, e, one) })
      (λ h world later. ap (λ (n : ℕ). int_eq (values_in h world n) (pos 1)) one ∙ ap (λ (n : ℤ). int_eq n (pos 1)) (value_one h world later.fold))))

module _ (columns : List Column) (first : ℕ) (chosen : List WorldColumn) (base : List Value) (g mid : Graph) where
  then_cells : ℕ → Walk SymRow
  then_cells there g = cells_of columns first chosen base g >>= λ made g. gives (record { presence = there; cells = made }) g

  as_row : ℕ → List Cell → Walk SymRow
  as_row there made g = gives (record { presence = there; cells = made }) g

  pub row_ok : (there : ℕ) (after : Graph) (made : List Cell) → Makes (presence first chosen g) IsPresence (IsPresenceThen first chosen) g (Ok there) mid
      → Makes (cells_of columns first chosen base mid) AreCellsOf (AreCellsThen columns first chosen base) mid (Ok made) after
      → Makes (row_of columns first chosen base g) IsRowOf (IsRowThen columns first chosen base) g (Ok (record { presence = there; cells = made })) after
  unfolding row_of then_cells as_row
  row_ok there after made h k =
      let row : SymRow = record { presence = there; cells = made } in
      makes_then IsPresence (IsPresenceThen first chosen) IsRowOf (IsRowThen columns first chosen base) (presence first chosen g) then_cells g mid there after (Ok row) h
      (makes_then AreCellsOf (AreCellsThen columns first chosen base) IsRowOf (IsRowThen columns first chosen base) (cells_of columns first chosen base mid) (as_row there) mid after made after (Ok row) k
      (makes_gives IsRowOf (IsRowThen columns first chosen base) row after (record { presence = truth_kept mid after there k.kept h.good.truth; possible = h.good.possible; cells = k.good })
      (λ l world later. record {
        there = still mid after l world (IsPresenceThen first chosen there) k.kept later h.means;
        values = told_by after (AreCellsThen columns first chosen base made) k.means l world later;
      })))

pub row_same : (columns : List Column) (first : ℕ) (mine other : List WorldColumn) (base : List Value) (g after : Graph) (r : Result SymRow WalkFault) → mine ≡ other → Makes (row_of columns first mine base g) IsRowOf (IsRowThen columns first mine base) g r after
    → Makes (row_of columns first other base g) IsRowOf (IsRowThen columns first other base) g r after
row_same columns first mine other base g after r same h = subst (λ (l : List WorldColumn). Makes (row_of columns first l base g) IsRowOf (IsRowThen columns first l base) g r after) same h

-- ---- all rows

pub row_kept : (g h : Graph) (row : SymRow) → Keeps g h → IsRowOf g row → IsRowOf h row
row_kept g h row kept is = record { presence = truth_kept g h row.presence kept is.presence; possible = is.possible; cells = λ k d lt. cell_kept g h (get_or row.cells k d) kept (is.cells k d lt) }

pub rows_kept : (g h : Graph) (rows : List SymRow) → Keeps g h → AreRowsOf g rows → AreRowsOf h rows
rows_kept g h rows kept are = λ k d lt. row_kept g h (get_or rows k d) kept (are k d lt)

one_row : (columns : List Column) (first : ℕ) (mine : List WorldColumn) (base : List Value) (row : SymRow) (numbers : List ℤ) (v : ℕ → ℤ) → (is_there_then numbers first mine ≡ true → CellsThere numbers first mine base) → IsRowThen columns first mine base row numbers v
    → rows_in v (row ∷ []) ≡ (if is_there_then numbers first mine then cells_then numbers columns first mine 0 base ∷ [] else [])
one_row columns first mine base row numbers v are is =
    ap (λ (b : Bool). map (row_in v) (cond b (row ∷ []) [])) is.there ∙ by_there (is_there_then numbers first mine) refl
  where
    by_there : (b : Bool) → is_there_then numbers first mine ≡ b → map (row_in v) (cond b (row ∷ []) []) ≡ cond b (cells_then numbers columns first mine 0 base ∷ []) []
    by_there true e = ap (λ (w : List Value). w ∷ []) (is.values (are e))
    by_there false e = refl

pub rows_append : (v : ℕ → ℤ) (xs ys : List SymRow) → rows_in v (xs ++ ys) ≡ rows_in v xs ++ rows_in v ys
rows_append v xs ys = ap (map (row_in v)) (filter-append (is_there v) xs ys) ∙ map-append (row_in v) (filter (is_there v) xs) (filter (is_there v) ys)

module _ (columns : List Column) (first : ℕ) (bases : Rows) (chosen : List WorldColumn) (g0 : Graph) where
  -- the rows that are left, behind those that were made
  pub rows_left : ℕ → ℕ → List SymRow → Walk (List SymRow)
  rows_left at from made g = rows_from columns at (first + from) (drop at bases) (drop from chosen) g >>= λ more g. gives (made ++ more) g

  abbrev pub RowsSo : ℕ → ℕ → List SymRow → List ℤ → (ℕ → ℤ) → Type 0
  RowsSo at from made numbers v = RowsThere numbers 0 first bases chosen → RowsThere numbers at (first + from) (drop at bases) (drop from chosen) × (rows_in v made ++ rows_then numbers columns at (first + from) (drop at bases) (drop from chosen) ≡ rows_then numbers columns 0 first bases chosen)

  pub record RowsGoing (at from : ℕ) (made : List SymRow) (g : Graph) : Type 0 where
    pub follows : rows_left at from made g ≡ rows_from columns 0 first bases chosen g0
    pub within : from ≤ length chosen
    pub kept : Keeps g0 g
    pub good : AreRowsOf g made
    pub means : Means g (RowsSo at from made)

  all_rows : (r : Walked (List SymRow)) → (r >>= λ more g. gives ([] ++ more) g) ≡ r
  all_rows (Ok made) = refl
  all_rows (Err e) = refl

  start : first + 0 ≡ first
  start = omega arith

  pub rows_init : (made : List SymRow) → made ≡ [] → RowsGoing 0 0 made g0
  unfolding rows_left
  rows_init made is =
      subst (λ (l : List SymRow). RowsGoing 0 0 l g0) (sym is)
      (record {
        follows = ap (λ (n : ℕ). rows_from columns 0 n bases chosen g0 >>= λ more g. gives ([] ++ more) g) start ∙ all_rows (rows_from columns 0 first bases chosen g0);
        within = omega arith;
        kept = keeps_same g0;
        good = All-nil (IsRowOf g0);
        means = means_by g0 (RowsSo 0 0 []) (λ h world later are. (subst (λ (n : ℕ). RowsThere world 0 n bases chosen) (sym start) are, ap (λ (n : ℕ). rows_then world columns 0 n bases chosen) start));
      })

  module _ (at from end : ℕ) (base : List Value) (made : List SymRow) (g next : Graph) (lt : at < length bases) (is : base ≡ get_or bases at base) (ends : end ≡ leading (of_row at) (drop from chosen)) where
    abbrev mine : List WorldColumn
    mine = take end (drop from chosen)

    put : (row : SymRow) (more : List SymRow) (r : Walked (List SymRow)) → more ≡ made ++ row ∷ [] → (r >>= λ rest g. gives (more ++ rest) g) ≡ ((r >>= λ rest g. gives (row ∷ rest) g) >>= λ rest g. gives (made ++ rest) g)
    put row more (Ok rest) m = ap (λ (l : List SymRow). Ok (l, rest.1)) (ap (λ (l : List SymRow). l ++ rest.0) m ∙ append_assoc made (row ∷ []) rest.0)
    put row more (Err e) m = refl

    on : rows_from columns at (first + from) (drop at bases) (drop from chosen) g ≡ (row_of columns (first + from) mine base g >>= λ row g. rows_from columns (at + 1) (first + from + end) (drop (at + 1) bases) (drop end (drop from chosen)) g >>= λ more g. gives (row ∷ more) g)
    unfolding rows_from
    on = rw (drop_more bases at base lt, ← is, ← ends) refl

    rows_more : (numbers : List ℤ) → ((if is_there_then numbers (first + from) mine then cells_then numbers columns (first + from) mine 0 base ∷ [] else []) ++ rows_then numbers columns (at + 1) (first + (from + end)) (drop (at + 1) bases) (drop (from + end) chosen)) ≡ rows_then numbers columns at (first + from) (drop at bases) (drop from chosen)
    unfolding rows_then
    rows_more numbers =
        let k : first + (from + end) ≡ first + from + end = omega arith in
        ap (λ (n : ℕ). (if is_there_then numbers (first + from) mine then cells_then numbers columns (first + from) mine 0 base ∷ [] else []) ++ rows_then numbers columns (at + 1) n (drop (at + 1) bases) (drop (from + end) chosen)) k
        ∙ ap (λ (l : List WorldColumn). (if is_there_then numbers (first + from) mine then cells_then numbers columns (first + from) mine 0 base ∷ [] else []) ++ rows_then numbers columns (at + 1) (first + from + end) (drop (at + 1) bases) l) (sym (drop-drop end from chosen))
        ∙ sym (rw (drop_more bases at base lt, ← is, ← ends) refl)

    there_more : (numbers : List ℤ) → RowsThere numbers at (first + from) (drop at bases) (drop from chosen)
        → (is_there_then numbers (first + from) mine ≡ true → CellsThere numbers (first + from) mine base) × RowsThere numbers (at + 1) (first + (from + end)) (drop (at + 1) bases) (drop (from + end) chosen)
    unfolding RowsThere
    there_more numbers h =
        let k : first + from + end ≡ first + (from + end) = omega arith in
        let parts : (is_there_then numbers (first + from) mine ≡ true → CellsThere numbers (first + from) mine base) × RowsThere numbers (at + 1) (first + from + end) (drop (at + 1) bases) (drop end (drop from chosen)) =
        subst (λ (n : ℕ). (is_there_then numbers (first + from) (take n (drop from chosen)) ≡ true → CellsThere numbers (first + from) (take n (drop from chosen)) base) × RowsThere numbers (at + 1) (first + from + n) (drop (at + 1) bases) (drop n (drop from chosen))) (sym ends)
        (subst (λ (x : List Value). (is_there_then numbers (first + from) (take (leading (of_row at) (drop from chosen)) (drop from chosen)) ≡ true → CellsThere numbers (first + from) (take (leading (of_row at) (drop from chosen)) (drop from chosen)) x) × RowsThere numbers (at + 1) (first + from + leading (of_row at) (drop from chosen)) (drop (at + 1) bases) (drop (leading (of_row at) (drop from chosen)) (drop from chosen))) (sym is)
        (subst (λ (l : Rows). RowsThere numbers at (first + from) l (drop from chosen)) (drop_more bases at base lt) h)) in
        (parts.0, subst (λ (n : ℕ). RowsThere numbers (at + 1) n (drop (at + 1) bases) (drop (from + end) chosen)) k (subst (λ (l : List WorldColumn). RowsThere numbers (at + 1) (first + from + end) (drop (at + 1) bases) l) (drop-drop end from chosen) parts.1))

    pub rows_step : (row : SymRow) (more : List SymRow) → more ≡ made ++ row ∷ [] → from + end ≤ length chosen → Makes (row_of columns (first + from) mine base g) IsRowOf (IsRowThen columns (first + from) mine base) g (Ok row) next
        → RowsGoing at from made g → RowsGoing (at + 1) (from + end) more next
    unfolding rows_left
    rows_step row more m within one going =
        record {
          follows = ap (λ (n : ℕ). rows_from columns (at + 1) n (drop (at + 1) bases) (drop (from + end) chosen) next >>= λ rest g. gives (more ++ rest) g) (let k : first + (from + end) ≡ first + from + end = omega arith in k)
              ∙ ap (λ (l : List WorldColumn). rows_from columns (at + 1) (first + from + end) (drop (at + 1) bases) l next >>= λ rest g. gives (more ++ rest) g) (sym (drop-drop end from chosen))
              ∙ put row more (rows_from columns (at + 1) (first + from + end) (drop (at + 1) bases) (drop end (drop from chosen)) next) m
              ∙ ap (λ (w : Walked SymRow). (w >>= λ row g. rows_from columns (at + 1) (first + from + end) (drop (at + 1) bases) (drop end (drop from chosen)) g >>= λ more g. gives (row ∷ more) g) >>= λ rest g. gives (made ++ rest) g) (sym one.follows)
              ∙ ap (λ (w : Walked (List SymRow)). w >>= λ rest g. gives (made ++ rest) g) (sym on)
              ∙ going.follows;
          within = within;
          kept = keeps_on g0 g next going.kept one.kept;
          good = subst (AreRowsOf next) (sym m) (All-append (IsRowOf next) made (row ∷ []) (rows_kept g next made one.kept going.good) (All-cons (IsRowOf next) row [] one.good (All-nil (IsRowOf next))));
          means = subst (λ (l : List SymRow). Means next (RowsSo (at + 1) (from + end) l)) (sym m)
              (means_by next (RowsSo (at + 1) (from + end) (made ++ row ∷ [])) (λ h world later are.
              told world (values_in h world) (told_by next (IsRowThen columns (first + from) mine base row) one.means h world later) (told_by g (RowsSo at from made) going.means h world (later_of g next h world one.kept later) are)));
        }
      where
        told : (numbers : List ℤ) (v : ℕ → ℤ) → IsRowThen columns (first + from) mine base row numbers v
            → RowsThere numbers at (first + from) (drop at bases) (drop from chosen) × (rows_in v made ++ rows_then numbers columns at (first + from) (drop at bases) (drop from chosen) ≡ rows_then numbers columns 0 first bases chosen)
            → RowsThere numbers (at + 1) (first + (from + end)) (drop (at + 1) bases) (drop (from + end) chosen)
            × (rows_in v (made ++ row ∷ []) ++ rows_then numbers columns (at + 1) (first + (from + end)) (drop (at + 1) bases) (drop (from + end) chosen) ≡ rows_then numbers columns 0 first bases chosen)
        told numbers v row_is so =
            let are = there_more numbers so.0 in (
              are.1,
              ap (λ (l : Rows). l ++ rows_then numbers columns (at + 1) (first + (from + end)) (drop (at + 1) bases) (drop (from + end) chosen)) (rows_append v made (row ∷ []) ∙ ap (λ (l : Rows). rows_in v made ++ l) (one_row columns (first + from) mine base row numbers v are.0 row_is))
                  ∙ append_assoc (rows_in v made) (if is_there_then numbers (first + from) mine then cells_then numbers columns (first + from) mine 0 base ∷ [] else []) (rows_then numbers columns (at + 1) (first + (from + end)) (drop (at + 1) bases) (drop (from + end) chosen))
                  ∙ ap (λ (l : Rows). rows_in v made ++ l) (rows_more numbers) ∙ so.1,
            )

    pub rows_err : (e : WalkFault) → Makes (row_of columns (first + from) mine base g) IsRowOf (IsRowThen columns (first + from) mine base) g (Err e) next → RowsGoing at from made g
        → Makes (rows_from columns 0 first bases chosen g0) AreRowsOf (AreRowsThen columns 0 first bases chosen) g0 (Err e) next
    unfolding rows_left
    rows_err e one going = record {
      follows = λ ne. sym going.follows ∙ ap (λ (w : Walked (List SymRow)). w >>= λ rest g. gives (made ++ rest) g) on
          ∙ ap (λ (w : Walked SymRow). (w >>= λ row g. rows_from columns (at + 1) (first + from + end) (drop (at + 1) bases) (drop end (drop from chosen)) g >>= λ more g. gives (row ∷ more) g) >>= λ rest g. gives (made ++ rest) g) (one.follows ne);
      kept = keeps_on g0 g next going.kept one.kept;
      good = tt;
      means = tt;
    }

  none_left : (at from : ℕ) (g : Graph) → length bases ≤ at → rows_from columns at (first + from) (drop at bases) (drop from chosen) g ≡ Ok ([], g)
  unfolding rows_from
  none_left at from g le = rw (drop_all at bases le) refl

  none_then : (numbers : List ℤ) (at from : ℕ) → length bases ≤ at → rows_then numbers columns at (first + from) (drop at bases) (drop from chosen) ≡ []
  unfolding rows_then
  none_then numbers at from le = rw (drop_all at bases le) refl

  pub rows_end : (at from : ℕ) (made : List SymRow) (g : Graph) → length bases ≤ at → RowsGoing at from made g → Makes (rows_from columns 0 first bases chosen g0) AreRowsOf (AreRowsThen columns 0 first bases chosen) g0 (Ok made) g
  unfolding rows_left
  rows_end at from made g le going = record {
    follows = sym going.follows ∙ ap (λ (w : Walked (List SymRow)). w >>= λ rest g. gives (made ++ rest) g) (none_left at from g le) ∙ ap (λ (l : List SymRow). Ok (l, g)) (append-nil made);
    kept = going.kept;
    good = going.good;
    means = means_by g (AreRowsThen columns 0 first bases chosen made) (λ h world later are. sym (append-nil (rows_in (values_in h world) made)) ∙ ap (λ (l : Rows). rows_in (values_in h world) made ++ l) (sym (none_then world at from le)) ∙ (told_by g (RowsSo at from made) going.means h world later are).1);
  }

-- ---- a hypothetical table
