-- what combinations left of a select is what DISTINCT and the groups are asked of
use Rattle.std.proofs.Common.{◌≡◌, ◌∙◌, sym, ap, ap₂, subst, refl, ℕ, suc, ◌+◌, ◌<◌, ◌==◌, ◌&&◌, Bool, true, false, List, [], ◌∷◌, ◌++◌, length, map, take, get_or, All, arith, Option, Some, None, if◌then◌else◌}
use Rattle.std.specs.Prelude.{slice_get}
use Rattle.std.specs.List.{AllZip}
use Rattle.std.proofs.lemmas.Bool.{false≢true, and_parts}
use Rattle.std.proofs.lemmas.List.Elements.{All-head, All-tail, All-cons, All-nil}
use Rattle.tiql_query.specs.declared.relation.Column.{Column}
use Rattle.tiql_query.specs.declared.expression.At.{At}
use denote.Hole.Carrier.{roll, out}
use Rattle.tiql_query.specs.declared.expression.Expr.{Expr, roll-out-Expr}
use Rattle.tiql_query.specs.declared.expression.Signed.{Signed}
use Rattle.tiql_query.specs.declared.expression.Expr.TheOpen.{Expr-F}
use Rattle.tiql_query.specs.declared.expression.Expr.TheViews.{roll-Expr, out-Expr}
use Rattle.tiql_query.specs.declared.expression.Expr.TheVariants as exprs
use Rattle.tiql_query.specs.declared.view.Item.{Item}
use Rattle.tiql_query.specs.declared.view.Item.TheVariants as items
use Rattle.tiql_query.specs.declared.view.Select.{Select}
use Rattle.tiql_query.specs.Kinds.{Kind, Scope, kind, kind_at, is_number, is_unknown}
use Rattle.tiql_query.specs.Kinds as kinds
use Rattle.tiql_query.specs.WellFormed.{IsFixedColumn, item_kind, aggregate}
use Rattle.tiql_query.proofs.KindFacts.{kind-Column}
use Rattle.world_def.proofs.Restored.{equal_of}
use Rattle.view_select.specs.Selects.{is_grouped}
use Rattle.sym_rows.specs.declared.row.Cell.{Cell}
use Rattle.sym_rows.specs.declared.row.Cell.TheVariants as cells
use Rattle.sym_rows.specs.declared.row.SymRow.{SymRow}
use Rattle.sym_values.specs.Meanings.{is_text}
use Rattle.sym_values.specs.Left.{arguments_of}
use Rattle.view_join.specs.Fitting.{IsItemFit, IsSelected, IsOfKind, IsLeft}
use Rattle.sym_groups.specs.Aggregates.{place_of, place_by, key_place, group_value, fixed_in}
use Rattle.sym_groups.specs.Groups.{keys_of}
use Rattle.sym_groups.specs.Meanings.{IsFixedCell, IsNumberCell, IsGroupItem, IsGroupFit, IsItemColumn}
use Rattle.sym_groups.specs.Meanings as groups

at_of : ℕ → ℕ → At
at_of source column = record { source = source; column = column }

same_at : (one other : At) → one.source ≡ other.source → one.column ≡ other.column → one ≡ other
unfolding at_of
same_at one other s c = ap₂ at_of s c

-- ---- the cells of what was left

number_of_kind : (cell : Cell) → IsOfKind (Some (kinds.number true)) cell → IsNumberCell cell
number_of_kind (cells.Fixed value) is = absurd (let k : true ≡ false = is.0 in cc)
number_of_kind (cells.Number id) is = tt

numbers_of : (parts : List Expr) (row : List Cell) → AllZip IsOfKind (map (λ (part : Expr). Some (kinds.number true)) parts) row → (length row ≡ length parts) × All IsNumberCell row
numbers_of [] [] are = (refl, All-nil IsNumberCell)
numbers_of [] (cell ∷ row) are = absurd are
numbers_of (part ∷ parts) [] are = absurd are
numbers_of (part ∷ parts) (cell ∷ row) are =
    let more = numbers_of parts row are.1 in
    (ap suc more.0, All-cons IsNumberCell cell row (number_of_kind cell are.0) more.1)

module _ (scope : Scope) where
  fixed_of_kind : (o : Option Kind) (it : Kind) (cell : Cell) → o ≡ Some it → it.unknown ≡ false → IsOfKind o cell → IsFixedCell cell
  fixed_of_kind None it cell e fixed is = absurd is
  fixed_of_kind (Some kind) it (cells.Fixed value) e fixed is = tt
  fixed_of_kind (Some kind) it (cells.Number id) e fixed is = absurd (false≢true (sym fixed ∙ sym (ap (λ (k : Kind). k.unknown) (let s : kind ≡ it = (let t : ◌≡◌ {A = Option Kind} (Some kind) (Some it) = e in cc) in s)) ∙ is.0))

  -- so many fixed cells, and behind them so many numbers
  left_cells : (keys : List At) (parts : List Expr) (presence : ℕ) (row : List Cell) → All (IsFixedColumn scope) keys → AllZip IsOfKind (map (kind_at scope) keys ++ map (λ (part : Expr). Some (kinds.number true)) parts) row
      → groups.IsLeft (length keys) (length parts) (record { presence = presence; cells = row })
  left_cells [] parts presence row fixed are = let all = numbers_of parts row are in let w = all.0 in record { width = omega (arith, w); fixed = All-nil IsFixedCell; numbers = all.1 }
  left_cells (key ∷ keys) parts presence [] fixed are = absurd are
  left_cells (key ∷ keys) parts presence (cell ∷ row) fixed are =
      let more = left_cells keys parts presence row (All-tail (IsFixedColumn scope) key keys fixed) are.1 in
      let w = more.width in
      let mine = All-head (IsFixedColumn scope) key keys fixed in record {
        width = omega (arith, w);
        fixed = All-cons IsFixedCell cell (take (length keys) row) (fixed_of_kind (kind_at scope key) mine.0 cell mine.1 mine.2 are.0) more.fixed;
        numbers = more.numbers;
      }

  -- the cell in a place of GROUP BY is of the kind of its column
  key_cell : (keys : List At) (others : List (Option Kind)) (row : List Cell) (at : At) (it : Kind) → place_of at keys < length keys → kind_at scope at ≡ Some it → it.unknown ≡ false
      → AllZip IsOfKind (map (kind_at scope) keys ++ others) row → it.text ≡ is_text (fixed_in (slice_get row (place_of at keys)))
  unfolding place_of
  key_cell [] others row at it lt is fixed are = absurd (omega (arith, lt))
  key_cell (key ∷ keys) others [] at it lt is fixed are = absurd are
  key_cell (key ∷ keys) others (cell ∷ row) at it lt is fixed are = by_same (key_cell keys others row at it) ((key.source == at.source) && (key.column == at.column)) refl lt
    where
      of_kind : (o : Option Kind) (c : Cell) → o ≡ Some it → IsOfKind o c → it.text ≡ is_text (fixed_in (Some c))
      of_kind None c e of = absurd of
      of_kind (Some k) (cells.Fixed value) e of = sym (ap (λ (o : Kind). o.text) (let s : k ≡ it = (let t : ◌≡◌ {A = Option Kind} (Some k) (Some it) = e in cc) in s)) ∙ of.1
      of_kind (Some k) (cells.Number id) e of = absurd (false≢true (sym fixed ∙ sym (ap (λ (o : Kind). o.unknown) (let s : k ≡ it = (let t : ◌≡◌ {A = Option Kind} (Some k) (Some it) = e in cc) in s)) ∙ of.0))

      by_same : (place_of at keys < length keys → kind_at scope at ≡ Some it → it.unknown ≡ false → AllZip IsOfKind (map (kind_at scope) keys ++ others) row → it.text ≡ is_text (fixed_in (slice_get row (place_of at keys))))
          → (b : Bool) → ((key.source == at.source) && (key.column == at.column)) ≡ b → (if b then 0 else place_of at keys + 1) < suc (length keys)
          → it.text ≡ is_text (fixed_in (slice_get (cell ∷ row) (if b then 0 else place_of at keys + 1)))
      by_same later true e l =
          let both = and_parts (key.source == at.source) (key.column == at.column) e in
          of_kind (kind_at scope key) cell (ap (kind_at scope) (same_at key at (equal_of key.source at.source both.0) (equal_of key.column at.column both.1)) ∙ is) are.0
      by_same later false e l =
          let p : place_of at keys + 1 ≡ suc (place_of at keys) = omega arith in
          later (omega (arith, l)) is fixed are.1 ∙ ap (λ (n : ℕ). is_text (fixed_in (slice_get (cell ∷ row) n))) (sym p)

-- ---- a grouped select

place_column : (keys : List At) (at : At) → key_place keys (exprs.Column at) ≡ place_of at keys
unfolding key_place place_of roll-Expr out-Expr roll out
place_column keys at = refl

-- an item that has a place among the columns of GROUP BY is one of them
group_column : (keys : List At) (part : Expr) → key_place keys part < length keys → (at : At) × (part ≡ exprs.Column at)
unfolding key_place roll-Expr roll
group_column keys part lt = by_out (out-Expr part) refl lt
  where
    by_out : (o : Expr-F Expr Signed) → out-Expr part ≡ o → place_by keys o < length keys → (at : At) × (part ≡ exprs.Column at)
    by_out (Expr-F.Column at) e l = (at, sym (roll-out-Expr part) ∙ ap roll-Expr e)
    by_out (Expr-F.Int n) e l = absurd (omega (arith, l))
    by_out (Expr-F.Text t) e l = absurd (omega (arith, l))
    by_out (Expr-F.Sum parts) e l = absurd (omega (arith, l))
    by_out (Expr-F.Product factors) e l = absurd (omega (arith, l))
    by_out (Expr-F.Neg one) e l = absurd (omega (arith, l))
    by_out (Expr-F.Abs one) e l = absurd (omega (arith, l))

value_is : (n : ℕ) (row : SymRow) → is_text (fixed_in (slice_get row.cells n)) ≡ is_text (group_value n (row ∷ []))
unfolding group_value
value_is n row = refl

module _ (scope : Scope) (columns : List Column) (select : Select) (fit : IsSelected scope columns select) (grouped : is_grouped select ≡ true) (by : All (IsGroupItem (keys_of select)) select.items) where
  same_kind : (one other : Kind) → ◌≡◌ {A = Option Kind} (Some one) (Some other) → one ≡ other
  same_kind one other e = cc

  same_expr : (one other : Expr) → one ≡ other → kind scope one ≡ kind scope other
  same_expr one other e = ap (kind scope) e

  aggregate_kind : (o : Option Kind) (it : Kind) → aggregate o ≡ Some it → it ≡ kinds.number true
  aggregate_kind o it is = by_test (is_number o) is
    where
      by_test : (b : Bool) → (if b then Some (kinds.number true) else None) ≡ Some it → it ≡ kinds.number true
      by_test true e = sym (same_kind (kinds.number true) it e)
      by_test false e = absurd (let none : ◌≡◌ {A = Option Kind} None (Some it) = e in cc)

  unknown_number : (column : Column) (item : Item) → (o : IsItemFit scope column item) → o.it ≡ kinds.number true → (column.unknown ≡ true) × (column.text ≡ false)
  unknown_number column item o e = (o.marked (ap (λ (k : Kind). k.unknown) e), sym o.text ∙ ap (λ (k : Kind). k.text) e)

  fixed_key : (keys : List At) (at : At) (d : At) → place_of at keys < length keys → All (IsFixedColumn scope) keys → IsFixedColumn scope at
  unfolding place_of
  fixed_key [] at d lt fixed = absurd (omega (arith, lt))
  fixed_key (key ∷ keys) at d lt fixed = by_same (fixed_key keys at d) ((key.source == at.source) && (key.column == at.column)) refl lt
    where
      by_same : (place_of at keys < length keys → All (IsFixedColumn scope) keys → IsFixedColumn scope at) → (b : Bool) → ((key.source == at.source) && (key.column == at.column)) ≡ b → (if b then 0 else place_of at keys + 1) < suc (length keys) → IsFixedColumn scope at
      by_same later true e l =
          let both = and_parts (key.source == at.source) (key.column == at.column) e in
          subst (IsFixedColumn scope) (same_at key at (equal_of key.source at.source both.0) (equal_of key.column at.column both.1)) (All-head (IsFixedColumn scope) key keys fixed)
      by_same later false e l = later (omega (arith, l)) (All-tail (IsFixedColumn scope) key keys fixed)

  -- a column of the view is that of its item
  item_column : (left : List SymRow) → All (IsLeft scope columns select) left → (column : Column) (item : Item) → IsItemFit scope column item → IsGroupItem (keys_of select) item → IsItemColumn (keys_of select) left column item
  unfolding item_kind key_place
  item_column left are column (items.Plain part) o by = (
    o.numbers,
    λ k d lt.
        let found = group_column (keys_of select) part by in
        let at = found.0 in
        let part_is : part ≡ exprs.Column at = found.1 in
        let place_is : key_place (keys_of select) part ≡ place_of at (keys_of select) = ap (key_place (keys_of select)) part_is ∙ place_column (keys_of select) at in
        let inside : place_of at (keys_of select) < length (keys_of select) = omega (arith, by, place_is) in
        let fixed = fixed_key (keys_of select) at at inside fit.group in
        let kind_is : kind_at scope at ≡ Some o.it = sym (kind-Column scope at) ∙ sym (same_expr part (exprs.Column at) part_is) ∙ o.is in
        let same : fixed.0 ≡ o.it = same_kind fixed.0 o.it (sym fixed.1 ∙ kind_is) in
        sym o.text ∙ key_cell scope (keys_of select) (map (λ (part : Expr). Some (kinds.number true)) (arguments_of select.items)) (get_or left k d).cells at o.it inside kind_is (ap (λ (x : Kind). x.unknown) (sym same) ∙ fixed.2) ((are k d lt).grouped grouped)
        ∙ ap (λ (n : ℕ). is_text (fixed_in (slice_get (get_or left k d).cells n))) (sym place_is) ∙ value_is (key_place (keys_of select) part) (get_or left k d),
  )
  item_column left are column (items.Sum part) o by = unknown_number column (items.Sum part) o (aggregate_kind (kind scope part) o.it o.is)
  item_column left are column items.Count o by = unknown_number column items.Count o (sym (same_kind (kinds.number true) o.it o.is))
  item_column left are column (items.Min part) o by = unknown_number column (items.Min part) o (aggregate_kind (kind scope part) o.it o.is)
  item_column left are column (items.Max part) o by = unknown_number column (items.Max part) o (aggregate_kind (kind scope part) o.it o.is)

  all_columns : (left : List SymRow) → All (IsLeft scope columns select) left → (cs : List Column) (made : List Item) → AllZip (IsItemFit scope) cs made → All (IsGroupItem (keys_of select)) made → AllZip (IsItemColumn (keys_of select) left) cs made
  all_columns left are [] [] fits by = tt
  all_columns left are [] (item ∷ made) fits by = absurd fits
  all_columns left are (column ∷ cs) [] fits by = absurd fits
  all_columns left are (column ∷ cs) (item ∷ made) fits by =
      (item_column left are column item fits.0 (All-head (IsGroupItem (keys_of select)) item made by), all_columns left are cs made fits.1 (All-tail (IsGroupItem (keys_of select)) item made by))

  -- what was left is what groups are made of
  pub group_fit : (left : List SymRow) → All (IsLeft scope columns select) left → IsGroupFit columns select left
  group_fit left are = record {
    grouped = grouped;
    items = by;
    marks = all_columns left are columns select.items fit.items by;
    cells = λ k d lt. left_cells scope (keys_of select) (arguments_of select.items) (get_or left k d).presence (get_or left k d).cells fit.group ((are k d lt).grouped grouped);
  }
