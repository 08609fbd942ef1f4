-- the rows of groups: what the items of a group are over the combinations of the group
use Rattle.std.proofs.Common.{◌≡◌, ◌∙◌, sym, ap, ap₂, subst, refl, ℕ, zero, suc, ◌+◌, ◌<◌, ◌≤◌, ◌==◌, ℤ, pos, Bool, true, false, cond, not, ◌&&◌, ◌||◌, List, [], ◌∷◌, ◌++◌, length, length-append, get_or, take, drop, map, filter, flat_map, All, append_assoc, arith, is_eq}
use Rattle.std.specs.Prelude.{Option, Some, None, option_map, slice_get, unwrap_or}
use Rattle.std.specs.Cmp.{unsigned_Decides}
use Rattle.std.specs.List.{list_any, AllZip}
use Rattle.std.specs.Option.{option_to_list}
use Rattle.std.proofs.lemmas.Bool.{and_parts}
use Rattle.std.proofs.lemmas.List.{map-append, length-map}
use Rattle.std.proofs.lemmas.List.Elements.{filter_agree}
use Rattle.std.proofs.lemmas.Option.{slice_get-map, unwrap_or-slice_get}
use Rattle.std.proofs.lemmas.Simd.{map-map}
use Rattle.std.proofs.Math.Seq.{take-append_seam, get_or-append_seam}
use Rattle.base_kit.specs.Orders.{row_order}
use Rattle.base_kit.specs.declared.value.Value.{Value}
use Rattle.base_kit.specs.declared.value.Value.TheVariants.{Int, Text}
use Rattle.base_kit.proofs.Orders.{row_order-Equal}
use Rattle.tiql_query.specs.declared.expression.At.{At}
use Rattle.tiql_query.specs.declared.expression.Expr.{Expr}
use Rattle.tiql_query.specs.declared.expression.Expr.TheOpen.{Expr-F}
use Rattle.tiql_query.specs.declared.expression.Expr.TheFolds.{fold_out-Expr, map-Expr}
use Rattle.tiql_query.specs.declared.expression.Expr.TheViews.{out-Expr}
use Rattle.tiql_query.specs.declared.expression.Signed.{Signed, fold-Signed}
use Rattle.tiql_query.specs.declared.relation.Column as relation
use Rattle.tiql_query.specs.declared.view.Item.{Item}
use Rattle.tiql_query.specs.declared.view.Item.TheVariants as items
use Rattle.row_values.specs.Values.{Combination, number, cell, total, value, value_step, part_step}
use Rattle.view_select.specs.Selects.{distinct, least, greatest, on_first, numbers, item_of, row_of, key_of, group_of, is_extreme, whole, groups}
use Rattle.prov_arena.specs.declared.part.Pair.{Pair}
use Rattle.prov_fold.specs.Values.{holds}
use Rattle.sym_rows.specs.declared.row.Cell.{Cell}
use Rattle.sym_rows.specs.declared.row.Cell.TheVariants as cells
use Rattle.sym_rows.specs.declared.row.SymRow.{SymRow}
use Rattle.sym_rows.specs.Cells.{cell_in, row_in, rows_in, is_there}
use Rattle.sym_rows.specs.Hypos.{is_unknown_in}
use Rattle.sym_values.specs.Left.{arguments_of, argument_on}
use Rattle.sym_values.specs.Meanings.{is_text}
use Rattle.prov_fold.specs.Graphs.{Graph}
use Rattle.sym_groups.specs.Aggregates.{pair_by, pair_of, pairs_of, place_of, place_by, key_place, fixed_in, group_value, argument_place}
use Rattle.sym_groups.specs.Groups.{value_at, values_at, beside, together, is_sure, groups_in}
use Rattle.sym_groups.specs.Meanings.{present, item_then, items_from, items_then, some_there, group_there, IsFixedCell, IsNumberCell, IsLeft, IsGroupItem, IsItemColumn}
use Rattle.sym_groups.proofs.Grouping.{beside_is, first_key, has_key, rows_together, there_of_key, all_filter, FirstHas, map_agree}

-- ---- lists

take_map : {X Y : Type 0} (f : X → Y) (n : ℕ) (xs : List X) → map f (take n xs) ≡ take n (map f xs)
take_map f zero xs = refl
take_map f (suc n) [] = refl
take_map {X} {Y} f (suc n) (x ∷ xs) = ap (λ (l : List Y). f x ∷ l) (take_map f n xs)

get_take : {X : Type 0} (xs : List X) (n j : ℕ) → j < n → slice_get (take n xs) j ≡ slice_get xs j
get_take [] zero j lt = refl
get_take [] (suc n) j lt = refl
get_take (x ∷ xs) zero j lt = absurd (omega (arith, lt))
get_take (x ∷ xs) (suc n) zero lt = refl
get_take (x ∷ xs) (suc n) (suc j) lt = get_take xs n j (omega (arith, lt))

filter_mapped : {X Y : Type 0} (p : Y → Bool) (f : X → Y) (xs : List X) → filter p (map f xs) ≡ map f (filter (λ x. p (f x)) xs)
filter_mapped p f [] = refl
filter_mapped {X} {Y} p f (x ∷ xs) = ap (λ (them : List Y). cond (p (f x)) (f x ∷ them) them) (filter_mapped p f xs) ∙ by_test (p (f x))
  where
    by_test : (keeps : Bool) → cond keeps (f x ∷ map f (filter (λ x. p (f x)) xs)) (map f (filter (λ x. p (f x)) xs)) ≡ map f (cond keeps (x ∷ filter (λ x. p (f x)) xs) (filter (λ x. p (f x)) xs))
    by_test true = refl
    by_test false = refl

-- whether a list has an item
some : {X : Type 0} → List X → Bool
some [] = false
some (x ∷ xs) = true

some_mapped : {X Y : Type 0} (f : X → Y) (xs : List X) → some (map f xs) ≡ some xs
unfolding some
some_mapped f [] = refl
some_mapped f (x ∷ xs) = refl

there_some : (v : ℕ → ℤ) (rows : List SymRow) → some_there rows v ≡ some (rows_in v rows)
unfolding some
there_some v [] = refl
there_some v (row ∷ rows) = by_there (is_there v row) (there_some v rows)
  where
    by_there : (b : Bool) → some_there rows v ≡ some (rows_in v rows) → (b || some_there rows v) ≡ some (map (row_in v) (cond b (row ∷ filter (is_there v) rows) (filter (is_there v) rows)))
    by_there true h = refl
    by_there false h = h

-- ---- cells by their kinds

abbrev IsNumberThere : Option Cell → Type 0
IsNumberThere None = ⊥
IsNumberThere (Some it) = IsNumberCell it

number_at : (row : List Cell) (place : ℕ) → All IsNumberCell row → place < length row → IsNumberThere (slice_get row place)
number_at [] place all lt = absurd (omega (arith, lt))
number_at (it ∷ row) zero all lt = all 0 it (omega arith)
number_at (it ∷ row) (suc place) all lt = number_at row place (λ k d less. all (suc k) d (omega (arith, less))) (omega (arith, lt))

number_behind : (row : List Cell) (count place : ℕ) → All IsNumberCell (drop count row) → count ≤ place → place < length row → IsNumberThere (slice_get row place)
number_behind [] count place all le lt = absurd (omega (arith, lt))
number_behind (it ∷ row) zero place all le lt = number_at (it ∷ row) place all lt
number_behind (it ∷ row) (suc count) zero all le lt = absurd (omega (arith, le))
number_behind (it ∷ row) (suc count) (suc place) all le lt = number_behind row count place all (omega (arith, le)) (omega (arith, lt))

fixed_values : (g : Graph) (v : ℕ → ℤ) (row : List Cell) → All IsFixedCell row → values_at g row ≡ map (cell_in v) row
unfolding value_at
fixed_values g v [] all = refl
fixed_values g v (cells.Fixed x ∷ row) all = ap (λ (l : List Value). x ∷ l) (fixed_values g v row (λ k d lt. all (suc k) d (omega (arith, lt))))
fixed_values g v (cells.Number id ∷ row) all = absurd (all 0 (cells.Number id) (omega arith))

-- ---- arguments

module _ (v : ℕ → ℤ) (place : ℕ) where
  abbrev there_number : List Value → ℤ
  there_number row = number (unwrap_or (slice_get row place) (Int (pos 0)))

  -- the numbers of a column, of the rows that are there
  present_numbers : (group : List SymRow) → All (λ row. IsNumberThere (slice_get row.cells place)) group → present v (pairs_of place group) ≡ map there_number (rows_in v group)
  unfolding present pairs_of pair_of
  present_numbers [] are = refl
  present_numbers (row ∷ group) are = by_cell (slice_get row.cells place) refl (are 0 row (omega arith)) (present_numbers group (λ k d lt. are (suc k) d (omega (arith, lt))))
    where
      by_there : (id : ℕ) (b : Bool) → slice_get row.cells place ≡ Some (cells.Number id) → map (λ (pair : Pair). v pair.number) (filter (λ (pair : Pair). holds v pair.truth) (pairs_of place group)) ≡ map there_number (rows_in v group)
          → map (λ (pair : Pair). v pair.number) (cond b (record { truth = row.presence; number = id } ∷ filter (λ (pair : Pair). holds v pair.truth) (pairs_of place group)) (filter (λ (pair : Pair). holds v pair.truth) (pairs_of place group)))
          ≡ map there_number (map (row_in v) (cond b (row ∷ filter (is_there v) group) (filter (is_there v) group)))
      by_there id true is h = ap₂ (λ (n : ℤ) (l : List ℤ). n ∷ l) (ap (λ (o : Option Value). number (unwrap_or o (Int (pos 0)))) (sym (slice_get-map (cell_in v) row.cells place ∙ ap (option_map (cell_in v)) is))) h
      by_there id false is h = h

      by_cell : (it : Option Cell) → slice_get row.cells place ≡ it → IsNumberThere it → present v (pairs_of place group) ≡ map there_number (rows_in v group) → present v (pairs_of place (row ∷ group)) ≡ map there_number (rows_in v (row ∷ group))
      by_cell None is number h = absurd number
      by_cell (Some (cells.Fixed x)) is number h = absurd number
      by_cell (Some (cells.Number id)) is number h = ap (λ (o : Option Cell). present v (option_to_list (pair_by row.presence o) ++ pairs_of place group)) is ∙ by_there id (is_there v row) is h

arguments_append : (xs ys : List Item) → arguments_of (xs ++ ys) ≡ arguments_of xs ++ arguments_of ys
unfolding arguments_of
arguments_append [] ys = refl
arguments_append (items.Plain part ∷ xs) ys = arguments_append xs ys
arguments_append (items.Sum part ∷ xs) ys = ap (λ (l : List Expr). part ∷ l) (arguments_append xs ys)
arguments_append (items.Count ∷ xs) ys = arguments_append xs ys
arguments_append (items.Min part ∷ xs) ys = ap (λ (l : List Expr). part ∷ l) (arguments_append xs ys)
arguments_append (items.Max part ∷ xs) ys = ap (λ (l : List Expr). part ∷ l) (arguments_append xs ys)

-- ---- columns of GROUP BY

same_at : (one other : At) → ((one.source == other.source) && (one.column == other.column)) ≡ true → one ≡ other
same_at one other e =
    let both = and_parts (one.source == other.source) (one.column == other.column) e in
    ap₂ (λ (s c : ℕ). record { source = s; column = c }) ((unsigned_Decides one.source other.source).0 both.0) ((unsigned_Decides one.column other.column).0 both.1)

place_there : (at : At) (keys : List At) → place_of at keys < length keys → slice_get keys (place_of at keys) ≡ Some at
unfolding place_of
place_there at [] lt = absurd (omega (arith, lt))
place_there at (key ∷ keys) lt = by_test ((key.source == at.source) && (key.column == at.column)) refl lt (place_there at keys)
  where
    by_test : (b : Bool) → ((key.source == at.source) && (key.column == at.column)) ≡ b → cond b 0 (place_of at keys + 1) < length (key ∷ keys) → (place_of at keys < length keys → slice_get keys (place_of at keys) ≡ Some at) → slice_get (key ∷ keys) (cond b 0 (place_of at keys + 1)) ≡ Some at
    by_test true e less h = ap (λ (k : At). Some k) (same_at key at e)
    by_test false e less h = let s : place_of at keys + 1 ≡ suc (place_of at keys) = omega arith in ap (slice_get (key ∷ keys)) s ∙ h (omega (arith, less))

Some_same : {X : Type 0} (x y : X) → Some x ≡ Some y → x ≡ y
Some_same x y e = ap (λ o. unwrap_or o x) e

module _ (g : Graph) (keys : List At) (row : SymRow) (rows : Combination) (fixed : All IsFixedCell (take (length keys) row.cells)) (same : values_at g (take (length keys) row.cells) ≡ key_of keys rows) where
  fixed_there : (fixed_row : List Cell) (j : ℕ) (it : Option Cell) (x : Value) → All IsFixedCell fixed_row → slice_get fixed_row j ≡ it → option_map (value_at g) it ≡ Some x → fixed_in it ≡ x
  unfolding value_at
  fixed_there fixed_row j None x all is e = absurd (let c : None ≡ Some x = e in cc)
  fixed_there fixed_row j (Some (cells.Fixed y)) x all is e = Some_same y x e
  fixed_there [] j (Some (cells.Number id)) x all is e = absurd (let c : None ≡ Some (cells.Number id) = is in cc)
  fixed_there (it ∷ more) zero (Some (cells.Number id)) x all is e = absurd (subst IsFixedCell (Some_same it (cells.Number id) is) (all 0 it (omega arith)))
  fixed_there (it ∷ more) (suc j) (Some (cells.Number id)) x all is e = fixed_there more j (Some (cells.Number id)) x (λ k d lt. all (suc k) d (omega (arith, lt))) is e

  -- the value of a column of GROUP BY
  key_value : (at : At) → place_of at keys < length keys → fixed_in (slice_get row.cells (place_of at keys)) ≡ cell rows at
  key_value at lt =
      fixed_there (take (length keys) row.cells) (place_of at keys) (slice_get row.cells (place_of at keys)) (cell rows at) fixed (get_take row.cells (length keys) (place_of at keys) lt)
      (ap (option_map (value_at g)) (sym (get_take row.cells (length keys) (place_of at keys) lt))
      ∙ sym (slice_get-map (value_at g) (take (length keys) row.cells) (place_of at keys))
      ∙ ap (λ (l : List Value). slice_get l (place_of at keys)) same
      ∙ slice_get-map (cell rows) keys (place_of at keys)
      ∙ ap (option_map (cell rows)) (place_there at keys lt))

  value_out : (part : Expr) → value rows part ≡ value_step rows (map-Expr Expr Signed Value ℤ (value rows) (fold-Signed Value ℤ (value_step rows) part_step) (out-Expr part))
  unfolding value
  value_out part = fold_out-Expr Value ℤ (value_step rows) part_step part

  -- the value of an item that is one of them
  plain_value : (part : Expr) → key_place keys part < length keys → fixed_in (slice_get row.cells (key_place keys part)) ≡ value rows part
  unfolding key_place
  plain_value part lt = by_form (out-Expr part) refl lt
    where
      by_form : (form : Expr-F Expr Signed) → out-Expr part ≡ form → place_by keys form < length keys → fixed_in (slice_get row.cells (place_by keys (out-Expr part))) ≡ value rows part
      by_form (Expr-F.Column at) is less =
          ap (λ (form : Expr-F Expr Signed). fixed_in (slice_get row.cells (place_by keys form))) is ∙ key_value at less
          ∙ sym (value_out part ∙ ap (λ (form : Expr-F Expr Signed). value_step rows (map-Expr Expr Signed Value ℤ (value rows) (fold-Signed Value ℤ (value_step rows) part_step) form)) is)
      by_form (Expr-F.Int n) is less = absurd (omega (arith, less))
      by_form (Expr-F.Text t) is less = absurd (omega (arith, less))
      by_form (Expr-F.Sum parts) is less = absurd (omega (arith, less))
      by_form (Expr-F.Product factors) is less = absurd (omega (arith, less))
      by_form (Expr-F.Neg other) is less = absurd (omega (arith, less))
      by_form (Expr-F.Abs other) is less = absurd (omega (arith, less))

-- a value that is no text is its number
as_int : (x : Value) → is_text x ≡ false → Int (number x) ≡ x
as_int (Int n) e = refl
as_int (Text t) e = absurd (let c : true ≡ false = e in cc)

pub unknown_at : (before : List relation.Column) (column : relation.Column) (after : List relation.Column) (i : ℕ) → i ≡ length before → is_unknown_in (before ++ column ∷ after) i ≡ column.unknown
unknown_at [] column after zero e = refl
unknown_at [] column after (suc i) e = absurd (omega (arith, e))
unknown_at (one ∷ before) column after zero e = absurd (omega (arith, e))
unknown_at (one ∷ before) column after (suc i) e = unknown_at before column after i (omega (arith, e))

-- ---- the items of one group

module _ (v : ℕ → ℤ) (columns : List relation.Column) (keys : List At) (made : List Item) (rows group : List SymRow) (combos : List Combination) (left : Combination → List Value)
    (left_is : (c : Combination) → left c ≡ key_of keys c ++ map (argument_on c) (arguments_of made))
    (shown : rows_in v group ≡ map left combos) (kinds : All (IsLeft (length keys) (length (arguments_of made))) group)
    (plains : (part : Expr) → key_place keys part < length keys → group_value (key_place keys part) group ≡ on_first combos part)
    (texts : (column : relation.Column) (part : Expr) → IsItemColumn keys rows column (items.Plain part) → key_place keys part < length keys → column.text ≡ is_text (group_value (key_place keys part) group)) where
  -- the numbers of an argument
  arguments_are : (before after : List Expr) (part : Expr) (place : ℕ) → arguments_of made ≡ before ++ part ∷ after → place ≡ length keys + length before → present v (pairs_of place group) ≡ numbers combos part
  arguments_are before after part place is at =
      present_numbers v place group (λ k d lt. number_behind (get_or group k d).cells (length keys) place (kinds k d lt).numbers (omega (arith, at)) (let w = (kinds k d lt).width in let n = ap (λ (l : List Expr). length l) is ∙ length-append before (part ∷ after) in omega (arith, at, w, n)))
      ∙ ap (map (there_number v place)) shown
      ∙ map-map (there_number v place) left combos
      ∙ ap (λ (f : Combination → ℤ). map f combos) (λ i c. one c i)
    where
      seam : (c : Combination) → left c ≡ (key_of keys c ++ map (argument_on c) before) ++ argument_on c part ∷ map (argument_on c) after
      seam c = left_is c ∙ ap (λ (l : List Expr). key_of keys c ++ map (argument_on c) l) is ∙ ap (λ (l : List Value). key_of keys c ++ l) (map-append (argument_on c) before (part ∷ after)) ∙ sym (append_assoc (key_of keys c) (map (argument_on c) before) (argument_on c part ∷ map (argument_on c) after))

      long : (c : Combination) → place ≡ length (key_of keys c ++ map (argument_on c) before)
      long c = let n = length-append (key_of keys c) (map (argument_on c) before) in let a = length-map keys (cell c) in let b = length-map before (argument_on c) in omega (arith, at, n, a, b)

      one : (c : Combination) → there_number v place (left c) ≡ number (value c part)
      one c =
          ap (λ (l : List Value). there_number v place l) (seam c)
          ∙ ap number (unwrap_or-slice_get ((key_of keys c ++ map (argument_on c) before) ++ argument_on c part ∷ map (argument_on c) after) place (Int (pos 0))
          ∙ ap (λ (n : ℕ). get_or ((key_of keys c ++ map (argument_on c) before) ++ argument_on c part ∷ map (argument_on c) after) n (Int (pos 0))) (long c)
          ∙ get_or-append_seam (key_of keys c ++ map (argument_on c) before) (argument_on c part) (map (argument_on c) after) (Int (pos 0)))

  -- how many rows are there
  count_holds : (them : List SymRow) → length (filter (holds v) (map (λ row. row.presence) them)) ≡ length (rows_in v them)
  count_holds [] = refl
  count_holds (row ∷ them) = by_there (is_there v row) (count_holds them)
    where
      by_there : (b : Bool) → length (filter (holds v) (map (λ row. row.presence) them)) ≡ length (rows_in v them)
          → length (cond b (row.presence ∷ filter (holds v) (map (λ row. row.presence) them)) (filter (holds v) (map (λ row. row.presence) them))) ≡ length (map (row_in v) (cond b (row ∷ filter (is_there v) them) (filter (is_there v) them)))
      by_there true h = omega (arith, h)
      by_there false h = h

  counts : length (filter (holds v) (map (λ row. row.presence) group)) ≡ length combos
  counts = count_holds group ∙ ap (λ (l : List (List Value)). length l) shown ∙ length-map combos left

  -- an item
  item_is : (before others : List Item) (item : Item) (columns_before columns_after : List relation.Column) (column : relation.Column) (i : ℕ) → made ≡ before ++ item ∷ others → columns ≡ columns_before ++ column ∷ columns_after → i ≡ length before → i ≡ length columns_before
      → IsGroupItem keys item → IsItemColumn keys rows column item → item_then v (is_unknown_in columns i) keys (argument_place keys made i) group item ≡ item_of combos item
  unfolding item_then item_of argument_place arguments_of
  item_is before others item columns_before columns_after column i is columns_are at along fits marks = by_item item is fits marks
    where
      taken : (them : List Item) (n : ℕ) → made ≡ before ++ them → n ≡ length before → take n made ≡ before
      taken them n e m = ap₂ (λ (k : ℕ) (l : List Item). take k l) m e ∙ take-append_seam before them

      place_is : (them : List Item) → made ≡ before ++ them → length keys + length (arguments_of (take i made)) ≡ length keys + length (arguments_of before)
      place_is them e = ap (λ (l : List Item). length keys + length (arguments_of l)) (taken them i e at)

      behind : (them : List Item) → made ≡ before ++ them → arguments_of made ≡ arguments_of before ++ arguments_of them
      behind them e = ap arguments_of e ∙ arguments_append before them

      unknown_is : is_unknown_in columns i ≡ column.unknown
      unknown_is = ap (λ (l : List relation.Column). is_unknown_in l i) columns_are ∙ unknown_at columns_before column columns_after i along

      by_unknown : (b : Bool) (x : Value) → (b ≡ true → is_text x ≡ false) → cond b (Int (number x)) x ≡ x
      by_unknown true x h = as_int x (h refl)
      by_unknown false x h = refl

      by_item : (it : Item) → made ≡ before ++ it ∷ others → IsGroupItem keys it → IsItemColumn keys rows column it → item_then v (is_unknown_in columns i) keys (argument_place keys made i) group it ≡ item_of combos it
      by_item (items.Plain part) e less marks =
          ap (λ (b : Bool). cond b (Int (number (group_value (key_place keys part) group))) (group_value (key_place keys part) group)) unknown_is
          ∙ by_unknown column.unknown (group_value (key_place keys part) group) (λ u. sym (texts column part marks less) ∙ marks.0 u)
          ∙ plains part less
      by_item (items.Sum part) e less marks = ap (λ (l : List ℤ). Int (total l)) (arguments_are (arguments_of before) (arguments_of others) part (argument_place keys made i) (behind (items.Sum part ∷ others) e) (place_is (items.Sum part ∷ others) e))
      by_item items.Count e less marks = ap (λ (n : ℕ). Int (pos n)) counts
      by_item (items.Min part) e less marks = ap (λ (l : List ℤ). Int (least l)) (arguments_are (arguments_of before) (arguments_of others) part (argument_place keys made i) (behind (items.Min part ∷ others) e) (place_is (items.Min part ∷ others) e))
      by_item (items.Max part) e less marks = ap (λ (l : List ℤ). Int (greatest l)) (arguments_are (arguments_of before) (arguments_of others) part (argument_place keys made i) (behind (items.Max part ∷ others) e) (place_is (items.Max part ∷ others) e))

  -- the items from one on
  items_from_are : (before others : List Item) (columns_before columns_after : List relation.Column) (i : ℕ) → made ≡ before ++ others → columns ≡ columns_before ++ columns_after → i ≡ length before → i ≡ length columns_before
      → All (IsGroupItem keys) others → AllZip (IsItemColumn keys rows) columns_after others → items_from v columns keys made group i others ≡ map (item_of combos) others
  unfolding items_from
  items_from_are before [] columns_before columns_after i is columns_are at along fits marks = refl
  items_from_are before (item ∷ others) columns_before [] i is columns_are at along fits marks = absurd marks
  items_from_are before (item ∷ others) columns_before (column ∷ columns_after) i is columns_are at along fits marks =
      ap₂ (λ (x : Value) (l : List Value). x ∷ l)
      (item_is before others item columns_before columns_after column i is columns_are at along (fits 0 item (omega arith)) marks.0)
      (items_from_are (before ++ item ∷ []) others (columns_before ++ column ∷ []) columns_after (i + 1) (is ∙ sym (append_assoc before (item ∷ []) others)) (columns_are ∙ sym (append_assoc columns_before (column ∷ []) columns_after))
      (let n = length-append before (item ∷ []) in omega (arith, at, n)) (let n = length-append columns_before (column ∷ []) in omega (arith, along, n)) (λ k d lt. fits (suc k) d (omega (arith, lt))) marks.1)

  items_are : All (IsGroupItem keys) made → AllZip (IsItemColumn keys rows) columns made → items_then v columns keys made group ≡ row_of made combos
  items_are fits marks = items_from_are [] made [] columns 0 refl refl refl refl fits marks

-- ---- all groups

module _ (g : Graph) (v : ℕ → ℤ) (columns : List relation.Column) (keys : List At) (made : List Item) (rows : List SymRow) (combos : List Combination) (left : Combination → List Value)
    (left_is : (c : Combination) → left c ≡ key_of keys c ++ map (argument_on c) (arguments_of made))
    (shown : rows_in v rows ≡ map left combos) (kinds : All (IsLeft (length keys) (length (arguments_of made))) rows) (fits : All (IsGroupItem keys) made) (marks : AllZip (IsItemColumn keys rows) columns made) where
  abbrev first_of : SymRow → List Value
  first_of row = values_at g (take (length keys) row.cells)

  keys_in_world : All (λ row. first_of row ≡ take (length keys) (row_in v row)) rows
  keys_in_world = λ k d lt. fixed_values g v (take (length keys) (get_or rows k d).cells) (kinds k d lt).fixed ∙ take_map (cell_in v) (length keys) (get_or rows k d).cells

  key_first : (c : Combination) → take (length keys) (left c) ≡ key_of keys c
  key_first c = ap (take (length keys)) (left_is c) ∙ ap (λ (n : ℕ). take n (key_of keys c ++ map (argument_on c) (arguments_of made))) (sym (length-map keys (cell c))) ∙ take-append_seam (key_of keys c) (map (argument_on c) (arguments_of made))

  -- the rows of a group that are there
  group_shown : (k : List Value) → rows_in v (filter (has_key first_of k) rows) ≡ map left (group_of keys combos k)
  group_shown k =
      there_of_key first_of (take (length keys)) v k rows keys_in_world
      ∙ ap (filter (λ row. is_eq (row_order (take (length keys) row) k))) shown
      ∙ filter_mapped (λ row. is_eq (row_order (take (length keys) row) k)) left combos
      ∙ ap (map left) (filter_agree (λ c. is_eq (row_order (take (length keys) (left c)) k)) (λ c. is_eq (row_order (key_of keys c) k)) (λ c. ap (λ (l : List Value). is_eq (row_order l k)) (key_first c)) combos)

  -- the first combination of a group has its key
  combo_key : (k : List Value) (them : List Combination) (c : Combination) (more : List Combination) → group_of keys them k ≡ c ∷ more → key_of keys c ≡ k
  combo_key k [] c more e = absurd (let n = ap (λ (l : List Combination). length l) e in omega (arith, n))
  combo_key k (one ∷ them) c more e = by_test (is_eq (row_order (key_of keys one) k)) refl e (combo_key k them c more)
    where
      by_test : (b : Bool) → is_eq (row_order (key_of keys one) k) ≡ b → cond b (one ∷ group_of keys them k) (group_of keys them k) ≡ c ∷ more → (group_of keys them k ≡ c ∷ more → key_of keys c ≡ k) → key_of keys c ≡ k
      by_test true f same h = ap (key_of keys) (sym (ap (λ (l : List Combination). get_or l 0 c) same)) ∙ (row_order-Equal (key_of keys one) k).0 f
      by_test false f same h = h same

  -- what the first row of a group has
  first_plain : (k : List Value) (group : List SymRow) (them : List Combination) (part : Expr) → FirstHas (λ row. first_of row ≡ k) group → All (IsLeft (length keys) (length (arguments_of made))) group → some group ≡ true → them ≡ group_of keys combos k → some them ≡ true
      → key_place keys part < length keys → group_value (key_place keys part) group ≡ on_first them part
  unfolding some group_value
  first_plain k [] them part first all any is other lt = absurd (let c : false ≡ true = any in cc)
  first_plain k (row ∷ group) [] part first all any is other lt = absurd (let c : false ≡ true = other in cc)
  first_plain k (row ∷ group) (c ∷ them) part first all any is other lt = plain_value g keys row c (all 0 row (omega arith)).fixed (first ∙ sym (combo_key k combos c them (sym is))) part lt

  first_text : (group : List SymRow) (column : relation.Column) (place : ℕ) → All (λ row. column.text ≡ is_text (group_value place (row ∷ []))) group → some group ≡ true → column.text ≡ is_text (group_value place group)
  unfolding some group_value
  first_text [] column place all any = absurd (let c : false ≡ true = any in cc)
  first_text (row ∷ group) column place all any = all 0 row (omega arith)

  some_of_there : (group : List SymRow) → some_there group v ≡ true → some group ≡ true
  unfolding some
  some_of_there [] e = e
  some_of_there (row ∷ group) e = refl

  module _ (k : List Value) (e : some_there (filter (has_key first_of k) rows) v ≡ true) where
    one_group : items_then v columns keys made (filter (has_key first_of k) rows) ≡ row_of made (group_of keys combos k)
    one_group =
        let group : List SymRow = filter (has_key first_of k) rows in
        let any : some group ≡ true = some_of_there group e in
        let other : some (group_of keys combos k) ≡ true = sym (there_some v group ∙ ap some (group_shown k) ∙ some_mapped left (group_of keys combos k)) ∙ e in
        let all = all_filter (IsLeft (length keys) (length (arguments_of made))) (has_key first_of k) rows kinds in
        items_are v columns keys made rows group (group_of keys combos k) left left_is (group_shown k) all
        (λ part lt. first_plain k group (group_of keys combos k) part (first_key first_of rows k) all any refl other lt)
        (λ column part marks lt. first_text group column (key_place keys part) (all_filter (λ row. column.text ≡ is_text (group_value (key_place keys part) (row ∷ []))) (has_key first_of k) rows marks.1) any)
        fits marks

  keys_there : map first_of (filter (is_there v) rows) ≡ map (key_of keys) combos
  keys_there =
      map_agree first_of (λ row. take (length keys) (row_in v row)) (filter (is_there v) rows) (all_filter (λ row. first_of row ≡ take (length keys) (row_in v row)) (is_there v) rows keys_in_world)
      ∙ sym (map-map (take (length keys)) (row_in v) (filter (is_there v) rows))
      ∙ ap (map (take (length keys))) shown
      ∙ map-map (take (length keys)) left combos
      ∙ ap (λ (f : Combination → List Value). map f combos) (λ i c. key_first c i)

  by_keys : (sure : Bool) → sure ≡ false → (k : List Value) → some_there (beside (map first_of rows) rows k) v ≡ true → items_then v columns keys made (beside (map first_of rows) rows k) ≡ row_of made (group_of keys combos k)
  by_keys sure no_sure k e =
      ap (items_then v columns keys made) (beside_is first_of rows k)
      ∙ one_group k (sym (ap (λ (l : List SymRow). some_there l v) (beside_is first_of rows k)) ∙ e)

  pub groups_there : is_sure keys made ≡ false → flat_map (λ group. cond (group_there keys made group v) (items_then v columns keys made group ∷ []) []) (together (map first_of rows) rows) ≡ map (row_of made) (map (group_of keys combos) (distinct (map (key_of keys) combos)))
  groups_there unsure =
      rows_together first_of rows v (λ group. group_there keys made group v) (items_then v columns keys made) (λ k. row_of made (group_of keys combos k)) (λ group. ap (λ (b : Bool). cond b true (some_there group v)) unsure) (by_keys (is_sure keys made) unsure)
      ∙ ap (λ (ks : List (List Value)). map (λ k. row_of made (group_of keys combos k)) (distinct ks)) keys_there
      ∙ sym (map-map (row_of made) (group_of keys combos) (distinct (map (key_of keys) combos)))

  -- all rows as one group
  module _ (none : length keys ≡ 0) where
    whole_items : items_then v columns keys made rows ≡ row_of made combos
    whole_items = items_are v columns keys made rows rows combos left left_is shown kinds (λ part lt. absurd (omega (arith, lt, none))) (λ column part marks lt. absurd (omega (arith, lt, none))) fits marks

    whole_rows : (them : List Combination) (there extreme : Bool) → there ≡ cond (not extreme) true (some them) → list_any is_extreme made ≡ extreme → items_then v columns keys made rows ≡ row_of made them
        → cond there (items_then v columns keys made rows ∷ []) [] ++ [] ≡ map (row_of made) (whole made them)
    unfolding some
    whole_rows [] there true is e same = ap₂ (λ (b c : Bool). cond b (items_then v columns keys made rows ∷ []) [] ++ []) is e ∙ ap (λ (b : Bool). map (row_of made) (cond b [] ([] ∷ []))) (sym e)
    whole_rows [] there false is e same = ap (λ (b : Bool). cond b (items_then v columns keys made rows ∷ []) [] ++ []) is ∙ ap (λ (l : List Value). l ∷ []) same ∙ ap (λ (b : Bool). map (row_of made) (cond b [] ([] ∷ []))) (sym e)
    whole_rows (c ∷ them) there true is e same = ap (λ (b : Bool). cond b (items_then v columns keys made rows ∷ []) [] ++ []) is ∙ ap (λ (l : List Value). l ∷ []) same
    whole_rows (c ∷ them) there false is e same = ap (λ (b : Bool). cond b (items_then v columns keys made rows ∷ []) [] ++ []) is ∙ ap (λ (l : List Value). l ∷ []) same

    sure_is : is_sure keys made ≡ not (list_any is_extreme made)
    unfolding is_sure
    sure_is = ap (λ (n : ℕ). (n == 0) && not (list_any is_extreme made)) none

    pub whole_there : flat_map (λ group. cond (group_there keys made group v) (items_then v columns keys made group ∷ []) []) (rows ∷ []) ≡ map (row_of made) (whole made combos)
    whole_there =
        whole_rows combos (group_there keys made rows v) (list_any is_extreme made)
        (ap (λ (b : Bool). cond b true (some_there rows v)) sure_is ∙ ap (cond (not (list_any is_extreme made)) true) (there_some v rows ∙ ap some shown ∙ some_mapped left combos)) refl whole_items

no_zero : (n : ℕ) → (suc n == 0) ≡ false
no_zero n = grind arith

unsure : (key : At) (keys : List At) (made : List Item) → is_sure (key ∷ keys) made ≡ false
unfolding is_sure
unsure key keys made = ap (λ (b : Bool). b && not (list_any is_extreme made)) (no_zero (length keys))

-- the groups of a select
pub groups_made : (g : Graph) (v : ℕ → ℤ) (columns : List relation.Column) (keys : List At) (made : List Item) (rows : List SymRow) (combos : List Combination) (left : Combination → List Value)
    → ((c : Combination) → left c ≡ key_of keys c ++ map (argument_on c) (arguments_of made))
    → rows_in v rows ≡ map left combos → All (IsLeft (length keys) (length (arguments_of made))) rows → All (IsGroupItem keys) made → AllZip (IsItemColumn keys rows) columns made
    → flat_map (λ group. cond (group_there keys made group v) (items_then v columns keys made group ∷ []) []) (groups_in (length keys) g rows) ≡ map (row_of made) (groups keys made combos)
unfolding groups_in groups
groups_made g v columns [] made rows combos left left_is shown kinds fits marks = whole_there g v columns [] made rows combos left left_is shown kinds fits marks refl
groups_made g v columns (key ∷ keys) made rows combos left left_is shown kinds fits marks =
    ap (λ (none : Bool). flat_map (λ group. cond (group_there (key ∷ keys) made group v) (items_then v columns (key ∷ keys) made group ∷ []) []) (cond none (rows ∷ []) (together (map (λ row. values_at g (take (length (key ∷ keys)) row.cells)) rows) rows))) (no_zero (length keys))
    ∙ groups_there g v columns (key ∷ keys) made rows combos left left_is shown kinds fits marks (unsure key keys made)
