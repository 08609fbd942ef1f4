-- what the public calls make
use Rattle.std.proofs.Common.{◌≡◌, ◌≢◌, ◌∙◌, sym, ap, subst, refl, ℕ, suc, ◌==◌, ℤ, Bool, true, false, cond, List, [], ◌∷◌, ◌++◌, length, take, map, flat_map, All, Result, Ok, Err, arith}
use Rattle.std.specs.Cmp.{unsigned_Decides}
use Rattle.std.proofs.lemmas.List.{length-map}
use Rattle.std.proofs.lemmas.List.Elements.{All-nil, All-cons}
use Rattle.std.specs.Ordering.{is_eq}
use Rattle.base_kit.specs.Orders.{row_order}
use Rattle.base_kit.specs.declared.value.Value.{Value}
use Rattle.tiql_query.specs.declared.expression.At.{At}
use Rattle.tiql_query.specs.declared.relation.Column.{Column}
use Rattle.tiql_query.specs.declared.view.Item.{Item}
use Rattle.tiql_query.specs.declared.view.Select.{Select}
use Rattle.row_values.specs.Values.{Combination, cell}
use Rattle.view_select.specs.Selects.{distinct, is_grouped, row_of, key_of}
use Rattle.prov_fold.specs.Graphs.{Graph}
use Rattle.prov_fold.specs.Meanings.{IsLater, values_in}
use Rattle.prov_fold.proofs.PlaceLemmas.{later_of, means_by, told_by}
use Rattle.sym_rows.specs.declared.fault.WalkFault.{WalkFault}
use Rattle.sym_rows.specs.declared.row.SymRow.{SymRow}
use Rattle.sym_rows.specs.Cells.{cell_in, AreRowsOf}
use Rattle.sym_rows.specs.Walks.{Walked, Makes}
use Rattle.sym_values.specs.Left.{arguments_of, argument_on, left_by}
use Rattle.sym_values.specs.Meanings.{IsRowFit, is_text}
use Rattle.sym_groups.specs.Aggregates.{group_value}
use Rattle.sym_groups.specs.Groups.{values_at, beside, together, rows_of, joined, distinct_rows, first_cells, group_row, groups_in, group_rows, keys_of}
use Rattle.sym_groups.specs.Meanings.{AreDistinctOf, AreDistinct, AreRowsWhere, some_there, group_there, items_then, AreGroupsOf, AreGroups}
use Rattle.sym_groups.proofs.Groupwise.{groups_made}
use Rattle.sym_groups.proofs.OncePlain.{distinct_there}
use Rattle.sym_groups.proofs.Fitting.{distinct_fit, groups_fit, IsOfKinds}

-- what follows of what is made from the walk itself, too
module _ {A : Type 0} (walked other : Walked A) (Good Good' : Graph → A → Type 0) (Tells Tells' : A → List ℤ → (ℕ → ℤ) → Type 0) (g after : Graph) where
  pub makes_whole : (r : Result A WalkFault) → walked ≡ other → ((a : A) → walked ≡ Ok (a, after) → Good after a → Good' after a)
      → ((a : A) (h : Graph) (world : List ℤ) → IsLater g h world → Tells a world (values_in h world) → Tells' a world (values_in h world)) → Makes walked Good Tells g r after → Makes other Good' Tells' g r after
  makes_whole (Ok a) same good tells h = record {
    follows = sym same ∙ h.follows;
    kept = h.kept;
    good = good a h.follows h.good;
    means = means_by after (Tells' a) (λ l world later. tells a l world (later_of g after l world h.kept later) (told_by after (Tells a) h.means l world later));
  }
  makes_whole (Err e) same good tells h = record { follows = λ ne. sym same ∙ h.follows ne; kept = h.kept; good = tt; means = tt }

-- groups of rows have what all rows have
together_all : (P : SymRow → Type 0) (keys ks : List (List Value)) (rows : List SymRow) → All P rows → All (All P) (map (beside keys rows) ks)
unfolding beside
together_all P keys [] rows are = All-nil (All P)
together_all P keys (k ∷ ks) rows are = All-cons (All P) (beside keys rows k) (map (beside keys rows) ks) (one keys rows are) (together_all P keys ks rows are)
  where
    one : (keys : List (List Value)) (rows : List SymRow) → All P rows → All P (beside keys rows k)
    one [] rows are = All-nil P
    one (key ∷ keys) [] are = All-nil P
    one (key ∷ keys) (row ∷ rows) are = by_test (is_eq (row_order key k)) (one keys rows (λ j d lt. are (suc j) d (omega (arith, lt))))
      where
        by_test : (b : Bool) → All P (beside keys rows k) → All P (cond b (row ∷ beside keys rows k) (beside keys rows k))
        by_test true more = All-cons P row (beside keys rows k) (are 0 row (omega arith)) more
        by_test false more = more

pub groups_all : (P : SymRow → Type 0) (keys : List (List Value)) (rows : List SymRow) → All P rows → All (All P) (together keys rows)
unfolding together
groups_all P keys rows are = together_all P keys (distinct keys) rows are

pub groups_in_all : (P : SymRow → Type 0) (count : ℕ) (g : Graph) (rows : List SymRow) → All P rows → All (All P) (groups_in count g rows)
unfolding groups_in
groups_in_all P count g rows are = by_none (count == 0)
  where
    by_none : (b : Bool) → All (All P) (cond b (rows ∷ []) (together (map (λ row. values_at g (take count row.cells)) rows) rows))
    by_none true = All-cons (All P) rows [] are (All-nil (All P))
    by_none false = groups_all P (map (λ row. values_at g (take count row.cells)) rows) rows are

-- ---- DISTINCT

module _ (rows : List SymRow) (g after : Graph) (groups : List (List SymRow)) where
  pub distinct_made : (r : Result (List SymRow) WalkFault) → groups ≡ together (map (λ row. values_at g row.cells) rows) rows → AreRowsOf g rows
      → Makes (rows_of joined groups g) AreRowsOf (AreRowsWhere some_there (λ group v. map (cell_in v) (first_cells group)) groups) g r after → Makes (distinct_rows rows g) (AreDistinctOf rows) (AreDistinct g rows) g r after
  unfolding distinct_rows
  distinct_made r same are h =
      makes_whole (rows_of joined groups g) (distinct_rows rows g) AreRowsOf (AreDistinctOf rows) (AreRowsWhere some_there (λ group v. map (cell_in v) (first_cells group)) groups) (AreDistinct g rows) g after r
      (ap (λ (l : List (List SymRow)). rows_of joined l g) same)
      (λ made is good. record { of = good; fit = λ columns fits. distinct_fit columns groups g made after is (subst (All (All (IsRowFit columns))) (sym same) (groups_all (IsRowFit columns) (map (λ row. values_at g row.cells) rows) rows fits)) })
      (λ made l world later tells plain. distinct_there g l world later rows are plain made (tells ∙ ap (flat_map (λ group. cond (some_there group (values_in l world)) (map (cell_in (values_in l world)) (first_cells group) ∷ []) [])) same)) h

-- ---- groups

left_is : (select : Select) (c : Combination) → is_grouped select ≡ true → left_by select c ≡ key_of (keys_of select) c ++ map (argument_on c) (arguments_of select.items)
unfolding left_by
left_is select c is = ap (λ (b : Bool). cond b (map (cell c) (keys_of select) ++ map (argument_on c) (arguments_of select.items)) (row_of select.items (c ∷ []))) is

module _ (columns : List Column) (select : Select) (rows : List SymRow) (g after : Graph) (keys : List At) (made_of : List Item) (groups : List (List SymRow)) (keys_is : keys ≡ keys_of select) (items_is : made_of ≡ select.items) where
  pub group_made : (r : Result (List SymRow) WalkFault) → groups ≡ groups_in (length keys) g rows
      → Makes (rows_of (group_row columns keys made_of) groups g) AreRowsOf (AreRowsWhere (group_there keys made_of) (λ group v. items_then v columns keys made_of group) groups) g r after
      → Makes (group_rows columns select rows g) (AreGroupsOf columns select rows) (AreGroups columns select rows) g r after
  unfolding group_rows
  group_made r same h =
      let all_same : groups ≡ groups_in (length (keys_of select)) g rows = same ∙ ap (λ (l : List At). groups_in (length l) g rows) keys_is in
      let k : Makes (rows_of (group_row columns (keys_of select) select.items) groups g) AreRowsOf (AreRowsWhere (group_there (keys_of select) select.items) (λ group v. items_then v columns (keys_of select) select.items group) groups) g r after
      = subst (λ (m : List Item). Makes (rows_of (group_row columns (keys_of select) m) groups g) AreRowsOf (AreRowsWhere (group_there (keys_of select) m) (λ group v. items_then v columns (keys_of select) m group) groups) g r after) items_is
      (subst (λ (ks : List At). Makes (rows_of (group_row columns ks made_of) groups g) AreRowsOf (AreRowsWhere (group_there ks made_of) (λ group v. items_then v columns ks made_of group) groups) g r after) keys_is h) in
      makes_whole (rows_of (group_row columns (keys_of select) select.items) groups g) (group_rows columns select rows g) AreRowsOf (AreGroupsOf columns select rows) (AreRowsWhere (group_there (keys_of select) select.items) (λ group v. items_then v columns (keys_of select) select.items group) groups) (AreGroups columns select rows) g after r
      (ap (λ (l : List (List SymRow)). rows_of (group_row columns (keys_of select) select.items) l g) all_same)
      (λ made is good. record {
        of = good;
        fit = λ fits. groups_fit columns (keys_of select) select.items rows fits.items fits.marks groups g made after is
            (subst (All (IsOfKinds columns (keys_of select) select.items rows)) (sym all_same) (λ k d lt column place all. groups_in_all (λ row. column.text ≡ is_text (group_value place (row ∷ []))) (length (keys_of select)) g rows all k d lt));
      })
      (λ made l world later tells combos fits shown. tells ∙ ap (flat_map (λ group. cond (group_there (keys_of select) select.items group (values_in l world)) (items_then (values_in l world) columns (keys_of select) select.items group ∷ []) [])) all_same
      ∙ groups_made g (values_in l world) columns (keys_of select) select.items rows combos (left_by select) (λ c. left_is select c fits.grouped) shown fits.cells fits.items fits.marks) k

-- ---- the groups of the code

pub groups_none : (count : ℕ) (g : Graph) (rows : List SymRow) → count ≡ 0 → rows ∷ [] ≡ groups_in count g rows
unfolding groups_in
groups_none count g rows none = sym (ap (λ (b : Bool). cond b (rows ∷ []) (together (map (λ row. values_at g (take count row.cells)) rows) rows)) ((unsigned_Decides count 0).1 none))

pub groups_some : (count : ℕ) (g : Graph) (rows : List SymRow) (keys : List (List Value)) → count ≢ 0 → keys ≡ map (λ row. values_at g (take count row.cells)) rows → together keys rows ≡ groups_in count g rows
unfolding groups_in
groups_some count g rows keys differs same =
    ap (λ (ks : List (List Value)). together ks rows) same
    ∙ sym (ap (λ (b : Bool). cond b (rows ∷ []) (together (map (λ row. values_at g (take count row.cells)) rows) rows)) (by_test (count == 0) refl))
  where
    by_test : (b : Bool) → (count == 0) ≡ b → (count == 0) ≡ false
    by_test true e = absurd (differs ((unsigned_Decides count 0).0 e))
    by_test false e = e

-- each row has a key
pub keys_long : (f : SymRow → List Value) (rows : List SymRow) (keys : List (List Value)) (all : List SymRow) → keys ≡ map f rows → all ≡ rows → length keys ≡ length all
keys_long f rows keys all same whole = ap (λ (l : List (List Value)). length l) same ∙ length-map rows f ∙ sym (ap (λ (l : List SymRow). length l) whole)
