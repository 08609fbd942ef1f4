-- the items of a group
use Rattle.std.proofs.Common.{◌≡◌, ◌∙◌, sym, ap, ap₂, subst, refl, ℕ, zero, suc, ◌+◌, ◌≤◌, ◌<◌, ◌==◌, ℤ, pos, Bool, true, false, cond, ◌&&◌, List, [], ◌∷◌, ◌++◌, length, get_or, take, drop, map, flat_map, All, Result, Ok, Err, arith, append_assoc, append-nil, length-take, zero-add}
use Rattle.std.specs.Prelude.{Option, Some, None, slice_get}
use Rattle.std.specs.Borrow.{Bor}
use Rattle.std.specs.Option.{option_to_list}
use Rattle.std.proofs.lemmas.List.{take_more, take_all, map_push, drop_more, drop_all}
use Rattle.std.proofs.lemmas.List.Elements.{All-nil, All-cons, All-append}
use Rattle.base_kit.specs.declared.value.Value.{Value}
use Rattle.base_kit.specs.declared.value.Value.TheVariants.{Int}
use Rattle.tiql_query.specs.declared.expression.At.{At}
use Rattle.tiql_query.specs.declared.expression.Expr.{Expr}
use Rattle.tiql_query.specs.declared.relation.Column.{Column}
use Rattle.tiql_query.specs.declared.view.Item.{Item}
use Rattle.tiql_query.specs.declared.view.Item.TheVariants as items
use Rattle.prov_arena.specs.declared.part.Pair.{Pair}
use Rattle.prov_fold.specs.Graphs.{Graph, HasNumber, HasTruth, HasPair}
use Rattle.prov_fold.specs.Meanings.{values_in}
use Rattle.sym_rows.specs.declared.fault.WalkFault.{WalkFault}
use Rattle.sym_rows.specs.declared.row.Cell.{Cell}
use Rattle.sym_rows.specs.declared.row.Cell.TheVariants as cells
use Rattle.sym_rows.specs.declared.row.SymRow.{SymRow}
use Rattle.sym_rows.specs.Cells.{cell_in, IsRowOf, AreRowsOf, IsCellOf, IsCellThere}
use Rattle.sym_rows.specs.Hypos.{is_unknown_in, settled, as_cell, IsCellThen}
use Rattle.sym_rows.specs.Walks.{Walk, ◌>>=◌, Makes}
use Rattle.sym_rows.proofs.Makes.{makes_is, makes_so, makes_stop}
use Rattle.sym_rows.proofs.Hypos.{as_ok}
use Rattle.sym_values.specs.Left.{arguments_of}
use Rattle.sym_groups.specs.Aggregates.{least_of, sum_of, count_of, greatest_of, pair_by, pair_of, pairs_of, place_of, key_place, fixed_in, group_value, item_cell, argument_place}
use Rattle.sym_groups.specs.Meanings.{IsSumOf, IsLeastOf, IsGreatestOf, IsCountOf, item_then, IsItemThen, items_from, items_then, AreItemsThen}

-- ---- pairs of presences and arguments

flat_push : {X Y : Type 0} (f : X → List Y) (xs : List X) (x : X) → flat_map f (xs ++ x ∷ []) ≡ flat_map f xs ++ f x
flat_push f [] x = append-nil (f x)
flat_push {X} {Y} f (y ∷ xs) x = ap (λ (l : List Y). f y ++ l) (flat_push f xs x) ∙ sym (append_assoc (f y) (flat_map f xs) (f x))

pub pairs_step : (place : ℕ) (group : List (Bor SymRow)) (i : ℕ) (row : Bor SymRow) (made more : List Pair) (pair : Option Pair) → i < length group → row ≡ get_or group i row → pair ≡ pair_of place row.now → more ≡ made ++ option_to_list pair
    → made ≡ pairs_of place (map (λ row. row.now) (take i group)) → more ≡ pairs_of place (map (λ row. row.now) (take (i + 1) group))
unfolding pairs_of
pairs_step place group i row made more pair lt is pair_is m h =
    m ∙ ap₂ (λ (l : List Pair) (p : Option Pair). l ++ option_to_list p) h (pair_is ∙ ap (λ (r : Bor SymRow). pair_of place r.now) is)
    ∙ sym (flat_push (λ (row : SymRow). option_to_list (pair_of place row)) (map (λ (row : Bor SymRow). row.now) (take i group)) (get_or group i row).now)
    ∙ ap (flat_map (λ (row : SymRow). option_to_list (pair_of place row))) (sym (map_push (λ (row : Bor SymRow). row.now) (take i group) (get_or group i row)) ∙ ap (map (λ (row : Bor SymRow). row.now)) (sym (take_more group i row lt)))

pub pairs_none : (place : ℕ) (made : List Pair) → made ≡ [] → made ≡ pairs_of place []
unfolding pairs_of
pairs_none place made e = e

pub pairs_end : (place : ℕ) (group : List (Bor SymRow)) (i : ℕ) (made : List Pair) → length group ≤ i → made ≡ pairs_of place (map (λ row. row.now) (take i group)) → made ≡ pairs_of place (map (λ row. row.now) group)
pairs_end place group i made le h = h ∙ ap (λ (l : List (Bor SymRow)). pairs_of place (map (λ row. row.now) l)) (take_all i group le)

-- the pairs are of the list
pub have_pairs : (g : Graph) (place : ℕ) (group : List SymRow) → AreRowsOf g group → All (HasPair g) (pairs_of place group)
unfolding pairs_of pair_of
have_pairs g place [] are = All-nil (HasPair g)
have_pairs g place (row ∷ group) are = All-append (HasPair g) (option_to_list (pair_of place row)) (flat_map (λ (row : SymRow). option_to_list (pair_of place row)) group) (one row (are 0 row (omega arith))) (have_pairs g place group (λ k d lt. are (suc k) d (omega arith)))
  where
    by_cell : (presence : ℕ) (cell : Option Cell) → HasTruth g presence → IsCellThere g cell → All (HasPair g) (option_to_list (pair_by presence cell))
    by_cell presence None truth is = All-nil (HasPair g)
    by_cell presence (Some (cells.Fixed value)) truth is = All-nil (HasPair g)
    by_cell presence (Some (cells.Number id)) truth is = All-cons (HasPair g) (record { truth = presence; number = id }) [] (record { truth = truth; number = is }) (All-nil (HasPair g))

    there : (row : List Cell) (place : ℕ) → All (IsCellOf g) row → IsCellThere g (slice_get row place)
    there [] place are = tt
    there (cell ∷ row) zero are = are 0 cell (omega arith)
    there (cell ∷ row) (suc place) are = there row place (λ k d lt. are (suc k) d (omega arith))

    one : (row : SymRow) → IsRowOf g row → All (HasPair g) (option_to_list (pair_of place row))
    one row is = by_cell row.presence (slice_get row.cells place) is.presence (there row.cells place is.cells)

-- the presences are truths of the list
pub have_truths : (g : Graph) (group : List SymRow) → AreRowsOf g group → All (HasTruth g) (map (λ row. row.presence) group)
have_truths g [] are = All-nil (HasTruth g)
have_truths g (row ∷ group) are = All-cons (HasTruth g) row.presence (map (λ (row : SymRow). row.presence) group) (are 0 row (omega arith)).presence (have_truths g group (λ k d lt. are (suc k) d (omega arith)))

-- ---- the place of a column

pub place_here : (at : At) (keys : List At) (i : ℕ) (d : At) (r : ℕ) → i < length keys → (((get_or keys i d).source == at.source) && ((get_or keys i d).column == at.column)) ≡ true → i + place_of at (drop i keys) ≡ r → i ≡ r
unfolding place_of
place_here at keys i d r lt same h =
    let k : i + 0 ≡ r = sym (ap (λ (l : List At). i + place_of at l) (drop_more keys i d lt) ∙ ap (λ (b : Bool). i + cond b 0 (place_of at (drop (i + 1) keys) + 1)) same) ∙ h in
    omega (arith, k)

pub place_on : (at : At) (keys : List At) (i : ℕ) (d : At) (r : ℕ) → i < length keys → (((get_or keys i d).source == at.source) && ((get_or keys i d).column == at.column)) ≡ false → i + place_of at (drop i keys) ≡ r → (i + 1) + place_of at (drop (i + 1) keys) ≡ r
unfolding place_of
place_on at keys i d r lt differs h =
    let k = sym (ap (λ (l : List At). i + place_of at l) (drop_more keys i d lt) ∙ ap (λ (b : Bool). i + cond b 0 (place_of at (drop (i + 1) keys) + 1)) differs) ∙ h in
    omega (arith, k)

pub place_end : (at : At) (keys : List At) (i : ℕ) (r n : ℕ) → length keys ≤ i → i ≤ length keys → n ≡ length keys → i + place_of at (drop i keys) ≡ r → n ≡ r
unfolding place_of
place_end at keys i r n le few is h = let k = sym (ap (λ (l : List At). i + place_of at l) (drop_all i keys le)) ∙ h in omega (arith, k, le, few, is)

-- ---- the cells of items

module _ (unknown : Bool) (keys : List At) (place : ℕ) (group : List SymRow) (g after : Graph) where
  -- of an aggregate
  module _ (walk : Walk ℕ) (T : ℕ → List ℤ → (ℕ → ℤ) → Type 0) (item : Item) (is : item_cell unknown keys place group item g ≡ (walk g >>= as_cell)) (so : (id : ℕ) (numbers : List ℤ) (v : ℕ → ℤ) → T id numbers v → Int (v id) ≡ item_then v unknown keys place group item) where
    pub cell_ok : (id : ℕ) → Makes (walk g) HasNumber T g (Ok id) after → Makes (item_cell unknown keys place group item g) IsCellOf (IsItemThen unknown keys place group item) g (Ok (cells.Number id)) after
    cell_ok id h =
        makes_is IsCellOf (IsItemThen unknown keys place group item) (walk g >>= as_cell) (item_cell unknown keys place group item g) g after (Ok (cells.Number id)) (sym is)
        (as_ok T (IsItemThen unknown keys place group item) (walk g) g after id (λ h world e. so id world (values_in h world) e) h)

    pub cell_err : (e : WalkFault) → Makes (walk g) HasNumber T g (Err e) after → Makes (item_cell unknown keys place group item g) IsCellOf (IsItemThen unknown keys place group item) g (Err e) after
    cell_err e h =
        makes_is IsCellOf (IsItemThen unknown keys place group item) (walk g >>= as_cell) (item_cell unknown keys place group item g) g after (Err e) (sym is)
        (makes_stop HasNumber T IsCellOf (IsItemThen unknown keys place group item) (walk g) as_cell g after e h)

  -- of a column of GROUP BY
  pub plain_ok : (part : Expr) (value : Value) (r : Result Cell WalkFault) → value ≡ group_value (key_place keys part) group → Makes (settled unknown value g) IsCellOf (IsCellThen unknown value None) g r after
      → Makes (item_cell unknown keys place group (items.Plain part) g) IsCellOf (IsItemThen unknown keys place group (items.Plain part)) g r after
  unfolding item_cell item_then
  plain_ok part value r same h =
      makes_so IsCellOf (IsCellThen unknown (group_value (key_place keys part) group) None) (settled unknown (group_value (key_place keys part) group) g) IsCellOf (IsItemThen unknown keys place group (items.Plain part)) g after r (λ a good. good) (λ a l world later tells. tells tt)
      (subst (λ (x : Value). Makes (settled unknown x g) IsCellOf (IsCellThen unknown x None) g r after) same h)

-- the same of each aggregate, where the code has the item and the list under other names
module _ (unknown : Bool) (keys : List At) (place : ℕ) (group : List SymRow) (g after : Graph) where
  abbrev pub CellMade : Item → Result Cell WalkFault → Type 0
  CellMade item r = Makes (item_cell unknown keys place group item g) IsCellOf (IsItemThen unknown keys place group item) g r after

  pub of_item : (item item' : Item) (r : Result Cell WalkFault) → item ≡ item' → CellMade item' r → CellMade item r
  of_item item item' r is h = subst (λ (i : Item). CellMade i r) (sym is) h

  module _ (part : Expr) (pairs : List Pair) (same : pairs ≡ pairs_of place group) where
    pub sum_cell : (id : ℕ) → Makes (sum_of pairs g) HasNumber (IsSumOf pairs) g (Ok id) after → CellMade (items.Sum part) (Ok (cells.Number id))
    unfolding item_cell item_then
    sum_cell id h = cell_ok unknown keys place group g after (sum_of (pairs_of place group)) (IsSumOf (pairs_of place group)) (items.Sum part) refl (λ id numbers v e. ap (λ (n : ℤ). Int n) e) id (subst (λ (ps : List Pair). Makes (sum_of ps g) HasNumber (IsSumOf ps) g (Ok id) after) same h)

    pub sum_cell_err : (e : WalkFault) → Makes (sum_of pairs g) HasNumber (IsSumOf pairs) g (Err e) after → CellMade (items.Sum part) (Err e)
    unfolding item_cell item_then
    sum_cell_err e h = cell_err unknown keys place group g after (sum_of (pairs_of place group)) (IsSumOf (pairs_of place group)) (items.Sum part) refl (λ id numbers v e. ap (λ (n : ℤ). Int n) e) e (subst (λ (ps : List Pair). Makes (sum_of ps g) HasNumber (IsSumOf ps) g (Err e) after) same h)

    pub least_cell : (id : ℕ) → Makes (least_of pairs g) HasNumber (IsLeastOf pairs) g (Ok id) after → CellMade (items.Min part) (Ok (cells.Number id))
    unfolding item_cell item_then
    least_cell id h = cell_ok unknown keys place group g after (least_of (pairs_of place group)) (IsLeastOf (pairs_of place group)) (items.Min part) refl (λ id numbers v e. ap (λ (n : ℤ). Int n) e) id (subst (λ (ps : List Pair). Makes (least_of ps g) HasNumber (IsLeastOf ps) g (Ok id) after) same h)

    pub least_cell_err : (e : WalkFault) → Makes (least_of pairs g) HasNumber (IsLeastOf pairs) g (Err e) after → CellMade (items.Min part) (Err e)
    unfolding item_cell item_then
    least_cell_err e h = cell_err unknown keys place group g after (least_of (pairs_of place group)) (IsLeastOf (pairs_of place group)) (items.Min part) refl (λ id numbers v e. ap (λ (n : ℤ). Int n) e) e (subst (λ (ps : List Pair). Makes (least_of ps g) HasNumber (IsLeastOf ps) g (Err e) after) same h)

    pub greatest_cell : (id : ℕ) → Makes (greatest_of pairs g) HasNumber (IsGreatestOf pairs) g (Ok id) after → CellMade (items.Max part) (Ok (cells.Number id))
    unfolding item_cell item_then
    greatest_cell id h = cell_ok unknown keys place group g after (greatest_of (pairs_of place group)) (IsGreatestOf (pairs_of place group)) (items.Max part) refl (λ id numbers v e. ap (λ (n : ℤ). Int n) e) id (subst (λ (ps : List Pair). Makes (greatest_of ps g) HasNumber (IsGreatestOf ps) g (Ok id) after) same h)

    pub greatest_cell_err : (e : WalkFault) → Makes (greatest_of pairs g) HasNumber (IsGreatestOf pairs) g (Err e) after → CellMade (items.Max part) (Err e)
    unfolding item_cell item_then
    greatest_cell_err e h = cell_err unknown keys place group g after (greatest_of (pairs_of place group)) (IsGreatestOf (pairs_of place group)) (items.Max part) refl (λ id numbers v e. ap (λ (n : ℤ). Int n) e) e (subst (λ (ps : List Pair). Makes (greatest_of ps g) HasNumber (IsGreatestOf ps) g (Err e) after) same h)

  module _ (truths : List ℕ) (same : truths ≡ map (λ (row : SymRow). row.presence) group) where
    pub count_cell : (id : ℕ) → Makes (count_of truths g) HasNumber (IsCountOf truths) g (Ok id) after → CellMade items.Count (Ok (cells.Number id))
    unfolding item_cell item_then
    count_cell id h = cell_ok unknown keys place group g after (count_of (map (λ (row : SymRow). row.presence) group)) (IsCountOf (map (λ (row : SymRow). row.presence) group)) items.Count refl (λ id numbers v e. ap (λ (n : ℤ). Int n) e) id (subst (λ (ts : List ℕ). Makes (count_of ts g) HasNumber (IsCountOf ts) g (Ok id) after) same h)

    pub count_cell_err : (e : WalkFault) → Makes (count_of truths g) HasNumber (IsCountOf truths) g (Err e) after → CellMade items.Count (Err e)
    unfolding item_cell item_then
    count_cell_err e h = cell_err unknown keys place group g after (count_of (map (λ (row : SymRow). row.presence) group)) (IsCountOf (map (λ (row : SymRow). row.presence) group)) items.Count refl (λ id numbers v e. ap (λ (n : ℤ). Int n) e) e (subst (λ (ts : List ℕ). Makes (count_of ts g) HasNumber (IsCountOf ts) g (Err e) after) same h)

-- ---- items in turn

module _ (columns : List Column) (keys : List At) (made : List Item) (group : List SymRow) where
  -- those that are made, and those that are left
  abbrev pub ItemsSo : ℕ → List Cell → List ℤ → (ℕ → ℤ) → Type 0
  ItemsSo i cells numbers v = map (cell_in v) cells ++ items_from v columns keys made group i (drop i made) ≡ items_then v columns keys made group

  pub items_step : (i : ℕ) (item : Item) (before : List Cell) (cell : Cell) (numbers : List ℤ) (v : ℕ → ℤ) → i < length made → item ≡ get_or made i item → ItemsSo i before numbers v
      → IsItemThen (is_unknown_in columns i) keys (argument_place keys made i) group item cell numbers v → ItemsSo (i + 1) (before ++ cell ∷ []) numbers v
  unfolding items_from
  items_step i item before cell numbers v lt is so one =
      ap (λ (l : List Value). l ++ items_from v columns keys made group (i + 1) (drop (i + 1) made)) (map_push (cell_in v) before cell)
      ∙ append_assoc (map (cell_in v) before) (cell_in v cell ∷ []) (items_from v columns keys made group (i + 1) (drop (i + 1) made))
      ∙ ap (λ (x : Value). map (cell_in v) before ++ x ∷ items_from v columns keys made group (i + 1) (drop (i + 1) made)) (one ∙ ap (item_then v (is_unknown_in columns i) keys (argument_place keys made i) group) is)
      ∙ sym (ap (λ (l : List Item). map (cell_in v) before ++ items_from v columns keys made group i l) (drop_more made i item lt))
      ∙ so

  pub items_end : (i : ℕ) (cells : List Cell) (numbers : List ℤ) (v : ℕ → ℤ) → length made ≤ i → ItemsSo i cells numbers v → AreItemsThen columns keys made group cells numbers v
  unfolding items_from
  items_end i cells numbers v le so = sym (append-nil (map (cell_in v) cells)) ∙ sym (ap (λ (l : List Item). map (cell_in v) cells ++ items_from v columns keys made group i l) (drop_all i made le)) ∙ so

arguments_push : (made : List Item) (item : Item) → length (arguments_of (made ++ item ∷ [])) ≡ length (arguments_of made) + length (arguments_of (item ∷ []))
unfolding arguments_of
arguments_push [] item = sym (zero-add (length (arguments_of (item ∷ []))))
arguments_push (items.Plain part ∷ made) item = arguments_push made item
arguments_push (items.Sum part ∷ made) item = let k = arguments_push made item in omega (arith, k)
arguments_push (items.Count ∷ made) item = arguments_push made item
arguments_push (items.Min part ∷ made) item = let k = arguments_push made item in omega (arith, k)
arguments_push (items.Max part ∷ made) item = let k = arguments_push made item in omega (arith, k)

-- where the next argument stands
pub place_none : (keys : List At) (made : List Item) (place : ℕ) → place ≡ length keys → place ≡ argument_place keys made 0
unfolding argument_place arguments_of
place_none keys made place e = omega (arith, e)

pub place_step : (keys : List At) (made : List Item) (i : ℕ) (item : Item) (place n : ℕ) → i < length made → item ≡ get_or made i item → place ≡ argument_place keys made i → n ≡ length (arguments_of (item ∷ [])) → place + n ≡ argument_place keys made (i + 1)
unfolding argument_place
place_step keys made i item place n lt is e m =
    let k = arguments_push (take i made) (get_or made i item) in
    let t = ap (λ (l : List Item). length (arguments_of l)) (take_more made i item lt) in
    let s = ap (λ (x : Item). length (arguments_of (x ∷ []))) is in
    omega (arith, e, m, k, t, s)

-- the same cell under other names
pub cell_same : (u u' : Bool) (p p' : ℕ) (keys : List At) (group : List SymRow) (item : Item) (g after : Graph) (r : Result Cell WalkFault) → u ≡ u' → p ≡ p' → Makes (item_cell u keys p group item g) IsCellOf (IsItemThen u keys p group item) g r after → Makes (item_cell u' keys p' group item g) IsCellOf (IsItemThen u' keys p' group item) g r after
cell_same u u' p p' keys group item g after r a b h = subst (λ (n : ℕ). Makes (item_cell u' keys n group item g) IsCellOf (IsItemThen u' keys n group item) g r after) b (subst (λ (x : Bool). Makes (item_cell x keys p group item g) IsCellOf (IsItemThen x keys p group item) g r after) a h)

-- ---- the value of a group

pub value_none : (place : ℕ) (group : List (Bor SymRow)) (x : Value) → length group < 1 → x ≡ Int (pos 0) → x ≡ group_value place (map (λ row. row.now) group)
unfolding group_value
value_none place [] x lt e = e
value_none place (row ∷ group) x lt e = absurd (omega (arith, lt))

pub value_is : (place : ℕ) (group : List (Bor SymRow)) (row : Bor SymRow) → 1 ≤ length group → row ≡ get_or group 0 row → fixed_in (slice_get row.now.cells place) ≡ group_value place (map (λ row. row.now) group)
unfolding group_value
value_is place [] row le is = absurd (omega (arith, le))
value_is place (one ∷ group) row le is = ap (λ (r : Bor SymRow). fixed_in (slice_get r.now.cells place)) is

few_arguments : (made : List Item) → length (arguments_of made) ≤ length made
unfolding arguments_of
few_arguments [] = omega arith
few_arguments (items.Plain part ∷ made) = let k = few_arguments made in omega (arith, k)
few_arguments (items.Sum part ∷ made) = let k = few_arguments made in omega (arith, k)
few_arguments (items.Count ∷ made) = let k = few_arguments made in omega (arith, k)
few_arguments (items.Min part ∷ made) = let k = few_arguments made in omega (arith, k)
few_arguments (items.Max part ∷ made) = let k = few_arguments made in omega (arith, k)

-- an argument stands within what a combination leaves
pub few_places : (keys : List At) (made : List Item) (i : ℕ) → argument_place keys made i ≤ length keys + length made
unfolding argument_place
few_places keys made i = let k = few_arguments (take i made) in let n = length-take i made in omega (arith, k, n)
