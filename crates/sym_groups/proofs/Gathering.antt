-- rows that are put together by their keys, row by row
use Rattle.std.proofs.Common.{◌≡◌, ◌∙◌, sym, ap, ap₂, refl, subst, ℕ, ◌+◌, ◌<◌, ◌≤◌, Bool, true, false, List, [], ◌∷◌, ◌++◌, map, length, get_or, take, arith, length-take}
use Rattle.std.specs.Prelude.{Option, Some, None, unwrap_or, cond, min}
use Rattle.std.specs.Borrow.{Bor}
use Rattle.std.specs.Global.{Vec}
use Rattle.std.specs.declared.cmp.Ordering.{Ordering}
use Rattle.std.specs.declared.cmp.Ordering.TheVariants.{Less, Equal, Greater}
use Rattle.std.specs.Ordering.{is_eq, match_ordering}
use Rattle.std.specs.Cmp.{IsTotalOrder, eq_by_cmp_equiv}
use Rattle.std.specs.Cmp.Lexicographic.{slice_cmp}
use Rattle.std.specs.BTreeMap.{insert_entry, IsOrdered, UpdatesBy, get, get_by, keys}
use Rattle.std.specs.BTreeSet.{insert_key}
use Rattle.std.specs.Map.{lookup, KeepsOthers, IsKeyTest, AreApart}
use Rattle.std.specs.List.{All}
use Rattle.std.specs.Option.{option_map_or}
use Rattle.std.proofs.lemmas.List.{append-nil, append_assoc, map_push, take_more, take_all}
use Rattle.std.proofs.lemmas.List.Elements.{All-head, All-tail, All-weaker}
use Rattle.std.proofs.lemmas.Map.Views.{All-found}
use Rattle.base_kit.specs.Orders.{value_order, row_order}
use Rattle.base_kit.specs.declared.value.Value.{Value}
use Rattle.base_kit.proofs.Orders.{value_order-is, row_order-total, row_order-Equal}
use Rattle.base_kit.specs.contracts.value.ValueOrd.TheImpl.{cmp-value}
use Rattle.view_select.specs.Selects.{distinct}
use Rattle.view_select.proofs.Grouped.{lent_by, distinct_push}
use Rattle.sym_rows.specs.declared.row.SymRow.{SymRow}
use Rattle.sym_groups.specs.Groups.{beside, together}
use Rattle.sym_groups.specs.Together.{Lent, lent_rows, lists_in}

lent-total : IsTotalOrder (lent_by value_order)
lent-total = record {
  antisymm = λ x y. row_order-total.antisymm x.now y.now;
  trans = λ x y z p q. row_order-total.trans x.now y.now z.now p q;
  congr = λ x y z p. row_order-total.congr x.now y.now z.now p;
}

-- the rows that a key has
pub rows_for : Lent → List Value → List SymRow
rows_for groups key = option_map_or lent_rows (get_by (λ other. row_order key other.now) groups) []

-- what is known of the first rows, each with its key in the same place
pub record AreTogether (ones : List (List Value)) (rows : List SymRow) (i : ℕ) (groups : Lent) : Type 0 where
  pub keys_are : map (λ key. key.now) (keys groups) ≡ distinct (take i ones)
  pub rows_are : (key : List Value) → rows_for groups key ≡ beside (take i ones) (take i rows) key
  pub ordered : IsOrdered (lent_by value_order) groups

ordered-is : (groups : Lent) → IsOrdered (lent_by cmp-value.it) groups → IsOrdered (lent_by value_order) groups
ordered-is groups h = subst (λ cmp. IsOrdered (lent_by cmp) groups) value_order-is h

-- no rows
pub together-init : (ones : List (List Value)) (rows : List SymRow) (groups : Lent) → groups.entries ≡ [] → IsOrdered (lent_by cmp-value.it) groups → AreTogether ones rows 0 groups
unfolding rows_for distinct beside
together-init ones rows groups e ordered = record {
  keys_are = ap (λ (es : List (Bor (List Value) × Vec (Bor SymRow))). map (λ key. key.now) (map (λ entry. entry.0) es)) e;
  rows_are = λ key. ap (λ (es : List (Bor (List Value) × Vec (Bor SymRow))). option_map_or lent_rows (lookup (λ other. is_eq (row_order key other.now)) es) []) e;
  ordered = ordered-is groups ordered;
}

module _ (cmp : Value → Value → Ordering) (key : Bor (List Value)) (group : Vec (Bor SymRow)) where
  -- the keys with one more
  keys-step : (es : List (Bor (List Value) × Vec (Bor SymRow))) → map (λ key. key.now) (map (λ entry. entry.0) (insert_entry (lent_by cmp) es key group)) ≡ insert_key (slice_cmp cmp) (map (λ key. key.now) (map (λ entry. entry.0) es)) key.now
  keys-step [] = refl
  keys-step (e ∷ es) = elim (slice_cmp cmp key.now e.0.now) as (λ o. map (λ key. key.now) (map (λ entry. entry.0) (match_ordering o ((key, group) ∷ e ∷ es) ((e.0, group) ∷ es) (e ∷ insert_entry (lent_by cmp) es key group)))
      ≡ match_ordering o (key.now ∷ e.0.now ∷ map (λ key. key.now) (map (λ entry. entry.0) es)) (e.0.now ∷ map (λ key. key.now) (map (λ entry. entry.0) es)) (e.0.now ∷ insert_key (slice_cmp cmp) (map (λ key. key.now) (map (λ entry. entry.0) es)) key.now)) [
        | Less ↦ refl
        | Equal ↦ refl
        | Greater ↦ ap (λ l. e.0.now ∷ l) (keys-step es)
      ]

-- the rows of a key, by what is found
rows-found : (groups : Lent) (key : List Value) (found : Option (Vec (Bor SymRow))) → get_by (λ other. row_order key other.now) groups ≡ found → rows_for groups key ≡ option_map_or lent_rows found []
unfolding rows_for
rows-found groups key found e = ap (λ found. option_map_or lent_rows found []) e

-- one row more with its key
beside_push : (ones : List (List Value)) (rows : List SymRow) (one : List Value) (row : SymRow) (key : List Value) → length ones ≡ length rows → beside (ones ++ one ∷ []) (rows ++ row ∷ []) key ≡ beside ones rows key ++ cond (is_eq (row_order one key)) (row ∷ []) []
unfolding beside
beside_push [] [] one row key long = refl
beside_push [] (r ∷ rows) one row key long = absurd (omega (arith, long))
beside_push (k ∷ ones) [] one row key long = absurd (omega (arith, long))
beside_push (k ∷ ones) (r ∷ rows) one row key long = by_test (is_eq (row_order k key)) (beside_push ones rows one row key (omega (arith, long)))
  where
    by_test : (b : Bool) → beside (ones ++ one ∷ []) (rows ++ row ∷ []) key ≡ beside ones rows key ++ cond (is_eq (row_order one key)) (row ∷ []) []
        → cond b (r ∷ beside (ones ++ one ∷ []) (rows ++ row ∷ []) key) (beside (ones ++ one ∷ []) (rows ++ row ∷ []) key) ≡ cond b (r ∷ beside ones rows key) (beside ones rows key) ++ cond (is_eq (row_order one key)) (row ∷ []) []
    by_test true h = ap (λ (l : List SymRow). r ∷ l) h
    by_test false h = h

beside-more : (ones : List (List Value)) (rows : List SymRow) (i : ℕ) (one : List Value) (row : SymRow) (key : List Value) → length ones ≡ length rows → i < length rows → one ≡ get_or ones i one → row ≡ get_or rows i row
    → beside (take (i + 1) ones) (take (i + 1) rows) key ≡ beside (take i ones) (take i rows) key ++ cond (is_eq (row_order one key)) (row ∷ []) []
beside-more ones rows i one row key long lt one_is row_is =
    ap₂ (λ (ks : List (List Value)) (rs : List SymRow). beside ks rs key) (take_more ones i one (omega (arith, long, lt)) ∙ ap (λ (k : List Value). take i ones ++ k ∷ []) (sym one_is)) (take_more rows i row lt ∙ ap (λ (r : SymRow). take i rows ++ r ∷ []) (sym row_is))
    ∙ beside_push (take i ones) (take i rows) one row key (let a = length-take i ones in let b = length-take i rows in a ∙ ap (λ (n : ℕ). min i n) long ∙ sym b)

-- other keys have what they had
others : (eq : Bor (List Value) → Bor (List Value) → Bool) (test other : Bor (List Value) → Bool) (old new : List (Bor (List Value) × Vec (Bor SymRow))) → KeepsOthers eq test old new → IsKeyTest eq other → AreApart test other → lookup other new ≡ lookup other old
unfolding KeepsOthers
others eq test other old new keeps one apart = keeps other one apart

-- of two keys that are not the same, no third is both
apart_rows : (one other third : List Value) → is_eq (row_order one other) ≡ false → is_eq (row_order one third) ≡ true → is_eq (row_order other third) ≡ false
apart_rows one other third differs same =
    let laws = eq_by_cmp_equiv row_order-total in
    laws.symm other third ∙ sym (laws.congr one third other same) ∙ differs

module _ (ones : List (List Value)) (all : List SymRow) (i : ℕ) (old new : Lent) (key : List Value) (row : Bor SymRow) (had made : Vec (Bor SymRow)) (long : length ones ≡ length all) (lt : i < length all) (key_is : key ≡ get_or ones i key) (row_is : row.now ≡ get_or all i row.now)
    (updates : UpdatesBy (lent_by value_order) (λ other. row_order key other.now) old new (Some made)) (pushed : made.items ≡ had.items ++ row ∷ []) (had_is : lent_rows had ≡ rows_for old key)
    (rows : (other : List Value) → rows_for old other ≡ beside (take i ones) (take i all) other) where
  -- the row stands behind those of its key
  here : rows_for new key ≡ beside (take (i + 1) ones) (take (i + 1) all) key
  here =
      rows-found new key (Some made) updates.1
      ∙ ap (map (λ row. row.now)) pushed
      ∙ map_push (λ (row : Bor SymRow). row.now) had.items row
      ∙ ap (λ l. l ++ row.now ∷ []) (had_is ∙ rows key)
      ∙ ap (λ b. beside (take i ones) (take i all) key ++ cond b (row.now ∷ []) []) (sym ((row_order-Equal key key).1 refl))
      ∙ sym (beside-more ones all i key row.now key long lt key_is row_is)

  -- and the rows of other keys stay
  elsewhere : (other : List Value) → is_eq (row_order key other) ≡ false → rows_for new other ≡ beside (take (i + 1) ones) (take (i + 1) all) other
  elsewhere other differs =
      rows-found new other _ (others _ _ (λ k. is_eq (row_order other k.now)) old.entries new.entries updates.3
      (λ x y. (eq_by_cmp_equiv row_order-total).congr other x.now y.now) (λ k. apart_rows key other k.now differs)) ∙ sym (rows-found old other _ refl)
      ∙ rows other
      ∙ sym (append-nil (beside (take i ones) (take i all) other))
      ∙ ap (λ b. beside (take i ones) (take i all) other ++ cond b (row.now ∷ []) []) (sym differs)
      ∙ sym (beside-more ones all i key row.now other long lt key_is row_is)

  rows-step : (other : List Value) → rows_for new other ≡ beside (take (i + 1) ones) (take (i + 1) all) other
  rows-step other = by_test (is_eq (row_order key other)) refl
    where
      by_test : (b : Bool) → is_eq (row_order key other) ≡ b → rows_for new other ≡ beside (take (i + 1) ones) (take (i + 1) all) other
      by_test true e = subst (λ other. rows_for new other ≡ beside (take (i + 1) ones) (take (i + 1) all) other) ((row_order-Equal key other).0 e) here
      by_test false e = elsewhere other e

-- what a key had, where it may be new
had-is : (found : Option (Vec (Bor SymRow))) (had empty : Vec (Bor SymRow)) → had ≡ unwrap_or found empty → empty.items ≡ [] → lent_rows had ≡ option_map_or lent_rows found []
had-is None had empty e none = ap lent_rows e ∙ ap (map (λ row. row.now)) none
had-is (Some group) had empty e none = ap lent_rows e

-- one row more
pub together-step : (ones : List (List Value)) (all : List SymRow) (i : ℕ) (old new : Lent) (key : Bor (List Value)) (row : Bor SymRow) (had empty made : Vec (Bor SymRow)) → length ones ≡ length all → i < length all → key.now ≡ get_or ones i key.now → row.now ≡ get_or all i row.now
    → new.entries ≡ insert_entry (lent_by cmp-value.it) old.entries key made → UpdatesBy (lent_by cmp-value.it) (λ other. slice_cmp cmp-value.it key.now other.now) old new (Some made) → IsOrdered (lent_by cmp-value.it) new
    → made.items ≡ had.items ++ row ∷ [] → had ≡ unwrap_or (get_by (λ other. slice_cmp cmp-value.it key.now other.now) old) empty → empty.items ≡ []
    → AreTogether ones all i old → AreTogether ones all (i + 1) new
together-step ones all i old new key row had empty made long lt key_is row_is entries updates ordered pushed had_was none h =
    let was : had ≡ unwrap_or (get_by (λ other. row_order key.now other.now) old) empty = subst (λ cmp. had ≡ unwrap_or (get_by (λ other. slice_cmp cmp key.now other.now) old) empty) value_order-is had_was in
    record {
      keys_are =
          ap (λ (es : List (Bor (List Value) × Vec (Bor SymRow))). map (λ key. key.now) (map (λ entry. entry.0) es)) entries
          ∙ keys-step cmp-value.it key made old.entries
          ∙ ap (λ cmp. insert_key (slice_cmp cmp) (map (λ key. key.now) (map (λ entry. entry.0) old.entries)) key.now) value_order-is
          ∙ ap (λ l. insert_key row_order l key.now) h.keys_are
          ∙ ap (insert_key row_order (distinct (take i ones))) key_is
          ∙ sym (distinct_push (take i ones) (get_or ones i key.now))
          ∙ ap distinct (sym (take_more ones i key.now (omega (arith, long, lt))));
      rows_are = rows-step ones all i old new key.now row had made long lt key_is row_is
          (subst (λ cmp. UpdatesBy (lent_by cmp) (λ other. slice_cmp cmp key.now other.now) old new (Some made)) value_order-is updates)
          pushed
          (had-is (get_by (λ other. row_order key.now other.now) old) had empty was none ∙ sym (rows-found old key.now _ refl))
          h.rows_are;
      ordered = ordered-is new ordered;
    }

-- groups that are the same
pub same-groups : (ones : List (List Value)) (rows : List SymRow) (i : ℕ) (groups written : Lent) → groups ≡ written → AreTogether ones rows i written → AreTogether ones rows i groups
same-groups ones rows i groups written e h = subst (AreTogether ones rows i) (sym e) h

-- entry by entry, the rows of the key
each : (f : List Value → List SymRow) (es : List (Bor (List Value) × Vec (Bor SymRow))) → All (λ entry. lent_rows entry.1 ≡ f entry.0.now) es → map lent_rows (map (λ entry. entry.1) es) ≡ map f (map (λ key. key.now) (map (λ entry. entry.0) es))
each f [] h = refl
each f (e ∷ es) h =
    ap₂ (λ (rows : List SymRow) (more : List (List SymRow)). rows ∷ more) (All-head (λ entry. lent_rows entry.1 ≡ f entry.0.now) e es h)
    (each f es (All-tail (λ entry. lent_rows entry.1 ≡ f entry.0.now) e es h))

-- all the rows
pub together-end : (ones : List (List Value)) (rows : List SymRow) (i : ℕ) (groups : Lent) → length ones ≡ length rows → length rows ≤ i → AreTogether ones rows i groups → lists_in groups ≡ together ones rows
unfolding lists_in together
together-end ones rows i groups long le h =
    let keys_whole : take i ones ≡ ones = take_all i ones (omega (arith, long, le)) in
    let rows_whole : take i rows ≡ rows = take_all i rows le in
    each (beside ones rows) groups.entries
    (All-weaker (λ entry. get (lent_by value_order) groups entry.0 ≡ Some entry.1) (λ entry. lent_rows entry.1 ≡ beside ones rows entry.0.now)
    (λ entry found. sym (rows-found groups entry.0.now (Some entry.1) found) ∙ h.rows_are entry.0.now ∙ ap₂ (λ (ks : List (List Value)) (rs : List SymRow). beside ks rs entry.0.now) keys_whole rows_whole)
    groups.entries (All-found lent-total groups h.ordered))
    ∙ ap (map (beside ones rows)) (h.keys_are ∙ ap distinct keys_whole)

-- ---- groups in order, as they lie

pub listed-step : (left rest : List (Vec (Bor SymRow))) (group : Vec (Bor SymRow)) (made more : List (Vec (Bor SymRow))) (all : List (List SymRow)) → left ≡ group ∷ rest → more ≡ made ++ group ∷ [] → map lent_rows (made ++ left) ≡ all → map lent_rows (more ++ rest) ≡ all
listed-step left rest group made more all is m h = ap (map lent_rows) (ap (λ l. l ++ rest) m ∙ append_assoc made (group ∷ []) rest ∙ ap (λ l. made ++ l) (sym is)) ∙ h

pub listed-end : (left made : List (Vec (Bor SymRow))) (all : List (List SymRow)) → left ≡ [] → map lent_rows (made ++ left) ≡ all → map lent_rows made ≡ all
listed-end left made all is h = ap (map lent_rows) (sym (append-nil made) ∙ sym (ap (λ l. made ++ l) is)) ∙ h
