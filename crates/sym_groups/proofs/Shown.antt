-- the keys of the rows that are there, of the keys of all rows
use Rattle.std.proofs.Common.{◌≡◌, ◌∙◌, sym, ap, subst, refl, Bool, true, false, cond, ◌&&◌, ◌||◌, List, [], ◌∷◌, ◌++◌, map, filter, fold}
use Rattle.std.specs.List.{list_any}
use Rattle.std.specs.Ordering.{is_eq, match_ordering, ordering_reverse}
use Rattle.std.specs.Cmp.{Equal-is}
use Rattle.std.specs.BTreeSet.{insert_key}
use Rattle.std.specs.declared.cmp.Ordering.{Ordering}
use Rattle.std.specs.declared.cmp.Ordering.TheVariants.{Less, Equal, Greater}
use Rattle.std.proofs.lemmas.List.{map_push, append-nil, append_assoc}
use Rattle.std.proofs.lemmas.List.Elements.{filter-append, filter_agree}
use Rattle.std.proofs.lemmas.List.Sums.{fold_push}
use Rattle.base_kit.specs.Orders.{row_order}
use Rattle.base_kit.specs.declared.value.Value.{Value}
use Rattle.base_kit.proofs.Orders.{row_order-total, row_order-Equal}
use Rattle.view_select.specs.Selects.{distinct}

-- what is used of an order
record IsOrder {K : Type 0} (cmp : K → K → Ordering) : Type 0 where
  same : (a b : K) → cmp a b ≡ Equal → a ≡ b
  self : (a : K) → cmp a a ≡ Equal
  on : (a b c : K) → cmp a b ≡ Less → cmp b c ≡ Less → cmp a c ≡ Less
  turn : (a b : K) → cmp a b ≡ Greater → cmp b a ≡ Less

-- a row is there with this key
abbrev pub shows : {K S : Type 0} → (K → K → Ordering) → (S → Bool) → (S → K) → List S → K → Bool
shows cmp there key rows k = list_any (λ row. there row && is_eq (cmp (key row) k)) rows

module _ {K : Type 0} (cmp : K → K → Ordering) (order : IsOrder cmp) where
  abbrev once : List K → List K
  once keys = fold (insert_key cmp) [] keys

  abbrev Above : K → List K → Type 0
  Above x [] = Unit {0}
  Above x (y ∷ ys) = (cmp x y ≡ Less) × Above x ys

  abbrev Rises : List K → Type 0
  Rises [] = Unit {0}
  Rises (x ∷ xs) = Above x xs × Rises xs

  above_on : (k x : K) (ys : List K) → cmp k x ≡ Less → Above x ys → Above k ys
  above_on k x [] lt h = tt
  above_on k x (y ∷ ys) lt h = (order.on k x y lt h.0, above_on k x ys lt h.1)

  above_filter : (p : K → Bool) (x : K) (ys : List K) → Above x ys → Above x (filter p ys)
  above_filter p x [] h = tt
  above_filter p x (y ∷ ys) h = by_test (p y) (filter p ys) (above_filter p x ys h.1)
    where
      by_test : (b : Bool) (zs : List K) → Above x zs → Above x (cond b (y ∷ zs) zs)
      by_test true zs r = (h.0, r)
      by_test false zs r = r

  insert_first : (k : K) (ys : List K) → Above k ys → insert_key cmp ys k ≡ k ∷ ys
  insert_first k [] h = refl
  insert_first k (y ∷ ys) h = ap (λ o. match_ordering o (k ∷ y ∷ ys) (y ∷ ys) (y ∷ insert_key cmp ys k)) h.0

  above_insert : (x k : K) (ys : List K) → cmp x k ≡ Less → Above x ys → Above x (insert_key cmp ys k)
  above_insert x k [] lt h = (lt, tt)
  above_insert x k (y ∷ ys) lt h = by_order (cmp k y) (insert_key cmp ys k) (above_insert x k ys lt h.1)
    where
      by_order : (o : Ordering) (zs : List K) → Above x zs → Above x (match_ordering o (k ∷ y ∷ ys) (y ∷ ys) (y ∷ zs))
      by_order Less zs r = (lt, h)
      by_order Equal zs r = h
      by_order Greater zs r = (h.0, r)

  rises_insert : (k : K) (ks : List K) → Rises ks → Rises (insert_key cmp ks k)
  rises_insert k [] h = (tt, tt)
  rises_insert k (x ∷ xs) h = by_order (cmp k x) refl (insert_key cmp xs k) refl (rises_insert k xs h.1)
    where
      by_order : (o : Ordering) → cmp k x ≡ o → (zs : List K) → zs ≡ insert_key cmp xs k → Rises zs → Rises (match_ordering o (k ∷ x ∷ xs) (x ∷ xs) (x ∷ zs))
      by_order Less e zs is r = ((e, above_on k x xs e h.0), h)
      by_order Equal e zs is r = h
      by_order Greater e zs is r = (subst (Above x) (sym is) (above_insert x k xs (order.turn k x e) h.0), r)

  -- ---- filtering what is inserted

  -- filters agree above a key
  agree_above : (p q : K → Bool) (k : K) → ((x : K) → cmp k x ≡ Less → p x ≡ q x) → (ys : List K) → Above k ys → filter p ys ≡ filter q ys
  agree_above p q k same [] h = refl
  agree_above p q k same (y ∷ ys) h =
      ap (λ b. cond b (y ∷ filter p ys) (filter p ys)) (same y h.0) ∙ ap (λ zs. cond (q y) (y ∷ zs) zs) (agree_above p q k same ys h.1)

  -- one more key is shown
  module _ (p q : K → Bool) (k : K) (here : p k ≡ true) (other : (x : K) → cmp k x ≡ Less → p x ≡ q x) (under : (x : K) → cmp k x ≡ Greater → p x ≡ q x) where
    filter_more : (ks : List K) → Rises ks → filter p (insert_key cmp ks k) ≡ insert_key cmp (filter q ks) k
    filter_more [] h = ap (λ b. cond b (k ∷ []) []) here
    filter_more (x ∷ xs) h = by_order (cmp k x) refl (filter_more xs h.1)
      where
        keep : (b : Bool) → q x ≡ b → cmp k x ≡ Greater → filter p (insert_key cmp xs k) ≡ insert_key cmp (filter q xs) k → filter p (x ∷ insert_key cmp xs k) ≡ insert_key cmp (cond b (x ∷ filter q xs) (filter q xs)) k
        keep true f e r = ap (λ b. cond b (x ∷ filter p (insert_key cmp xs k)) (filter p (insert_key cmp xs k))) (under x e ∙ f) ∙ ap (λ zs. x ∷ zs) r ∙ sym (ap (λ o. match_ordering o (k ∷ x ∷ filter q xs) (x ∷ filter q xs) (x ∷ insert_key cmp (filter q xs) k)) e)
        keep false f e r = ap (λ b. cond b (x ∷ filter p (insert_key cmp xs k)) (filter p (insert_key cmp xs k))) (under x e ∙ f) ∙ r

        equal : (b : Bool) → q x ≡ b → cmp k x ≡ Equal → filter p (x ∷ xs) ≡ insert_key cmp (cond b (x ∷ filter q xs) (filter q xs)) k
        equal b f e =
            let is = order.same k x e in
            let over : Above k xs = subst (λ z. Above z xs) (sym is) h.0 in
            let shown : p x ≡ true = ap p (sym is) ∙ here in
            ap (λ b. cond b (x ∷ filter p xs) (filter p xs)) shown ∙ ap (λ zs. x ∷ zs) (agree_above p q k other xs over) ∙ last b e is over
          where
            last : (b : Bool) → cmp k x ≡ Equal → k ≡ x → Above k xs → x ∷ filter q xs ≡ insert_key cmp (cond b (x ∷ filter q xs) (filter q xs)) k
            last true e is over = sym (ap (λ o. match_ordering o (k ∷ x ∷ filter q xs) (x ∷ filter q xs) (x ∷ insert_key cmp (filter q xs) k)) e)
            last false e is over = ap (λ z. z ∷ filter q xs) (sym is) ∙ sym (insert_first k (filter q xs) (above_filter q k xs over))

        by_order : (o : Ordering) → cmp k x ≡ o → filter p (insert_key cmp xs k) ≡ insert_key cmp (filter q xs) k → filter p (match_ordering o (k ∷ x ∷ xs) (x ∷ xs) (x ∷ insert_key cmp xs k)) ≡ insert_key cmp (filter q (x ∷ xs)) k
        by_order Less e r =
            let over : Above k (x ∷ xs) = (e, above_on k x xs e h.0) in
            ap (λ b. cond b (k ∷ filter p (x ∷ xs)) (filter p (x ∷ xs))) here ∙ ap (λ zs. k ∷ zs) (agree_above p q k other (x ∷ xs) over) ∙ sym (insert_first k (filter q (x ∷ xs)) (above_filter q k (x ∷ xs) over))
        by_order Equal e r = equal (q x) refl e
        by_order Greater e r = keep (q x) refl e r

  -- ---- keys that are there already, or are not shown

  abbrev has : List K → K → Bool
  has ks k = list_any (λ x. is_eq (cmp k x)) ks

  or_true : (b c : Bool) → c ≡ true → (b || c) ≡ true
  or_true true c e = refl
  or_true false c e = e

  above_has : (k : K) (ys : List K) → Above k ys → has ys k ≡ false
  above_has k [] h = refl
  above_has k (y ∷ ys) h = ap (λ o. is_eq o || has ys k) h.0 ∙ above_has k ys h.1

  insert_there : (k : K) (ks : List K) → Rises ks → has ks k ≡ true → insert_key cmp ks k ≡ ks
  insert_there k [] h in_list = cc
  insert_there k (x ∷ xs) h in_list = by_order (cmp k x) refl in_list (insert_there k xs h.1)
    where
      by_order : (o : Ordering) → cmp k x ≡ o → (is_eq o || has xs k) ≡ true → (has xs k ≡ true → insert_key cmp xs k ≡ xs) → match_ordering o (k ∷ x ∷ xs) (x ∷ xs) (x ∷ insert_key cmp xs k) ≡ x ∷ xs
      by_order Less e t r = let no_key : false ≡ true = sym (above_has k xs (above_on k x xs e h.0)) ∙ t in cc
      by_order Equal e t r = refl
      by_order Greater e t r = ap (λ zs. x ∷ zs) (r t)

  insert_hidden : (p : K → Bool) (k : K) (ks : List K) → p k ≡ false → filter p (insert_key cmp ks k) ≡ filter p ks
  insert_hidden p k [] off = ap (λ b. cond b (k ∷ []) []) off
  insert_hidden p k (x ∷ xs) off = by_order (cmp k x) (insert_hidden p k xs off)
    where
      by_order : (o : Ordering) → filter p (insert_key cmp xs k) ≡ filter p xs → filter p (match_ordering o (k ∷ x ∷ xs) (x ∷ xs) (x ∷ insert_key cmp xs k)) ≡ filter p (x ∷ xs)
      by_order Less r = ap (λ b. cond b (k ∷ filter p (x ∷ xs)) (filter p (x ∷ xs))) off
      by_order Equal r = refl
      by_order Greater r = ap (λ zs. cond (p x) (x ∷ zs) zs) r

  has_insert : (k : K) (ks : List K) → has (insert_key cmp ks k) k ≡ true
  has_insert k [] = ap (λ o. is_eq o || false) (order.self k)
  has_insert k (x ∷ xs) = by_order (cmp k x) refl (has_insert k xs)
    where
      by_order : (o : Ordering) → cmp k x ≡ o → has (insert_key cmp xs k) k ≡ true → has (match_ordering o (k ∷ x ∷ xs) (x ∷ xs) (x ∷ insert_key cmp xs k)) k ≡ true
      by_order Less e r = ap (λ o. is_eq o || has (x ∷ xs) k) (order.self k)
      by_order Equal e r = ap (λ o. is_eq o || has xs k) e
      by_order Greater e r = or_true (is_eq (cmp k x)) (has (insert_key cmp xs k) k) r

  has_kept : (k y : K) (ks : List K) → has ks y ≡ true → has (insert_key cmp ks k) y ≡ true
  has_kept k y [] h = cc
  has_kept k y (x ∷ xs) h = by_order (cmp k x) h (has_kept k y xs)
    where
      or_on : (b : Bool) → (b || has xs y) ≡ true → (has xs y ≡ true → has (insert_key cmp xs k) y ≡ true) → (b || has (insert_key cmp xs k) y) ≡ true
      or_on true t r = refl
      or_on false t r = r t

      by_order : (o : Ordering) → has (x ∷ xs) y ≡ true → (has xs y ≡ true → has (insert_key cmp xs k) y ≡ true) → has (match_ordering o (k ∷ x ∷ xs) (x ∷ xs) (x ∷ insert_key cmp xs k)) y ≡ true
      by_order Less t r = or_true (is_eq (cmp y k)) (has (x ∷ xs) y) t
      by_order Equal t r = t
      by_order Greater t r = or_on (is_eq (cmp y x)) t r

  -- ---- row by row

  module _ {S : Type 0} (there : S → Bool) (key : S → K) where
    record SoFar (rows : List S) : Type 0 where
      shown : filter (shows cmp there key rows) (once (map key rows)) ≡ once (map key (filter there rows))
      rises : Rises (once (map key rows))
      all : (k : K) → shows cmp there key rows k ≡ true → has (once (map key rows)) k ≡ true

    any_push : (p : S → Bool) (rows : List S) (r : S) → list_any p (rows ++ r ∷ []) ≡ (list_any p rows || p r)
    any_push p [] r = or_false (p r)
      where
        or_false : (b : Bool) → (b || false) ≡ b
        or_false true = refl
        or_false false = refl
    any_push p (x ∷ rows) r = ap (λ b. p x || b) (any_push p rows r) ∙ or_assoc (p x) (list_any p rows) (p r)
      where
        or_assoc : (a b c : Bool) → (a || (b || c)) ≡ ((a || b) || c)
        or_assoc true b c = refl
        or_assoc false b c = refl

    keys_push : (rows : List S) (r : S) → once (map key (rows ++ r ∷ [])) ≡ insert_key cmp (once (map key rows)) (key r)
    keys_push rows r = ap once (map_push key rows r) ∙ fold_push (insert_key cmp) [] (map key rows) (key r)

    module _ (rows : List S) (r : S) (so : SoFar rows) where
      seen : (x : K) → shows cmp there key (rows ++ r ∷ []) x ≡ (shows cmp there key rows x || (there r && is_eq (cmp (key r) x)))
      seen x = any_push (λ row. there row && is_eq (cmp (key row) x)) rows r

      off : (b : Bool) → (b || false) ≡ b
      off true = refl
      off false = refl

      -- the row is not there
      absent : there r ≡ false → (x : K) → shows cmp there key (rows ++ r ∷ []) x ≡ shows cmp there key rows x
      absent e x = seen x ∙ ap (λ b. shows cmp there key rows x || (b && is_eq (cmp (key r) x))) e ∙ off (shows cmp there key rows x)

      hidden : (b : Bool) → shows cmp there key rows (key r) ≡ b → filter (shows cmp there key rows) (insert_key cmp (once (map key rows)) (key r)) ≡ filter (shows cmp there key rows) (once (map key rows))
      hidden true e = ap (filter (shows cmp there key rows)) (insert_there (key r) (once (map key rows)) so.rises (so.all (key r) e))
      hidden false e = insert_hidden (shows cmp there key rows) (key r) (once (map key rows)) e

      -- the row is there
      apart : (x : K) (o : Ordering) → cmp (key r) x ≡ o → is_eq o ≡ false → shows cmp there key (rows ++ r ∷ []) x ≡ shows cmp there key rows x
      apart x o e is_off = seen x ∙ ap (λ b. shows cmp there key rows x || (there r && b)) (ap is_eq e ∙ is_off) ∙ ap (λ b. shows cmp there key rows x || b) (and_false (there r)) ∙ off (shows cmp there key rows x)
        where
          and_false : (b : Bool) → (b && false) ≡ false
          and_false true = refl
          and_false false = refl

      present : there r ≡ true → shows cmp there key (rows ++ r ∷ []) (key r) ≡ true
      present e = seen (key r) ∙ or_true (shows cmp there key rows (key r)) (there r && is_eq (cmp (key r) (key r))) (ap (λ b. b && is_eq (cmp (key r) (key r))) e ∙ ap is_eq (order.self (key r)))

      shown_push : (b : Bool) → there r ≡ b → filter (shows cmp there key (rows ++ r ∷ [])) (insert_key cmp (once (map key rows)) (key r)) ≡ once (map key (filter there rows ++ cond b (r ∷ []) []))
      shown_push true e =
          filter_more (shows cmp there key (rows ++ r ∷ [])) (shows cmp there key rows) (key r) (present e) (λ x o. apart x Less o refl) (λ x o. apart x Greater o refl) (once (map key rows)) so.rises
          ∙ ap (λ ks. insert_key cmp ks (key r)) so.shown ∙ sym (keys_push (filter there rows) r)
      shown_push false e =
          filter_agree (shows cmp there key (rows ++ r ∷ [])) (shows cmp there key rows) (absent e) (insert_key cmp (once (map key rows)) (key r))
          ∙ hidden (shows cmp there key rows (key r)) refl ∙ so.shown ∙ ap (λ ss. once (map key ss)) (sym (append-nil (filter there rows)))

      all_push : (k : K) → (shows cmp there key rows k || (there r && is_eq (cmp (key r) k))) ≡ true → has (insert_key cmp (once (map key rows)) (key r)) k ≡ true
      all_push k e = by_old (shows cmp there key rows k) refl (there r) (cmp (key r) k) refl e
        where
          by_old : (b : Bool) → shows cmp there key rows k ≡ b → (t : Bool) (o : Ordering) → cmp (key r) k ≡ o → (b || (t && is_eq o)) ≡ true → has (insert_key cmp (once (map key rows)) (key r)) k ≡ true
          by_old true h t o is e = has_kept (key r) k (once (map key rows)) (so.all k h)
          by_old false h true Equal is e = subst (λ z. has (insert_key cmp (once (map key rows)) (key r)) z ≡ true) (order.same (key r) k is) (has_insert (key r) (once (map key rows)))
          by_old false h true Less is e = cc
          by_old false h true Greater is e = cc
          by_old false h false o is e = cc

      filter_push : filter there (rows ++ r ∷ []) ≡ filter there rows ++ cond (there r) (r ∷ []) []
      filter_push = filter-append there rows (r ∷ [])

      so_far_push : SoFar (rows ++ r ∷ [])
      so_far_push = record {
        shown = ap (filter (shows cmp there key (rows ++ r ∷ []))) (keys_push rows r) ∙ shown_push (there r) refl ∙ ap (λ ss. once (map key ss)) (sym filter_push);
        rises = subst Rises (sym (keys_push rows r)) (rises_insert (key r) (once (map key rows)) so.rises);
        all = λ k e. ap (λ ks. has ks k) (keys_push rows r) ∙ all_push k (sym (seen k) ∙ e);
      }

    so_far_none : SoFar []
    so_far_none = record { shown = refl; rises = tt; all = λ k e. cc }

    so_far_all : (rows more : List S) → SoFar rows → SoFar (rows ++ more)
    so_far_all rows [] so = subst SoFar (sym (append-nil rows)) so
    so_far_all rows (r ∷ more) so = subst SoFar (append_assoc rows (r ∷ []) more) (so_far_all (rows ++ r ∷ []) more (so_far_push rows r so))

    -- the keys that are shown are those of the rows that are there, in the same order
    keys_shown : (rows : List S) → filter (shows cmp there key rows) (once (map key rows)) ≡ once (map key (filter there rows))
    keys_shown rows = (so_far_all [] rows so_far_none).shown

row_order-is : IsOrder row_order
row_order-is = record {
  same = λ a b e. (row_order-Equal a b).0 (ap is_eq e);
  self = λ a. (Equal-is (row_order a a)).0 ((row_order-Equal a a).1 refl);
  on = λ a b c. row_order-total.trans a b c;
  turn = λ a b e. row_order-total.antisymm b a ∙ ap ordering_reverse e;
}

pub rows_shown : {S : Type 0} (there : S → Bool) (key : S → List Value) (rows : List S) → filter (shows row_order there key rows) (distinct (map key rows)) ≡ distinct (map key (filter there rows))
unfolding distinct
rows_shown there key rows = keys_shown row_order row_order-is there key rows
