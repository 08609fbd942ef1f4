-- Being in a list: by its first item, through a map, through a filter, and along a row or a column of a grid.
use Rattle.std.proofs.Common.{◌≡◌, ◌⊎◌, inl, inr, ◌<◌, ℕ, zero, suc, Bool, true, false, cond, List, [], ◌∷◌, length, get_or, map, eqb, refl, sym, ap, ap₂, ◌∙◌, subst, arith}
use Rattle.std.specs.List.{Contains, filter}
use Rattle.std.proofs.lemmas.Bool.{eq-eqb, eqb-true, false≢true}
use Rattle.std.proofs.lemmas.List.{get_or_default}
use Rattle.cross_links.specs.declared.entry.Entry.{Entry}
use Rattle.cross_links.specs.Layout.{Layout, live, live_columns, live_rows}
use Rattle.ip_partition.specs.Linked.{IsLive}

module _ {X : Type 0} where
  pub none_in : (x : X) → Contains [] x → ⊥
  none_in x h = omega (arith, h.1)

  pub at_head : (x : X) (xs : List X) → Contains (x ∷ xs) x
  at_head x xs = (0, omega arith, refl)

  pub behind : (x : X) (xs : List X) (y : X) → Contains xs y → Contains (x ∷ xs) y
  behind x xs y h = let lt = h.1 in (suc h.0, omega arith, h.2)

  head_or : (x : X) (xs : List X) (y : X) (k : ℕ) → k < length (x ∷ xs) → get_or (x ∷ xs) k y ≡ y → (x ≡ y) ⊎ Contains xs y
  head_or x xs y zero lt e = inl e
  head_or x xs y (suc k) lt e = inr (k, omega arith, e)

  pub head_or_behind : (x : X) (xs : List X) (y : X) → Contains (x ∷ xs) y → (x ≡ y) ⊎ Contains xs y
  head_or_behind x xs y h = head_or x xs y h.0 h.1 h.2

  pub at_place : (xs : List X) (k : ℕ) (d : X) → k < length xs → Contains xs (get_or xs k d)
  at_place xs k d lt = (k, lt, get_or_default xs k (get_or xs k d) d lt)

module _ {X : Type 0} (p : X → Bool) where
  filter_head : (x : X) (xs : List X) (y : X) (b : Bool) → p x ≡ b → p y ≡ true → (Contains xs y → Contains (filter p xs) y) → (x ≡ y) ⊎ Contains xs y → Contains (cond b (x ∷ filter p xs) (filter p xs)) y
  filter_head x xs y true test pass rest (inl e) = subst (λ z. Contains (x ∷ filter p xs) z) e (at_head x (filter p xs))
  filter_head x xs y false test pass rest (inl e) = absurd (false≢true (sym test ∙ ap p e ∙ pass))
  filter_head x xs y true test pass rest (inr h) = behind x (filter p xs) y (rest h)
  filter_head x xs y false test pass rest (inr h) = rest h

  pub in_filter : (xs : List X) (x : X) → Contains xs x → p x ≡ true → Contains (filter p xs) x
  in_filter [] x h pass = h
  in_filter (y ∷ ys) x h pass = filter_head y ys x (p y) refl pass (λ h. in_filter ys x h pass) (head_or_behind y ys x h)

  unfilter_head : (x : X) (xs : List X) (y : X) (b : Bool) → p x ≡ b → (Contains (filter p xs) y → Contains xs y × (p y ≡ true)) → Contains (cond b (x ∷ filter p xs) (filter p xs)) y → Contains (x ∷ xs) y × (p y ≡ true)
  unfilter_head x xs y true test rest h = elim (head_or_behind x (filter p xs) y h) [
    | inl e ↦ (subst (λ z. Contains (x ∷ xs) z) e (at_head x xs), ap p (sym e) ∙ test)
    | inr b ↦ (behind x xs y (rest b).0, (rest b).1)
  ]
  unfilter_head x xs y false test rest h = (behind x xs y (rest h).0, (rest h).1)

  pub from_filter : (xs : List X) (x : X) → Contains (filter p xs) x → Contains xs x × (p x ≡ true)
  from_filter [] x h = absurd (none_in x h)
  from_filter (y ∷ ys) x h = unfilter_head y ys x (p y) refl (λ h. from_filter ys x h) h

module _ {X Y : Type 0} (f : X → Y) where
  pub in_map : (xs : List X) (x : X) → Contains xs x → Contains (map f xs) (f x)
  in_map [] x h = absurd (none_in x h)
  in_map (y ∷ ys) x h = elim (head_or_behind y ys x h) [
    | inl e ↦ subst (λ z. Contains (f y ∷ map f ys) z) (ap f e) (at_head (f y) (map f ys))
    | inr b ↦ behind (f y) (map f ys) (f x) (in_map ys x b)
  ]

  pub from_map : (xs : List X) (y : Y) → Contains (map f xs) y → (x : X) × Contains xs x × (f x ≡ y)
  from_map [] y h = absurd (none_in y h)
  from_map (x ∷ xs) y h = elim (head_or_behind (f x) (map f xs) y h) [
    | inl e ↦ (x, at_head x xs, e)
    | inr b ↦ let r = from_map xs y b in (r.0, behind x xs r.0 r.1, r.2)
  ]

abbrev crossing : ℕ → ℕ → Entry
crossing row column = record { row = row; column = column }

-- the live columns of a row, and the live rows of a column
module _ (grid : Layout) (row column : ℕ) where
  pub in_row : IsLive grid row column → Contains (live_columns grid row) column
  in_row h = in_map (λ (e : Entry). e.column) (filter (λ (e : Entry). eqb e.row row) (live grid)) (crossing row column) (in_filter (λ (e : Entry). eqb e.row row) (live grid) (crossing row column) h (eq-eqb row row refl))

  pub from_row : Contains (live_columns grid row) column → IsLive grid row column
  from_row h =
      let m = from_map (λ (e : Entry). e.column) (filter (λ (e : Entry). eqb e.row row) (live grid)) column h in
      let f = from_filter (λ (e : Entry). eqb e.row row) (live grid) m.0 m.1 in
      let same : m.0 ≡ crossing row column = ap₂ crossing (eqb-true m.0.row row f.1) m.2 in
      subst (λ (e : Entry). Contains (live grid) e) same f.0

  pub in_column : IsLive grid row column → Contains (live_rows grid column) row
  in_column h = in_map (λ (e : Entry). e.row) (filter (λ (e : Entry). eqb e.column column) (live grid)) (crossing row column) (in_filter (λ (e : Entry). eqb e.column column) (live grid) (crossing row column) h (eq-eqb column column refl))

  pub from_column : Contains (live_rows grid column) row → IsLive grid row column
  from_column h =
      let m = from_map (λ (e : Entry). e.row) (filter (λ (e : Entry). eqb e.column column) (live grid)) row h in
      let f = from_filter (λ (e : Entry). eqb e.column column) (live grid) m.0 m.1 in
      let same : m.0 ≡ crossing row column = ap₂ crossing m.2 (eqb-true m.0.column column f.1) in
      subst (λ (e : Entry). Contains (live grid) e) same f.0
