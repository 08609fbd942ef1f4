-- The total of a sum's terms: spread over the parts, and like terms joined.
use Rattle.std.proofs.Common.{◌≡◌, ◌≢◌, ◌∙◌, sym, ap, subst, ℕ, zero, suc, ◌+◌, ◌<◌, ◌≤◌, ◌==◌, ℤ, pos, ◌+ℤ◌, ◌*ℤ◌, Bool, true, false, cond, List, [], ◌∷◌, map, All, refl, arith}
use Rattle.std.specs.List.{range_with_len}
use Rattle.std.proofs.lemmas.Int.{ints}
use Rattle.std.proofs.lemmas.Bool.Decides.{Decides-eqb}
use Rattle.std.proofs.lemmas.List.Elements.{All-nil, All-append, All-map}
use Rattle.prov_arena.specs.declared.part.Term.{Term}
use Rattle.prov_arena.specs.Formulas.{Formula, FalseNode, TrueNode, LinNode, kids_of}
use Rattle.prov_fold.specs.declared.span.Scaled.{Scaled}
use Rattle.prov_fold.specs.Sums.{total_by}
use Rattle.prov_fold.specs.Graphs.{Graph, node, size}
use Rattle.prov_fold.specs.Folds.{IsFold}
use Rattle.prov_fold.specs.Values.{value_of}
use Rattle.prov_fold.specs.Rules.{terms_in, constant_in, scaled, spread, constant_of, factor_at, joined}
use Rattle.prov_fold.proofs.SameLemmas.{All_head, All_tail, All_cons}
use Rattle.prov_fold.proofs.Rings.{*ℤ-+ℤ, +ℤ-*ℤ}
use Rattle.prov_fold.proofs.SpreadLemmas.{total_append, scaled_total}
use Rattle.prov_fold.proofs.FinishLemmas.{drop_zeros}

zero_plus : (a : ℤ) → pos 0 +ℤ a ≡ a
zero_plus a = omega (arith, ints)

plus_zero : (a : ℤ) → a +ℤ pos 0 ≡ a
plus_zero a = omega (arith, ints)

plus_assoc : (a b c : ℤ) → a +ℤ (b +ℤ c) ≡ (a +ℤ b) +ℤ c
plus_assoc a b c = omega (arith, ints)

four : (a b c d : ℤ) → (a +ℤ b) +ℤ (c +ℤ d) ≡ (a +ℤ c) +ℤ (b +ℤ d)
four a b c d = omega (arith, ints)

zero_times : (x : ℤ) → pos 0 *ℤ x ≡ pos 0
zero_times x = omega (arith, ints)

once_is : (x : ℤ) → x ≡ pos 0 +ℤ (pos 1 *ℤ x +ℤ pos 0)
once_is x = omega (arith, ints)

total_map : {A B : Type 0} (f : B → ℤ) (k : A → B) (xs : List A) → total_by f (map k xs) ≡ total_by (λ x. f (k x)) xs
total_map f k [] = refl
total_map f k (x ∷ xs) = ap (λ (z : ℤ). f (k x) +ℤ z) (total_map f k xs)

total_none : {A : Type 0} (f : A → ℤ) (xs : List A) → ((x : A) → f x ≡ pos 0) → total_by f xs ≡ pos 0
total_none f [] h = refl
total_none f (x ∷ xs) h = (λ i. h x i +ℤ total_none f xs h i)

total_add : {A : Type 0} (f a b : A → ℤ) (xs : List A) → ((x : A) → f x ≡ a x +ℤ b x) → total_by f xs ≡ total_by a xs +ℤ total_by b xs
total_add f a b [] h = refl
total_add f a b (x ∷ xs) h = (λ i. h x i +ℤ total_add f a b xs h i) ∙ four (a x) (b x) (total_by a xs) (total_by b xs)

module _ (v : ℕ → ℤ) where
  -- what a term is worth
  abbrev pub worth : Term → ℤ
  worth t = t.factor *ℤ v t.node

  -- ---- like terms joined

  -- what a term of factor k at x adds to the node m
  abbrev hit : ℕ → ℤ → ℕ → ℤ
  hit x k m = cond (x == m) k (pos 0) *ℤ v m

  hit_other : (x : ℕ) (k : ℤ) (m : ℕ) → x ≢ m → hit x k m ≡ pos 0
  hit_other x k m other = by_test (x == m) refl
    where
      by_test : (b : Bool) → (x == m) ≡ b → cond b k (pos 0) *ℤ v m ≡ pos 0
      by_test true e = absurd (other ((Decides-eqb x m).0 e))
      by_test false e = zero_times (v m)

  hit_same : (x : ℕ) (k : ℤ) (m : ℕ) → x ≡ m → hit x k m ≡ k *ℤ v x
  hit_same x k m is = by_test (x == m) refl
    where
      by_test : (b : Bool) → (x == m) ≡ b → cond b k (pos 0) *ℤ v m ≡ k *ℤ v x
      by_test true e = ap (λ m. k *ℤ v m) (sym is)
      by_test false e = let no : true ≡ false = sym ((Decides-eqb x m).1 is) ∙ e in cc

  misses : (x : ℕ) (k : ℤ) (from n : ℕ) → x < from → total_by (hit x k) (range_with_len from n) ≡ pos 0
  misses x k from zero lt = refl
  misses x k from (suc n) lt = (λ i. hit_other x k from (λ is. absurd (omega (arith, is, lt))) i +ℤ misses x k (from + 1) n (omega (arith, lt)) i)

  -- a node of the range is met once
  hits : (x : ℕ) (k : ℤ) (from n : ℕ) → from ≤ x → x < from + n → total_by (hit x k) (range_with_len from n) ≡ k *ℤ v x
  hits x k from zero le lt = absurd (omega (arith, le, lt))
  hits x k from (suc n) le lt = by_test (x == from) refl (λ more. hits x k (from + 1) n more (omega (arith, lt)))
    where
      by_test : (b : Bool) → (x == from) ≡ b → (from + 1 ≤ x → total_by (hit x k) (range_with_len (from + 1) n) ≡ k *ℤ v x) → hit x k from +ℤ total_by (hit x k) (range_with_len (from + 1) n) ≡ k *ℤ v x
      by_test true e later =
          let is : x ≡ from = (Decides-eqb x from).0 e in
          (λ i. hit_same x k from is i +ℤ misses x k (from + 1) n (omega (arith, is)) i) ∙ plus_zero (k *ℤ v x)
      by_test false e later =
          let other : x ≢ from = λ is. let no : true ≡ false = sym ((Decides-eqb x from).1 is) ∙ e in cc in
          (λ i. hit_other x k from other i +ℤ later (omega (arith, other, le)) i) ∙ zero_plus (k *ℤ v x)

  nodes_total : (n : ℕ) (terms : List Term) → All (λ (t : Term). t.node < n) terms → total_by (λ m. factor_at terms m *ℤ v m) (range_with_len 0 n) ≡ total_by worth terms
  nodes_total n [] h = total_none (λ m. pos 0 *ℤ v m) (range_with_len 0 n) (λ m. zero_times (v m))
  nodes_total n (t ∷ ts) h =
      let lt = All_head (λ (t : Term). t.node < n) t ts h in
      total_add (λ m. factor_at (t ∷ ts) m *ℤ v m) (hit t.node t.factor) (λ m. factor_at ts m *ℤ v m) (range_with_len 0 n) (λ m. +ℤ-*ℤ (cond (t.node == m) t.factor (pos 0)) (factor_at ts m) (v m))
      ∙ (λ i. hits t.node t.factor 0 n (omega arith) (omega (arith, lt)) i +ℤ nodes_total n ts (All_tail (λ (t : Term). t.node < n) t ts h) i)

  joined_total : (n : ℕ) (terms : List Term) → All (λ (t : Term). t.node < n) terms → total_by worth (joined n terms) ≡ total_by worth terms
  unfolding joined
  joined_total n terms h =
      let at : ℕ → Term = λ node. record { factor = factor_at terms node; node = node } in
      drop_zeros worth (λ node. zero_times (v node)) (map at (range_with_len 0 n)) ∙ total_map worth at (range_with_len 0 n) ∙ nodes_total n terms h

  -- ---- the parts spread

  -- the value of a part, by what it gives to the sum
  abbrev pub Gives : Graph → Scaled → Type 0
  Gives g p = v p.number ≡ constant_in (node g p.number) +ℤ total_by worth (terms_in p.number (node g p.number))

  parts_total : (g : Graph) (parts : List Scaled) → All (Gives g) parts
      → total_by (λ (p : Scaled). p.factor *ℤ constant_in (node g p.number)) parts +ℤ total_by worth (spread g parts) ≡ total_by (λ (p : Scaled). p.factor *ℤ v p.number) parts
  parts_total g [] h = refl
  parts_total g (p ∷ ps) h =
      let m = node g p.number in
      let constants = total_by (λ (p : Scaled). p.factor *ℤ constant_in (node g p.number)) ps in
      ap (λ (z : ℤ). (p.factor *ℤ constant_in m +ℤ constants) +ℤ z)
      (total_append worth (scaled p.factor (terms_in p.number m)) (spread g ps) ∙ ap (λ (z : ℤ). z +ℤ total_by worth (spread g ps)) (scaled_total v p.factor (terms_in p.number m)))
      ∙ four (p.factor *ℤ constant_in m) constants (p.factor *ℤ total_by worth (terms_in p.number m)) (total_by worth (spread g ps))
      ∙ (λ i. (sym (*ℤ-+ℤ p.factor (constant_in m) (total_by worth (terms_in p.number m))) ∙ ap (λ (z : ℤ). p.factor *ℤ z) (sym (All_head (Gives g) p ps h))) i +ℤ parts_total g ps (All_tail (Gives g) p ps h) i)

  pub spread_total : (g : Graph) (c : ℤ) (parts : List Scaled) → All (Gives g) parts → All (λ (t : Term). t.node < size g) (spread g parts)
      → constant_of g c parts +ℤ total_by worth (joined (size g) (spread g parts)) ≡ c +ℤ total_by (λ (p : Scaled). p.factor *ℤ v p.number) parts
  spread_total g c parts h below =
      ap (λ (z : ℤ). constant_of g c parts +ℤ z) (joined_total (size g) (spread g parts) below)
      ∙ sym (plus_assoc c (total_by (λ (p : Scaled). p.factor *ℤ constant_in (node g p.number)) parts) (total_by worth (spread g parts))) ∙ ap (λ (z : ℤ). c +ℤ z) (parts_total g parts h)

  pub part_value : (world : List ℤ) (id : ℕ) (m : Formula) → v id ≡ value_of world v m → v id ≡ constant_in m +ℤ total_by worth (terms_in id m)
  part_value world id FalseNode e = e
  part_value world id TrueNode e = e
  part_value world id (LinNode c terms) e = e
  part_value world id _ e = once_is (v id)

-- ---- the nodes of the terms are those of the list

module _ (g : Graph) (fold : IsFold g) where
  abbrev Below : Term → Type 0
  Below t = t.node < size g

  nodes_below : (terms : List Term) → All (λ k. k < size g) (map (λ (t : Term). t.node) terms) → All Below terms
  nodes_below [] h = All-nil Below
  nodes_below (t ∷ ts) h = All_cons Below t ts (h 0 0 (omega arith)) (nodes_below ts (λ k d lt. h (suc k) d (omega arith)))

  terms_below : (id : ℕ) → id < size g → (m : Formula) → node g id ≡ m → All Below (terms_in id m)
  terms_below id lt FalseNode e = All-nil Below
  terms_below id lt TrueNode e = All-nil Below
  terms_below id lt (LinNode c terms) e = nodes_below terms (subst (λ m. All (λ k. k < size g) (kids_of m)) e (fold.fits id lt).kids)
  terms_below id lt _ e = All_cons Below (record { factor = pos 1; node = id }) [] lt (All-nil Below)

  pub spread_below : (parts : List Scaled) → All (λ (p : Scaled). p.number < size g) parts → All Below (spread g parts)
  spread_below [] h = All-nil Below
  spread_below (p ∷ ps) h =
      let these = terms_below p.number (All_head (λ (p : Scaled). p.number < size g) p ps h) (node g p.number) refl in
      All-append Below (scaled p.factor (terms_in p.number (node g p.number))) (spread g ps)
      (All-map Below (λ (t : Term). record { factor = p.factor *ℤ t.factor; node = t.node }) (terms_in p.number (node g p.number)) these) (spread_below ps (All_tail (λ (p : Scaled). p.number < size g) p ps h))
