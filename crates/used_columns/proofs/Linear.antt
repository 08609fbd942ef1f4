-- What a form comes to rests on its seeds alone, and only their columns are left of its row.
use Rattle.std.proofs.Common.{◌≡◌, ◌≢◌, ◌∙◌, sym, ap, subst, refl, ℕ, zero, suc, ◌<◌, ◌≤◌, ◌==◌, ℤ, pos, ◌+ℤ◌, ◌*ℤ◌, if◌then◌else◌, Bool, true, false, cond, not, List, [], ◌∷◌, filter, length, All, arith}
use Rattle.std.specs.Ordering.{int_eq}
use Rattle.std.proofs.lemmas.Int.{ints}
use Rattle.std.proofs.lemmas.Bool.Decides.{Decides-eqb, Decides-int_eq}
use Rattle.prov_arena.specs.declared.part.Term.{Term}
use Rattle.prov_fold.specs.Graphs.{Graph, node, size}
use Rattle.prov_fold.specs.Rules.{factor_at, scaled}
use Rattle.prov_fold.specs.Sums.{total_by}
use Rattle.prov_fold.proofs.SameLemmas.{All_head, All_tail}
use Rattle.prov_fold.proofs.SpreadLemmas.{total_append, scaled_total}
use Rattle.prov_fold.proofs.Rings.{*ℤ-+ℤ, +ℤ-*ℤ}
use Rattle.bool_encode.specs.declared.form.Key.{Key}
use Rattle.bool_encode.specs.declared.form.Key.TheVariants as key
use Rattle.bool_encode.specs.declared.form.Piece.{Piece}
use Rattle.bool_encode.specs.Columns.{constant_by, constant_of}
use Rattle.bool_encode.specs.Forms.{form, form_at}
use Rattle.used_columns.specs.Seeds.{terms_of, key_terms, form_terms, IsSeed}

-- ---- sums of terms whose factors cancel

abbrev worth : (ℕ → ℤ) → Term → ℤ
worth u t = t.factor *ℤ u t.node

abbrev without : ℕ → List Term → List Term
without z ts = filter (λ (t : Term). not (t.node == z)) ts

zero_plus : (a : ℤ) → pos 0 +ℤ a ≡ a
zero_plus a = omega (arith, ints)

same_part : (a f t w all : ℤ) → all ≡ a +ℤ f → t ≡ f +ℤ w → a +ℤ t ≡ all +ℤ w
same_part a f t w all e rest = omega (arith, ints, e, rest)

other_part : (a f t w all : ℤ) → all ≡ pos 0 +ℤ f → t ≡ f +ℤ w → a +ℤ t ≡ all +ℤ (a +ℤ w)
other_part a f t w all e rest = omega (arith, ints, e, rest)

no_eqb : (a b : ℕ) (r : Bool) → (a == b) ≡ r → a ≢ b → (a == b) ≡ false
no_eqb a b true e ne = absurd (ne ((Decides-eqb a b).0 e))
no_eqb a b false e ne = e

module _ (z : ℕ) where
  zero_factor : (x : ℤ) → pos 0 *ℤ x ≡ pos 0
  zero_factor x = omega (arith, ints)

  parts_step : (u : ℕ → ℤ) (t : Term) (ts : List Term) (same : Bool) → (t.node == z) ≡ same → total_by (worth u) ts ≡ factor_at ts z *ℤ u z +ℤ total_by (worth u) (without z ts)
      → worth u t +ℤ total_by (worth u) ts ≡ ((if same then t.factor else pos 0) +ℤ factor_at ts z) *ℤ u z +ℤ total_by (worth u) (cond (not same) (t ∷ without z ts) (without z ts))
  parts_step u t ts true e rest =
      same_part (worth u t) (factor_at ts z *ℤ u z) (total_by (worth u) ts) (total_by (worth u) (without z ts)) ((t.factor +ℤ factor_at ts z) *ℤ u z)
      (+ℤ-*ℤ t.factor (factor_at ts z) (u z) ∙ ap (λ (k : ℕ). t.factor *ℤ u k +ℤ factor_at ts z *ℤ u z) (sym ((Decides-eqb t.node z).0 e))) rest
  parts_step u t ts false e rest =
      other_part (worth u t) (factor_at ts z *ℤ u z) (total_by (worth u) ts) (total_by (worth u) (without z ts)) ((pos 0 +ℤ factor_at ts z) *ℤ u z)
      (+ℤ-*ℤ (pos 0) (factor_at ts z) (u z) ∙ ap (λ (y : ℤ). y +ℤ factor_at ts z *ℤ u z) (zero_factor (u z))) rest

  -- the terms of one node, and the others
  parts : (u : ℕ → ℤ) (ts : List Term) → total_by (worth u) ts ≡ factor_at ts z *ℤ u z +ℤ total_by (worth u) (without z ts)
  parts u [] = sym (ap (λ (y : ℤ). y +ℤ pos 0) (zero_factor (u z)) ∙ zero_plus (pos 0))
  parts u (t ∷ ts) = parts_step u t ts (t.node == z) refl (parts u ts)

  gone_step : (t : Term) (ts : List Term) (same : Bool) → (t.node == z) ≡ same → factor_at (without z ts) z ≡ pos 0 → factor_at (cond (not same) (t ∷ without z ts) (without z ts)) z ≡ pos 0
  gone_step t ts true e rest = rest
  gone_step t ts false e rest = ap (λ (v : Bool). (if v then t.factor else pos 0) +ℤ factor_at (without z ts) z) e ∙ zero_plus (factor_at (without z ts) z) ∙ rest

  gone : (ts : List Term) → factor_at (without z ts) z ≡ pos 0
  gone [] = refl
  gone (t ∷ ts) = gone_step t ts (t.node == z) refl (gone ts)

  stays_step : (y : ℕ) (t : Term) (ts : List Term) (same : Bool) → y ≢ z → (t.node == z) ≡ same → factor_at (without z ts) y ≡ factor_at ts y
      → factor_at (cond (not same) (t ∷ without z ts) (without z ts)) y ≡ (if t.node == y then t.factor else pos 0) +ℤ factor_at ts y
  stays_step y t ts true ne e rest =
      let other : (t.node == y) ≡ false = no_eqb t.node y (t.node == y) refl (λ is. ne (sym is ∙ (Decides-eqb t.node z).0 e)) in
      rest ∙ sym (ap (λ (v : Bool). (if v then t.factor else pos 0) +ℤ factor_at ts y) other ∙ zero_plus (factor_at ts y))
  stays_step y t ts false ne e rest = ap (λ (n : ℤ). (if t.node == y then t.factor else pos 0) +ℤ n) rest

  stays : (y : ℕ) (ts : List Term) → y ≢ z → factor_at (without z ts) y ≡ factor_at ts y
  stays y [] ne = refl
  stays y (t ∷ ts) ne = stays_step y t ts (t.node == z) ne refl (stays y ts ne)

  fewer_step : (t : Term) (ts : List Term) (same : Bool) → length (without z ts) ≤ length ts → length (cond (not same) (t ∷ without z ts) (without z ts)) ≤ suc (length ts)
  fewer_step t ts true le = omega (arith, le)
  fewer_step t ts false le = omega (arith, le)

  fewer : (ts : List Term) → length (without z ts) ≤ length ts
  fewer [] = omega arith
  fewer (t ∷ ts) = fewer_step t ts (t.node == z) (fewer ts)

  -- a node with a factor among the others has it among all
  still : (ts : List Term) (y : ℕ) (b : Bool) → (y == z) ≡ b → factor_at (without z ts) y ≢ pos 0 → factor_at ts y ≢ pos 0
  still ts y true e ne = absurd (ne (ap (λ (k : ℕ). factor_at (without z ts) k) ((Decides-eqb y z).0 e) ∙ gone ts))
  still ts y false e ne = λ none. ne (stays y ts (λ is. let no : true ≡ false = sym ((Decides-eqb y z).1 is) ∙ e in cc) ∙ none)

first_out : (t : Term) (ts : List Term) → without t.node (t ∷ ts) ≡ without t.node ts
first_out t ts = ap (λ (v : Bool). cond (not v) (t ∷ without t.node ts) (without t.node ts)) ((Decides-eqb t.node t.node).1 refl)

module _ (u w : ℕ → ℤ) where
  abbrev Agree : List Term → Type 0
  Agree ts = (z : ℕ) → factor_at ts z ≢ pos 0 → u z ≡ w z

  one_same : (k : ℤ) (z : ℕ) (b : Bool) → int_eq k (pos 0) ≡ b → (k ≢ pos 0 → u z ≡ w z) → k *ℤ u z ≡ k *ℤ w z
  one_same k z true e same =
      let is : k ≡ pos 0 = (Decides-int_eq k (pos 0)).0 e in
      ap (λ (y : ℤ). y *ℤ u z) is ∙ zero_factor z (u z) ∙ sym (zero_factor z (w z)) ∙ ap (λ (y : ℤ). y *ℤ w z) (sym is)
  one_same k z false e same = ap (λ (y : ℤ). k *ℤ y) (same (λ is. let no : true ≡ false = sym ((Decides-int_eq k (pos 0)).1 is) ∙ e in cc))

  same_up : (n : ℕ) (ts : List Term) → length ts ≤ n → Agree ts → total_by (worth u) ts ≡ total_by (worth w) ts
  same_up n [] le same = refl
  same_up zero (t ∷ ts) le same = absurd (omega (arith, le))
  same_up (suc n) (t ∷ ts) le same =
      let z = t.node in
      let shorter = fewer t.node ts in
      let out : length (without t.node (t ∷ ts)) ≡ length (without t.node ts) = ap (λ (l : List Term). length l) (first_out t ts) in
      let rest : total_by (worth u) (without t.node (t ∷ ts)) ≡ total_by (worth w) (without t.node (t ∷ ts)) =
      same_up n (without t.node (t ∷ ts)) (omega (arith, le, shorter, out)) (λ y ne. same y (still t.node (t ∷ ts) y (y == t.node) refl ne)) in
      let one = one_same (factor_at (t ∷ ts) t.node) t.node (int_eq (factor_at (t ∷ ts) t.node) (pos 0)) refl (same t.node) in
      parts t.node u (t ∷ ts) ∙ (λ i. one i +ℤ rest i) ∙ sym (parts t.node w (t ∷ ts))

  -- sums of terms are the same where the numbers of the nodes are whose factors are left
  pub sums_same : (ts : List Term) → Agree ts → total_by (worth u) ts ≡ total_by (worth w) ts
  sums_same ts same = same_up (length ts) ts (omega arith) same

-- ---- forms

-- each node comes, over d, to its constant and its terms
abbrev pub IsLinearOver : Graph → ℕ → (Key → ℤ) → Type 0
IsLinearOver g d f = (z : ℕ) → z < size g → f (key.Node z) ≡ constant_by (node g z) *ℤ pos d +ℤ total_by (λ (t : Term). t.factor *ℤ f (key.Node t.node)) (terms_of z (node g z))

-- the piece names a node of the list
abbrev pub IsNodePiece : Graph → Piece → Type 0
IsNodePiece g p = (z : ℕ) × (z < size g) × (p.key ≡ key.Node z)

four : (a b c d : ℤ) → (a +ℤ b) +ℤ (c +ℤ d) ≡ (a +ℤ c) +ℤ (b +ℤ d)
four a b c d = omega (arith, ints)

module _ (g : Graph) (d : ℕ) (f : Key → ℤ) (linear : IsLinearOver g d f) where
  abbrev at : ℕ → ℤ
  at z = f (key.Node z)

  key_sum : (p : Piece) → IsNodePiece g p → f p.key ≡ constant_of g p.key *ℤ pos d +ℤ total_by (worth at) (key_terms g p.key)
  key_sum p is = subst (λ (k : Key). f k ≡ constant_of g k *ℤ pos d +ℤ total_by (worth at) (key_terms g k)) (sym is.2) (linear is.0 is.1)

  pieces_sum : (pieces : List Piece) → All (IsNodePiece g) pieces
      → total_by (λ (p : Piece). p.factor *ℤ f p.key) pieces ≡ total_by (λ (p : Piece). p.factor *ℤ (constant_of g p.key *ℤ pos d)) pieces +ℤ total_by (worth at) (form_terms g pieces)
  pieces_sum [] h = refl
  pieces_sum (p ∷ pieces) h =
      let here : p.factor *ℤ f p.key ≡ p.factor *ℤ (constant_of g p.key *ℤ pos d) +ℤ total_by (worth at) (scaled p.factor (key_terms g p.key)) =
      ap (λ (y : ℤ). p.factor *ℤ y) (key_sum p (All_head (IsNodePiece g) p pieces h)) ∙ *ℤ-+ℤ p.factor (constant_of g p.key *ℤ pos d) (total_by (worth at) (key_terms g p.key))
      ∙ ap (λ (y : ℤ). p.factor *ℤ (constant_of g p.key *ℤ pos d) +ℤ y) (sym (scaled_total at p.factor (key_terms g p.key))) in
      let rest = pieces_sum pieces (All_tail (IsNodePiece g) p pieces h) in
      (λ i. here i +ℤ rest i)
      ∙ four (p.factor *ℤ (constant_of g p.key *ℤ pos d)) (total_by (worth at) (scaled p.factor (key_terms g p.key))) (total_by (λ (p : Piece). p.factor *ℤ (constant_of g p.key *ℤ pos d)) pieces) (total_by (worth at) (form_terms g pieces))
      ∙ ap (λ (y : ℤ). (p.factor *ℤ (constant_of g p.key *ℤ pos d) +ℤ total_by (λ (p : Piece). p.factor *ℤ (constant_of g p.key *ℤ pos d)) pieces) +ℤ y) (sym (total_append (worth at) (scaled p.factor (key_terms g p.key)) (form_terms g pieces)))

-- what a form comes to rests on its seeds alone
pub seeds_fix : (g : Graph) (d : ℕ) (f h : Key → ℤ) → IsLinearOver g d f → IsLinearOver g d h → (c : ℤ) (pieces : List Piece) → All (IsNodePiece g) pieces
    → ((z : ℕ) → IsSeed g pieces z → f (key.Node z) ≡ h (key.Node z)) → form_at d f (form c pieces) ≡ form_at d h (form c pieces)
seeds_fix g d f h one other c pieces nodes same =
    ap (λ (y : ℤ). c *ℤ pos d +ℤ y)
    (pieces_sum g d f one pieces nodes
    ∙ ap (λ (y : ℤ). total_by (λ (p : Piece). p.factor *ℤ (constant_of g p.key *ℤ pos d)) pieces +ℤ y) (sums_same (λ z. f (key.Node z)) (λ z. h (key.Node z)) (form_terms g pieces) same)
    ∙ sym (pieces_sum g d h other pieces nodes))
