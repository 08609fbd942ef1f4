-- A form has one row.
use Rattle.std.proofs.Common.{◌≡◌, ◌≢◌, ◌∙◌, sym, ap, subst, refl, ℕ, zero, suc, ◌+◌, ◌<◌, ◌≤◌, ℤ, pos, ◌+ℤ◌, ◌*ℤ◌, List, [], ◌∷◌, length, map, slice_index, All, arith, inl, inr}
use Rattle.std.specs.List.Sorted.{IsStrictlyIncreasing}
use Rattle.std.proofs.lemmas.Int.{ints}
use Rattle.std.proofs.lemmas.Bool.{cases_lt}
use Rattle.ip_rows.specs.declared.rows.Coef.{Coef}
use Rattle.ip_rows.specs.declared.rows.IpRow.{IpRow}
use Rattle.ip_rows.specs.Programs.{number_at, sum_at}
use Rattle.prov_fold.specs.Graphs.{Graph}
use Rattle.prov_fold.proofs.SameLemmas.{All_head, All_tail}
use Rattle.bool_encode.specs.declared.stand.Stand.{Stand}
use Rattle.bool_encode.specs.Forms.{Form, form_at}
use Rattle.bool_encode.specs.Columns.{reading}
use Rattle.bool_encode.specs.Rows.{IsRowOf}
use Rattle.bool_encode.proofs.JoinLemmas.{From}
use Rattle.bool_encode.proofs.Numbers.{times_one}

-- ---- points with 1 at one column

abbrev pub unit : ℕ → List ℤ
unit zero = pos 1 ∷ []
unit (suc m) = pos 0 ∷ unit m

-- the factor of a column
abbrev pub share : List Coef → ℕ → ℤ
share terms m = sum_at (unit m) terms

pub unit_self : (m : ℕ) → number_at (unit m) m ≡ pos 1
unit_self zero = refl
unit_self (suc m) = unit_self m

pub unit_other : (m c : ℕ) → c ≢ m → number_at (unit m) c ≡ pos 0
unit_other zero zero ne = absurd (ne refl)
unit_other zero (suc c) ne = refl
unit_other (suc m) zero ne = refl
unit_other (suc m) (suc c) ne = unit_other m c (λ e. ne (ap suc e))

pub skips : (k n rest : ℤ) → n ≡ pos 0 → k *ℤ n +ℤ rest ≡ rest
skips k n rest e = ap (λ (x : ℤ). k *ℤ x +ℤ rest) e ∙ zero_rest k rest
  where
    zero_rest : (k rest : ℤ) → k *ℤ pos 0 +ℤ rest ≡ rest
    zero_rest k rest = omega (arith, ints)

takes : (k n rest : ℤ) → n ≡ pos 1 → rest ≡ pos 0 → k *ℤ n +ℤ rest ≡ k
takes k n rest e z = (λ i. k *ℤ e i +ℤ z i) ∙ once k
  where
    once : (k : ℤ) → k *ℤ pos 1 +ℤ pos 0 ≡ k
    once k = omega (arith, ints)

-- terms that rise behind a column have nothing of it
pub share_none : (m : ℕ) (ts : List Coef) → From (suc m) ts → share ts m ≡ pos 0
share_none m [] h = refl
share_none m (t ∷ ts) h =
    let above = h.0 in
    skips t.factor (number_at (unit m) t.column) (share ts m) (unit_other m t.column (λ e. absurd (omega (arith, above, e)))) ∙ share_none m ts (from_above m t.column ts (omega (arith, above)) h.1)
  where
    from_above : (m c : ℕ) (ts : List Coef) → m ≤ c → From (suc c) ts → From (suc m) ts
    from_above m c [] le h = tt
    from_above m c (t ∷ ts) le h = let a = h.0 in (omega (arith, a, le), h.1)

pub share_first : (t : Coef) (ts : List Coef) → From (suc t.column) ts → share (t ∷ ts) t.column ≡ t.factor
share_first t ts h = takes t.factor (number_at (unit t.column) t.column) (share ts t.column) (unit_self t.column) (share_none t.column ts h)

cancel : (a b x y : ℤ) → a ≡ b → a +ℤ x ≡ b +ℤ y → x ≡ y
cancel a b x y e h = omega (arith, ints, e, h)

-- rising terms without the factor 0 that come to the same everywhere are the same
terms_one : (ts us : List Coef) (n m : ℕ) → From n ts → From m us → All (λ (t : Coef). t.factor ≢ pos 0) ts → All (λ (t : Coef). t.factor ≢ pos 0) us → ((c : ℕ) → share ts c ≡ share us c) → ts ≡ us
terms_one [] [] n m p q some more same = refl
terms_one [] (u ∷ us) n m p q some more same = absurd (All_head (λ (t : Coef). t.factor ≢ pos 0) u us more (sym (share_first u us q.1) ∙ sym (same u.column)))
terms_one (t ∷ ts) [] n m p q some more same = absurd (All_head (λ (t : Coef). t.factor ≢ pos 0) t ts some (sym (share_first t ts p.1) ∙ same t.column))
terms_one (t ∷ ts) (u ∷ us) n m p q some more same = elim (cases_lt t.column u.column) as (λ _. t ∷ ts ≡ u ∷ us) [
  | inl less ↦ absurd (All_head (λ (t : Coef). t.factor ≢ pos 0) t ts some (sym (share_first t ts p.1) ∙ same t.column ∙ share_none t.column (u ∷ us) (omega (arith, less), q.1)))
  | inr le ↦ elim (cases_lt u.column t.column) as (λ _. t ∷ ts ≡ u ∷ us) [
    | inl less ↦ absurd (All_head (λ (t : Coef). t.factor ≢ pos 0) u us more (sym (share_first u us q.1) ∙ sym (same u.column) ∙ share_none u.column (t ∷ ts) (omega (arith, less), p.1)))
    | inr ge ↦
        let column : t.column ≡ u.column = omega (arith, le, ge) in
        let factor : t.factor ≡ u.factor = sym (share_first t ts p.1) ∙ same t.column ∙ ap (λ c. share (u ∷ us) c) column ∙ share_first u us q.1 in
        let rest : ts ≡ us = terms_one ts us (suc t.column) (suc u.column) p.1 q.1 (All_tail (λ (t : Coef). t.factor ≢ pos 0) t ts some) (All_tail (λ (t : Coef). t.factor ≢ pos 0) u us more)
        (λ c. cancel (t.factor *ℤ number_at (unit c) t.column) (u.factor *ℤ number_at (unit c) u.column) (share ts c) (share us c) (λ i. factor i *ℤ number_at (unit c) (column i)) (same c)) in
        (λ i. record { factor = factor i; column = column i } ∷ rest i)
  ]
]

-- ---- rows

pub rises_from : (n : ℕ) (ts : List Coef) → ((t : Coef) → 0 < length ts → n ≤ slice_index (map (λ (t : Coef). t.column) ts) 0) → IsStrictlyIncreasing (map (λ (t : Coef). t.column) ts) → From n ts
rises_from n [] first h = tt
rises_from n (t ∷ ts) first h = (first t (omega arith), rises_from (suc t.column) ts (next t ts h) (tail t ts h))
  where
    tail : (t : Coef) (ts : List Coef) → IsStrictlyIncreasing (map (λ (t : Coef). t.column) (t ∷ ts)) → IsStrictlyIncreasing (map (λ (t : Coef). t.column) ts)
    tail t ts h = λ k lt.
        let e : suc k + 1 ≡ suc (k + 1) = omega arith in
        subst (λ (m : ℕ). slice_index (map (λ (t : Coef). t.column) (t ∷ ts)) (suc k) < slice_index (map (λ (t : Coef). t.column) (t ∷ ts)) m) e (h (suc k) (omega arith))

    next : (t : Coef) (ts : List Coef) → IsStrictlyIncreasing (map (λ (t : Coef). t.column) (t ∷ ts)) → (u : Coef) → 0 < length ts → suc t.column ≤ slice_index (map (λ (t : Coef). t.column) ts) 0
    next t [] h u lt = absurd (omega arith)
    next t (v ∷ ts) h u lt = let a = h 0 (omega arith) in omega (arith, a)

pub nothing_at : (ts : List Coef) → sum_at [] ts ≡ pos 0
nothing_at [] = refl
nothing_at (t ∷ ts) = skips t.factor (pos 0) (sum_at [] ts) refl ∙ nothing_at ts

asks_same : (a b f z w : ℤ) → z ≡ f +ℤ a → w ≡ f +ℤ b → z ≡ pos 0 → w ≡ pos 0 → a ≡ b
asks_same a b f z w p q r s = omega (arith, ints, p, q, r, s)

sums_same : (a b f z w : ℤ) → z ≡ f +ℤ a → w ≡ f +ℤ b → a ≡ b → z ≡ w
sums_same a b f z w p q e = omega (arith, ints, p, q, e)

pub row_one : (g : Graph) (stands : List Stand) (r : Form) (row other : IpRow) → IsRowOf g stands r row → IsRowOf g stands r other → row ≡ other
row_one g stands r row other a b =
    let least_over : row.least *ℤ pos 1 ≡ other.least *ℤ pos 1 = asks_same _ _ (form_at 1 (reading g stands 1 []) r) (sum_at [] row.terms) (sum_at [] other.terms) (a.same 1 []) (b.same 1 []) (nothing_at row.terms) (nothing_at other.terms) in
    let least : row.least ≡ other.least = sym (times_one row.least) ∙ least_over ∙ times_one other.least in
    let same : (c : ℕ) → share row.terms c ≡ share other.terms c = λ c. sums_same (row.least *ℤ pos 1) (other.least *ℤ pos 1) (form_at 1 (reading g stands 1 (unit c)) r) (share row.terms c) (share other.terms c) (a.same 1 (unit c)) (b.same 1 (unit c)) least_over in
    let terms : row.terms ≡ other.terms = terms_one row.terms other.terms 0 0 (rises_from 0 row.terms (λ t lt. omega arith) a.formed.rising) (rises_from 0 other.terms (λ t lt. omega arith) b.formed.rising) a.formed.factors b.formed.factors same in
    λ i. record { terms = terms i; least = least i }
