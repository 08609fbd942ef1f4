-- A sum's terms are the joined ones, and its number fits.
use Rattle.std.proofs.Common.{◌≡◌, ◌≢◌, ◌∙◌, sym, ap, subst, refl, ℕ, zero, suc, ◌+◌, ◌<◌, ◌≤◌, inl, inr, ℤ, pos, ◌+ℤ◌, Bool, true, false, cond, not, ◌==◌, List, [], ◌∷◌, length, get_or, slice_index, map, filter, All, arith}
use Rattle.std.specs.List.{range_with_len}
use Rattle.std.specs.List.Sorted.{IsNonDecreasingBy, IsStrictlyIncreasing}
use Rattle.std.specs.Ordering.{int_eq}
use Rattle.std.proofs.lemmas.Int.{ints}
use Rattle.std.proofs.lemmas.Bool.{cases_lt}
use Rattle.std.proofs.lemmas.Bool.Decides.{Decides-eqb, Decides-int_eq}
use Rattle.prov_arena.specs.declared.part.Term.{Term}
use Rattle.prov_fold.specs.declared.sums.Scrap.{Scrap}
use Rattle.prov_fold.specs.Sums.{total_by}
use Rattle.prov_fold.specs.Rules.{factor_at}
use Rattle.prov_fold.specs.Scraps.{told, nonzero}
use Rattle.prov_fold.proofs.SameLemmas.{All_cons}
use Rattle.prov_fold.proofs.SumLemmas.{Rises, Strict}

zero_plus : (a : ℤ) → pos 0 +ℤ a ≡ a
zero_plus a = omega (arith, ints)

plus_zero : (a : ℤ) → a +ℤ pos 0 ≡ a
plus_zero a = omega (arith, ints)

-- ---- rising nodes

-- nodes rise, from n on
abbrev pub From : ℕ → List Term → Type 0
From n [] = Unit {0}
From n (t ∷ ts) = (n ≤ t.node) × From (suc t.node) ts

from_down : (m n : ℕ) (ts : List Term) → m ≤ n → From n ts → From m ts
from_down m n [] le h = tt
from_down m n (t ∷ ts) le h = (omega (arith, h.0), h.1)

pub from_told : (n : ℕ) (ss : List Scrap) → Strict n ss → From n (map told ss)
from_told n [] h = tt
from_told n (s ∷ ss) h = (h.0, from_told (suc s.node) ss h.1)

from_kept_step : (n : ℕ) (t : Term) (ts kept : List Term) (b : Bool) → n ≤ t.node → From (suc t.node) kept → From n (cond b (t ∷ kept) kept)
from_kept_step n t ts kept true le h = (le, h)
from_kept_step n t ts kept false le h = from_down n (suc t.node) kept (omega arith) h

pub from_kept : (p : Term → Bool) (n : ℕ) (ts : List Term) → From n ts → From n (filter p ts)
from_kept p n [] h = tt
from_kept p n (t ∷ ts) h = from_kept_step n t ts (filter p ts) (p t) h.0 (from_kept p (suc t.node) ts h.1)

increasing_at : (n : ℕ) (ts : List Term) → From n ts → (k : ℕ) → suc k < length (map (λ (t : Term). t.node) ts) → slice_index (map (λ (t : Term). t.node) ts) k < slice_index (map (λ (t : Term). t.node) ts) (suc k)
increasing_at n [] h k lt = absurd (omega arith)
increasing_at n (t ∷ []) h k lt = absurd (omega arith)
increasing_at n (t ∷ u ∷ ts) h zero lt = h.1.0
increasing_at n (t ∷ u ∷ ts) h (suc k) lt = increasing_at (suc t.node) (u ∷ ts) h.1 k (omega arith)

pub increasing : (n : ℕ) (ts : List Term) → From n ts → IsStrictlyIncreasing (map (λ (t : Term). t.node) ts)
increasing n ts h = λ k lt.
    let one : suc k ≡ k + 1 = omega arith in
    subst (λ (m : ℕ). slice_index (map (λ (t : Term). t.node) ts) k < slice_index (map (λ (t : Term). t.node) ts) m) one (increasing_at n ts h k (omega arith))

-- from the clause of a sort
rises_by : (n : ℕ) (ss : List Scrap) → ((s : Scrap) → 0 < length ss → n ≤ (get_or ss 0 s).node) → IsNonDecreasingBy (λ (s : Scrap). s.node) ss → Rises n ss
rises_by n [] first h = tt
rises_by n (s ∷ ss) first h =
    (first s (omega arith), rises_by s.node ss (λ d some. h 0 1 d (omega arith) (omega arith)) (λ i j d le lt. h (suc i) (suc j) d (omega arith) (omega arith)))

pub rises_sorted : (ss : List Scrap) → IsNonDecreasingBy (λ (s : Scrap). s.node) ss → Rises 0 ss
rises_sorted ss h = rises_by 0 ss (λ s some. omega arith) h

-- ---- terms of factor 0

drop_step : (f : Term → ℤ) → ((n : ℕ) → f (record { factor = pos 0; node = n }) ≡ pos 0) → (t : Term) (kept ts : List Term) (b : Bool) → int_eq t.factor (pos 0) ≡ b → total_by f kept ≡ total_by f ts → total_by f (cond (not b) (t ∷ kept) kept) ≡ f t +ℤ total_by f ts
drop_step f none t kept ts true e rest =
    let is : t.factor ≡ pos 0 = (Decides-int_eq t.factor (pos 0)).0 e in
    let gone : f t ≡ pos 0 = ap (λ (z : ℤ). f (record { factor = z; node = t.node })) is ∙ none t.node in
    rest ∙ sym (ap (λ (z : ℤ). z +ℤ total_by f ts) gone ∙ zero_plus (total_by f ts))
drop_step f none t kept ts false e rest = ap (λ (z : ℤ). f t +ℤ z) rest

pub drop_zeros : (f : Term → ℤ) → ((n : ℕ) → f (record { factor = pos 0; node = n }) ≡ pos 0) → (ts : List Term) → total_by f (filter nonzero ts) ≡ total_by f ts
drop_zeros f none [] = refl
drop_zeros f none (t ∷ ts) = drop_step f none t (filter nonzero ts) ts (int_eq t.factor (pos 0)) refl (drop_zeros f none ts)

kept_step : (t : Term) (kept : List Term) (b : Bool) → int_eq t.factor (pos 0) ≡ b → All (λ (t : Term). t.factor ≢ pos 0) kept → All (λ (t : Term). t.factor ≢ pos 0) (cond (not b) (t ∷ kept) kept)
kept_step t kept true e h = h
kept_step t kept false e h =
    All_cons (λ (t : Term). t.factor ≢ pos 0) t kept (λ is. let no : true ≡ false = sym ((Decides-int_eq t.factor (pos 0)).1 is) ∙ e in cc) h

pub kept_nonzero : (ts : List Term) → All (λ (t : Term). t.factor ≢ pos 0) (filter nonzero ts)
kept_nonzero [] = λ k d lt. absurd (omega arith)
kept_nonzero (t ∷ ts) = kept_step t (filter nonzero ts) (int_eq t.factor (pos 0)) refl (kept_nonzero ts)

-- ---- the factors at each node determine rising terms without the factor 0

at_other : (t : Term) (m : ℕ) (b : Bool) → (t.node == m) ≡ b → t.node ≢ m → cond b t.factor (pos 0) ≡ pos 0
at_other t m true e other = absurd (other ((Decides-eqb t.node m).0 e))
at_other t m false e other = refl

at_same : (t : Term) (m : ℕ) (b : Bool) → (t.node == m) ≡ b → t.node ≡ m → cond b t.factor (pos 0) ≡ t.factor
at_same t m true e same = refl
at_same t m false e same = let no : true ≡ false = sym ((Decides-eqb t.node m).1 same) ∙ e in cc

factor_above : (m : ℕ) (ts : List Term) → From (suc m) ts → factor_at ts m ≡ pos 0
factor_above m [] h = refl
factor_above m (t ∷ ts) h =
    let above = h.0 in
    (λ i. at_other t m (t.node == m) refl (λ same. absurd (omega (arith, above, same))) i +ℤ factor_above m ts (from_down (suc m) (suc t.node) ts (omega (arith, above)) h.1) i)

one_more : (f : ℤ) (m : ℕ) (more rest : List Term) (b : Bool) → int_eq f (pos 0) ≡ b → f ≢ pos 0 → rest ≡ more → record { factor = f; node = m } ∷ rest ≡ cond (not b) (record { factor = f; node = m } ∷ more) more
one_more f m more rest true e some is = absurd (some ((Decides-int_eq f (pos 0)).0 e))
one_more f m more rest false e some is = ap (λ ts. record { factor = f; node = m } ∷ ts) is

none_more : (f : ℤ) (m : ℕ) (more rest : List Term) (b : Bool) → int_eq f (pos 0) ≡ b → f ≡ pos 0 → rest ≡ more → rest ≡ cond (not b) (record { factor = f; node = m } ∷ more) more
none_more f m more rest true e none is = is
none_more f m more rest false e none is = let no : true ≡ false = sym ((Decides-int_eq f (pos 0)).1 none) ∙ e in cc

module _ (F : ℕ → ℤ) where
  pub unique : (n from : ℕ) (ts : List Term) → From from ts → All (λ (t : Term). t.node < from + n) ts → All (λ (t : Term). t.factor ≢ pos 0) ts → ((m : ℕ) → from ≤ m → factor_at ts m ≡ F m) → ts ≡ filter nonzero (map (λ m. record { factor = F m; node = m }) (range_with_len from n))
  unique zero from [] rises below some is = refl
  unique zero from (t ∷ ts) rises below some is = let lt = below 0 t (omega arith) in let le = rises.0 in absurd (omega (arith, lt, le))
  unique (suc n) from [] rises below some is =
      none_more (F from) from (filter nonzero (map (λ m. record { factor = F m; node = m }) (range_with_len (from + 1) n))) [] (int_eq (F from) (pos 0)) refl (sym (is from (omega arith)))
      (unique n (from + 1) [] tt (λ k d lt. absurd (omega arith)) (λ k d lt. absurd (omega arith)) (λ m le. is m (omega arith)))
  unique (suc n) from (t ∷ ts) rises below some is = elim (cases_lt from t.node) as (λ _. t ∷ ts ≡ filter nonzero (map (λ m. record { factor = F m; node = m }) (range_with_len from (suc n)))) [
    | inl later ↦
        let all : From (from + 1) (t ∷ ts) = (omega arith, rises.1) in
        let above : From (suc from) (t ∷ ts) = (omega arith, rises.1) in
        let gone : F from ≡ pos 0 = sym (is from (omega arith)) ∙ factor_above from (t ∷ ts) above in
        none_more (F from) from (filter nonzero (map (λ m. record { factor = F m; node = m }) (range_with_len (from + 1) n))) (t ∷ ts) (int_eq (F from) (pos 0)) refl gone
        (unique n (from + 1) (t ∷ ts) all (λ k d lt. let b = below k d lt in omega (arith, b)) some (λ m le. is m (omega arith)))
    | inr now ↦
        let first = rises.0 in
        let same : t.node ≡ from = omega (arith, first) in
        let rest : From (suc from) ts = from_down (suc from) (suc t.node) ts (omega (arith, first)) rises.1 in
        let here : t.factor ≡ F from = sym (ap (λ (z : ℤ). z +ℤ factor_at ts from) (at_same t from (t.node == from) refl same) ∙ ap (λ (z : ℤ). t.factor +ℤ z) (factor_above from ts rest) ∙ plus_zero t.factor) ∙ is from (omega arith) in
        let term : t ≡ record { factor = F from; node = from } = λ i. record { factor = here i; node = same i } in
        let more : ts ≡ filter nonzero (map (λ m. record { factor = F m; node = m }) (range_with_len (from + 1) n)) =
        unique n (from + 1) ts (from_down (from + 1) (suc from) ts (omega arith) rest) (λ k d lt. let b = below (suc k) d (omega arith) in omega (arith, b)) (λ k d lt. some (suc k) d (omega arith))
        (λ m le. let apart : t.node ≢ m = λ e. absurd (omega (arith, e, same)) in sym (ap (λ (z : ℤ). z +ℤ factor_at ts m) (at_other t m (t.node == m) refl apart) ∙ zero_plus (factor_at ts m)) ∙ is m (omega arith)) in
        let some_here : F from ≢ pos 0 = λ e. some 0 t (omega arith) (here ∙ e) in
        ap (λ u. u ∷ ts) term ∙ one_more (F from) from (filter nonzero (map (λ m. record { factor = F m; node = m }) (range_with_len (from + 1) n))) ts (int_eq (F from) (pos 0)) refl some_here more
  ]
