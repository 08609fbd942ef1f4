-- The terms of a row: what sorting and joining keep, and that the row is that of its form.
use Rattle.std.proofs.Common.{◌≡◌, ◌≢◌, ◌∙◌, sym, ap, subst, refl, ℕ, zero, suc, ◌+◌, ◌<◌, ◌≤◌, ◌==◌, ℤ, pos, ◌+ℤ◌, ◌*ℤ◌, neg_ℤ, Bool, true, false, cond, if◌then◌else◌, not, List, [], ◌∷◌, length, get_or, slice_index, map, filter, All, arith, inl, inr}
use Rattle.std.specs.List.Sorted.{IsPermutation, IsNonDecreasingBy, IsStrictlyIncreasing}
use Rattle.std.specs.Ordering.{int_eq}
use Rattle.std.proofs.lemmas.Int.{ints}
use Rattle.std.proofs.lemmas.Bool.{cases_lt}
use Rattle.std.proofs.lemmas.Bool.Decides.{Decides-eqb, Decides-int_eq}
use Rattle.std.proofs.lemmas.List.Elements.{All-append}
use Rattle.ip_rows.specs.declared.rows.Coef.{Coef}
use Rattle.ip_rows.specs.Rows.{AreTerms}
use Rattle.ip_rows.specs.Programs.{number_at, sum_at}
use Rattle.prov_fold.specs.Graphs.{Graph}
use Rattle.prov_fold.specs.Sums.{total_by, added_by}
use Rattle.prov_fold.proofs.SameLemmas.{All_head, All_tail, All_cons}
use Rattle.prov_fold.proofs.SpreadLemmas.{total_append, total_sorted}
use Rattle.prov_fold.proofs.Rings.{*ℤ_assoc, *ℤ-+ℤ, +ℤ-*ℤ, neg-*ℤ}
use Rattle.bool_encode.specs.declared.form.Piece.{Piece}
use Rattle.bool_encode.specs.declared.scrap.Scrap.{Scrap}
use Rattle.bool_encode.specs.declared.stand.Stand.{Stand}
use Rattle.bool_encode.specs.Forms.{form, form_at}
use Rattle.bool_encode.specs.Columns.{coef, columns_of, constant_of, reading, IsOnMap}
use Rattle.bool_encode.specs.Rows.{IsRowOf, IsJoinedOn, column_factor, factor_there}
use Rattle.bool_encode.specs.Scraps.{told, scaled, spread, together, joins, joins_from, kept}
use Rattle.bool_encode.proofs.ColumnLemmas.{constant_is}
use Rattle.bool_encode.proofs.Each.{All_none, All_change, All_to_map}

zero_plus : (a : ℤ) → pos 0 +ℤ a ≡ a
zero_plus a = omega (arith, ints)

abbrev pub nonzero : Coef → Bool
nonzero t = not (int_eq t.factor (pos 0))

-- ---- joining

joins_total_step : (f : Scrap → ℤ) → ((a b : Scrap) → a.column ≡ b.column → f (together a b) ≡ f a +ℤ f b) → (a b : Scrap) (more : List Scrap) (t : Bool) → (a.column == b.column) ≡ t
    → total_by f (joins_from (together a b) more) ≡ f (together a b) +ℤ total_by f more → total_by f (joins_from b more) ≡ f b +ℤ total_by f more
    → total_by f (cond t (joins_from (together a b) more) (a ∷ joins_from b more)) ≡ f a +ℤ (f b +ℤ total_by f more)
joins_total_step f add a b more true e both one =
    let sum = add a b ((Decides-eqb a.column b.column).0 e) in omega (arith, ints, both, sum)
joins_total_step f add a b more false e both one = ap (λ (z : ℤ). f a +ℤ z) one

joins_from_total : (f : Scrap → ℤ) → ((a b : Scrap) → a.column ≡ b.column → f (together a b) ≡ f a +ℤ f b) → (a : Scrap) (more : List Scrap) → total_by f (joins_from a more) ≡ f a +ℤ total_by f more
joins_from_total f add a [] = refl
joins_from_total f add a (b ∷ more) = joins_total_step f add a b more (a.column == b.column) refl (joins_from_total f add (together a b) more) (joins_from_total f add b more)

pub joins_total : (f : Scrap → ℤ) → ((a b : Scrap) → a.column ≡ b.column → f (together a b) ≡ f a +ℤ f b) → (ss : List Scrap) → total_by f (joins ss) ≡ total_by f ss
joins_total f add [] = refl
joins_total f add (a ∷ more) = joins_from_total f add a more

joins_added_step : (g : Scrap → ℕ) → ((a b : Scrap) → a.column ≡ b.column → g (together a b) ≤ g a + g b) → (a b : Scrap) (more : List Scrap) (t : Bool) → (a.column == b.column) ≡ t
    → added_by g (joins_from (together a b) more) ≤ g (together a b) + added_by g more → added_by g (joins_from b more) ≤ g b + added_by g more
    → added_by g (cond t (joins_from (together a b) more) (a ∷ joins_from b more)) ≤ g a + (g b + added_by g more)
joins_added_step g sub a b more true e both one =
    let sum = sub a b ((Decides-eqb a.column b.column).0 e) in omega (arith, both, sum)
joins_added_step g sub a b more false e both one = omega (arith, one)

joins_from_added : (g : Scrap → ℕ) → ((a b : Scrap) → a.column ≡ b.column → g (together a b) ≤ g a + g b) → (a : Scrap) (more : List Scrap) → added_by g (joins_from a more) ≤ g a + added_by g more
joins_from_added g sub a [] = omega arith
joins_from_added g sub a (b ∷ more) = joins_added_step g sub a b more (a.column == b.column) refl (joins_from_added g sub (together a b) more) (joins_from_added g sub b more)

pub joins_added : (g : Scrap → ℕ) → ((a b : Scrap) → a.column ≡ b.column → g (together a b) ≤ g a + g b) → (ss : List Scrap) → added_by g (joins ss) ≤ added_by g ss
joins_added g sub [] = omega arith
joins_added g sub (a ∷ more) = joins_from_added g sub a more

-- columns that do not fall, and columns that rise, from n on
abbrev pub Rises : ℕ → List Scrap → Type 0
Rises n [] = Unit {0}
Rises n (s ∷ ss) = (n ≤ s.column) × Rises s.column ss

abbrev pub Strict : ℕ → List Scrap → Type 0
Strict n [] = Unit {0}
Strict n (s ∷ ss) = (n ≤ s.column) × Strict (suc s.column) ss

strict_down : (m n : ℕ) (ss : List Scrap) → m ≤ n → Strict n ss → Strict m ss
strict_down m n [] le h = tt
strict_down m n (s ∷ ss) le h = (omega (arith, h.0), h.1)

joins_strict_step : (a b : Scrap) (more : List Scrap) (t : Bool) → (a.column == b.column) ≡ t → a.column ≤ b.column
    → Strict a.column (joins_from (together a b) more) → Strict b.column (joins_from b more) → Strict a.column (cond t (joins_from (together a b) more) (a ∷ joins_from b more))
joins_strict_step a b more true e le both one = both
joins_strict_step a b more false e le both one =
    let other : a.column ≢ b.column = λ same. let no : true ≡ false = sym ((Decides-eqb a.column b.column).1 same) ∙ e in cc in
    (omega arith, strict_down (suc a.column) b.column (joins_from b more) (omega (arith, other)) one)

rises_at : (m n : ℕ) (ss : List Scrap) → m ≤ n → Rises n ss → Rises m ss
rises_at m n [] le h = tt
rises_at m n (s ∷ ss) le h = (omega (arith, h.0), h.1)

joins_from_strict : (a : Scrap) (more : List Scrap) → Rises a.column more → Strict a.column (joins_from a more)
joins_from_strict a [] h = (omega arith, tt)
joins_from_strict a (b ∷ more) h =
    joins_strict_step a b more (a.column == b.column) refl h.0 (joins_from_strict (together a b) more (rises_at a.column b.column more h.0 h.1)) (joins_from_strict b more h.1)

pub joins_strict : (ss : List Scrap) → Rises 0 ss → Strict 0 (joins ss)
joins_strict [] h = tt
joins_strict (a ∷ more) h = strict_down 0 a.column (joins_from a more) h.0 (joins_from_strict a more h.1)

-- ---- rising columns

-- columns rise, from n on
abbrev pub From : ℕ → List Coef → Type 0
From n [] = Unit {0}
From n (t ∷ ts) = (n ≤ t.column) × From (suc t.column) ts

from_down : (m n : ℕ) (ts : List Coef) → m ≤ n → From n ts → From m ts
from_down m n [] le h = tt
from_down m n (t ∷ ts) le h = (omega (arith, h.0), h.1)

pub from_told : (n : ℕ) (ss : List Scrap) → Strict n ss → From n (map told ss)
from_told n [] h = tt
from_told n (s ∷ ss) h = (h.0, from_told (suc s.column) ss h.1)

from_kept_step : (n : ℕ) (t : Coef) (ts more : List Coef) (b : Bool) → n ≤ t.column → From (suc t.column) more → From n (cond b (t ∷ more) more)
from_kept_step n t ts more true le h = (le, h)
from_kept_step n t ts more false le h = from_down n (suc t.column) more (omega arith) h

pub from_kept : (p : Coef → Bool) (n : ℕ) (ts : List Coef) → From n ts → From n (filter p ts)
from_kept p n [] h = tt
from_kept p n (t ∷ ts) h = from_kept_step n t ts (filter p ts) (p t) h.0 (from_kept p (suc t.column) ts h.1)

increasing_at : (n : ℕ) (ts : List Coef) → From n ts → (k : ℕ) → suc k < length (map (λ (t : Coef). t.column) ts) → slice_index (map (λ (t : Coef). t.column) ts) k < slice_index (map (λ (t : Coef). t.column) ts) (suc k)
increasing_at n [] h k lt = absurd (omega arith)
increasing_at n (t ∷ []) h k lt = absurd (omega arith)
increasing_at n (t ∷ u ∷ ts) h zero lt = h.1.0
increasing_at n (t ∷ u ∷ ts) h (suc k) lt = increasing_at (suc t.column) (u ∷ ts) h.1 k (omega arith)

pub increasing : (n : ℕ) (ts : List Coef) → From n ts → IsStrictlyIncreasing (map (λ (t : Coef). t.column) ts)
increasing n ts h = λ k lt.
    let one : suc k ≡ k + 1 = omega arith in
    subst (λ (m : ℕ). slice_index (map (λ (t : Coef). t.column) ts) k < slice_index (map (λ (t : Coef). t.column) ts) m) one (increasing_at n ts h k (omega arith))

-- from the clause of a sort
rises_by : (n : ℕ) (ss : List Scrap) → ((s : Scrap) → 0 < length ss → n ≤ (get_or ss 0 s).column) → IsNonDecreasingBy (λ (s : Scrap). s.column) ss → Rises n ss
rises_by n [] first h = tt
rises_by n (s ∷ ss) first h =
    (first s (omega arith), rises_by s.column ss (λ d some. h 0 1 d (omega arith) (omega arith)) (λ i j d le lt. h (suc i) (suc j) d (omega arith) (omega arith)))

pub rises_sorted : (ss : List Scrap) → IsNonDecreasingBy (λ (s : Scrap). s.column) ss → Rises 0 ss
rises_sorted ss h = rises_by 0 ss (λ s some. omega arith) h

-- ---- terms of factor 0

drop_step : (f : Coef → ℤ) → ((n : ℕ) → f (record { factor = pos 0; column = n }) ≡ pos 0) → (t : Coef) (more ts : List Coef) (b : Bool) → int_eq t.factor (pos 0) ≡ b → total_by f more ≡ total_by f ts → total_by f (cond (not b) (t ∷ more) more) ≡ f t +ℤ total_by f ts
drop_step f none t more ts true e rest =
    let is : t.factor ≡ pos 0 = (Decides-int_eq t.factor (pos 0)).0 e in
    let gone : f t ≡ pos 0 = ap (λ (z : ℤ). f (record { factor = z; column = t.column })) is ∙ none t.column in
    rest ∙ sym (ap (λ (z : ℤ). z +ℤ total_by f ts) gone ∙ zero_plus (total_by f ts))
drop_step f none t more ts false e rest = ap (λ (z : ℤ). f t +ℤ z) rest

pub drop_zeros : (f : Coef → ℤ) → ((n : ℕ) → f (record { factor = pos 0; column = n }) ≡ pos 0) → (ts : List Coef) → total_by f (filter nonzero ts) ≡ total_by f ts
drop_zeros f none [] = refl
drop_zeros f none (t ∷ ts) = drop_step f none t (filter nonzero ts) ts (int_eq t.factor (pos 0)) refl (drop_zeros f none ts)

kept_step : (t : Coef) (more : List Coef) (b : Bool) → int_eq t.factor (pos 0) ≡ b → All (λ (t : Coef). t.factor ≢ pos 0) more → All (λ (t : Coef). t.factor ≢ pos 0) (cond (not b) (t ∷ more) more)
kept_step t more true e h = h
kept_step t more false e h =
    All_cons (λ (t : Coef). t.factor ≢ pos 0) t more (λ is. let no : true ≡ false = sym ((Decides-int_eq t.factor (pos 0)).1 is) ∙ e in cc) h

pub kept_nonzero : (ts : List Coef) → All (λ (t : Coef). t.factor ≢ pos 0) (filter nonzero ts)
kept_nonzero [] = λ k d lt. absurd (omega arith)
kept_nonzero (t ∷ ts) = kept_step t (filter nonzero ts) (int_eq t.factor (pos 0)) refl (kept_nonzero ts)

-- ---- what terms come to

module _ (point : List ℤ) where
  abbrev pub worth : Coef → ℤ
  worth t = t.factor *ℤ number_at point t.column

  pub sum_worth : (terms : List Coef) → sum_at point terms ≡ total_by worth terms
  sum_worth [] = refl
  sum_worth (t ∷ terms) = ap (λ (z : ℤ). worth t +ℤ z) (sum_worth terms)

  worth_told : (ss : List Scrap) → total_by worth (map told ss) ≡ total_by (λ (s : Scrap). worth (told s)) ss
  worth_told [] = refl
  worth_told (s ∷ ss) = ap (λ (z : ℤ). worth (told s) +ℤ z) (worth_told ss)

  worth_add : (a b : Scrap) → a.column ≡ b.column → worth (told (together a b)) ≡ worth (told a) +ℤ worth (told b)
  worth_add a b same = +ℤ-*ℤ a.factor b.factor (number_at point a.column) ∙ ap (λ n. a.factor *ℤ number_at point a.column +ℤ b.factor *ℤ number_at point n) same

  no_worth : (n : ℕ) → worth (coef (pos 0) n) ≡ pos 0
  no_worth n = omega (arith, ints)

  -- nothing is lost on the way
  pub kept_worth : (scraps sorted : List Scrap) → IsPermutation scraps sorted → sum_at point (kept (joins sorted)) ≡ total_by worth (map told scraps)
  kept_worth scraps sorted perm =
      sum_worth (kept (joins sorted)) ∙ drop_zeros worth no_worth (map told (joins sorted)) ∙ worth_told (joins sorted)
      ∙ joins_total (λ (s : Scrap). worth (told s)) worth_add sorted ∙ total_sorted (λ (s : Scrap). worth (told s)) scraps sorted perm ∙ sym (worth_told scraps)

  scaled_worth : (k : ℤ) (terms : List Coef) → total_by worth (scaled k terms) ≡ k *ℤ sum_at point terms
  scaled_worth k [] = omega (arith, ints)
  scaled_worth k (t ∷ terms) = (λ i. *ℤ_assoc k t.factor (number_at point t.column) i +ℤ scaled_worth k terms i) ∙ sym (*ℤ-+ℤ k (worth t) (sum_at point terms))

  pub spread_worth : (g : Graph) (stands : List Stand) (pieces : List Piece) → total_by worth (spread g stands pieces) ≡ total_by (λ (p : Piece). p.factor *ℤ sum_at point (columns_of g stands p.key).terms) pieces
  spread_worth g stands [] = refl
  spread_worth g stands (p ∷ pieces) =
      total_append worth (scaled p.factor (columns_of g stands p.key).terms) (spread g stands pieces)
      ∙ (λ i. scaled_worth p.factor (columns_of g stands p.key).terms i +ℤ spread_worth g stands pieces i)

-- ---- the factors at one column

there_if : (c : ℕ) (t : Coef) (b : Bool) → (t.column == c) ≡ b → b ≡ true → factor_there c t ≡ t.factor
there_if c t b e is = ap (λ x. if x then t.factor else pos 0) (e ∙ is)

there_here : (c : ℕ) (t : Coef) → t.column ≡ c → factor_there c t ≡ t.factor
there_here c t is = there_if c t (t.column == c) refl ((Decides-eqb t.column c).1 is)

there_by : (c : ℕ) (t : Coef) (b : Bool) → (t.column == c) ≡ b → t.column ≢ c → factor_there c t ≡ pos 0
there_by c t true e other = absurd (other ((Decides-eqb t.column c).0 e))
there_by c t false e other = ap (λ x. if x then t.factor else pos 0) e

there_other : (c : ℕ) (t : Coef) → t.column ≢ c → factor_there c t ≡ pos 0
there_other c t other = there_by c t (t.column == c) refl other

if_sum : (b : Bool) (m n : ℤ) → (if b then m +ℤ n else pos 0) ≡ (if b then m else pos 0) +ℤ (if b then n else pos 0)
if_sum true m n = refl
if_sum false m n = refl

if_none : (b : Bool) → (if b then pos 0 else pos 0) ≡ pos 0
if_none true = refl
if_none false = refl

module _ (c : ℕ) where
  there_add : (a b : Scrap) → a.column ≡ b.column → factor_there c (told (together a b)) ≡ factor_there c (told a) +ℤ factor_there c (told b)
  there_add a b same = if_sum (a.column == c) a.factor b.factor ∙ ap (λ n. factor_there c (told a) +ℤ (if n == c then b.factor else pos 0)) same

  there_told : (ss : List Scrap) → total_by (factor_there c) (map told ss) ≡ total_by (λ (s : Scrap). factor_there c (told s)) ss
  there_told [] = refl
  there_told (s ∷ ss) = ap (λ (z : ℤ). factor_there c (told s) +ℤ z) (there_told ss)

  kept_there : (scraps sorted : List Scrap) → IsPermutation scraps sorted → column_factor (kept (joins sorted)) c ≡ column_factor (map told scraps) c
  kept_there scraps sorted perm =
      drop_zeros (factor_there c) (λ n. if_none (n == c)) (map told (joins sorted)) ∙ there_told (joins sorted)
      ∙ joins_total (λ (s : Scrap). factor_there c (told s)) there_add sorted ∙ total_sorted (λ (s : Scrap). factor_there c (told s)) scraps sorted perm ∙ sym (there_told scraps)

  -- terms elsewhere have no factor there
  none_there : (terms : List Coef) → All (λ (t : Coef). t.column ≢ c) terms → column_factor terms c ≡ pos 0
  none_there [] h = refl
  none_there (t ∷ terms) h =
      (λ i. there_other c t (All_head (λ (t : Coef). t.column ≢ c) t terms h) i +ℤ none_there terms (All_tail (λ (t : Coef). t.column ≢ c) t terms h) i)

from_other : (c : ℕ) (ts : List Coef) → From (suc c) ts → All (λ (t : Coef). t.column ≢ c) ts
from_other c [] h = All_none (λ (t : Coef). t.column ≢ c)
from_other c (t ∷ ts) h =
    let above = h.0 in
    All_cons (λ (t : Coef). t.column ≢ c) t ts (λ is. absurd (omega (arith, above, is))) (from_other c ts (from_down (suc c) (suc t.column) ts (omega (arith, above)) h.1))

first_there : (t : Coef) (ts : List Coef) → From (suc t.column) ts → column_factor (t ∷ ts) t.column ≡ t.factor
first_there t ts h =
    let here = there_here t.column t refl in
    let rest = none_there t.column ts (from_other t.column ts h) in
    omega (arith, ints, here, rest)

-- rising terms without the factor 0, which come to nothing at each column from n on, stand before n
none_above : (n m : ℕ) (ts : List Coef) → From m ts → All (λ (t : Coef). t.factor ≢ pos 0) ts → ((c : ℕ) → n ≤ c → column_factor ts c ≡ pos 0) → All (λ (t : Coef). t.column < n) ts
none_above n m [] from some none = All_none (λ (t : Coef). t.column < n)
none_above n m (t ∷ ts) from some none = elim (cases_lt t.column n) as (λ _. All (λ (t : Coef). t.column < n) (t ∷ ts)) [
  | inl less ↦ All_cons (λ (t : Coef). t.column < n) t ts less
      (none_above n (suc t.column) ts from.1 (All_tail (λ (t : Coef). t.factor ≢ pos 0) t ts some)
      (λ c le. let gone = there_other c t (λ is. absurd (omega (arith, less, le, is))) in
      sym (zero_plus (column_factor ts c)) ∙ ap (λ (z : ℤ). z +ℤ column_factor ts c) (sym gone) ∙ none c le))
  | inr le ↦ absurd (All_head (λ (t : Coef). t.factor ≢ pos 0) t ts some (sym (first_there t ts from.1) ∙ none t.column le))
]

-- each key is on the map, so all terms are
spread_below : (g : Graph) (stands : List Stand) (ps : List Piece) → All (λ (p : Piece). IsOnMap g stands p.key) ps → All (λ (t : Coef). t.column < length stands) (spread g stands ps)
unfolding IsOnMap
spread_below g stands [] h = All_none (λ (t : Coef). t.column < length stands)
spread_below g stands (p ∷ ps) h =
    All-append (λ (t : Coef). t.column < length stands) (scaled p.factor (columns_of g stands p.key).terms) (spread g stands ps)
    (All_to_map (λ (t : Coef). t.column < length stands) (λ (t : Coef). coef (p.factor *ℤ t.factor) t.column) (columns_of g stands p.key).terms (All_head (λ (p : Piece). IsOnMap g stands p.key) p ps h))
    (spread_below g stands ps (All_tail (λ (p : Piece). IsOnMap g stands p.key) p ps h))

pub on_map_joined : (g : Graph) (stands : List Stand) (pieces : List Piece) → All (λ (p : Piece). IsOnMap g stands p.key) pieces → IsJoinedOn g stands pieces
unfolding IsJoinedOn
on_map_joined g stands pieces named = λ c le. none_there c (spread g stands pieces)
    (All_change (λ (t : Coef). t.column < length stands) (λ (t : Coef). t.column ≢ c) (spread g stands pieces) (λ t less is. absurd (omega (arith, less, le, is))) (spread_below g stands pieces named))

-- ---- the constants

split_step : (fkd fs kd s f r : ℤ) → f *ℤ (kd +ℤ s) ≡ f *ℤ kd +ℤ f *ℤ s → fkd ≡ f *ℤ kd → fs ≡ f *ℤ s → f *ℤ (kd +ℤ s) +ℤ r ≡ (fkd +ℤ fs) +ℤ r
split_step fkd fs kd s f r e p q = ap (λ (z : ℤ). z +ℤ r) (e ∙ (λ i. sym p i +ℤ sym q i))

crossed : (a b c d : ℤ) → (a +ℤ b) +ℤ (c +ℤ d) ≡ (a +ℤ c) +ℤ (b +ℤ d)
crossed a b c d = omega (arith, ints)

-- factors times constants over d and terms, parted
pub parted : {A : Type 0} (d : ℤ) (f k s : A → ℤ) (xs : List A) → total_by (λ x. f x *ℤ (k x *ℤ d +ℤ s x)) xs ≡ total_by (λ x. f x *ℤ k x) xs *ℤ d +ℤ total_by (λ x. f x *ℤ s x) xs
parted d f k s [] = omega (arith, ints)
parted d f k s (x ∷ xs) =
    (λ i. (*ℤ-+ℤ (f x) (k x *ℤ d) (s x) ∙ ap (λ (z : ℤ). z +ℤ f x *ℤ s x) (sym (*ℤ_assoc (f x) (k x) d))) i +ℤ parted d f k s xs i)
    ∙ crossed ((f x *ℤ k x) *ℤ d) (f x *ℤ s x) (total_by (λ x. f x *ℤ k x) xs *ℤ d) (total_by (λ x. f x *ℤ s x) xs)
    ∙ ap (λ (z : ℤ). z +ℤ (f x *ℤ s x +ℤ total_by (λ x. f x *ℤ s x) xs)) (sym (+ℤ-*ℤ (f x *ℤ k x) (total_by (λ x. f x *ℤ k x) xs) d))

balance : (s cd kd l whole : ℤ) → whole ≡ cd +ℤ (kd +ℤ s) → l ≡ neg_ℤ (cd +ℤ kd) → s ≡ whole +ℤ l
balance s cd kd l whole p q = omega (arith, ints, p, q)

-- the constants of keys by the list alone
constants_same : (g : Graph) (stands : List Stand) (pieces : List Piece) → total_by (λ (p : Piece). p.factor *ℤ (columns_of g stands p.key).constant) pieces ≡ total_by (λ (p : Piece). p.factor *ℤ constant_of g p.key) pieces
constants_same g stands [] = refl
constants_same g stands (p ∷ pieces) = λ i. p.factor *ℤ constant_is g stands p.key i +ℤ constants_same g stands pieces i

-- ---- the row of a form

module _ (g : Graph) (stands : List Stand) (c : ℤ) (pieces : List Piece) (scraps sorted : List Scrap) (spread_is : map told scraps ≡ spread g stands pieces) (perm : IsPermutation scraps sorted)
    (rising : IsNonDecreasingBy (λ (s : Scrap). s.column) sorted) where
  abbrev constants : ℤ
  constants = total_by (λ (p : Piece). p.factor *ℤ (columns_of g stands p.key).constant) pieces

  same_at : (d : ℕ) (point : List ℤ) → sum_at point (kept (joins sorted)) ≡ form_at d (reading g stands d point) (form c pieces) +ℤ neg_ℤ (c +ℤ constants) *ℤ pos d
  unfolding reading
  same_at d point =
      let sum : sum_at point (kept (joins sorted)) ≡ total_by (λ (p : Piece). p.factor *ℤ sum_at point (columns_of g stands p.key).terms) pieces =
      kept_worth point scraps sorted perm ∙ ap (total_by (worth point)) spread_is ∙ spread_worth point g stands pieces in
      let apart = parted (pos d) (λ (p : Piece). p.factor) (λ (p : Piece). (columns_of g stands p.key).constant) (λ (p : Piece). sum_at point (columns_of g stands p.key).terms) pieces in
      let asks : neg_ℤ (c +ℤ constants) *ℤ pos d ≡ neg_ℤ (c *ℤ pos d +ℤ constants *ℤ pos d) = neg-*ℤ (c +ℤ constants) (pos d) ∙ ap neg_ℤ (+ℤ-*ℤ c constants (pos d)) in
      sum ∙ balance _ (c *ℤ pos d) (constants *ℤ pos d) (neg_ℤ (c +ℤ constants) *ℤ pos d) (form_at d (reading g stands d point) (form c pieces)) (ap (λ (z : ℤ). c *ℤ pos d +ℤ z) apart) asks

  formed_row : IsJoinedOn g stands pieces → AreTerms (length stands) (kept (joins sorted))
  unfolding IsJoinedOn
  formed_row named =
      let from = from_kept nonzero 0 (map told (joins sorted)) (from_told 0 (joins sorted) (joins_strict sorted (rises_sorted sorted rising))) in
      let none : (c : ℕ) → length stands ≤ c → column_factor (kept (joins sorted)) c ≡ pos 0 = λ c le. kept_there c scraps sorted perm ∙ ap (λ (ts : List Coef). column_factor ts c) spread_is ∙ named c le in
      record {
        rising = increasing 0 (kept (joins sorted)) from;
        there = none_above (length stands) 0 (kept (joins sorted)) from (kept_nonzero (map told (joins sorted))) none;
        factors = kept_nonzero (map told (joins sorted));
      }

  pub row_made : IsJoinedOn g stands pieces → (terms : List Coef) (least : ℤ) → terms ≡ kept (joins sorted) → least ≡ neg_ℤ (c +ℤ total_by (λ (p : Piece). p.factor *ℤ constant_of g p.key) pieces) → IsRowOf g stands (form c pieces) (record { terms = terms; least = least })
  row_made named terms least t l =
      subst (λ (ts : List Coef). IsRowOf g stands (form c pieces) (record { terms = ts; least = least })) (sym t)
      (subst (λ (n : ℤ). IsRowOf g stands (form c pieces) (record { terms = kept (joins sorted); least = n })) (sym (l ∙ ap (λ (z : ℤ). neg_ℤ (c +ℤ z)) (sym (constants_same g stands pieces)))) (record { formed = formed_row named; same = same_at }))
