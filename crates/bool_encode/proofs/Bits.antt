-- Numbers that are 0 or 1, and sums of them.
use Rattle.std.proofs.Common.{◌≡◌, sym, subst, refl, ℕ, zero, suc, ℤ, pos, negsuc, ◌+ℤ◌, ◌-ℤ◌, ◌*ℤ◌, neg_ℤ, ◌≤ℤ◌, Bool, true, false, ◌&&◌, ◌||◌, List, [], ◌∷◌, map, length, All, arith, ◌⊎◌, inl, inr}
use Rattle.std.specs.List.{list_all, list_any}
use Rattle.std.specs.Ordering.{int_eq}
use Rattle.std.proofs.lemmas.Int.{ints}
use Rattle.prov_fold.specs.Sums.{total_by}
use Rattle.prov_fold.specs.Values.{as_number, holds}
use Rattle.prov_fold.proofs.SameLemmas.{All_head, All_tail, All_cons}
use Rattle.bool_encode.specs.declared.form.Piece.{Piece}
use Rattle.bool_encode.specs.Tables.{times}
use Rattle.bool_encode.proofs.Each.{All_none}
use Rattle.bool_encode.proofs.FormLemmas.{nodes}

-- 0 or 1, as a truth has it
abbrev pub IsTruthValue : ℤ → Type 0
IsTruthValue n = n ≡ as_number (int_eq n (pos 1))

pub bit_cases : (n : ℤ) → pos 0 ≤ℤ n → n ≤ℤ pos 1 → (n ≡ pos 0) ⊎ (n ≡ pos 1)
bit_cases (pos zero) lo hi = inl refl
bit_cases (pos (suc zero)) lo hi = inr refl
bit_cases (pos (suc (suc n))) lo hi = absurd (omega (arith, ints))
bit_cases (negsuc n) lo hi = absurd (omega (arith, ints))

pub is_bit : (n : ℤ) → pos 0 ≤ℤ n → n ≤ℤ pos 1 → IsTruthValue n
is_bit (pos zero) lo hi = refl
is_bit (pos (suc zero)) lo hi = refl
is_bit (pos (suc (suc n))) lo hi = absurd (omega (arith, ints))
is_bit (negsuc n) lo hi = absurd (omega (arith, ints))

-- the sum of the values of kids
abbrev pub sum_of : (ℕ → ℤ) → List ℕ → ℤ
sum_of f kids = total_by (λ k. f k) kids

pub plus_total : (f : ℕ → ℤ) (kids : List ℕ) → total_by (λ (p : Piece). p.factor *ℤ nodes f p.key) (map (times (pos 1)) kids) ≡ sum_of f kids
plus_total f [] = refl
plus_total f (x ∷ kids) = let rest = plus_total f kids in omega (arith, ints)

pub minus_total : (f : ℕ → ℤ) (kids : List ℕ) → total_by (λ (p : Piece). p.factor *ℤ nodes f p.key) (map (times (negsuc 0)) kids) ≡ neg_ℤ (sum_of f kids)
minus_total f [] = refl
minus_total f (x ∷ kids) = let rest = minus_total f kids in omega (arith, ints)

-- what a sum of truths says of all of them, and of one of them
abbrev pub AllSum : Bool → ℤ → ℕ → Type 0
AllSum true s l = s ≡ pos l
AllSum false s l = s ≤ℤ (pos l -ℤ pos 1)

abbrev pub AnySum : Bool → ℤ → Type 0
AnySum true s = pos 1 ≤ℤ s
AnySum false s = s ≡ pos 0

all_step : (b c : Bool) (n s : ℤ) (l : ℕ) → n ≡ as_number b → AllSum c s l → AllSum (b && c) (n +ℤ s) (suc l)
all_step true true n s l e h = omega (arith, ints)
all_step true false n s l e h = omega (arith, ints)
all_step false true n s l e h = omega (arith, ints)
all_step false false n s l e h = omega (arith, ints)

any_step : (b c : Bool) (n s : ℤ) → n ≡ as_number b → AnySum c s → AnySum (b || c) (n +ℤ s)
any_step true true n s e h = omega (arith, ints)
any_step true false n s e h = omega (arith, ints)
any_step false true n s e h = omega (arith, ints)
any_step false false n s e h = omega (arith, ints)

module _ (f : ℕ → ℤ) where
  pub all_sum : (kids : List ℕ) → All (λ k. IsTruthValue (f k)) kids → AllSum (list_all (holds f) kids) (sum_of f kids) (length kids)
  all_sum [] h = refl
  all_sum (x ∷ kids) h = all_step (holds f x) (list_all (holds f) kids) (f x) (sum_of f kids) (length kids) (All_head (λ k. IsTruthValue (f k)) x kids h) (all_sum kids (All_tail (λ k. IsTruthValue (f k)) x kids h))

  pub any_sum : (kids : List ℕ) → All (λ k. IsTruthValue (f k)) kids → AnySum (list_any (holds f) kids) (sum_of f kids)
  any_sum [] h = refl
  any_sum (x ∷ kids) h = any_step (holds f x) (list_any (holds f) kids) (f x) (sum_of f kids) (All_head (λ k. IsTruthValue (f k)) x kids h) (any_sum kids (All_tail (λ k. IsTruthValue (f k)) x kids h))

-- below each, and above each
below_step : (b c : Bool) (z n : ℤ) → n ≡ as_number b → z ≤ℤ n → z ≤ℤ as_number c → z ≤ℤ as_number (b && c)
below_step true c z n e h k = k
below_step false c z n e h k = omega (arith, ints)

above_step : (b c : Bool) (z n : ℤ) → n ≡ as_number b → n ≤ℤ z → as_number c ≤ℤ z → as_number (b || c) ≤ℤ z
above_step true c z n e h k = omega (arith, ints)
above_step false c z n e h k = k

and_under : (b c : Bool) → as_number (b && c) ≤ℤ as_number b
and_under true true = omega (arith, ints)
and_under true false = omega (arith, ints)
and_under false true = omega (arith, ints)
and_under false false = omega (arith, ints)

and_rest : (b c : Bool) → as_number (b && c) ≤ℤ as_number c
and_rest true true = omega (arith, ints)
and_rest true false = omega (arith, ints)
and_rest false true = omega (arith, ints)
and_rest false false = omega (arith, ints)

or_over : (b c : Bool) → as_number b ≤ℤ as_number (b || c)
or_over true true = omega (arith, ints)
or_over true false = omega (arith, ints)
or_over false true = omega (arith, ints)
or_over false false = omega (arith, ints)

or_rest : (b c : Bool) → as_number c ≤ℤ as_number (b || c)
or_rest true true = omega (arith, ints)
or_rest true false = omega (arith, ints)
or_rest false true = omega (arith, ints)
or_rest false false = omega (arith, ints)

pub le_le : (a b c : ℤ) → a ≤ℤ b → b ≤ℤ c → a ≤ℤ c
le_le a b c h k = omega (arith, ints)

module _ (f : ℕ → ℤ) where
  pub below_all : (z : ℤ) (kids : List ℕ) → z ≤ℤ pos 1 → All (λ k. IsTruthValue (f k)) kids → All (λ k. z ≤ℤ f k) kids → z ≤ℤ as_number (list_all (holds f) kids)
  below_all z [] one h k = one
  below_all z (x ∷ kids) one h k = below_step (holds f x) (list_all (holds f) kids) z (f x) (All_head (λ k. IsTruthValue (f k)) x kids h) (All_head (λ k. z ≤ℤ f k) x kids k) (below_all z kids one (All_tail (λ k. IsTruthValue (f k)) x kids h) (All_tail (λ k. z ≤ℤ f k) x kids k))

  pub above_any : (z : ℤ) (kids : List ℕ) → pos 0 ≤ℤ z → All (λ k. IsTruthValue (f k)) kids → All (λ k. f k ≤ℤ z) kids → as_number (list_any (holds f) kids) ≤ℤ z
  above_any z [] low h k = low
  above_any z (x ∷ kids) low h k = above_step (holds f x) (list_any (holds f) kids) z (f x) (All_head (λ k. IsTruthValue (f k)) x kids h) (All_head (λ k. f k ≤ℤ z) x kids k) (above_any z kids low (All_tail (λ k. IsTruthValue (f k)) x kids h) (All_tail (λ k. f k ≤ℤ z) x kids k))

  pub all_below : (z : ℤ) (kids : List ℕ) → z ≤ℤ as_number (list_all (holds f) kids) → All (λ k. IsTruthValue (f k)) kids → All (λ k. z ≤ℤ f k) kids
  all_below z [] le h = All_none (λ k. z ≤ℤ f k)
  all_below z (x ∷ kids) le h =
      let here : f x ≡ as_number (holds f x) = All_head (λ k. IsTruthValue (f k)) x kids h in
      let one = and_under (holds f x) (list_all (holds f) kids) in
      let rest = and_rest (holds f x) (list_all (holds f) kids) in
      All_cons (λ k. z ≤ℤ f k) x kids (subst (λ (v : ℤ). z ≤ℤ v) (sym here) (le_le z _ _ le one)) (all_below z kids (le_le z _ _ le rest) (All_tail (λ k. IsTruthValue (f k)) x kids h))

  pub any_above : (z : ℤ) (kids : List ℕ) → as_number (list_any (holds f) kids) ≤ℤ z → All (λ k. IsTruthValue (f k)) kids → All (λ k. f k ≤ℤ z) kids
  any_above z [] le h = All_none (λ k. f k ≤ℤ z)
  any_above z (x ∷ kids) le h =
      let here : f x ≡ as_number (holds f x) = All_head (λ k. IsTruthValue (f k)) x kids h in
      let one = or_over (holds f x) (list_any (holds f) kids) in
      let rest = or_rest (holds f x) (list_any (holds f) kids) in
      All_cons (λ k. f k ≤ℤ z) x kids (subst (λ (v : ℤ). v ≤ℤ z) (sym here) (le_le _ _ z one le)) (any_above z kids (le_le _ _ z rest le) (All_tail (λ k. IsTruthValue (f k)) x kids h))
