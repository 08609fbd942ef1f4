-- The constants of a good dictionary are the least of all allowed solutions, and a violated row without a positive factor allows none.
use Rattle.std.proofs.Common.{◌≡◌, ◌≢◌, ℕ, zero, suc, ◌<◌, ◌≤◌, ◌⊎◌, inl, inr, sym, ◌∙◌, ap, subst, subst₂, arith}
use Rattle.std.proofs.lemmas.Bool.{cases_lt}
use Rattle.rat128.specs.Rationals.{ℚ, zero_ℚ, ◌+ℚ◌, ◌-ℚ◌, ◌*ℚ◌, neg_ℚ, ◌<ℚ◌, ◌≤ℚ◌}
use Rattle.rat128.proofs.Rationals.{+ℚ_comm, +ℚ_assoc, +ℚ_zero, zero-+ℚ, +ℚ_neg, *ℚ_zero, ≤ℚ-*ℚ, zero-*ℚ, ≤ℚ_cases, ≤ℚ_refl, ≤ℚ_trans, <ℚ_trans, ≤ℚ-+ℚ, ≤ℚ-+ℚ_both, clash_ℚ}
use Rattle.dict_pivot.specs.Tables.{Table, IsColumn, total, distance, said, Solves}
use Rattle.dict_pivot.proofs.PivotLaws.{same_or_not}
use Rattle.dual_simplex.specs.Path.{LexLess, LexAtMost, FirstViolated}
use Rattle.dual_simplex.specs.Goods.{LexPositive, IsGood}
use Rattle.dual_simplex.proofs.Orders.{lex_rises, lex_less_same}

-- the quantities q are allowed, the objective aside
abbrev pub IsAllowed : (ℕ → ℚ) → Table → (ℕ → ℚ) → Type 0
IsAllowed least t q = (i : ℕ) → 0 < i → i < t.height → least i ≤ℚ q i

pub total_not_negative : (k : ℕ) (f : ℕ → ℚ) → ((j : ℕ) → 0 < j → j ≤ k → zero_ℚ ≤ℚ f j) → zero_ℚ ≤ℚ total k f
total_not_negative zero f h = ≤ℚ_refl zero_ℚ
total_not_negative (suc k) f h =
    subst (λ s. s ≤ℚ (total k f +ℚ f (suc k))) (+ℚ_zero zero_ℚ) (≤ℚ-+ℚ_both zero_ℚ (total k f) zero_ℚ (f (suc k)) (total_not_negative k f (λ j s le. h j s (omega arith))) (h (suc k) (omega arith) (omega arith)))

pub total_not_positive : (k : ℕ) (f : ℕ → ℚ) → ((j : ℕ) → 0 < j → j ≤ k → f j ≤ℚ zero_ℚ) → total k f ≤ℚ zero_ℚ
total_not_positive zero f h = ≤ℚ_refl zero_ℚ
total_not_positive (suc k) f h =
    subst (λ s. (total k f +ℚ f (suc k)) ≤ℚ s) (+ℚ_zero zero_ℚ) (≤ℚ-+ℚ_both (total k f) zero_ℚ (f (suc k)) zero_ℚ (total_not_positive k f (λ j s le. h j s (omega arith))) (h (suc k) (omega arith) (omega arith)))

-- ---- the least point
trans : (i j k : ℕ) → i < j → j < k → i < k
trans i j k l m = omega arith

pub lex_trans : (h : ℕ) (x y z : ℕ → ℚ) → LexLess h x y → LexLess h y z → LexLess h x z
lex_trans h x y z p q = first (cases_lt p.at q.at)
  where
    second : q.at ≤ p.at → (p.at ≡ q.at) ⊎ (p.at ≢ q.at) → LexLess h x z
    second le (inl e) = record {
      at = p.at;
      within = p.within;
      less = <ℚ_trans (x p.at) (y p.at) (z p.at) p.less (subst (λ i. y i <ℚ z i) (sym e) q.less);
      before = λ k l. p.before k l ∙ q.before k (subst (λ i. k < i) e l);
    }
    second le (inr ne) = let l : q.at < p.at = omega arith in record {
      at = q.at;
      within = q.within;
      less = subst (λ s. s <ℚ z q.at) (sym (p.before q.at l)) q.less;
      before = λ k m. p.before k (trans k q.at p.at m l) ∙ q.before k m;
    }

    first : (p.at < q.at) ⊎ (q.at ≤ p.at) → LexLess h x z
    first (inl l) = record {
      at = p.at;
      within = p.within;
      less = subst (λ s. x p.at <ℚ s) (q.before p.at l) p.less;
      before = λ k m. p.before k m ∙ q.before k (trans k p.at q.at m l);
    }
    first (inr le) = second le (same_or_not p.at q.at)

pub lex_same_less : (h : ℕ) (x y z : ℕ → ℚ) → ((i : ℕ) → i < h → x i ≡ y i) → LexLess h y z → LexLess h x z
lex_same_less h x y z same p = record {
  at = p.at;
  within = p.within;
  less = subst (λ s. s <ℚ z p.at) (sym (same p.at p.within)) p.less;
  before = λ k l. same k (trans k p.at h l p.within) ∙ p.before k l;
}

-- sums with factors that are not negative stand at or above the first of them
lex_least : (h k : ℕ) (x : ℕ → ℚ) (cell : ℕ → ℕ → ℚ) (d : ℕ → ℚ) → ((j : ℕ) → 0 < j → j ≤ k → LexPositive h (λ i. cell i j)) → ((j : ℕ) → 0 < j → j ≤ k → zero_ℚ ≤ℚ d j) → LexAtMost h x (λ i. x i +ℚ total k (λ j. cell i j *ℚ d j))
lex_least h zero x cell d pos not_negative = inr (λ i l. sym (+ℚ_zero (x i)))
lex_least h (suc k) x cell d pos not_negative =
    pick (≤ℚ_cases zero_ℚ (d (suc k)) (not_negative (suc k) (omega arith) (omega arith))) (lex_least h k x cell d (λ j s le. pos j s (omega arith)) (λ j s le. not_negative j s (omega arith)))
  where
    same : zero_ℚ ≡ d (suc k) → (i : ℕ) → x i +ℚ total k (λ j. cell i j *ℚ d j) ≡ x i +ℚ (total k (λ j. cell i j *ℚ d j) +ℚ cell i (suc k) *ℚ d (suc k))
    same e i = ap (λ s. x i +ℚ s) (sym (ap (λ s. total k (λ j. cell i j *ℚ d j) +ℚ s) (ap (λ s. cell i (suc k) *ℚ s) (sym e) ∙ *ℚ_zero (cell i (suc k))) ∙ +ℚ_zero (total k (λ j. cell i j *ℚ d j))))

    more : zero_ℚ <ℚ d (suc k) → LexLess h (λ i. x i +ℚ total k (λ j. cell i j *ℚ d j)) (λ i. x i +ℚ (total k (λ j. cell i j *ℚ d j) +ℚ cell i (suc k) *ℚ d (suc k)))
    more above = lex_less_same h (λ i. x i +ℚ total k (λ j. cell i j *ℚ d j)) (λ i. x i +ℚ total k (λ j. cell i j *ℚ d j) +ℚ cell i (suc k) *ℚ d (suc k)) (λ i. x i +ℚ (total k (λ j. cell i j *ℚ d j) +ℚ cell i (suc k) *ℚ d (suc k))) (λ i l. sym (+ℚ_assoc (x i) (total k (λ j. cell i j *ℚ d j)) (cell i (suc k) *ℚ d (suc k)))) (lex_rises h (λ i. x i +ℚ total k (λ j. cell i j *ℚ d j)) (λ i. cell i (suc k)) (d (suc k)) (pos (suc k) (omega arith) (omega arith)) above)

    pick : (zero_ℚ <ℚ d (suc k)) ⊎ (zero_ℚ ≡ d (suc k)) → LexAtMost h x (λ i. x i +ℚ total k (λ j. cell i j *ℚ d j)) → LexAtMost h x (λ i. x i +ℚ (total k (λ j. cell i j *ℚ d j) +ℚ cell i (suc k) *ℚ d (suc k)))
    pick (inl above) (inl l) = inl (lex_trans h x (λ i. x i +ℚ total k (λ j. cell i j *ℚ d j)) (λ i. x i +ℚ (total k (λ j. cell i j *ℚ d j) +ℚ cell i (suc k) *ℚ d (suc k))) l (more above))
    pick (inl above) (inr e) = inl (lex_same_less h x (λ i. x i +ℚ total k (λ j. cell i j *ℚ d j)) (λ i. x i +ℚ (total k (λ j. cell i j *ℚ d j) +ℚ cell i (suc k) *ℚ d (suc k))) e (more above))
    pick (inr z) (inl l) = inl (lex_less_same h x (λ i. x i +ℚ total k (λ j. cell i j *ℚ d j)) (λ i. x i +ℚ (total k (λ j. cell i j *ℚ d j) +ℚ cell i (suc k) *ℚ d (suc k))) (λ i m. sym (same z i)) l)
    pick (inr z) (inr e) = inr (λ i l. e i l ∙ same z i)

-- a distance is not negative where the quantity is allowed
pub up_from : (a l : ℚ) → l ≤ℚ a → zero_ℚ ≤ℚ (a -ℚ l)
up_from a l h = subst (λ s. s ≤ℚ (a -ℚ l)) (+ℚ_neg l) (≤ℚ-+ℚ l a (neg_ℚ l) h)

-- the constants are the least of all solutions that are allowed
pub constants_least : (least : ℕ → ℚ) (t : Table) (q : ℕ → ℚ) → IsGood t → ((j : ℕ) → IsColumn t j → 0 < t.free j) → Solves least t q → IsAllowed least t q → LexAtMost t.height (λ i. t.cell i 0) q
constants_least least t q g named s a =
    moved (lex_least t.height t.width (λ i. t.cell i 0) t.cell (λ j. distance least q (t.free j)) (λ j some le. g.positive j (record { some = some; within = le })) (λ j some le. up j (record { some = some; within = le })))
  where
    up : (j : ℕ) → IsColumn t j → zero_ℚ ≤ℚ distance least q (t.free j)
    up j k = up_from (q (t.free j)) (least (t.free j)) (a (t.free j) (named j k) (g.row j k))

    moved : LexAtMost t.height (λ i. t.cell i 0) (λ i. said least t q i) → LexAtMost t.height (λ i. t.cell i 0) q
    moved (inl l) = inl (lex_less_same t.height (λ i. t.cell i 0) (λ i. said least t q i) q (λ i m. s.each i m) l)
    moved (inr e) = inr (λ i m. e i m ∙ sym (s.each i m))

-- a violated row without a positive factor: no solution is allowed
pub none_allowed : (least : ℕ → ℚ) (t : Table) (r : ℕ) (q : ℕ → ℚ) → IsGood t → ((j : ℕ) → IsColumn t j → 0 < t.free j) → FirstViolated least t r → ((j : ℕ) → IsColumn t j → t.cell r j ≤ℚ zero_ℚ) → Solves least t q → IsAllowed least t q → ⊥
none_allowed least t r q g named v none s a =
    clash_ℚ (t.cell r 0) (least r) v.below (≤ℚ_trans (least r) (q r) (t.cell r 0) (a r v.some v.within) (subst (λ z. z ≤ℚ t.cell r 0) (sym (s.each r v.within)) (at_most (t.cell r 0) (total t.width (λ j. t.cell r j *ℚ distance least q (t.free j))) below)))
  where
    at_most : (x y : ℚ) → y ≤ℚ zero_ℚ → (x +ℚ y) ≤ℚ x
    at_most x y h = subst₂ (λ a b. a ≤ℚ b) (+ℚ_comm y x) (zero-+ℚ x) (≤ℚ-+ℚ y zero_ℚ x h)

    below : total t.width (λ j. t.cell r j *ℚ distance least q (t.free j)) ≤ℚ zero_ℚ
    below = total_not_positive t.width (λ j. t.cell r j *ℚ distance least q (t.free j)) (λ j some le. each j (record { some = some; within = le }))
      where
        each : (j : ℕ) → IsColumn t j → (t.cell r j *ℚ distance least q (t.free j)) ≤ℚ zero_ℚ
        each j k = subst (λ s. (t.cell r j *ℚ distance least q (t.free j)) ≤ℚ s) (zero-*ℚ (distance least q (t.free j))) (≤ℚ-*ℚ (t.cell r j) zero_ℚ (distance least q (t.free j)) (up_from (q (t.free j)) (least (t.free j)) (a (t.free j) (named j k) (g.row j k))) (none j k))
