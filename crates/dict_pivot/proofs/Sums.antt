-- Sums of fractions of any size over the columns of a dictionary.
use Rattle.std.proofs.Common.{◌≡◌, ◌≢◌, ℕ, zero, suc, ◌<◌, ◌≤◌, ◌⊎◌, inl, inr, refl, sym, ◌∙◌, ap, ap₂, arith}
use Rattle.rat128.specs.Rationals.{ℚ, zero_ℚ, ◌+ℚ◌, ◌*ℚ◌}
use Rattle.rat128.proofs.Rationals.{+ℚ_comm, +ℚ_assoc, +ℚ_zero, *ℚ_zero, *ℚ-+ℚ}
use Rattle.dict_pivot.specs.Tables.{total}
use Rattle.dict_pivot.proofs.PivotLaws.{same_or_not}

pub total_zero : (k : ℕ) (f : ℕ → ℚ) → ((j : ℕ) → 0 < j → j ≤ k → f j ≡ zero_ℚ) → total k f ≡ zero_ℚ
total_zero zero f h = refl
total_zero (suc k) f h =
    ap₂ (λ a b. a +ℚ b) (total_zero k f (λ j s le. h j s (omega arith))) (h (suc k) (omega arith) (omega arith)) ∙ +ℚ_zero zero_ℚ

pub total_same : (k : ℕ) (f g : ℕ → ℚ) → ((j : ℕ) → 0 < j → j ≤ k → f j ≡ g j) → total k f ≡ total k g
total_same zero f g h = refl
total_same (suc k) f g h =
    ap₂ (λ a b. a +ℚ b) (total_same k f g (λ j s le. h j s (omega arith))) (h (suc k) (omega arith) (omega arith))

pub cross_sum : (a b c d : ℚ) → (a +ℚ b) +ℚ (c +ℚ d) ≡ (a +ℚ c) +ℚ (b +ℚ d)
cross_sum a b c d =
    +ℚ_assoc a b (c +ℚ d) ∙ ap (λ s. a +ℚ s) (sym (+ℚ_assoc b c d) ∙ ap (λ s. s +ℚ d) (+ℚ_comm b c) ∙ +ℚ_assoc c b d) ∙ sym (+ℚ_assoc a c (b +ℚ d))

pub total_plus : (k : ℕ) (f g : ℕ → ℚ) → total k (λ j. f j +ℚ g j) ≡ total k f +ℚ total k g
total_plus zero f g = sym (+ℚ_zero zero_ℚ)
total_plus (suc k) f g =
    ap (λ s. s +ℚ (f (suc k) +ℚ g (suc k))) (total_plus k f g) ∙ cross_sum (total k f) (total k g) (f (suc k)) (g (suc k))

pub total_times : (k : ℕ) (x : ℚ) (f : ℕ → ℚ) → total k (λ j. x *ℚ f j) ≡ x *ℚ total k f
total_times zero x f = sym (*ℚ_zero x)
total_times (suc k) x f =
    ap (λ s. s +ℚ x *ℚ f (suc k)) (total_times k x f) ∙ sym (*ℚ-+ℚ x (total k f) (f (suc k)))

-- where only the summand at c differs, and it was 0 there
pub total_put : (k c : ℕ) (f g : ℕ → ℚ) → 0 < c → c ≤ k → ((j : ℕ) → 0 < j → j ≤ k → j ≢ c → g j ≡ f j) → f c ≡ zero_ℚ → total k g ≡ total k f +ℚ g c
total_put zero c f g s le h z = absurd (omega arith)
total_put (suc k) c f g s le h z =
    pick (same_or_not (suc k) c) (λ ne. total_put k c f g s (omega arith) (λ j some b d. h j some (omega arith) d) z)
  where
    last : suc k ≡ c → total (suc k) g ≡ total (suc k) f +ℚ g c
    last e =
        let front : total k g ≡ total k f = total_same k g f (λ j some below. h j some (omega arith) (λ d. absurd (omega arith))) in
        let none : f (suc k) ≡ zero_ℚ = ap f e ∙ z in
        ap₂ (λ a b. a +ℚ b) front (ap g e) ∙ ap (λ s. s +ℚ g c) (sym (+ℚ_zero (total k f)) ∙ ap (λ s. total k f +ℚ s) (sym none))

    earlier : suc k ≢ c → total k g ≡ total k f +ℚ g c → total (suc k) g ≡ total (suc k) f +ℚ g c
    earlier ne ih =
        ap₂ (λ a b. a +ℚ b) ih (h (suc k) (omega arith) (omega arith) ne) ∙ +ℚ_assoc (total k f) (g c) (f (suc k)) ∙ ap (λ s. total k f +ℚ s) (+ℚ_comm (g c) (f (suc k))) ∙ sym (+ℚ_assoc (total k f) (f (suc k)) (g c))

    pick : (suc k ≡ c) ⊎ (suc k ≢ c) → (suc k ≢ c → total k g ≡ total k f +ℚ g c) → total (suc k) g ≡ total (suc k) f +ℚ g c
    pick (inl e) ih = last e
    pick (inr ne) ih = earlier ne (ih ne)
