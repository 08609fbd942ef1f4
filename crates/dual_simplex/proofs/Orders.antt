-- Lexicographic order under the column operations of a pivot.
use Rattle.std.proofs.Common.{◌≡◌, ℕ, ◌<◌, ◌≤◌, ◌⊎◌, inl, inr, sym, ◌∙◌, ap, ap₂, subst, arith}
use Rattle.std.proofs.lemmas.Bool.{cases_lt}
use Rattle.rat128.specs.Rationals.{ℚ, zero_ℚ, one_ℚ, ◌+ℚ◌, ◌*ℚ◌, neg_ℚ, ◌<ℚ◌, ◌≤ℚ◌}
use Rattle.rat128.proofs.Rationals.{+ℚ_comm, +ℚ_zero, zero-+ℚ, *ℚ_zero, *ℚ_comm, *ℚ_assoc, *ℚ_one, +ℚ_neg, *ℚ-neg_ℚ, <ℚ-+ℚ, <ℚ-*ℚ, positive-*ℚ, ≤ℚ_cases, <ℚ-+ℚ_both, ≤ℚ_from_<ℚ}
use Rattle.dict_pivot.proofs.PivotLaws.{zero_times}
use Rattle.dual_simplex.specs.Path.{LexLess}
use Rattle.dual_simplex.specs.Goods.{LexPositive}

-- ---- numbers
pub more : (x d : ℚ) → zero_ℚ <ℚ d → x <ℚ (x +ℚ d)
more x d h =
    subst (λ s. s <ℚ (x +ℚ d)) (zero-+ℚ x) (subst (λ s. (zero_ℚ +ℚ x) <ℚ s) (+ℚ_comm d x) (<ℚ-+ℚ zero_ℚ d x h))

pub less_from : (a b : ℚ) → a <ℚ b → zero_ℚ <ℚ (b +ℚ neg_ℚ a)
less_from a b h = subst (λ s. s <ℚ (b +ℚ neg_ℚ a)) (+ℚ_neg a) (<ℚ-+ℚ a b (neg_ℚ a) h)

pub same_from : (a b : ℚ) → a ≡ b → b +ℚ neg_ℚ a ≡ zero_ℚ
same_from a b e = ap (λ s. b +ℚ neg_ℚ s) e ∙ +ℚ_neg b

pub sum_positive : (a b : ℚ) → zero_ℚ <ℚ a → b ≡ zero_ℚ → zero_ℚ <ℚ (a +ℚ b)
sum_positive a b h e = subst (λ s. zero_ℚ <ℚ s) (sym (ap (λ s. a +ℚ s) e ∙ +ℚ_zero a)) h

-- ---- lists
pub lex_rises : (h : ℕ) (x f : ℕ → ℚ) (t : ℚ) → LexPositive h f → zero_ℚ <ℚ t → LexLess h x (λ i. x i +ℚ f i *ℚ t)
lex_rises h x f t p some = record {
  at = p.at;
  within = p.within;
  less = more (x p.at) (f p.at *ℚ t) (positive-*ℚ (f p.at) t p.above some);
  before = λ k l. sym (ap (λ s. x k +ℚ s) (zero_times (f k) t (p.before k l)) ∙ +ℚ_zero (x k));
}

pub lex_scaled : (h : ℕ) (f : ℕ → ℚ) (t : ℚ) → LexPositive h f → zero_ℚ <ℚ t → LexPositive h (λ i. f i *ℚ t)
lex_scaled h f t p some = record {
  at = p.at;
  within = p.within;
  above = positive-*ℚ (f p.at) t p.above some;
  before = λ k l. zero_times (f k) t (p.before k l);
}

-- the lesser of two columns, each divided by its factor, is taken out of the other
pub lex_crossed : (h : ℕ) (x y : ℕ → ℚ) (p u v : ℚ) → zero_ℚ <ℚ p → v *ℚ p ≡ one_ℚ → LexLess h (λ i. y i *ℚ u) (λ i. x i *ℚ v) → LexPositive h (λ i. x i +ℚ y i *ℚ neg_ℚ (p *ℚ u))
lex_crossed h x y p u v some one l = record {
  at = l.at;
  within = l.within;
  above = subst (λ s. zero_ℚ <ℚ (x l.at +ℚ s)) (sym (*ℚ-neg_ℚ (y l.at) (p *ℚ u))) (less_from (y l.at *ℚ (p *ℚ u)) (x l.at) (subst (λ s. (y l.at *ℚ (p *ℚ u)) <ℚ s) (right (x l.at)) (subst (λ s. s <ℚ (x l.at *ℚ v *ℚ p)) (left (y l.at)) (<ℚ-*ℚ (y l.at *ℚ u) (x l.at *ℚ v) p some l.less))));
  before = λ k m. ap (λ s. x k +ℚ s) (*ℚ-neg_ℚ (y k) (p *ℚ u)) ∙ same_from (y k *ℚ (p *ℚ u)) (x k) (sym (left (y k)) ∙ ap (λ s. s *ℚ p) (l.before k m) ∙ right (x k));
}
  where
    left : (a : ℚ) → (a *ℚ u) *ℚ p ≡ a *ℚ (p *ℚ u)
    left a = *ℚ_assoc a u p ∙ ap (λ s. a *ℚ s) (*ℚ_comm u p)

    right : (a : ℚ) → (a *ℚ v) *ℚ p ≡ a
    right a = *ℚ_assoc a v p ∙ ap (λ s. a *ℚ s) one ∙ *ℚ_one a

positive_sum : (h : ℕ) (f g : ℕ → ℚ) → LexPositive h f → LexPositive h g → LexPositive h (λ i. f i +ℚ g i)
positive_sum h f g p q = first (cases_lt p.at q.at)
  where
    both : (i : ℕ) → i < p.at → i < q.at → f i +ℚ g i ≡ zero_ℚ
    both i l m = ap₂ (λ a b. a +ℚ b) (p.before i l) (q.before i m) ∙ +ℚ_zero zero_ℚ

    trans : (i j k : ℕ) → i < j → j < k → i < k
    trans i j k l m = omega arith

    trans' : (i j k : ℕ) → i < j → j ≤ k → i < k
    trans' i j k l m = omega arith

    right : (p.at ≡ q.at) ⊎ (q.at < p.at) → LexPositive h (λ i. f i +ℚ g i)
    right (inl e) = record {
      at = p.at;
      within = p.within;
      above = subst (λ s. s <ℚ (f p.at +ℚ g p.at)) (+ℚ_zero zero_ℚ) (<ℚ-+ℚ_both zero_ℚ (f p.at) zero_ℚ (g p.at) p.above (≤ℚ_from_<ℚ zero_ℚ (g p.at) (subst (λ i. zero_ℚ <ℚ g i) (sym e) q.above)));
      before = λ k l. both k l (subst (λ i. k < i) e l);
    }
    right (inr m) = record {
      at = q.at;
      within = q.within;
      above = subst (λ s. zero_ℚ <ℚ s) (sym (ap (λ s. s +ℚ g q.at) (p.before q.at m) ∙ zero-+ℚ (g q.at))) q.above;
      before = λ k l. both k (trans k q.at p.at l m) l;
    }

    split : (m n : ℕ) → n ≤ m → (m ≡ n) ⊎ (n < m)
    split m n le = pick (cases_lt n m)
      where
        pick : (n < m) ⊎ (m ≤ n) → (m ≡ n) ⊎ (n < m)
        pick (inl l) = inr l
        pick (inr k) = inl (omega arith)

    first : (p.at < q.at) ⊎ (q.at ≤ p.at) → LexPositive h (λ i. f i +ℚ g i)
    first (inl l) = record {
      at = p.at;
      within = p.within;
      above = sum_positive (f p.at) (g p.at) p.above (q.before p.at l);
      before = λ k m. both k m (trans k p.at q.at m l);
    }
    first (inr le) = right (split p.at q.at le)

pub lex_plus : (h : ℕ) (f g : ℕ → ℚ) (t : ℚ) → LexPositive h f → LexPositive h g → zero_ℚ ≤ℚ t → LexPositive h (λ i. f i +ℚ g i *ℚ t)
lex_plus h f g t p q le = pick (≤ℚ_cases zero_ℚ t le)
  where
    pick : (zero_ℚ <ℚ t) ⊎ (zero_ℚ ≡ t) → LexPositive h (λ i. f i +ℚ g i *ℚ t)
    pick (inl some) = positive_sum h f (λ i. g i *ℚ t) p (lex_scaled h g t q some)
    pick (inr e) = record {
      at = p.at;
      within = p.within;
      above = sum_positive (f p.at) (g p.at *ℚ t) p.above (none p.at);
      before = λ k l. ap₂ (λ a b. a +ℚ b) (p.before k l) (none k) ∙ +ℚ_zero zero_ℚ;
    }
      where
        none : (i : ℕ) → g i *ℚ t ≡ zero_ℚ
        none i = ap (λ s. g i *ℚ s) (sym e) ∙ *ℚ_zero (g i)

-- what is the same below h is less and above 0 where the other is
pub lex_positive_same : (h : ℕ) (f g : ℕ → ℚ) → ((i : ℕ) → i < h → g i ≡ f i) → LexPositive h f → LexPositive h g
lex_positive_same h f g same p = record {
  at = p.at;
  within = p.within;
  above = subst (λ s. zero_ℚ <ℚ s) (sym (same p.at p.within)) p.above;
  before = λ k l. same k (trans k p.at h l p.within) ∙ p.before k l;
}
  where
    trans : (i j k : ℕ) → i < j → j < k → i < k
    trans i j k l m = omega arith

pub lex_less_same : (h : ℕ) (x f g : ℕ → ℚ) → ((i : ℕ) → i < h → g i ≡ f i) → LexLess h x f → LexLess h x g
lex_less_same h x f g same p = record {
  at = p.at;
  within = p.within;
  less = subst (λ s. x p.at <ℚ s) (sym (same p.at p.within)) p.less;
  before = λ k l. p.before k l ∙ sym (same k (trans k p.at h l p.within));
}
  where
    trans : (i j k : ℕ) → i < j → j < k → i < k
    trans i j k l m = omega arith
