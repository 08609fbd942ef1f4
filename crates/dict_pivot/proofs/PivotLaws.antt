-- What a pivot at any cell that is not 0 makes of the cells, and that each free quantity's row stays itself.
use Rattle.std.proofs.Common.{◌≡◌, ◌≢◌, ℕ, zero, suc, ◌<◌, ◌≤◌, ◌⊎◌, inl, inr, refl, sym, ◌∙◌, ap, subst, arith}
use Rattle.std.proofs.lemmas.Bool.{cases_lt}
use Rattle.rat128.specs.Rationals.{ℚ, zero_ℚ, one_ℚ, ◌+ℚ◌, ◌-ℚ◌, ◌*ℚ◌, neg_ℚ, inv_ℚ}
use Rattle.rat128.proofs.Rationals.{+ℚ_assoc, +ℚ_zero, zero-+ℚ, zero-*ℚ, +ℚ_neg, *ℚ_comm, *ℚ_inverse, *ℚ-neg_ℚ, neg_ℚ-+ℚ, neg_ℚ-neg_ℚ, /ℚ-*ℚ}
use Rattle.dict_pivot.specs.Tables.{Table, IsColumn, share, IsPivot, IsUnits}

pub zero_times : (f t : ℚ) → f ≡ zero_ℚ → f *ℚ t ≡ zero_ℚ
zero_times f t e = ap (λ s. s *ℚ t) e ∙ zero-*ℚ t

pub same_or_not : (m n : ℕ) → (m ≡ n) ⊎ (m ≢ n)
same_or_not m n = first (cases_lt m n)
  where
    second : n ≤ m → (n < m) ⊎ (m ≤ n) → (m ≡ n) ⊎ (m ≢ n)
    second le (inl l) = inr (λ e. absurd (omega arith))
    second le (inr k) = inl (omega arith)

    first : (m < n) ⊎ (n ≤ m) → (m ≡ n) ⊎ (m ≢ n)
    first (inl l) = inr (λ e. absurd (omega arith))
    first (inr le) = second le (cases_lt n m)

pub neg_zero : neg_ℚ zero_ℚ ≡ zero_ℚ
neg_zero = sym (zero-+ℚ (neg_ℚ zero_ℚ)) ∙ +ℚ_neg zero_ℚ

-- a number less what a pivot takes out of it
taken : (a x : ℚ) → a ≢ zero_ℚ → a *ℚ neg_ℚ (x *ℚ inv_ℚ a) ≡ neg_ℚ x
taken a x some =
    *ℚ-neg_ℚ a (x *ℚ inv_ℚ a) ∙ ap neg_ℚ (*ℚ_comm a (x *ℚ inv_ℚ a) ∙ /ℚ-*ℚ x a some)

pub back_to : (a l : ℚ) → a +ℚ neg_ℚ (a -ℚ l) ≡ l
back_to a l =
    ap (λ s. a +ℚ s) (neg_ℚ-+ℚ a (neg_ℚ l) ∙ ap (λ s. neg_ℚ a +ℚ s) (neg_ℚ-neg_ℚ l)) ∙ sym (+ℚ_assoc a (neg_ℚ a) l) ∙ ap (λ s. s +ℚ l) (+ℚ_neg a) ∙ zero-+ℚ l

-- a pivot at any cell that is not 0
module _ (least : ℕ → ℚ) (t t' : Table) (r c : ℕ) (rl : r < t.height) (col : IsColumn t c) (some : t.cell r c ≢ zero_ℚ) (p : IsPivot least t r c t') where
  -- the formula of row r's cells is that of the other rows
  row_too : (j : ℕ) → j ≤ t.width → j ≢ c → t'.cell r j ≡ t.cell r j +ℚ t.cell r c *ℚ share least t r c j
  row_too zero le ne =
      p.constant ∙ sym (ap (λ s. t.cell r 0 +ℚ s) (taken (t.cell r c) (t.cell r 0 -ℚ least r) some) ∙ back_to (t.cell r 0) (least r))
  row_too (suc j) le ne =
      p.factors (suc j) (record { some = omega arith; within = le }) ne ∙ sym (ap (λ s. t.cell r (suc j) +ℚ s) (taken (t.cell r c) (t.cell r (suc j)) some) ∙ +ℚ_neg (t.cell r (suc j)))

  pub added : (i j : ℕ) → i < t.height → j ≤ t.width → j ≢ c → t'.cell i j ≡ t.cell i j +ℚ t.cell i c *ℚ share least t r c j
  added i j l le ne = pick (same_or_not i r)
    where
      pick : (i ≡ r) ⊎ (i ≢ r) → t'.cell i j ≡ t.cell i j +ℚ t.cell i c *ℚ share least t r c j
      pick (inl e) = subst (λ i. t'.cell i j ≡ t.cell i j +ℚ t.cell i c *ℚ share least t r c j) (sym e) (row_too j le ne)
      pick (inr d) = p.others i j l le d ne

  pub scaled : (i : ℕ) → i < t.height → t'.cell i c ≡ t.cell i c *ℚ inv_ℚ (t.cell r c)
  scaled i l = pick (same_or_not i r)
    where
      pick : (i ≡ r) ⊎ (i ≢ r) → t'.cell i c ≡ t.cell i c *ℚ inv_ℚ (t.cell r c)
      pick (inl e) = subst (λ i. t'.cell i c ≡ t.cell i c *ℚ inv_ℚ (t.cell r c)) (sym e) (p.own ∙ sym (*ℚ_inverse (t.cell r c) some))
      pick (inr d) = p.column i l d

  pub share_is : (j : ℕ) → 0 < j → share least t r c j ≡ neg_ℚ (t.cell r j *ℚ inv_ℚ (t.cell r c))
  share_is zero s = absurd (omega arith)
  share_is (suc j) s = refl

  pub old_column : (j : ℕ) → IsColumn t' j → IsColumn t j
  old_column j k = record { some = k.some; within = subst (λ w. j ≤ w) p.width k.within }

  -- a row in which column c has 0 keeps its cells
  pub kept : (i j : ℕ) → i < t.height → j ≤ t.width → j ≢ c → t.cell i c ≡ zero_ℚ → t'.cell i j ≡ t.cell i j
  kept i j l le ne z = added i j l le ne ∙ ap (λ s. t.cell i j +ℚ s) (zero_times (t.cell i c) (share least t r c j) z) ∙ +ℚ_zero (t.cell i j)

  pub stays_units : IsUnits t → IsUnits t'
  stays_units g = record {
    row = λ j k. subst (λ h. t'.free j < h) (sym p.height) (row j (old_column j k) (same_or_not j c));
    own = λ j k. own j (old_column j k) (same_or_not j c);
    apart = λ j l k m ne. apart j l (old_column j k) (old_column l m) ne (same_or_not j c) (same_or_not l c);
  }
    where
      row : (j : ℕ) → IsColumn t j → (j ≡ c) ⊎ (j ≢ c) → t'.free j < t.height
      row j k (inl e) = subst (λ j. t'.free j < t.height) (sym e) (subst (λ i. i < t.height) (sym p.free) rl)
      row j k (inr ne) = subst (λ i. i < t.height) (sym (p.frees j k ne)) (g.row j k)

      own : (j : ℕ) → IsColumn t j → (j ≡ c) ⊎ (j ≢ c) → t'.cell (t'.free j) j ≡ one_ℚ
      own j k (inl e) = subst (λ j. t'.cell (t'.free j) j ≡ one_ℚ) (sym e) (ap (λ i. t'.cell i c) p.free ∙ p.own)
      own j k (inr ne) = ap (λ i. t'.cell i j) (p.frees j k ne) ∙ kept (t.free j) j (g.row j k) k.within ne (g.apart j c k col ne) ∙ g.own j k

      apart : (j l : ℕ) → IsColumn t j → IsColumn t l → j ≢ l → (j ≡ c) ⊎ (j ≢ c) → (l ≡ c) ⊎ (l ≢ c) → t'.cell (t'.free j) l ≡ zero_ℚ
      apart j l k m ne (inl e) (inl f) = absurd (ne (e ∙ sym f))
      apart j l k m ne (inl e) (inr d) = ap (λ j. t'.cell (t'.free j) l) e ∙ ap (λ i. t'.cell i l) p.free ∙ p.factors l m d
      apart j l k m ne (inr d) (inl f) = ap (λ i. t'.cell i l) (p.frees j k d) ∙ ap (λ l. t'.cell (t.free j) l) f ∙ scaled (t.free j) (g.row j k) ∙ zero_times (t.cell (t.free j) c) (inv_ℚ (t.cell r c)) (g.apart j c k col d)
      apart j l k m ne (inr d) (inr b) = ap (λ i. t'.cell i l) (p.frees j k d) ∙ kept (t.free j) l (g.row j k) m.within b (g.apart j c k col d) ∙ g.apart j l k m ne
