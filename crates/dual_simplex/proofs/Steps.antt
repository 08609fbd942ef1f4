-- A step of the rule keeps the columns above 0, and its constants rise.
use Rattle.std.proofs.Common.{◌≡◌, ◌≢◌, ℕ, zero, suc, ℤ, Option, ◌<◌, ◌⊎◌, inl, inr, sym, ◌∙◌, ap, subst, arith}
use Rattle.rat128.specs.Rationals.{ℚ, zero_ℚ, ◌+ℚ◌, ◌-ℚ◌, ◌*ℚ◌, neg_ℚ, inv_ℚ, ◌<ℚ◌, ◌≤ℚ◌}
use Rattle.rat128.proofs.Rationals.{+ℚ_comm, *ℚ_comm, one-*ℚ, *ℚ_inverse, neg_ℚ-*ℚ, neg_ℚ-+ℚ, neg_ℚ-neg_ℚ, not_zero, positive-inv_ℚ, positive-*ℚ, not_negative-*ℚ, ≤ℚ-neg_ℚ, ≤ℚ_from_<ℚ, ≤ℚ_total}
use Rattle.ip_rows.specs.declared.lp.Lp.{Lp}
use Rattle.dict_pivot.specs.Tables.{Table, IsColumn, share, IsPivot, IsUnits}
use Rattle.dict_pivot.specs.Quantities.{IsStart}
use Rattle.dict_pivot.proofs.PivotLaws.{same_or_not, neg_zero, zero_times, added, scaled, share_is, old_column, stays_units}
use Rattle.dual_simplex.specs.Path.{LexLess, FirstViolated, divided, Enters, Next, OnPath}
use Rattle.dual_simplex.specs.Goods.{LexPositive, IsGood}
use Rattle.dual_simplex.proofs.Orders.{less_from, lex_rises, lex_scaled, lex_crossed, lex_plus, lex_positive_same, lex_less_same}

units_of : (t : Table) → IsGood t → IsUnits t
units_of t g = record { row = g.row; own = g.own; apart = g.apart }

-- a pivot of the rule
module _ (least : ℕ → ℚ) (t t' : Table) (r c : ℕ) (v : FirstViolated least t r) (n : Enters t r c) (p : IsPivot least t r c t') where
  pub some : t.cell r c ≢ zero_ℚ
  some = not_zero (t.cell r c) n.positive

  u : ℚ
  u = inv_ℚ (t.cell r c)

  u_positive : zero_ℚ <ℚ u
  unfolding u
  u_positive = positive-inv_ℚ (t.cell r c) n.positive

  -- the constants' share is above 0, since row r is violated
  share_positive : zero_ℚ <ℚ share least t r c 0
  share_positive =
      let up : zero_ℚ <ℚ (least r +ℚ neg_ℚ (t.cell r 0)) = less_from (t.cell r 0) (least r) v.below in
      let e : least r +ℚ neg_ℚ (t.cell r 0) ≡ neg_ℚ (t.cell r 0 -ℚ least r) = sym (neg_ℚ-+ℚ (t.cell r 0) (neg_ℚ (least r)) ∙ ap (λ s. neg_ℚ (t.cell r 0) +ℚ s) (neg_ℚ-neg_ℚ (least r)) ∙ +ℚ_comm (neg_ℚ (t.cell r 0)) (least r)) in
      subst (λ s. zero_ℚ <ℚ s) (neg_ℚ-*ℚ (t.cell r 0 -ℚ least r) (inv_ℚ (t.cell r c))) (positive-*ℚ (neg_ℚ (t.cell r 0 -ℚ least r)) (inv_ℚ (t.cell r c)) (subst (λ s. zero_ℚ <ℚ s) e up) (positive-inv_ℚ (t.cell r c) n.positive))

  -- the constants rise
  pub rises : IsGood t → LexLess t.height (λ i. t.cell i 0) (λ i. t'.cell i 0)
  rises g =
      lex_less_same t.height (λ i. t.cell i 0) (λ i. t.cell i 0 +ℚ t.cell i c *ℚ share least t r c 0) (λ i. t'.cell i 0) (λ i l. added least t t' r c v.within n.column some p i 0 l (omega arith) (not_c n.column.some)) (lex_rises t.height (λ i. t.cell i 0) (λ i. t.cell i c) (share least t r c 0) (g.positive c n.column) share_positive)
    where
      not_c : 0 < c → 0 ≢ c
      not_c s e = absurd (omega arith)

  share_not_negative : (j : ℕ) → 0 < j → t.cell r j ≤ℚ zero_ℚ → zero_ℚ ≤ℚ share least t r c j
  share_not_negative j s le =
      let up : zero_ℚ ≤ℚ neg_ℚ (t.cell r j) = subst (λ s. s ≤ℚ neg_ℚ (t.cell r j)) neg_zero (≤ℚ-neg_ℚ (t.cell r j) zero_ℚ le) in
      subst (λ s. zero_ℚ ≤ℚ s) (neg_ℚ-*ℚ (t.cell r j) (inv_ℚ (t.cell r c)) ∙ sym (share_is least t t' r c v.within n.column some p j s)) (not_negative-*ℚ (neg_ℚ (t.cell r j)) (inv_ℚ (t.cell r c)) up (≤ℚ_from_<ℚ zero_ℚ (inv_ℚ (t.cell r c)) (positive-inv_ℚ (t.cell r c) n.positive)))

  -- no two columns are the same after division
  pub not_tied : IsGood t → (j : ℕ) → IsColumn t j → j ≢ c → ((i : ℕ) → i < t.height → divided t r c i ≡ divided t r j i) → ⊥
  not_tied g j k ne same =
      not_zero (inv_ℚ (t.cell r c)) (positive-inv_ℚ (t.cell r c) n.positive) (sym (ap (λ s. s *ℚ inv_ℚ (t.cell r c)) (g.own c n.column) ∙ one-*ℚ (inv_ℚ (t.cell r c))) ∙ same (t.free c) (g.row c n.column) ∙ zero_times (t.cell (t.free c) j) (inv_ℚ (t.cell r j)) (g.apart c j n.column k (λ e. ne (sym e))))

  stays_positive : IsGood t → (j : ℕ) → IsColumn t j → LexPositive t.height (λ i. t'.cell i j)
  stays_positive g j k = pick (same_or_not j c)
    where
      from_less : j ≢ c → zero_ℚ <ℚ t.cell r j → LexLess t.height (divided t r c) (divided t r j) ⊎ (((i : ℕ) → i < t.height → divided t r c i ≡ divided t r j i) × (c < j)) → LexPositive t.height (λ i. t.cell i j +ℚ t.cell i c *ℚ neg_ℚ (t.cell r j *ℚ inv_ℚ (t.cell r c)))
      from_less ne above (inl l) = lex_crossed t.height (λ i. t.cell i j) (λ i. t.cell i c) (t.cell r j) (inv_ℚ (t.cell r c)) (inv_ℚ (t.cell r j)) above (*ℚ_comm (inv_ℚ (t.cell r j)) (t.cell r j) ∙ *ℚ_inverse (t.cell r j) (not_zero (t.cell r j) above)) l
      from_less ne above (inr tied) = absurd (not_tied g j k ne tied.0)

      sum : j ≢ c → (t.cell r j ≤ℚ zero_ℚ) ⊎ (zero_ℚ <ℚ t.cell r j) → LexPositive t.height (λ i. t.cell i j +ℚ t.cell i c *ℚ share least t r c j)
      sum ne (inl le) = lex_plus t.height (λ i. t.cell i j) (λ i. t.cell i c) (share least t r c j) (g.positive j k) (g.positive c n.column) (share_not_negative j k.some le)
      sum ne (inr above) = subst (λ s. LexPositive t.height (λ i. t.cell i j +ℚ t.cell i c *ℚ s)) (sym (share_is least t t' r c v.within n.column some p j k.some)) (from_less ne above (n.least j k ne above))

      pick : (j ≡ c) ⊎ (j ≢ c) → LexPositive t.height (λ i. t'.cell i j)
      pick (inl e) = subst (λ j. LexPositive t.height (λ i. t'.cell i j)) (sym e) (lex_positive_same t.height (λ i. t.cell i c *ℚ inv_ℚ (t.cell r c)) (λ i. t'.cell i c) (λ i l. scaled least t t' r c v.within n.column some p i l) (lex_scaled t.height (λ i. t.cell i c) (inv_ℚ (t.cell r c)) (g.positive c n.column) (positive-inv_ℚ (t.cell r c) n.positive)))
      pick (inr ne) = lex_positive_same t.height (λ i. t.cell i j +ℚ t.cell i c *ℚ share least t r c j) (λ i. t'.cell i j) (λ i l. added least t t' r c v.within n.column some p i j l k.within ne) (sum ne (≤ℚ_total (t.cell r j) zero_ℚ))

  pub stays_good : IsGood t → IsGood t'
  stays_good g =
      let s = stays_units least t t' r c v.within n.column some p (units_of t g) in
      record {
        positive = λ j k. subst (λ h. LexPositive h (λ i. t'.cell i j)) (sym p.height) (stays_positive g j (old_column least t t' r c v.within n.column some p j k));
        row = s.row;
        own = s.own;
        apart = s.apart;
      }

-- every dictionary on the path is good, where the first one is
pub path_good : (lp : Lp) (least : ℕ → ℚ) (best : Option ℤ) → ((t : Table) → IsStart lp t → IsGood t) → (k : ℕ) (t : Table) → OnPath lp least best k t → IsGood t
path_good lp least best good zero t on = good t on
path_good lp least best good (suc k) t' (t, on, n) =
    stays_good least t t' n.row n.column n.chosen.violated n.chosen.enters n.pivot (path_good lp least best good k t on)

pub next_rises : (least : ℕ → ℚ) (best : Option ℤ) (t t' : Table) → Next least best t t' → IsGood t → LexLess t.height (λ i. t.cell i 0) (λ i. t'.cell i 0)
next_rises least best t t' n g = rises least t t' n.row n.column n.chosen.violated n.chosen.enters n.pivot g
