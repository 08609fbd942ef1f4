-- The first dictionary is good: the first number of a column is the size of its factor in the objective, else the 1 in the row of its value.
use Rattle.std.proofs.Common.{◌≡◌, ℕ, zero, suc, ◌<◌, ◌≤◌, ◌==◌, Bool, cond, ℤ, pos, negsuc, neg_ℤ, int_lt, length, refl, sym, ◌∙◌, ap, subst, arith, eq-eqb, le-ltb}
use Rattle.std.proofs.lemmas.Bool.{ne_eqb}
use Rattle.std.proofs.lemmas.Int.{ints}
use Rattle.rat128.specs.Rationals.{ℚ, whole, zero_ℚ, ◌<ℚ◌}
use Rattle.rat128.proofs.Rationals.{<ℚ_whole}
use Rattle.ip_rows.specs.declared.lp.Lp.{Lp}
use Rattle.ip_rows.specs.Rows.{factor_at}
use Rattle.ip_rows.specs.Lps.{IsWellFormedLp}
use Rattle.dict_pivot.specs.Tables.{Table, IsColumn}
use Rattle.dict_pivot.specs.Quantities.{growth_of, toward, IsStart, AreLeast}
use Rattle.dict_pivot.proofs.StartLaws.{meaning_value, start_units}
use Rattle.dual_simplex.specs.Goods.{LexPositive, IsGood}

module _ (lp : Lp) (w : IsWellFormedLp lp) (least : ℕ → ℚ) (a : AreLeast lp least) (t : Table) (s : IsStart lp t) where
  high : (j : ℕ) → j < length lp.sides → suc j < t.height
  high j l = subst (λ h. suc j < h) (sym s.height) (omega (arith, l))

  wide : (j : ℕ) → j < length lp.sides → suc j ≤ t.width
  wide j l = subst (λ k. suc j ≤ k) (sym s.width) (omega (arith, l))

  objective : (j : ℕ) → j < length lp.sides → t.cell 0 (suc j) ≡ whole (toward lp j (factor_at lp.aim j))
  objective j l = s.cells 0 (suc j) (let h = high j l in omega (arith, h)) (wide j l)

  value_row : (k j : ℕ) → k < length lp.sides → j < length lp.sides → t.cell (suc k) (suc j) ≡ whole (toward lp j (cond (k == j) (pos 1) (pos 0)))
  value_row k j m l = s.cells (suc k) (suc j) (high k m) (wide j l) ∙ ap (λ q. whole (toward lp j (growth_of lp q j))) (meaning_value (length lp.sides) k m)

  some : (n : ℕ) → zero_ℚ <ℚ whole (pos (suc n))
  some n = <ℚ_whole (pos 0) (pos (suc n)) (omega (arith, ints))

  column_positive : (j : ℕ) → j < length lp.sides → LexPositive t.height (λ i. t.cell i (suc j))
  column_positive j l = by_factor (factor_at lp.aim j) refl
    where
      first : (f : ℤ) → factor_at lp.aim j ≡ f → t.cell 0 (suc j) ≡ whole (cond (int_lt f (pos 0)) (neg_ℤ f) f)
      first f e = objective j l ∙ ap (λ f. whole (cond (int_lt f (pos 0)) (neg_ℤ f) f)) e

      turn : (b : Bool) (k : ℕ) → factor_at lp.aim j ≡ pos 0 → toward lp j (cond b (pos 1) (pos 0)) ≡ cond b (pos 1) (pos 0)
      turn b k e = ap (λ f. cond (int_lt f (pos 0)) (neg_ℤ (cond b (pos 1) (pos 0))) (cond b (pos 1) (pos 0))) e

      before : factor_at lp.aim j ≡ pos 0 → (k : ℕ) → k < suc j → t.cell k (suc j) ≡ zero_ℚ
      before e zero m = first (pos 0) e
      before e (suc k) m = value_row k j (omega (arith, m, l)) l ∙ ap whole (turn (k == j) k e) ∙ ap (λ b. whole (cond b (pos 1) (pos 0))) (ne_eqb k j (λ f. absurd (omega (arith, f, m))))

      by_factor : (f : ℤ) → factor_at lp.aim j ≡ f → LexPositive t.height (λ i. t.cell i (suc j))
      by_factor (pos zero) e = record {
        at = suc j;
        within = high j l;
        above = subst (λ z. zero_ℚ <ℚ z) (sym (value_row j j l l ∙ ap whole (turn (j == j) j e) ∙ ap (λ b. whole (cond b (pos 1) (pos 0))) (eq-eqb j j refl))) (some 0);
        before = before e;
      }
      by_factor (pos (suc n)) e = record {
        at = 0;
        within = let h = high j l in omega (arith, h);
        above = subst (λ z. zero_ℚ <ℚ z) (sym (first (pos (suc n)) e ∙ ap (λ b. whole (cond b (neg_ℤ (pos (suc n))) (pos (suc n)))) (le-ltb (suc n) 0 (omega arith)))) (some n);
        before = λ k m. absurd (omega (arith, m));
      }
      by_factor (negsuc n) e = record {
        at = 0;
        within = let h = high j l in omega (arith, h);
        above = subst (λ z. zero_ℚ <ℚ z) (sym (first (negsuc n) e)) (some n);
        before = λ k m. absurd (omega (arith, m));
      }

  positive : (j : ℕ) → IsColumn t j → LexPositive t.height (λ i. t.cell i j)
  positive zero k = absurd (let s = k.some in omega (arith, s))
  positive (suc j) k = column_positive j (let le = k.within in omega (arith, le, s.width))

  pub start_good : IsGood t
  start_good =
      let u = start_units lp w least a t s in
      record { positive = positive; row = u.row; own = u.own; apart = u.apart }
