-- What the multipliers of a row of the dictionary say of the surpluses of the part's rows.
use Rattle.std.proofs.Common.{◌≡◌, ◌≢◌, ◌⊎◌, inl, inr, ℕ, zero, suc, ◌+◌, ◌<◌, ◌≤◌, ◌==◌, Bool, true, false, cond, pos, unsigned_abs, List, [], ◌∷◌, ◌++◌, refl, sym, ◌∙◌, ap, ap₂, arith, append-nil, eq-eqb}
use Rattle.std.specs.Prelude.{slice_index}
use Rattle.std.proofs.lemmas.Bool.{eqb-true, ne_eqb}
use Rattle.std.proofs.lemmas.Int.{ints}
use Rattle.rat128.specs.Fractions.{Fraction, whole_fraction}
use Rattle.rat128.specs.Rationals.{ℚ, value, zero_ℚ, one_ℚ, ◌+ℚ◌, ◌*ℚ◌}
use Rattle.rat128.proofs.Rationals.{+ℚ_zero, zero-+ℚ, *ℚ_comm, *ℚ_zero, *ℚ-+ℚ, value_zero, num_zero}
use Rattle.ip_rows.specs.declared.rows.IpRow.{IpRow}
use Rattle.safe_bound.specs.Bound.{row_at}
use Rattle.safe_bound.proofs.Corners.{surplus, surpluses, surpluses-push}
use Rattle.dict_pivot.specs.Tables.{Table, IsColumn, IsUnits, total}
use Rattle.dict_pivot.specs.Dictionaries.{Dictionary, cell_of}
use Rattle.dict_pivot.proofs.PivotLaws.{same_or_not, zero_times}
use Rattle.dict_pivot.proofs.Sums.{total_zero, total_same, total_plus, total_times}
use Rattle.dual_simplex.specs.Shown.{factor_of_free, multipliers_of}

-- the sum of the first m of f
abbrev pub sum_to : ℕ → (ℕ → ℚ) → ℚ
sum_to zero f = zero_ℚ
sum_to (suc r) f = sum_to r f +ℚ f r

pub sum_zero : (m : ℕ) (f : ℕ → ℚ) → ((r : ℕ) → r < m → f r ≡ zero_ℚ) → sum_to m f ≡ zero_ℚ
sum_zero zero f h = refl
sum_zero (suc m) f h =
    ap₂ (λ a b. a +ℚ b) (sum_zero m f (λ r l. h r (omega (arith, l)))) (h m (omega arith)) ∙ +ℚ_zero zero_ℚ

pub sum_same : (m : ℕ) (f g : ℕ → ℚ) → ((r : ℕ) → r < m → f r ≡ g r) → sum_to m f ≡ sum_to m g
sum_same zero f g h = refl
sum_same (suc m) f g h =
    ap₂ (λ a b. a +ℚ b) (sum_same m f g (λ r l. h r (omega (arith, l)))) (h m (omega arith))

-- ---- the listed multipliers
pub no_size : (p : Fraction) → unsigned_abs p.num ≡ 0 → p.num ≡ pos 0
no_size p e = omega (arith, ints, e)

pub surpluses_listed : (point : ℕ → ℚ) (rows : List IpRow) (f : ℕ → Fraction) (m : ℕ) → surpluses point rows (multipliers_of f m) ≡ sum_to m (λ r. value (f r) *ℚ surplus point (row_at rows r))
surpluses_listed point rows f zero = refl
surpluses_listed point rows f (suc r) =
    by_test (unsigned_abs (f r).num == 0) refl (surpluses_listed point rows f r)
  where
    by_test : (b : Bool) → (unsigned_abs (f r).num == 0) ≡ b → surpluses point rows (multipliers_of f r) ≡ sum_to r (λ r. value (f r) *ℚ surplus point (row_at rows r)) → surpluses point rows (multipliers_of f r ++ cond b [] (record { row = r; factor = f r } ∷ [])) ≡ sum_to r (λ r. value (f r) *ℚ surplus point (row_at rows r)) +ℚ value (f r) *ℚ surplus point (row_at rows r)
    by_test true e ih =
        ap (surpluses point rows) (append-nil (multipliers_of f r)) ∙ ih ∙ sym (ap (λ s. sum_to r (λ r. value (f r) *ℚ surplus point (row_at rows r)) +ℚ s) (zero_times (value (f r)) (surplus point (row_at rows r)) (value_zero (f r) (no_size (f r) (eqb-true (unsigned_abs (f r).num) 0 e)))) ∙ +ℚ_zero (sum_to r (λ r. value (f r) *ℚ surplus point (row_at rows r))))
    by_test false e ih =
        surpluses-push point rows (multipliers_of f r) (record { row = r; factor = f r }) ∙ ap (λ s. s +ℚ value (f r) *ℚ surplus point (row_at rows r)) ih

-- ---- one multiplier
one_apart : one_ℚ ≡ zero_ℚ → ⊥
one_apart e = let z = num_zero (whole_fraction (pos 1)) e in absurd (omega (arith, ints, z))

-- the free quantities differ
pub frees_differ : (t : Table) → IsUnits t → (j l : ℕ) → IsColumn t j → IsColumn t l → j ≢ l → t.free j ≢ t.free l
frees_differ t u j l a b ne e =
    one_apart (sym (u.own l b) ∙ sym (ap (λ i. t.cell i l) e) ∙ u.apart j l a b ne)

pub factor_is : (d : Dictionary) (i k n : ℕ) → ((j l : ℕ) → 0 < j → j ≤ n → 0 < l → l ≤ n → j ≢ l → slice_index d.free j ≢ slice_index d.free l) → value (factor_of_free d i k n) ≡ total n (λ j. cond (slice_index d.free j == k) (value (cell_of d i j)) zero_ℚ)
factor_is d i k zero differ = refl
factor_is d i k (suc n) differ =
    by_test (slice_index d.free (suc n) == k) refl (factor_is d i k n (λ j l a b c e ne. differ j l a (omega (arith, b)) c (omega (arith, e)) ne))
  where
    earlier : (slice_index d.free (suc n) == k) ≡ true → (j : ℕ) → 0 < j → j ≤ n → cond (slice_index d.free j == k) (value (cell_of d i j)) zero_ℚ ≡ zero_ℚ
    earlier e j s le =
        ap (λ b. cond b (value (cell_of d i j)) zero_ℚ) (ne_eqb (slice_index d.free j) k (λ f. differ j (suc n) s (omega (arith, le)) (omega arith) (omega arith) (λ g. absurd (omega (arith, g, le))) (f ∙ sym (eqb-true (slice_index d.free (suc n)) k e))))

    by_test : (b : Bool) → (slice_index d.free (suc n) == k) ≡ b → value (factor_of_free d i k n) ≡ total n (λ j. cond (slice_index d.free j == k) (value (cell_of d i j)) zero_ℚ) → value (cond b (cell_of d i (suc n)) (factor_of_free d i k n)) ≡ total n (λ j. cond (slice_index d.free j == k) (value (cell_of d i j)) zero_ℚ) +ℚ cond b (value (cell_of d i (suc n))) zero_ℚ
    by_test true e ih =
        sym (ap (λ s. s +ℚ value (cell_of d i (suc n))) (total_zero n (λ j. cond (slice_index d.free j == k) (value (cell_of d i j)) zero_ℚ) (earlier e)) ∙ zero-+ℚ (value (cell_of d i (suc n))))
    by_test false e ih = ih ∙ sym (+ℚ_zero (total n (λ j. cond (slice_index d.free j == k) (value (cell_of d i j)) zero_ℚ)))

-- ---- rows and columns exchanged
turned : (b : Bool) (x c : ℚ) → x *ℚ cond b c zero_ℚ ≡ c *ℚ cond b x zero_ℚ
turned true x c = *ℚ_comm x c
turned false x c = *ℚ_zero x ∙ sym (*ℚ_zero c)

pub exchanged : (n m : ℕ) (cell : ℕ → ℚ) (free : ℕ → ℕ) (s : ℕ → ℕ) (x : ℕ → ℚ) → sum_to m (λ r. total n (λ j. cond (free j == s r) (cell j) zero_ℚ) *ℚ x r) ≡ total n (λ j. cell j *ℚ sum_to m (λ r. cond (free j == s r) (x r) zero_ℚ))
exchanged n zero cell free s x = sym (total_zero n (λ j. cell j *ℚ zero_ℚ) (λ j some le. *ℚ_zero (cell j)))
exchanged n (suc m) cell free s x =
    let last : total n (λ j. cond (free j == s m) (cell j) zero_ℚ) *ℚ x m ≡ total n (λ j. cell j *ℚ cond (free j == s m) (x m) zero_ℚ) = *ℚ_comm (total n (λ j. cond (free j == s m) (cell j) zero_ℚ)) (x m) ∙ sym (total_times n (x m) (λ j. cond (free j == s m) (cell j) zero_ℚ)) ∙ total_same n (λ j. x m *ℚ cond (free j == s m) (cell j) zero_ℚ) (λ j. cell j *ℚ cond (free j == s m) (x m) zero_ℚ) (λ j some le. turned (free j == s m) (x m) (cell j)) in
    ap₂ (λ a b. a +ℚ b) (exchanged n m cell free s x) last ∙ sym (total_plus n (λ j. cell j *ℚ sum_to m (λ r. cond (free j == s r) (x r) zero_ℚ)) (λ j. cell j *ℚ cond (free j == s m) (x m) zero_ℚ)) ∙ total_same n (λ j. cell j *ℚ sum_to m (λ r. cond (free j == s r) (x r) zero_ℚ) +ℚ cell j *ℚ cond (free j == s m) (x m) zero_ℚ) (λ j. cell j *ℚ (sum_to m (λ r. cond (free j == s r) (x r) zero_ℚ) +ℚ cond (free j == s m) (x m) zero_ℚ)) (λ j some le. sym (*ℚ-+ℚ (cell j) (sum_to m (λ r. cond (free j == s r) (x r) zero_ℚ)) (cond (free j == s m) (x m) zero_ℚ)))

-- ---- the surplus that a row has, if it has one
pub no_surplus : (m base k : ℕ) (x : ℕ → ℚ) → k ≤ base → sum_to m (λ r. cond (k == suc (base + r)) (x r) zero_ℚ) ≡ zero_ℚ
no_surplus m base k x le =
    sum_zero m (λ r. cond (k == suc (base + r)) (x r) zero_ℚ) (λ r l. ap (λ b. cond b (x r) zero_ℚ) (ne_eqb k (suc (base + r)) (λ e. absurd (omega (arith, e, le)))))

pub one_surplus : (m base q : ℕ) (x : ℕ → ℚ) → q < m → sum_to m (λ r. cond (suc (base + q) == suc (base + r)) (x r) zero_ℚ) ≡ x q
one_surplus zero base q x l = absurd (omega arith)
one_surplus (suc m) base q x l = pick (same_or_not q m) (λ ne. one_surplus m base q x (omega (arith, l, ne)))
  where
    pick : (q ≡ m) ⊎ (q ≢ m) → (q ≢ m → sum_to m (λ r. cond (suc (base + q) == suc (base + r)) (x r) zero_ℚ) ≡ x q) → sum_to m (λ r. cond (suc (base + q) == suc (base + r)) (x r) zero_ℚ) +ℚ cond (suc (base + q) == suc (base + m)) (x m) zero_ℚ ≡ x q
    pick (inl e) ih =
        ap₂ (λ a b. a +ℚ b) (sum_zero m (λ r. cond (suc (base + q) == suc (base + r)) (x r) zero_ℚ) (λ r lt. ap (λ b. cond b (x r) zero_ℚ) (ne_eqb (suc (base + q)) (suc (base + r)) (λ g. absurd (omega (arith, g, lt, e)))))) (ap (λ b. cond b (x m) zero_ℚ) (eq-eqb (suc (base + q)) (suc (base + m)) (ap (λ n. suc (base + n)) e)) ∙ ap x (sym e)) ∙ zero-+ℚ (x q)
    pick (inr ne) ih =
        ap₂ (λ a b. a +ℚ b) (ih ne) (ap (λ b. cond b (x m) zero_ℚ) (ne_eqb (suc (base + q)) (suc (base + m)) (λ g. absurd (ne (omega (arith, g)))))) ∙ +ℚ_zero (x q)
