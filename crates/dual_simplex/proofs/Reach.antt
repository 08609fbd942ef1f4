-- All columns of a part as the reach of a bound, and the multipliers as they are listed.
use Rattle.std.proofs.Common.{◌≡◌, ◌≢◌, ◌⊎◌, inl, inr, ℕ, zero, suc, ◌+◌, ◌-◌, ◌<◌, ◌≤◌, ◌==◌, Bool, true, false, cond, unsigned_abs, ℤ, pos, List, [], ◌∷◌, ◌++◌, length, get_or, set, refl, sym, ◌∙◌, ap, ap₂, subst, arith, eq-eqb, get_or-set_same, get_or-set_other, append-nil}
use Rattle.std.specs.List.{All, Contains}
use Rattle.std.specs.List.Sorted.{IsStrictlyIncreasing}
use Rattle.std.specs.Prelude.{slice_index}
use Rattle.std.proofs.lemmas.Bool.{cases_lt, ne_eqb}
use Rattle.std.proofs.lemmas.List.{length_push, get_or_push, get_or_append_left}
use Rattle.rat128.specs.Fractions.{Fraction, whole_fraction, minus}
use Rattle.ip_rows.specs.declared.rows.Coef.{Coef}
use Rattle.ip_rows.specs.declared.rows.IpRow.{IpRow}
use Rattle.ip_rows.specs.declared.mult.Mult.{Mult}
use Rattle.ip_rows.specs.Rows.{AreTerms}
use Rattle.safe_bound.specs.Bound.{row_at}
use Rattle.safe_bound.specs.Below.{IsReach}
use Rattle.dict_pivot.specs.Dictionaries.{Dictionary, number, cell_of}
use Rattle.dict_pivot.proofs.PivotLaws.{same_or_not}
use Rattle.dict_pivot.proofs.RowLemmas.{number_is}
use Rattle.dual_simplex.specs.Shown.{factor_of_free, multipliers_of, first_columns}

one_more : (n : ℕ) → n + 1 ≡ suc n
one_more n = omega arith

-- ---- the columns
pub length-first_columns : (n : ℕ) → length (first_columns n) ≡ n
length-first_columns zero = refl
length-first_columns (suc n) = length_push (first_columns n) n ∙ ap (λ k. k + 1) (length-first_columns n) ∙ one_more n

pub column_at : (n k d : ℕ) → k < n → get_or (first_columns n) k d ≡ k
column_at zero k d l = absurd (omega arith)
column_at (suc n) k d l = pick (same_or_not k n) (λ ne. column_at n k d (omega (arith, l, ne)))
  where
    pick : (k ≡ n) ⊎ (k ≢ n) → (k ≢ n → get_or (first_columns n) k d ≡ k) → get_or (first_columns n ++ n ∷ []) k d ≡ k
    pick (inl e) ih = get_or_push (first_columns n) n d k (length-first_columns n ∙ sym e) ∙ sym e
    pick (inr ne) ih = get_or_append_left (first_columns n) (n ∷ []) d k (subst (λ m. k < m) (sym (length-first_columns n)) (omega (arith, l, ne))) ∙ ih ne

pub columns_rise : (n : ℕ) → IsStrictlyIncreasing (first_columns n)
columns_rise n k l =
    let m : k + 1 < n = subst (λ h. k + 1 < h) (length-first_columns n) l in
    let e = column_at n k 0 (omega (arith, m)) in
    let f = column_at n (k + 1) 0 m in
    omega (arith, e, f)

pub columns_there : (n : ℕ) → All (λ (column : ℕ). column < n) (first_columns n)
columns_there n k d l =
    let m : k < n = subst (λ h. k < h) (length-first_columns n) l in
    subst (λ c. c < n) (sym (column_at n k d m)) m

pub columns_contain : (n j : ℕ) → j < n → Contains (first_columns n) j
columns_contain n j l = (j, subst (λ h. j < h) (sym (length-first_columns n)) l, column_at n j j l)

pub first_columns_more : (made new : List ℕ) (n : ℕ) → made ≡ first_columns n → new ≡ made ++ n ∷ [] → new ≡ first_columns (n + 1)
first_columns_more made new n h e = e ∙ ap (λ xs. xs ++ n ∷ []) h ∙ ap first_columns (sym (one_more n))

-- no terms
pub no_terms : (n : ℕ) → AreTerms n []
no_terms n = record {
  rising = λ k l. absurd (omega arith);
  there = λ k d l. absurd (omega arith);
  factors = λ k d l. absurd (omega arith);
}

-- ---- the multipliers
-- what holds of each row's multiplier holds of each that is listed
pub all_listed : (P : Mult → Type 0) (f : ℕ → Fraction) (m : ℕ) → ((r : ℕ) → r < m → P (record { row = r; factor = f r })) → All P (multipliers_of f m)
all_listed P f zero h = λ k d l. absurd (omega arith)
all_listed P f (suc m) h =
    by_test (unsigned_abs (f m).num == 0) (all_listed P f m (λ r l. h r (omega (arith, l))))
  where
    pushed : All P (multipliers_of f m) → All P (multipliers_of f m ++ record { row = m; factor = f m } ∷ [])
    pushed ih k d l = pick (cases_lt k (length (multipliers_of f m)))
      where
        pick : (k < length (multipliers_of f m)) ⊎ (length (multipliers_of f m) ≤ k) → P (get_or (multipliers_of f m ++ record { row = m; factor = f m } ∷ []) k d)
        pick (inl lt) = subst P (sym (get_or_append_left (multipliers_of f m) (record { row = m; factor = f m } ∷ []) d k lt)) (ih k d lt)
        pick (inr ge) = subst P (sym (get_or_push (multipliers_of f m) (record { row = m; factor = f m }) d k (omega (arith, ge, l, length_push (multipliers_of f m) (record { row = m; factor = f m }))))) (h m (omega arith))

    by_test : (b : Bool) → All P (multipliers_of f m) → All P (multipliers_of f m ++ cond b [] (record { row = m; factor = f m } ∷ []))
    by_test true ih = subst (All P) (sym (append-nil (multipliers_of f m))) ih
    by_test false ih = pushed ih

pub multipliers_same : (f g : ℕ → Fraction) (m : ℕ) → ((r : ℕ) → r < m → f r ≡ g r) → multipliers_of f m ≡ multipliers_of g m
multipliers_same f g zero h = refl
multipliers_same f g (suc m) h =
    ap₂ (λ (ms : List Mult) (x : Fraction). ms ++ cond (unsigned_abs x.num == 0) [] (record { row = m; factor = x } ∷ [])) (multipliers_same f g m (λ r l. h r (omega (arith, l)))) (h m (omega arith))

pub listed_more : (fs : List Fraction) (row : ℕ) (x : Fraction) (made new : List Mult) → row < length fs → x ≡ get_or fs row x → made ≡ multipliers_of (number fs) row → new ≡ made ++ cond (unsigned_abs x.num == 0) [] (record { row = row; factor = x } ∷ []) → new ≡ multipliers_of (number fs) (row + 1)
listed_more fs row x made new l is h e =
    e ∙ ap₂ (λ (ms : List Mult) (y : Fraction). ms ++ cond (unsigned_abs y.num == 0) [] (record { row = row; factor = y } ∷ [])) h (number_is fs row x l is) ∙ ap (multipliers_of (number fs)) (sym (one_more row))

-- a factor that is 0 is not listed
pub none_added : (x : Fraction) (made : List Mult) (row : ℕ) → x.num ≡ pos 0 → made ≡ made ++ cond (unsigned_abs x.num == 0) [] (record { row = row; factor = x } ∷ [])
none_added x made row e =
    sym (ap (λ (z : ℤ). made ++ cond (unsigned_abs z == 0) [] (record { row = row; factor = x } ∷ [])) e ∙ append-nil made)

pub one_added : (x : Fraction) (made new : List Mult) (row : ℕ) → (unsigned_abs x.num ≡ 0 → ⊥) → new ≡ made ++ record { row = row; factor = x } ∷ [] → new ≡ made ++ cond (unsigned_abs x.num == 0) [] (record { row = row; factor = x } ∷ [])
one_added x made new row ne e =
    e ∙ sym (ap (λ b. made ++ cond b [] (record { row = row; factor = x } ∷ [])) (ne_eqb (unsigned_abs x.num) 0 ne))

pub reach_is : (n : ℕ) (rows : List IpRow) (aim : List Coef) (ms : List Mult) → AreTerms n aim → All (λ (row : IpRow). AreTerms n row.terms) rows → All (λ (m : Mult). m.row < length rows) ms → IsReach n rows aim ms (first_columns n)
reach_is n rows aim ms formed all named = record {
  rising = columns_rise n;
  there = columns_there n;
  aim_within = λ k d l. columns_contain n (get_or aim k d).column (formed.there k d l);
  rows_within = λ k d l. λ i e m. columns_contain n (get_or (row_at rows (get_or ms k d).row).terms i e).column ((all (get_or ms k d).row (record { terms = []; least = pos 0 }) (named k d l)).there i e m);
}

-- ---- the factors of the free surpluses
pub scattered : (d : Dictionary) (i k column free : ℕ) (x y z : Fraction) → free ≡ slice_index d.free (column + 1) → x ≡ cell_of d i (column + 1) → y ≡ factor_of_free d i k column → z ≡ cond (free == k) x y → z ≡ factor_of_free d i k (column + 1)
scattered d i k column free x y z f g h e =
    e ∙ (λ t. cond (f t == k) (g t) (h t)) ∙ ap (λ n. cond (slice_index d.free n == k) (cell_of d i n) (factor_of_free d i k column)) (one_more column) ∙ ap (factor_of_free d i k) (sym (one_more column))

pub noted_none : (fs : List Fraction) (base row : ℕ) (x : Fraction) → row ≤ base → (r : ℕ) → number fs r ≡ cond (row == suc (base + r)) x (number fs r)
noted_none fs base row x le r =
    sym (ap (λ b. cond b x (number fs r)) (ne_eqb row (suc (base + r)) (λ e. absurd (omega (arith, e, le)))))

pub noted_one : (fs : List Fraction) (base row : ℕ) (x : Fraction) → base < row → row < suc (base + length fs) → (r : ℕ) → r < length fs → number (set fs (row - base - 1) x) r ≡ cond (row == suc (base + r)) x (number fs r)
noted_one fs base row x gt lt r l = pick (same_or_not r (row - base - 1))
  where
    at : r ≡ row - base - 1 → row ≡ suc (base + r)
    at e = omega (arith, e, gt)

    other : r ≢ row - base - 1 → row ≢ suc (base + r)
    other ne e = ne (omega (arith, e))

    pick : (r ≡ row - base - 1) ⊎ (r ≢ row - base - 1) → number (set fs (row - base - 1) x) r ≡ cond (row == suc (base + r)) x (number fs r)
    pick (inl e) = ap (number (set fs (row - base - 1) x)) e ∙ get_or-set_same fs (row - base - 1) x (whole_fraction (pos 0)) (subst (λ k. k < length fs) e l) ∙ sym (ap (λ b. cond b x (number fs r)) (eq-eqb row (suc (base + r)) (at e)))
    pick (inr ne) = get_or-set_other fs (row - base - 1) r x (whole_fraction (pos 0)) ne ∙ sym (ap (λ b. cond b x (number fs r)) (ne_eqb row (suc (base + r)) (other ne)))

-- ---- one factor after another is negated
pub negated_more : (old now new : List Fraction) (i : ℕ) (x y : Fraction) → i < length now → x ≡ get_or now i x → new ≡ set now i y → y ≡ minus x → ((k : ℕ) → k < i → number now k ≡ minus (number old k)) → ((k : ℕ) → i ≤ k → number now k ≡ number old k) → (k : ℕ) → k < i + 1 → number new k ≡ minus (number old k)
negated_more old now new i x y l is e f done left k kl = pick (same_or_not k i)
  where
    pick : (k ≡ i) ⊎ (k ≢ i) → number new k ≡ minus (number old k)
    pick (inl same) = subst (λ k. number new k ≡ minus (number old k)) (sym same) (ap (λ xs. number xs i) e ∙ get_or-set_same now i y (whole_fraction (pos 0)) l ∙ f ∙ ap minus (number_is now i x l is ∙ left i (omega arith)))
    pick (inr ne) = ap (λ xs. number xs k) e ∙ get_or-set_other now i k y (whole_fraction (pos 0)) ne ∙ done k (omega (arith, kl, ne))

pub still_left : (old now new : List Fraction) (i : ℕ) (y : Fraction) → new ≡ set now i y → ((k : ℕ) → i ≤ k → number now k ≡ number old k) → (k : ℕ) → i + 1 ≤ k → number new k ≡ number old k
still_left old now new i y e left k le =
    ap (λ xs. number xs k) e ∙ get_or-set_other now i k y (whole_fraction (pos 0)) (λ f. absurd (omega (arith, f, le))) ∙ left k (omega (arith, le))
