-- Sums over columns, and factors of columns in lists of terms.
use Rattle.std.proofs.Common.{◌≡◌, ◌≢◌, ◌⊎◌, inl, inr, ℕ, zero, suc, ◌+◌, ◌<◌, Bool, true, false, cond, eqb, ℤ, pos, ◌≤◌, Ordering, Less, Equal, Greater, List, [], ◌∷◌, length, map, get_or, refl, sym, ◌∙◌, ap, ap₂, subst, subst₂, arith}
use Rattle.std.specs.List.{All, AllPairs, Contains}
use Rattle.std.proofs.lemmas.Bool.{cases_lt, eqb-false, eqb-true, ne_eqb}
use Rattle.std.proofs.lemmas.Bool.Decides.{nat_tests}
use Rattle.std.proofs.lemmas.Cmp.{ranked}
use Rattle.std.specs.List.Sorted.{IsNonDecreasingBy, IsPartitionPoint}
use Rattle.std.specs.List.{HoldsAt}
use Rattle.std.specs.Ordering.{nat_cmp, ordering_index}
use Rattle.std.proofs.lemmas.List.{get_or-map, length-map}
use Rattle.std.proofs.lemmas.List.Elements.{All-head, All-tail}
use Rattle.std.proofs.lemmas.List.Kept.{AllPairs-from_increasing}
use Rattle.rat128.specs.Rationals.{ℚ, whole, zero_ℚ, ◌+ℚ◌, ◌*ℚ◌, neg_ℚ, ◌-ℚ◌, ◌≤ℚ◌}
use Rattle.rat128.proofs.Rationals.{+ℚ_comm, +ℚ_assoc, +ℚ_zero, zero-+ℚ, +ℚ_neg, +ℚ-*ℚ, *ℚ-+ℚ, *ℚ_zero, zero-*ℚ, neg_ℚ-*ℚ, ≤ℚ_refl, ≤ℚ-+ℚ_both}
use Rattle.ip_rows.specs.declared.rows.Coef.{Coef}
use Rattle.ip_rows.specs.Rows.{Rise, factor_at}
use Rattle.ip_rows.specs.Points.{terms_at}
use Rattle.safe_bound.specs.Exact.{over}

-- ---- rising numbers
-- each number is below all later ones
abbrev pub Climbs : List ℕ → Type 0
Climbs [] = Unit {0}
Climbs (n ∷ ns) = All (λ m. n < m) ns × Climbs ns

climbs_from : (ns : List ℕ) → AllPairs (λ m n. m < n) ns → Climbs ns
climbs_from [] h = tt
climbs_from (n ∷ ns) h =
    ((λ k d lt. h zero (suc k) d (omega arith) (omega arith)), climbs_from ns (λ i j d lt l. h (suc i) (suc j) d (omega arith) (omega arith)))

pub climbs : (ns : List ℕ) → ((k : ℕ) → k + 1 < length ns → get_or ns k 0 < get_or ns (k + 1) 0) → Climbs ns
climbs ns h = climbs_from ns (AllPairs-from_increasing ns h)

-- ---- factors
-- the number is not among them
abbrev pub Avoids : ℕ → List Coef → Type 0
Avoids column terms = All (λ (term : Coef). term.column ≢ column) terms

pub factor_none : (terms : List Coef) (column : ℕ) → Avoids column terms → factor_at terms column ≡ pos 0
factor_none [] column h = refl
factor_none (term ∷ terms) column h =
    rw (ne_eqb term.column column (All-head (λ (t : Coef). t.column ≢ column) term terms h)) (factor_none terms column (All-tail (λ (t : Coef). t.column ≢ column) term terms h))

within_columns : (terms : List Coef) (k : ℕ) → k < length terms → k < length (map (λ (t : Coef). t.column) terms)
within_columns terms k lt = subst (λ n. k < n) (sym (length-map terms (λ (t : Coef). t.column))) lt

-- terms above a column have no factor there
pub above_avoids : (terms : List Coef) (column : ℕ) → All (λ m. column < m) (map (λ (t : Coef). t.column) terms) → Avoids column terms
above_avoids terms column h k d lt =
    let e : get_or (map (λ (t : Coef). t.column) terms) k 0 ≡ (get_or terms k d).column = get_or-map (λ (t : Coef). t.column) terms k d 0 lt in
    let more : column < get_or (map (λ (t : Coef). t.column) terms) k 0 = h k 0 (within_columns terms k lt) in
    λ same. omega (arith, e, more, same)

pub factor_found : (terms : List Coef) → Climbs (map (λ (t : Coef). t.column) terms) → (column k : ℕ) (d : Coef) → k < length terms → (get_or terms k d).column ≡ column → factor_at terms column ≡ (get_or terms k d).factor
factor_found [] up column k d lt e = absurd (omega arith)
factor_found (term ∷ terms) up column zero d lt e = by_test (eqb term.column column) refl
  where
    by_test : (b : Bool) → eqb term.column column ≡ b → cond b term.factor (factor_at terms column) ≡ term.factor
    by_test true is = refl
    by_test false is = absurd (eqb-false term.column column is e)
factor_found (term ∷ terms) up column (suc k) d lt e =
    let less : k < length terms = omega arith in
    let more : term.column < (get_or terms k d).column = subst (λ n. term.column < n) (get_or-map (λ (t : Coef). t.column) terms k d 0 less) (up.0 k 0 (within_columns terms k less)) in
    rw (ne_eqb term.column column (λ same. omega arith)) (factor_found terms up.1 column k d less e)

-- ---- what a search of rising terms finds
columns_rise : (terms : List Coef) → Rise terms → (i j : ℕ) (d : Coef) → i < j → j < length terms → (get_or terms i d).column < (get_or terms j d).column
columns_rise terms h i j d lt l =
    let before : i < length terms = omega arith in
    subst₂ (λ m n. m < n) (get_or-map (λ (t : Coef). t.column) terms i d 0 before) (get_or-map (λ (t : Coef). t.column) terms j d 0 l) (AllPairs-from_increasing (map (λ (t : Coef). t.column) terms) h i j 0 lt (within_columns terms j l))

comparisons_rise : (terms : List Coef) (column : ℕ) → Rise terms → IsNonDecreasingBy (λ (t : Coef). ordering_index (nat_cmp t.column column)) terms
comparisons_rise terms column h i j d le l = by_place (cases_lt i j)
  where
    higher : (a b : ℕ) → a ≤ b → ordering_index (nat_cmp a column) ≤ ordering_index (nat_cmp b column)
    higher a b le = grind (arith, nat_tests)

    by_place : (i < j) ⊎ (j ≤ i) → ordering_index (nat_cmp (get_or terms i d).column column) ≤ ordering_index (nat_cmp (get_or terms j d).column column)
    by_place (inl lt) = higher (get_or terms i d).column (get_or terms j d).column (omega (arith, columns_rise terms h i j d lt l))
    by_place (inr ge) =
        let same : i ≡ j = omega arith in
        higher (get_or terms i d).column (get_or terms j d).column (omega (arith, ap (λ n. (get_or terms n d).column) same))

pub search_found : (terms : List Coef) (column place : ℕ) (d : Coef) → Rise terms → place < length terms → HoldsAt (λ (t : Coef). nat_cmp t.column column ≡ Equal) terms place → (get_or terms place d).factor ≡ factor_at terms column
search_found terms column place d h lt equal =
    sym (factor_found terms (climbs (map (λ (t : Coef). t.column) terms) h) column place d lt (ranked (get_or terms place d).column column Equal (sym (equal d))))

pub search_none : (terms : List Coef) (column place : ℕ) → Rise terms → (IsNonDecreasingBy (λ (t : Coef). ordering_index (nat_cmp t.column column)) terms → IsPartitionPoint (λ (t : Coef). nat_cmp t.column column ≡ Less) (λ (t : Coef). nat_cmp t.column column ≡ Greater) terms place) → pos 0 ≡ factor_at terms column
search_none terms column place h parts =
    sym (factor_none terms column (λ k d lt. differs k d lt (cases_lt k place)))
  where
    differs : (k : ℕ) (d : Coef) → k < length terms → (k < place) ⊎ (place ≤ k) → (get_or terms k d).column ≢ column
    differs k d lt (inl before) same =
        let less : (get_or terms k d).column < column = ranked (get_or terms k d).column column Less (sym ((parts (comparisons_rise terms column h)).0 k d (omega arith) before)) in
        omega arith
    differs k d lt (inr after) same =
        let more : column < (get_or terms k d).column = ranked (get_or terms k d).column column Greater (sym ((parts (comparisons_rise terms column h)).1 k d after lt)) in
        omega arith

-- ---- sums of exact numbers
pub medial : (a b c d : ℚ) → (a +ℚ b) +ℚ (c +ℚ d) ≡ (a +ℚ c) +ℚ (b +ℚ d)
medial a b c d =
    +ℚ_assoc a b (c +ℚ d) ∙ ap (λ x. a +ℚ x) (sym (+ℚ_assoc b c d) ∙ ap (λ x. x +ℚ d) (+ℚ_comm b c) ∙ +ℚ_assoc c b d) ∙ sym (+ℚ_assoc a c (b +ℚ d))

-- what is taken away and added again
pub taken_back : (a b : ℚ) → (a -ℚ b) +ℚ b ≡ a
taken_back a b = +ℚ_assoc a (neg_ℚ b) b ∙ ap (λ x. a +ℚ x) (+ℚ_comm (neg_ℚ b) b ∙ +ℚ_neg b) ∙ +ℚ_zero a

pub over-same : (f g : ℕ → ℚ) → ((j : ℕ) → f j ≡ g j) → (js : List ℕ) → over f js ≡ over g js
over-same f g h [] = refl
over-same f g h (j ∷ js) = ap₂ ◌+ℚ◌ (h j) (over-same f g h js)

pub over-zero : (f : ℕ → ℚ) (js : List ℕ) → All (λ j. f j ≡ zero_ℚ) js → over f js ≡ zero_ℚ
over-zero f [] h = refl
over-zero f (j ∷ js) h =
    ap₂ ◌+ℚ◌ (All-head (λ j. f j ≡ zero_ℚ) j js h) (over-zero f js (All-tail (λ j. f j ≡ zero_ℚ) j js h)) ∙ +ℚ_zero zero_ℚ

pub over-plus : (f g : ℕ → ℚ) (js : List ℕ) → over (λ j. f j +ℚ g j) js ≡ over f js +ℚ over g js
over-plus f g [] = sym (+ℚ_zero zero_ℚ)
over-plus f g (j ∷ js) =
    ap (λ x. f j +ℚ g j +ℚ x) (over-plus f g js) ∙ medial (f j) (g j) (over f js) (over g js)

pub over-times : (k : ℚ) (f : ℕ → ℚ) (js : List ℕ) → over (λ j. k *ℚ f j) js ≡ k *ℚ over f js
over-times k f [] = sym (*ℚ_zero k)
over-times k f (j ∷ js) =
    ap (λ x. k *ℚ f j +ℚ x) (over-times k f js) ∙ sym (*ℚ-+ℚ k (f j) (over f js))

pub over-least : (f g : ℕ → ℚ) (js : List ℕ) → All (λ j. f j ≤ℚ g j) js → over f js ≤ℚ over g js
over-least f g [] h = ≤ℚ_refl zero_ℚ
over-least f g (j ∷ js) h =
    ≤ℚ-+ℚ_both (f j) (g j) (over f js) (over g js) (All-head (λ j. f j ≤ℚ g j) j js h) (over-least f g js (All-tail (λ j. f j ≤ℚ g j) j js h))

-- ---- a list of terms as a sum over columns
-- a number at one column, and 0 elsewhere
abbrev alone : ℕ → ℚ → ℕ → ℚ
alone column x j = cond (eqb column j) x zero_ℚ

alone_above : (column : ℕ) (x : ℚ) (js : List ℕ) → All (λ j. column < j) js → All (λ j. alone column x j ≡ zero_ℚ) js
alone_above column x js h k d lt =
    let less : column < get_or js k d = h k d lt in
    rw (ne_eqb column (get_or js k d) (λ same. omega arith)) refl

over-alone : (column : ℕ) (x : ℚ) (js : List ℕ) → Climbs js → Contains js column → over (alone column x) js ≡ x
over-alone column x [] up h = absurd (omega (arith, h.1))
over-alone column x (j ∷ js) up (zero, lt, e) = by_test (eqb column j) refl
  where
    by_test : (b : Bool) → eqb column j ≡ b → cond b x zero_ℚ +ℚ over (alone column x) js ≡ x
    by_test true is =
        let above : All (λ i. column < i) js = subst (λ n. All (λ i. n < i) js) e up.0 in
        ap (λ y. x +ℚ y) (over-zero (alone column x) js (alone_above column x js above)) ∙ +ℚ_zero x
    by_test false is = absurd (eqb-false column j is (sym e))
over-alone column x (j ∷ js) up (suc k, lt, e) =
    let less : k < length js = omega arith in
    let more : j < column = subst (λ n. j < n) e (up.0 k column less) in
    rw (ne_eqb column j (λ same. omega arith)) (zero-+ℚ (over (alone column x) js) ∙ over-alone column x js up.1 (k, less, e))

-- the terms of rising columns, among rising columns that have them all
pub terms_over : (point : ℕ → ℚ) (terms : List Coef) (js : List ℕ) → Climbs (map (λ (t : Coef). t.column) terms) → Climbs js → All (λ (t : Coef). Contains js t.column) terms → terms_at point terms ≡ over (λ j. whole (factor_at terms j) *ℚ point j) js
terms_over point [] js up rising within =
    sym (over-zero (λ j. zero_ℚ *ℚ point j) js (λ k d lt. zero-*ℚ (point (get_or js k d))))
terms_over point (term ∷ terms) js up rising within =
    let x = whole term.factor *ℚ point term.column in
    let none : factor_at terms term.column ≡ pos 0 = factor_none terms term.column (above_avoids terms term.column up.0) in
    ap₂ ◌+ℚ◌ (sym (over-alone term.column x js rising (All-head (λ (t : Coef). Contains js t.column) term terms within))) (terms_over point terms js up.1 rising (All-tail (λ (t : Coef). Contains js t.column) term terms within))
    ∙ sym (over-plus (alone term.column x) (λ j. whole (factor_at terms j) *ℚ point j) js)
    ∙ over-same (λ j. alone term.column x j +ℚ whole (factor_at terms j) *ℚ point j) (λ j. whole (factor_at (term ∷ terms) j) *ℚ point j) (λ j. joined j none (eqb term.column j) refl) js
  where
    joined : (j : ℕ) → factor_at terms term.column ≡ pos 0 → (b : Bool) → eqb term.column j ≡ b → cond b (whole term.factor *ℚ point term.column) zero_ℚ +ℚ whole (factor_at terms j) *ℚ point j ≡ whole (cond b term.factor (factor_at terms j)) *ℚ point j
    joined j none false is = zero-+ℚ (whole (factor_at terms j) *ℚ point j)
    joined j none true is =
        let same : term.column ≡ j = eqb-true term.column j is in
        let gone : whole (factor_at terms j) *ℚ point j ≡ zero_ℚ = ap (λ z. whole z *ℚ point j) (subst (λ n. factor_at terms n ≡ pos 0) same none) ∙ zero-*ℚ (point j) in
        ap₂ ◌+ℚ◌ (ap (λ n. whole term.factor *ℚ point n) same) gone ∙ +ℚ_zero (whole term.factor *ℚ point j)
