-- How large the numbers of a row are together, and which terms its columns come from.
use Rattle.std.proofs.Common.{◌≡◌, ◌≢◌, ◌∙◌, sym, ap, subst, refl, ℕ, zero, suc, ◌+◌, ◌*◌, ◌≤◌, ◌==◌, ℤ, pos, negsuc, ◌+ℤ◌, ◌*ℤ◌, neg_ℤ, unsigned_abs, Bool, true, false, List, [], ◌∷◌, All, Contains, ◌⊎◌, inl, inr, arith}
use Rattle.std.proofs.lemmas.Int.{ints, unsigned_abs-mul}
use Rattle.std.proofs.lemmas.Bool.Decides.{Decides-eqb}
use Rattle.std.proofs.Math.Nat.{mul-le-mul_left}
use Rattle.ip_rows.specs.declared.rows.Coef.{Coef}
use Rattle.ip_rows.specs.declared.rows.IpRow.{IpRow}
use Rattle.ip_rows.specs.Programs.{number_at, sum_at}
use Rattle.prov_fold.specs.Graphs.{Graph}
use Rattle.prov_fold.specs.Sums.{total_by, added_by}
use Rattle.prov_fold.proofs.SameLemmas.{All_head, All_tail}
use Rattle.bool_encode.specs.declared.form.Piece.{Piece}
use Rattle.bool_encode.specs.declared.stand.Stand.{Stand}
use Rattle.bool_encode.specs.Forms.{Form, form_at}
use Rattle.bool_encode.specs.Columns.{columns_of, reading}
use Rattle.bool_encode.specs.Rows.{IsRowOf, heft, weight}
use Rattle.bool_encode.proofs.JoinLemmas.{From, parted}
use Rattle.bool_encode.proofs.OneRow.{unit, unit_other, share, share_first, skips, rises_from, nothing_at}

abbrev sizes : List Coef → ℕ
sizes terms = added_by (λ (t : Coef). unsigned_abs t.factor) terms

-- ---- a point with the sign of each factor

abbrev sign : ℤ → ℤ
sign (pos n) = pos 1
sign (negsuc n) = negsuc 0

sign_size : (f : ℤ) → unsigned_abs (sign f) ≤ 1
sign_size (pos n) = omega arith
sign_size (negsuc n) = omega arith

sign_times : (f : ℤ) → f *ℤ sign f ≡ pos (unsigned_abs f)
sign_times (pos n) = omega (arith, ints)
sign_times (negsuc n) = omega (arith, ints)

abbrev put : List ℤ → ℕ → ℤ → List ℤ
put [] zero v = v ∷ []
put [] (suc m) v = pos 0 ∷ put [] m v
put (x ∷ xs) zero v = v ∷ xs
put (x ∷ xs) (suc m) v = x ∷ put xs m v

put_here : (xs : List ℤ) (m : ℕ) (v : ℤ) → number_at (put xs m v) m ≡ v
put_here [] zero v = refl
put_here [] (suc m) v = put_here [] m v
put_here (x ∷ xs) zero v = refl
put_here (x ∷ xs) (suc m) v = put_here xs m v

put_other : (xs : List ℤ) (m c : ℕ) (v : ℤ) → c ≢ m → number_at (put xs m v) c ≡ number_at xs c
put_other [] zero zero v ne = absurd (ne refl)
put_other [] zero (suc c) v ne = refl
put_other [] (suc m) zero v ne = refl
put_other [] (suc m) (suc c) v ne = put_other [] m c v (λ e. ne (ap suc e))
put_other (x ∷ xs) zero zero v ne = absurd (ne refl)
put_other (x ∷ xs) zero (suc c) v ne = refl
put_other (x ∷ xs) (suc m) zero v ne = refl
put_other (x ∷ xs) (suc m) (suc c) v ne = put_other xs m c v (λ e. ne (ap suc e))

put_small : (xs : List ℤ) (m c : ℕ) (v : ℤ) → unsigned_abs v ≤ 1 → unsigned_abs (number_at xs c) ≤ 1 → (b : Bool) → (c == m) ≡ b → unsigned_abs (number_at (put xs m v) c) ≤ 1
put_small xs m c v one small true e =
    let here : number_at (put xs m v) c ≡ v = ap (λ n. number_at (put xs m v) n) ((Decides-eqb c m).0 e) ∙ put_here xs m v in
    subst (λ (n : ℤ). unsigned_abs n ≤ 1) (sym here) one
put_small xs m c v one small false e =
    subst (λ (n : ℤ). unsigned_abs n ≤ 1) (sym (put_other xs m c v (λ is. let no : true ≡ false = sym ((Decides-eqb c m).1 is) ∙ e in cc))) small

abbrev signs : List Coef → List ℤ
signs [] = []
signs (t ∷ ts) = put (signs ts) t.column (sign t.factor)

abbrev IsSmall : List ℤ → Type 0
IsSmall point = (c : ℕ) → unsigned_abs (number_at point c) ≤ 1

signs_small : (ts : List Coef) → IsSmall (signs ts)
signs_small [] c = omega arith
signs_small (t ∷ ts) c = put_small (signs ts) t.column c (sign t.factor) (sign_size t.factor) (signs_small ts c) (c == t.column) refl

put_behind : (xs : List ℤ) (m : ℕ) (v : ℤ) (ts : List Coef) → From (suc m) ts → sum_at (put xs m v) ts ≡ sum_at xs ts
put_behind xs m v [] h = refl
put_behind xs m v (t ∷ ts) h =
    let above = h.0 in
    λ i. t.factor *ℤ put_other xs m t.column v (λ e. absurd (omega (arith, above, e))) i +ℤ put_behind xs m v ts (from_above m t.column ts (omega (arith, above)) h.1) i
  where
    from_above : (m c : ℕ) (ts : List Coef) → m ≤ c → From (suc c) ts → From (suc m) ts
    from_above m c [] le h = tt
    from_above m c (t ∷ ts) le h = let a = h.0 in (omega (arith, a, le), h.1)

signs_sum : (n : ℕ) (ts : List Coef) → From n ts → sum_at (signs ts) ts ≡ pos (sizes ts)
signs_sum n [] h = refl
signs_sum n (t ∷ ts) h =
    (λ i. t.factor *ℤ put_here (signs ts) t.column (sign t.factor) i +ℤ put_behind (signs ts) t.column (sign t.factor) ts h.1 i)
    ∙ (λ i. sign_times t.factor i +ℤ signs_sum (suc t.column) ts h.1 i)

-- at small points terms come to no more than the sizes of their factors
once_size : (f n : ℤ) → unsigned_abs n ≤ 1 → unsigned_abs (f *ℤ n) ≤ unsigned_abs f
once_size f n small =
    let less : unsigned_abs f * unsigned_abs n ≤ unsigned_abs f * 1 = mul-le-mul_left (unsigned_abs f) small in
    let is = unsigned_abs-mul f n in
    omega (arith, less, is)

plus_size : (a b : ℤ) → unsigned_abs (a +ℤ b) ≤ unsigned_abs a + unsigned_abs b
plus_size a b = omega (arith, ints)

small_sum : (point : List ℤ) → IsSmall point → (ts : List Coef) → unsigned_abs (sum_at point ts) ≤ sizes ts
small_sum point small [] = omega arith
small_sum point small (t ∷ ts) =
    let here = once_size t.factor (number_at point t.column) (small t.column) in
    let rest = small_sum point small ts in
    let both = plus_size (t.factor *ℤ number_at point t.column) (sum_at point ts) in
    omega (arith, here, rest, both)

-- ---- what the terms of a row come to

module _ (g : Graph) (stands : List Stand) where
  abbrev constants : List Piece → ℤ
  constants pieces = total_by (λ (p : Piece). p.factor *ℤ (columns_of g stands p.key).constant) pieces

  abbrev sums : List ℤ → List Piece → ℤ
  sums point pieces = total_by (λ (p : Piece). p.factor *ℤ sum_at point (columns_of g stands p.key).terms) pieces

  piece_size : (f k s : ℤ) (most : ℕ) → unsigned_abs s ≤ most → unsigned_abs (f *ℤ k) + unsigned_abs (f *ℤ s) ≤ unsigned_abs f * (unsigned_abs k + most)
  piece_size f k s most le =
      let less : unsigned_abs f * unsigned_abs s ≤ unsigned_abs f * most = mul-le-mul_left (unsigned_abs f) le in
      let a = unsigned_abs-mul f k in
      let b = unsigned_abs-mul f s in
      omega (arith, less, a, b)

  pieces_size : (point : List ℤ) → IsSmall point → (pieces : List Piece)
      → unsigned_abs (constants pieces) + unsigned_abs (sums point pieces) ≤ added_by (λ (p : Piece). unsigned_abs p.factor * heft (columns_of g stands p.key)) pieces
  pieces_size point small [] = omega arith
  pieces_size point small (p ∷ pieces) =
      let k = (columns_of g stands p.key).constant in
      let s = sum_at point (columns_of g stands p.key).terms in
      let here = piece_size p.factor k s (sizes (columns_of g stands p.key).terms) (small_sum point small (columns_of g stands p.key).terms) in
      let rest = pieces_size point small pieces in
      let a = plus_size (p.factor *ℤ k) (constants pieces) in
      let b = plus_size (p.factor *ℤ s) (sums point pieces) in
      omega (arith, here, rest, a, b)

  sums_nothing : (pieces : List Piece) → sums [] pieces ≡ pos 0
  sums_nothing [] = refl
  sums_nothing (p ∷ pieces) = (λ i. p.factor *ℤ nothing_at (columns_of g stands p.key).terms i +ℤ sums_nothing pieces i) ∙ none p.factor
    where
      none : (f : ℤ) → f *ℤ pos 0 +ℤ pos 0 ≡ pos 0
      none f = omega (arith, ints)

  none_read : (s form c kd sums l : ℤ) → s ≡ form +ℤ l → form ≡ c +ℤ (kd +ℤ sums) → s ≡ pos 0 → sums ≡ pos 0 → l ≡ neg_ℤ (c +ℤ kd)
  none_read s form c kd sums l e f z w = omega (arith, ints, e, f, z, w)

  some_read : (s form c kd sums l : ℤ) → s ≡ form +ℤ l → form ≡ c +ℤ (kd +ℤ sums) → l ≡ neg_ℤ (c +ℤ kd) → s ≡ sums
  some_read s form c kd sums l e f z = omega (arith, ints, e, f, z)

  module _ (r : Form) (row : IpRow) (is : IsRowOf g stands r row) where
    form_read : (point : List ℤ) → form_at 1 (reading g stands 1 point) r ≡ r.constant *ℤ pos 1 +ℤ (constants r.pieces *ℤ pos 1 +ℤ sums point r.pieces)
    unfolding reading
    form_read point =
        ap (λ (z : ℤ). r.constant *ℤ pos 1 +ℤ z) (parted (pos 1) (λ (p : Piece). p.factor) (λ (p : Piece). (columns_of g stands p.key).constant) (λ (p : Piece). sum_at point (columns_of g stands p.key).terms) r.pieces)

    least_is : row.least *ℤ pos 1 ≡ neg_ℤ (r.constant *ℤ pos 1 +ℤ constants r.pieces *ℤ pos 1)
    least_is = none_read (sum_at [] row.terms) (form_at 1 (reading g stands 1 []) r) (r.constant *ℤ pos 1) (constants r.pieces *ℤ pos 1) (sums [] r.pieces) (row.least *ℤ pos 1)
        (is.same 1 []) (form_read []) (nothing_at row.terms) (sums_nothing r.pieces)

    sum_is : (point : List ℤ) → sum_at point row.terms ≡ sums point r.pieces
    sum_is point = some_read (sum_at point row.terms) (form_at 1 (reading g stands 1 point) r) (r.constant *ℤ pos 1) (constants r.pieces *ℤ pos 1) (sums point r.pieces) (row.least *ℤ pos 1)
        (is.same 1 point) (form_read point) least_is

    row_from : From 0 row.terms
    row_from = rises_from 0 row.terms (λ t lt. omega arith) is.formed.rising

-- what a row asks and its factors are together no larger than what its form weighs
pub row_heft : (g : Graph) (stands : List Stand) (r : Form) (row : IpRow) → IsRowOf g stands r row → unsigned_abs row.least + added_by (λ (t : Coef). unsigned_abs t.factor) row.terms ≤ weight g stands r.constant r.pieces
row_heft g stands r row is =
    let all = pieces_size g stands (signs row.terms) (signs_small row.terms) r.pieces in
    let sum : pos (sizes row.terms) ≡ sums g stands (signs row.terms) r.pieces = sym (signs_sum 0 row.terms (row_from g stands r row is)) ∙ sum_is g stands r row is (signs row.terms) in
    let size : sizes row.terms ≡ unsigned_abs (sums g stands (signs row.terms) r.pieces) = ap unsigned_abs sum in
    let least = least_size row.least r.constant (constants g stands r.pieces) (least_is g stands r row is) in
    omega (arith, all, size, least)
  where
    least_size : (l c k : ℤ) → l *ℤ pos 1 ≡ neg_ℤ (c *ℤ pos 1 +ℤ k *ℤ pos 1) → unsigned_abs l ≤ unsigned_abs c + unsigned_abs k
    least_size l c k e = omega (arith, ints, e)

-- ---- a column of a row is that of a term

all_at : {A : Type 0} (P : A → Type 0) (xs : List A) → All P xs → (x : A) → Contains xs x → P x
all_at P [] h x has = absurd (omega (arith, has.1))
all_at P (y ∷ xs) h x (zero, lt, is) = subst P is (All_head P y xs h)
all_at P (y ∷ xs) h x (suc k, lt, is) = all_at P xs (All_tail P y xs h) x (k, omega (arith, lt), is)

contains_more : {A : Type 0} (y : A) (xs : List A) (x : A) → Contains xs x → Contains (y ∷ xs) x
contains_more y xs x has = (suc has.0, omega (arith, has.1), has.2)

from_at : (n : ℕ) (ts : List Coef) → From n ts → (t : Coef) → Contains ts t → n ≤ t.column
from_at n [] h t has = absurd (omega (arith, has.1))
from_at n (u ∷ ts) h t (zero, lt, is) = subst (λ (v : Coef). n ≤ v.column) is h.0
from_at n (u ∷ ts) h t (suc k, lt, is) =
    let above = from_at (suc u.column) ts h.1 t (k, omega (arith, lt), is) in
    let first = h.0 in
    omega (arith, above, first)

-- the factor of a term that rises with others is their share at its column
share_at : (n : ℕ) (ts : List Coef) → From n ts → (t : Coef) → Contains ts t → share ts t.column ≡ t.factor
share_at n [] h t has = absurd (omega (arith, has.1))
share_at n (u ∷ ts) h t (zero, lt, is) = subst (λ (v : Coef). share (u ∷ ts) v.column ≡ v.factor) is (share_first u ts h.1)
share_at n (u ∷ ts) h t (suc k, lt, is) =
    let has : Contains ts t = (k, omega (arith, lt), is) in
    let above = from_at (suc u.column) ts h.1 t has in
    skips u.factor (number_at (unit t.column) u.column) (share ts t.column) (unit_other t.column u.column (λ e. absurd (omega (arith, above, e)))) ∙ share_at (suc u.column) ts h.1 t has

-- a term at the column, or nothing there
find_term_step : (c : ℕ) (t : Coef) (ts : List Coef) (b : Bool) → (t.column == c) ≡ b → ((u : Coef) × Contains ts u × (u.column ≡ c)) ⊎ (share ts c ≡ pos 0) → ((u : Coef) × Contains (t ∷ ts) u × (u.column ≡ c)) ⊎ (share (t ∷ ts) c ≡ pos 0)
find_term_step c t ts true e rest = inl (t, (0, omega arith, refl), (Decides-eqb t.column c).0 e)
find_term_step c t ts false e (inl found) = inl (found.0, contains_more t ts found.0 found.1, found.2)
find_term_step c t ts false e (inr none) =
    inr (skips t.factor (number_at (unit c) t.column) (share ts c) (unit_other c t.column (λ is. let no : true ≡ false = sym ((Decides-eqb t.column c).1 is) ∙ e in cc)) ∙ none)

find_term : (c : ℕ) (ts : List Coef) → ((u : Coef) × Contains ts u × (u.column ≡ c)) ⊎ (share ts c ≡ pos 0)
find_term c [] = inr refl
find_term c (t ∷ ts) = find_term_step c t ts (t.column == c) refl (find_term c ts)

module _ (g : Graph) (stands : List Stand) (c : ℕ) where
  -- a term at the column among those of the pieces
  abbrev IsNamed : List Piece → Type 0
  IsNamed pieces = (p : Piece) × Contains pieces p × (u : Coef) × Contains (columns_of g stands p.key).terms u × (u.column ≡ c)

  find_step : (p : Piece) (pieces : List Piece) → ((u : Coef) × Contains (columns_of g stands p.key).terms u × (u.column ≡ c)) ⊎ (share (columns_of g stands p.key).terms c ≡ pos 0)
      → IsNamed pieces ⊎ (sums g stands (unit c) pieces ≡ pos 0) → IsNamed (p ∷ pieces) ⊎ (sums g stands (unit c) (p ∷ pieces) ≡ pos 0)
  find_step p pieces (inl found) rest = inl (p, (0, omega arith, refl), found.0, found.1, found.2)
  find_step p pieces (inr none) (inl found) = inl (found.0, contains_more p pieces found.0 found.1, found.2, found.3, found.4)
  find_step p pieces (inr none) (inr nothing) = inr ((λ i. p.factor *ℤ none i +ℤ nothing i) ∙ no_sum p.factor)
    where
      no_sum : (f : ℤ) → f *ℤ pos 0 +ℤ pos 0 ≡ pos 0
      no_sum f = omega (arith, ints)

  find : (pieces : List Piece) → IsNamed pieces ⊎ (sums g stands (unit c) pieces ≡ pos 0)
  find [] = inr refl
  find (p ∷ pieces) = find_step p pieces (find_term c (columns_of g stands p.key).terms) (find pieces)

-- each column of a row is that of a term of a key that its form names
pub row_named : (g : Graph) (stands : List Stand) (r : Form) (row : IpRow) → IsRowOf g stands r row → (t : Coef) → Contains row.terms t
    → (p : Piece) × Contains r.pieces p × (u : Coef) × Contains (columns_of g stands p.key).terms u × (u.column ≡ t.column)
row_named g stands r row is t has = elim (find g stands t.column r.pieces) as (λ _. IsNamed g stands t.column r.pieces) [
  | inl found ↦ found
  | inr none ↦ absurd (all_at (λ (t : Coef). t.factor ≢ pos 0) row.terms is.formed.factors t has (sym (share_at 0 row.terms (row_from g stands r row is) t has) ∙ sum_is g stands r row is (unit t.column) ∙ none))
]
