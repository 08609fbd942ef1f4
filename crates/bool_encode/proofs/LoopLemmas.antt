-- Steps of loops.
use Rattle.std.proofs.Common.{◌≡◌, ◌∙◌, sym, ap, subst, ℕ, suc, ◌+◌, ◌*◌, ◌<◌, ◌≤◌, ◌^◌, ℤ, pos, ◌+ℤ◌, ◌*ℤ◌, unsigned_abs, List, [], ◌∷◌, ◌++◌, map, flat_map, length, take, drop, get_or, FitsSigned, to_z, of_z, All, arith, refl}
use Rattle.std.specs.Int.{w128}
use Rattle.std.proofs.lemmas.Int.{ints, unsigned_abs-mul, fits_signed_from_abs, to_z-of_z}
use Rattle.std.proofs.lemmas.List.{drop_more, drop_all, take_more, take_all}
use Rattle.ip_rows.specs.declared.rows.IpRow.{IpRow}
use Rattle.prov_arena.specs.declared.part.Term.{Term}
use Rattle.prov_arena.specs.declared.part.Pair.{Pair}
use Rattle.prov_fold.proofs.SameLemmas.{All_cons}
use Rattle.prov_fold.specs.Graphs.{Graph}
use Rattle.prov_fold.specs.Sums.{total_by, added_by}
use Rattle.bool_encode.specs.declared.stand.Stand.{Stand}
use Rattle.bool_encode.specs.Forms.{Form}
use Rattle.bool_encode.specs.Columns.{coef, column_at}
use Rattle.bool_encode.specs.Rows.{IsRowOf, AreRows}
use Rattle.bool_encode.specs.Scraps.{scaled}
use Rattle.bool_encode.proofs.Each.{All_none, All_change, All_of_map}
use Rattle.bool_encode.proofs.RowLemmas.{rows_push}

-- terms as columns, times a factor, at once
pub scaled_map : (g : Graph) (stands : List Stand) (k : ℤ) (terms : List Term) → scaled k (map (λ (t : Term). coef t.factor (column_at g stands t.node)) terms) ≡ map (λ (t : Term). coef (k *ℤ t.factor) (column_at g stands t.node)) terms
scaled_map g stands k [] = refl
scaled_map g stands k (t ∷ terms) = ap (λ ts. coef (k *ℤ t.factor) (column_at g stands t.node) ∷ ts) (scaled_map g stands k terms)

map_push : {A B : Type 0} (f : A → B) (xs : List A) (i : ℕ) (d : A) → i < length xs → map f (take (i + 1) xs) ≡ map f (take i xs) ++ f (get_or xs i d) ∷ []
map_push f xs i d lt = ap (map f) (take_more xs i d lt) ∙ map_append f (take i xs) (get_or xs i d)
  where
    map_append : {A B : Type 0} (f : A → B) (xs : List A) (x : A) → map f (xs ++ x ∷ []) ≡ map f xs ++ f x ∷ []
    map_append f [] x = refl
    map_append f (y ∷ xs) x = ap (λ ys. f y ∷ ys) (map_append f xs x)

-- the places that a number's terms name
pub terms_below : (id n : ℕ) (terms : List Term) → id < n → All (λ k. k < id) (map (λ (t : Term). t.node) terms) → All (λ (t : Term). t.node < n) terms
terms_below id n terms lt h = All_change (λ (t : Term). t.node < id) (λ (t : Term). t.node < n) terms (λ t less. omega (arith, less, lt)) (All_of_map (λ k. k < id) (λ (t : Term). t.node) terms h)

-- and those that the pairs of a least number name
pub pairs_below : (id n : ℕ) (pairs : List Pair) → id < n → All (λ k. k < id) (flat_map (λ (p : Pair). p.truth ∷ p.number ∷ []) pairs) → All (λ (p : Pair). (p.truth < n) × (p.number < n)) pairs
pairs_below id n [] lt h = All_none (λ (p : Pair). (p.truth < n) × (p.number < n))
pairs_below id n (p ∷ ps) lt h =
    let a = h 0 0 (omega arith) in
    let b = h 1 0 (omega arith) in
    All_cons (λ (p : Pair). (p.truth < n) × (p.number < n)) p ps (omega (arith, a, lt), omega (arith, b, lt)) (pairs_below id n ps lt (λ j d less. h (suc (suc j)) d (omega (arith, less))))

-- one more row of a list of kids
pub rows_more : (g : Graph) (stands : List Stand) (f : ℕ → Form) (kids : List ℕ) (i : ℕ) (rows more : List IpRow) (row : IpRow) → i < length kids → AreRows g stands (map f (take i kids)) rows → IsRowOf g stands (f (get_or kids i 0)) row → more ≡ rows ++ row ∷ []
    → AreRows g stands (map f (take (i + 1) kids)) more
rows_more g stands f kids i rows more row lt are is e =
    subst (λ (rs : List IpRow). AreRows g stands (map f (take (i + 1) kids)) rs) (sym e)
    (subst (λ (fs : List Form). AreRows g stands fs (rows ++ row ∷ [])) (sym (map_push f kids i 0 lt)) (rows_push g stands (map f (take i kids)) rows (f (get_or kids i 0)) row are is))

pub rows_all : (g : Graph) (stands : List Stand) (f : ℕ → Form) (kids : List ℕ) (i : ℕ) (rows : List IpRow) → length kids ≤ i → AreRows g stands (map f (take i kids)) rows → AreRows g stands (map f kids) rows
rows_all g stands f kids i rows le are = subst (λ (ks : List ℕ). AreRows g stands (map f ks) rows) (take_all i kids le) are

-- ---- a sum on the way

pub record IsOnTheWay {A : Type 0} (f k : A → ℤ) (c : ℤ) (xs : List A) (i : ℕ) (sum : ℤ) : Type 0 where
  pub whole : sum +ℤ total_by (λ x. f x *ℤ k x) (drop i xs) ≡ c +ℤ total_by (λ x. f x *ℤ k x) xs
  pub small : unsigned_abs sum + added_by (λ x. unsigned_abs (f x) * unsigned_abs (k x)) (drop i xs) < 2 ^ 63

sum_whole : (sum part rest next all : ℤ) → next ≡ sum +ℤ part → sum +ℤ (part +ℤ rest) ≡ all → next +ℤ rest ≡ all
sum_whole sum part rest next all e h = omega (arith, ints, e, h)

sum_small : (sum part next : ℤ) (rest p : ℕ) → next ≡ sum +ℤ part → unsigned_abs part ≡ p → unsigned_abs sum + (p + rest) < 2 ^ 63 → unsigned_abs next + rest < 2 ^ 63
sum_small sum part next rest p e s h = omega (arith, ints, e, s, h)

part_fits : (sum part : ℤ) (rest p : ℕ) → unsigned_abs part ≡ p → unsigned_abs sum + (p + rest) < 2 ^ 63 → unsigned_abs (sum +ℤ part) < 2 ^ 63
part_fits sum part rest p s h = omega (arith, ints, s, h)

module _ {A : Type 0} (f k : A → ℤ) (c : ℤ) (xs : List A) where
  pub way_begins : unsigned_abs c + added_by (λ x. unsigned_abs (f x) * unsigned_abs (k x)) xs < 2 ^ 63 → IsOnTheWay f k c xs 0 c
  way_begins h = record { whole = refl; small = h }

  module _ (i : ℕ) (d : A) (sum part : ℤ) (lt : i < length xs) (is : part ≡ f (get_or xs i d) *ℤ k (get_or xs i d)) (way : IsOnTheWay f k c xs i sum) where
    size_is : unsigned_abs part ≡ unsigned_abs (f (get_or xs i d)) * unsigned_abs (k (get_or xs i d))
    size_is = ap unsigned_abs is ∙ unsigned_abs-mul (f (get_or xs i d)) (k (get_or xs i d))

    small_at : unsigned_abs sum + (unsigned_abs (f (get_or xs i d)) * unsigned_abs (k (get_or xs i d)) + added_by (λ x. unsigned_abs (f x) * unsigned_abs (k x)) (drop (i + 1) xs)) < 2 ^ 63
    small_at = subst (λ (ys : List A). unsigned_abs sum + added_by (λ x. unsigned_abs (f x) * unsigned_abs (k x)) ys < 2 ^ 63) (drop_more xs i d lt) way.small

    pub way_fits : unsigned_abs (sum +ℤ part) < 2 ^ 63
    way_fits = part_fits sum part _ _ size_is small_at

    pub way_goes_on : (next : ℤ) → next ≡ sum +ℤ part → IsOnTheWay f k c xs (i + 1) next
    way_goes_on next e = record {
      whole = sum_whole sum part _ next _ e (ap (λ (y : ℤ). sum +ℤ (y +ℤ total_by (λ x. f x *ℤ k x) (drop (i + 1) xs))) is ∙ subst (λ (ys : List A). sum +ℤ total_by (λ x. f x *ℤ k x) ys ≡ c +ℤ total_by (λ x. f x *ℤ k x) xs) (drop_more xs i d lt) way.whole);
      small = sum_small sum part next _ _ e size_is small_at;
    }

    -- the next sum as it stands in 128 bits
    pub way_next : FitsSigned w128 part → IsOnTheWay f k c xs (i + 1) (to_z w128 (of_z w128 (sum +ℤ to_z w128 (of_z w128 part))))
    way_next fits =
        let same : to_z w128 (of_z w128 part) ≡ part = to_z-of_z w128 part fits in
        let small = way_fits in
        let whole : FitsSigned w128 (sum +ℤ part) = fits_signed_from_abs w128 (sum +ℤ part) (omega (arith, small)) in
        way_goes_on (to_z w128 (of_z w128 (sum +ℤ to_z w128 (of_z w128 part)))) (ap (λ (n : ℤ). to_z w128 (of_z w128 (sum +ℤ n))) same ∙ to_z-of_z w128 (sum +ℤ part) whole)

  zero_end : (sum all : ℤ) → sum +ℤ pos 0 ≡ all → sum ≡ all
  zero_end sum all e = omega (arith, ints, e)

  pub way_ends : (i : ℕ) (sum : ℤ) → length xs ≤ i → IsOnTheWay f k c xs i sum → (sum ≡ c +ℤ total_by (λ x. f x *ℤ k x) xs) × (unsigned_abs sum < 2 ^ 63)
  way_ends i sum le way = (
    zero_end sum _ (subst (λ (ys : List A). sum +ℤ total_by (λ x. f x *ℤ k x) ys ≡ c +ℤ total_by (λ x. f x *ℤ k x) xs) (drop_all i xs le) way.whole),
    let s = way.small in omega (arith, s),
  )
