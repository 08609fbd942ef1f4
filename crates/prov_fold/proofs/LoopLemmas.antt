-- The steps of loops that sum.
use Rattle.std.proofs.Common.{◌≡◌, ◌∙◌, sym, ap, ℕ, ◌+◌, ◌<◌, ◌≤◌, ℤ, pos, ◌+ℤ◌, ◌*ℤ◌, unsigned_abs, List, [], ◌∷◌, ◌++◌, length, map, drop, get_or, arith, append_assoc}
use Rattle.std.specs.List.{flat_map}
use Rattle.std.proofs.lemmas.List.Concat.{flat_map-cons}
use Rattle.prov_arena.specs.declared.part.Term.{Term}
use Rattle.prov_fold.specs.Rules.{scaled}
use Rattle.std.specs.Int.{int_min, int_max}
use Rattle.std.proofs.lemmas.Int.{ints, clamps}
use Rattle.std.proofs.lemmas.List.{drop_more}
use Rattle.prov_fold.specs.Sums.{total_by, added_by}

-- one more element of a sum
pub total_step : {A : Type 0} (f : A → ℤ) (xs : List A) (i : ℕ) (d : A) (sum step next all : ℤ) → i < length xs → step ≡ f (get_or xs i d) → next ≡ sum +ℤ step → sum +ℤ total_by f (drop i xs) ≡ all → next +ℤ total_by f (drop (i + 1) xs) ≡ all
total_step f xs i d sum step next all lt step_is next_is so_far =
    let rest : total_by f (drop i xs) ≡ f (get_or xs i d) +ℤ total_by f (drop (i + 1) xs) = ap (total_by f) (drop_more xs i d lt) in
    omega (arith, ints, rest, step_is, next_is, so_far)

pub added_step : {A : Type 0} (f : A → ℕ) (xs : List A) (i : ℕ) (d : A) → i < length xs → added_by f (drop i xs) ≡ f (get_or xs i d) + added_by f (drop (i + 1) xs)
added_step f xs i d lt = ap (added_by f) (drop_more xs i d lt)

-- the size of a sum
pub sum_small : (a b c : ℤ) → c ≡ a +ℤ b → unsigned_abs c ≤ unsigned_abs a + unsigned_abs b
sum_small a b c e = omega (arith, ints, e)

pub min_small : (a m : ℤ) → m ≡ int_min a (pos 0) → unsigned_abs m ≤ unsigned_abs a
min_small a m e = omega (arith, ints, clamps, e)

pub max_small : (a m : ℤ) → m ≡ int_max a (pos 0) → unsigned_abs m ≤ unsigned_abs a
max_small a m e = omega (arith, ints, clamps, e)

-- one more term of a list that is scaled
pub scaled_step : (k : ℤ) (terms : List Term) (i : ℕ) (d : Term) (f : ℤ) (old new all : List Term) → i < length terms → new ≡ old ++ record { factor = f; node = (get_or terms i d).node } ∷ [] → f ≡ k *ℤ (get_or terms i d).factor → old ++ scaled k (drop i terms) ≡ all → new ++ scaled k (drop (i + 1) terms) ≡ all
scaled_step k terms i d f old new all lt new_is f_is so_far =
    let rest : scaled k (drop i terms) ≡ record { factor = k *ℤ (get_or terms i d).factor; node = (get_or terms i d).node } ∷ scaled k (drop (i + 1) terms) = ap (scaled k) (drop_more terms i d lt) in
    ap (λ (ts : List Term). ts ++ scaled k (drop (i + 1) terms)) (new_is ∙ ap (λ (z : ℤ). old ++ record { factor = z; node = (get_or terms i d).node } ∷ []) f_is) ∙ append_assoc old _ _ ∙ ap (λ (ts : List Term). old ++ ts) (sym rest) ∙ so_far

-- one more part of a list whose parts are spread
pub flat_step : {A B : Type 0} (f : A → List B) (xs : List A) (i : ℕ) (d : A) (old new all : List B) → i < length xs → new ≡ old ++ f (get_or xs i d) → old ++ flat_map f (drop i xs) ≡ all → new ++ flat_map f (drop (i + 1) xs) ≡ all
flat_step f xs i d old new all lt new_is so_far =
    let rest : flat_map f (drop i xs) ≡ f (get_or xs i d) ++ flat_map f (drop (i + 1) xs) = ap (flat_map f) (drop_more xs i d lt) ∙ flat_map-cons f (get_or xs i d) (drop (i + 1) xs) in
    ap (λ ts. ts ++ flat_map f (drop (i + 1) xs)) new_is ∙ append_assoc old _ _ ∙ ap (λ ts. old ++ ts) (sym rest) ∙ so_far

-- one more element of a list that is mapped
pub map_step : {A B : Type 0} (f : A → B) (xs : List A) (i : ℕ) (d : A) (old new all : List B) (y : B) → i < length xs → new ≡ old ++ y ∷ [] → y ≡ f (get_or xs i d) → old ++ map f (drop i xs) ≡ all → new ++ map f (drop (i + 1) xs) ≡ all
map_step f xs i d old new all y lt new_is y_is so_far =
    let rest : map f (drop i xs) ≡ f (get_or xs i d) ∷ map f (drop (i + 1) xs) = ap (map f) (drop_more xs i d lt) in
    ap (λ ts. ts ++ map f (drop (i + 1) xs)) (new_is ∙ ap (λ z. old ++ z ∷ []) y_is) ∙ append_assoc old _ _ ∙ ap (λ ts. old ++ ts) (sym rest) ∙ so_far
