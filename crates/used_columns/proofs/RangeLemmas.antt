-- Going over the places of a list, with what is still to come.
use Rattle.std.proofs.Common.{◌≡◌, ◌∙◌, sym, ap, ℕ, suc, ◌+◌, ◌-◌, ◌<◌, ◌≤◌, List, [], ◌∷◌, ◌++◌, length, map, arith}
use Rattle.std.specs.List.{flat_map, range_with_len}
use Rattle.std.proofs.lemmas.List.FromFn.{map-range_with_len_more}
use Rattle.std.proofs.lemmas.List.{append_assoc, append-nil, length-append}

pub range_more : (a n : ℕ) → a < n → range_with_len a (n - a) ≡ a ∷ range_with_len (a + 1) (n - (a + 1))
range_more a n lt = let e : n - a ≡ suc (n - (a + 1)) = omega arith in ap (range_with_len a) e

pub range_none : (a n : ℕ) → n ≤ a → range_with_len a (n - a) ≡ []
range_none a n le = let e : n - a ≡ 0 = omega arith in ap (range_with_len a) e

module _ {X : Type 0} (f : ℕ → List X) (n : ℕ) where
  -- what the places from a on give
  abbrev pub from : ℕ → List X
  from a = flat_map f (range_with_len a (n - a))

  pub count_more : (a count next total : ℕ) → a < n → next ≡ count + length (f a) → count + length (from a) ≡ total → next + length (from (a + 1)) ≡ total
  count_more a count next total lt is e =
      let here : length (from a) ≡ length (f a ++ from (a + 1)) = ap (λ xs. length (flat_map f xs)) (range_more a n lt) in
      let both : length (f a ++ from (a + 1)) ≡ length (f a) + length (from (a + 1)) = length-append (f a) (from (a + 1)) in
      omega (arith, here, both, is, e)

  pub list_more : (a : ℕ) (made next all : List X) → a < n → next ≡ made ++ f a → made ++ from a ≡ all → next ++ from (a + 1) ≡ all
  list_more a made next all lt is e = ap (λ xs. xs ++ from (a + 1)) is ∙ append_assoc made (f a) (from (a + 1)) ∙ sym (ap (λ xs. made ++ flat_map f xs) (range_more a n lt)) ∙ e

  pub list_end : (a : ℕ) (made all : List X) → n ≤ a → made ++ from a ≡ all → made ≡ all
  list_end a made all le e = sym (append-nil made) ∙ sym (ap (λ xs. made ++ flat_map f xs) (range_none a n le)) ∙ e

  pub count_end : (a count total : ℕ) → n ≤ a → count + length (from a) ≡ total → count ≡ total
  count_end a count total le e =
      let none : length (from a) ≡ 0 = ap (λ xs. length (flat_map f xs)) (range_none a n le) in
      omega (arith, none, e)

-- what the places up to n give, one each
pub map_more : {X : Type 0} (f : ℕ → X) (n : ℕ) (before made next : List X) → next ≡ made ++ f n ∷ [] → made ≡ before ++ map f (range_with_len 0 n) → next ≡ before ++ map f (range_with_len 0 (n + 1))
map_more f n before made next is e =
    is ∙ ap (λ xs. xs ++ f n ∷ []) e ∙ append_assoc before (map f (range_with_len 0 n)) (f n ∷ []) ∙ sym (ap (λ xs. before ++ xs) (map-range_with_len_more f 0 n n (omega arith)))
