-- a search through the names of relations, one by one
use Rattle.std.proofs.Common.{◌≡◌, ◌≢◌, ◌<◌, ◌≤◌, ◌+◌, ℕ, List, [], Option, Some, None, length, map, get_or, sym, ◌∙◌, subst, ap, arith, ◌⊎◌, inl, inr}
use Rattle.std.proofs.lemmas.List.{get_or-map, length-map}
use Rattle.std.proofs.lemmas.Bool.{cases_lt}
use Rattle.std.proofs.lemmas.Option.{none-some}
use Rattle.tiql_query.specs.Names.{NoneBefore, HasNone, IsFirst}

pub none_before_none : (name : List ℕ) (names : List (List ℕ)) → NoneBefore name names 0
unfolding NoneBefore
none_before_none name names k lt = omega arith

module _ {X : Type 0} (f : X → List ℕ) (name : List ℕ) (xs : List X) where
  pub this_name : (i : ℕ) (x : X) → i < length xs → x ≡ get_or xs i x → get_or (map f xs) i [] ≡ f x
  this_name i x lt is = get_or-map f xs i x [] lt ∙ ap f (sym is)

  pub first_here : (i number : ℕ) (x : X) → number ≡ i → i < length xs → x ≡ get_or xs i x → f x ≡ name → NoneBefore name (map f xs) i → IsFirst name (map f xs) number
  first_here i number x at lt is same none =
      subst (IsFirst name (map f xs)) (sym at) (record { there = subst (λ n. i < n) (sym (length-map xs f)) lt; named = this_name i x lt is ∙ same; first = none })

  pub none_here : (i : ℕ) (x : X) → i < length xs → x ≡ get_or xs i x → f x ≢ name → NoneBefore name (map f xs) i → NoneBefore name (map f xs) (i + 1)
  unfolding NoneBefore
  none_here i x lt is other none k le = by_cases (cases_lt k i)
    where
      by_cases : (k < i) ⊎ (i ≤ k) → get_or (map f xs) k [] ≢ name
      by_cases (inl before) = none k before
      by_cases (inr after) = λ same. other (sym (this_name i x lt is) ∙ ap (λ n. get_or (map f xs) n []) (let e : i ≡ k = omega arith in e) ∙ same)

  pub none_at_all : (i : ℕ) → length xs ≤ i → NoneBefore name (map f xs) i → HasNone name (map f xs)
  unfolding NoneBefore HasNone
  none_at_all i le none k lt = none k (let e : length (map f xs) ≡ length xs = length-map xs f in omega (arith, e))

  pub not_none : (i number : ℕ) (x : X) → i < length xs → x ≡ get_or xs i x → f x ≡ name → (Some number ≡ None → HasNone name (map f xs)) × (HasNone name (map f xs) → Some number ≡ None)
  unfolding NoneBefore HasNone
  not_none i number x lt is same = (
    (λ e. absurd (none-some number (sym e))),
    (λ none. absurd (none i (subst (λ n. i < n) (sym (length-map xs f)) lt) (this_name i x lt is ∙ same))),
  )

  pub both_none : (r : Option ℕ) (i : ℕ) → r ≡ None → length xs ≤ i → NoneBefore name (map f xs) i → (r ≡ None → HasNone name (map f xs)) × (HasNone name (map f xs) → r ≡ None)
  both_none r i e le none = ((λ is. none_at_all i le none), (λ is. e))

-- where the count of 32 bits ends, no relation is left
pub none_left : {number i all : ℕ} → all ≤ 4294967296 → number ≡ i → (number + 1 < 4294967296 → ⊥) → all ≤ i + 1
none_left {number} {i} {all} few at full = by_cases (cases_lt (number + 1) 4294967296)
  where
    by_cases : ((number + 1 < 4294967296) ⊎ (4294967296 ≤ number + 1)) → all ≤ i + 1
    by_cases (inl more) = absurd (full more)
    by_cases (inr none) = omega arith
