-- a loop that asks one item after another, and stops at the first fault
use Rattle.std.proofs.Common.{◌≡◌, ℕ, ◌+◌, ◌<◌, ◌≤◌, List, [], ◌∷◌, length, get_or, map, drop, refl, sym, ◌∙◌}
use Rattle.std.specs.Prelude.{Result, Ok, Err}
use Rattle.std.proofs.lemmas.List.{drop_more, drop_all}
use Rattle.base_kit.specs.Asking.{and_then, all_of, left}

all_of-Ok : {E A B : Type 0} (r : Result A E) (rs : List (Result A E)) (n : A) (goes : List A → Result B E) → r ≡ Ok n → and_then (all_of (r ∷ rs)) goes ≡ and_then (all_of rs) (λ ns. goes (n ∷ ns))
all_of-Ok {E} {A} {B} r rs n goes e = rw e (elim (all_of rs) as (λ a. and_then {A = List A} (and_then a (λ ns. Ok (n ∷ ns))) goes ≡ and_then a (λ ns. goes (n ∷ ns))) [ Ok ns ↦ refl | Err w ↦ refl ])

module _ {E X A B : Type 0} (f : X → Result A E) (xs : List X) where
  -- from the first item on, all are left
  pub left-all : (goes : List A → Result B E) → left f xs 0 goes ≡ and_then (all_of (map f xs)) goes
  unfolding left
  left-all goes = refl

  -- an answer is put before those that follow
  pub left-Ok : (i : ℕ) (goes : List A → Result B E) (x : X) (n : A) → i < length xs → x ≡ get_or xs i x → f x ≡ Ok n → left f xs i goes ≡ left f xs (i + 1) (λ ns. goes (n ∷ ns))
  unfolding left
  left-Ok i goes x n lt is e = rw (drop_more xs i x lt, ← is) (all_of-Ok (f x) (map f (drop (i + 1) xs)) n goes e)

  -- past the last item, nothing is left
  pub left-end : (i : ℕ) (goes : List A → Result B E) → length xs ≤ i → left f xs i goes ≡ goes []
  unfolding left
  left-end i goes le = rw (drop_all i xs le)

  -- the exit of `?`
  pub left_err : (i : ℕ) (goes : List A → Result B E) (x : X) (w : E) (r : Result B E) → i < length xs → x ≡ get_or xs i x → f x ≡ Err w → left f xs i goes ≡ r → Err w ≡ r
  unfolding left
  left_err i goes x w r lt is e h = sym (rw (drop_more xs i x lt, ← is, e)) ∙ h

  -- one iteration of the loop
  pub left_step : (i : ℕ) (goes more : List A → Result B E) (x : X) (n : A) (r : Result B E) → i < length xs → x ≡ get_or xs i x → f x ≡ Ok n → ((ns : List A) → goes (n ∷ ns) ≡ more ns) → left f xs i goes ≡ r → left f xs (i + 1) more ≡ r
  unfolding left
  left_step i goes more x n r lt is e same h =
      sym (left-Ok i goes x n lt is e ∙ elim (all_of (map f (drop (i + 1) xs))) as (λ a. and_then a (λ ns. goes (n ∷ ns)) ≡ and_then a more) [ Ok ns ↦ same ns | Err w ↦ refl ]) ∙ h

  -- the end of the loop
  pub left_end : (i : ℕ) (goes : List A → Result B E) (last r : Result B E) → length xs ≤ i → goes [] ≡ last → left f xs i goes ≡ r → last ≡ r
  left_end i goes last r le e h = sym e ∙ sym (left-end i goes le) ∙ h
