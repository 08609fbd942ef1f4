-- Lists of pairs without repeats.
use Rattle.std.proofs.Common.{◌≡◌, ◌≢◌, ◌∙◌, sym, ap, refl, ℕ, ◌+◌, ◌<◌, Bool, true, false, cond, not, ◌&&◌, ◌||◌, ◌==◌, nat_eq, List, [], ◌∷◌, ◌++◌, length, take, get_or, filter, All}
use Rattle.std.specs.List.{list_any}
use Rattle.std.proofs.lemmas.List.{take_more}
use Rattle.std.proofs.lemmas.List.Elements.{filter-append, All-filter}
use Rattle.std.proofs.lemmas.Bool.Decides.{Decides-eqb}
use Rattle.prov_arena.specs.declared.part.Pair.{Pair}
use Rattle.prov_fold.specs.Rules.{first_pairs, pairs_left, is_same_pair}
use Rattle.prov_fold.proofs.SameLemmas.{All_head, All_tail, All_cons}
use Rattle.prov_fold.proofs.ListLemmas.{eqb_comm}

pair_comm : (p q : Pair) → is_same_pair p q ≡ is_same_pair q p
pair_comm p q = λ i. eqb_comm p.truth q.truth i && eqb_comm p.number q.number i

append_nil : (ys : List Pair) → ys ++ [] ≡ ys
append_nil [] = refl
append_nil (y ∷ ys) = ap (λ zs. y ∷ zs) (append_nil ys)

filter_one : (p : Pair → Bool) (k : Pair) (b : Bool) → p k ≡ b → filter p (k ∷ []) ≡ cond b (k ∷ []) []
filter_one p k b e = ap (λ c. cond c (k ∷ []) []) e

or_cond : (a b : Bool) → (a || b) ≡ cond a true b
or_cond true b = refl
or_cond false b = refl

or_in : (a b r : Bool) → (a || cond b true r) ≡ cond b true (a || r)
or_in true true r = refl
or_in true false r = refl
or_in false true r = refl
or_in false false r = refl

first_pairs_step : (x k : Pair) (xs : List Pair) (a b : Bool) → is_same_pair k x ≡ a → list_any (is_same_pair k) xs ≡ b → first_pairs (xs ++ k ∷ []) ≡ cond b (first_pairs xs) (first_pairs xs ++ k ∷ [])
    → first_pairs (x ∷ (xs ++ k ∷ [])) ≡ cond (a || b) (first_pairs (x ∷ xs)) (first_pairs (x ∷ xs) ++ k ∷ [])
first_pairs_step x k xs true true e h ih = ap (λ ys. x ∷ filter (λ y. not (is_same_pair y x)) ys) ih
first_pairs_step x k xs false true e h ih = ap (λ ys. x ∷ filter (λ y. not (is_same_pair y x)) ys) ih
first_pairs_step x k xs true false e h ih =
    ap (λ ys. x ∷ filter (λ y. not (is_same_pair y x)) ys) ih
    ∙ ap (λ ys. x ∷ ys) (filter-append (λ y. not (is_same_pair y x)) (first_pairs xs) (k ∷ []) ∙ ap (λ zs. filter (λ y. not (is_same_pair y x)) (first_pairs xs) ++ zs) (filter_one (λ y. not (is_same_pair y x)) k false (ap not e)) ∙ append_nil (filter (λ y. not (is_same_pair y x)) (first_pairs xs)))
first_pairs_step x k xs false false e h ih =
    ap (λ ys. x ∷ filter (λ y. not (is_same_pair y x)) ys) ih
    ∙ ap (λ ys. x ∷ ys) (filter-append (λ y. not (is_same_pair y x)) (first_pairs xs) (k ∷ []) ∙ ap (λ zs. filter (λ y. not (is_same_pair y x)) (first_pairs xs) ++ zs) (filter_one (λ y. not (is_same_pair y x)) k true (ap not e)))

-- one more number is kept where it did not come before
pub first_pairs_more : (k : Pair) (xs : List Pair) → first_pairs (xs ++ k ∷ []) ≡ cond (list_any (is_same_pair k) xs) (first_pairs xs) (first_pairs xs ++ k ∷ [])
first_pairs_more k [] = refl
first_pairs_more k (x ∷ xs) = first_pairs_step x k xs (is_same_pair k x) (list_any (is_same_pair k) xs) refl refl (first_pairs_more k xs)

All-first_pairs : (P : Pair → Type 0) (xs : List Pair) → All P xs → All P (first_pairs xs)
All-first_pairs P [] h = h
All-first_pairs P (x ∷ xs) h = All_cons P x (filter (λ y. not (is_same_pair y x)) (first_pairs xs)) (All_head P x xs h) (All-filter (λ y. not (is_same_pair y x)) P (first_pairs xs) (All-first_pairs P xs (All_tail P x xs h)))

-- what is left of pairs was among them
pub All-pairs_left : (P : Pair → Type 0) (xs : List Pair) → All P xs → All P (pairs_left xs)
All-pairs_left P xs h = All-first_pairs P (filter (λ (p : Pair). not (p.truth == 0)) xs) (All-filter (λ (p : Pair). not (p.truth == 0)) P xs h)

abbrev pub holds_some : Pair → Bool
holds_some p = not (p.truth == 0)

eqb_false : (x y : ℕ) (b : Bool) → nat_eq x y ≡ b → x ≢ y → nat_eq x y ≡ false
eqb_false x y true e other = absurd (other ((Decides-eqb x y).0 e))
eqb_false x y false e other = e

any_push : (q k : Pair) (xs : List Pair) → list_any (is_same_pair q) (xs ++ k ∷ []) ≡ cond (is_same_pair k q) true (list_any (is_same_pair q) xs)
any_push q k [] = ap (λ b. b || false) (pair_comm q k) ∙ or_cond (is_same_pair k q) false
any_push q k (x ∷ xs) = ap (λ b. is_same_pair q x || b) (any_push q k xs) ∙ or_in (is_same_pair q x) (is_same_pair k q) (list_any (is_same_pair q) xs)

abbrev blank : Pair
blank = record { truth = 0; number = 0 }

module _ (pairs : List Pair) (i : ℕ) (lt : i < length pairs) where
  pub skipped : (get_or pairs i blank).truth ≡ 0 → filter holds_some (take (i + 1) pairs) ≡ filter holds_some (take i pairs)
  skipped is =
      ap (filter holds_some) (take_more pairs i blank lt) ∙ filter-append holds_some (take i pairs) (get_or pairs i blank ∷ [])
      ∙ ap (λ ys. filter holds_some (take i pairs) ++ ys) (filter_one holds_some (get_or pairs i blank) false (ap not ((Decides-eqb (get_or pairs i blank).truth 0).1 is))) ∙ append_nil (filter holds_some (take i pairs))

  held : (get_or pairs i blank).truth ≢ 0 → filter holds_some (take (i + 1) pairs) ≡ filter holds_some (take i pairs) ++ get_or pairs i blank ∷ []
  held other =
      ap (filter holds_some) (take_more pairs i blank lt) ∙ filter-append holds_some (take i pairs) (get_or pairs i blank ∷ [])
      ∙ ap (λ ys. filter holds_some (take i pairs) ++ ys) (filter_one holds_some (get_or pairs i blank) true (ap not (eqb_false (get_or pairs i blank).truth 0 (nat_eq (get_or pairs i blank).truth 0) refl other)))

  pub held_firsts : (some some' : List Pair) (known : Bool) → (get_or pairs i blank).truth ≢ 0 → some ≡ first_pairs (filter holds_some (take i pairs))
      → known ≡ list_any (is_same_pair (get_or pairs i blank)) (filter holds_some (take i pairs)) → some' ≡ cond known some (some ++ get_or pairs i blank ∷ [])
      → some' ≡ first_pairs (filter holds_some (take (i + 1) pairs))
  held_firsts some some' known other some_is known_is e =
      e ∙ (λ j. cond (known_is j) (some_is j) (some_is j ++ get_or pairs i blank ∷ [])) ∙ sym (first_pairs_more (get_or pairs i blank) (filter holds_some (take i pairs))) ∙ ap first_pairs (sym (held other))

  pub held_any : (q : Pair) (known : Bool) → (get_or pairs i blank).truth ≢ 0 → known ≡ list_any (is_same_pair q) (filter holds_some (take i pairs))
      → cond (is_same_pair (get_or pairs i blank) q) true known ≡ list_any (is_same_pair q) (filter holds_some (take (i + 1) pairs))
  held_any q known other known_is =
      ap (cond (is_same_pair (get_or pairs i blank) q) true) known_is ∙ sym (any_push q (get_or pairs i blank) (filter holds_some (take i pairs))) ∙ ap (list_any (is_same_pair q)) (sym (held other))
