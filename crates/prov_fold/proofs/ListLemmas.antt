-- Lists without repeats.
use Rattle.std.proofs.Common.{◌≡◌, ◌≢◌, ◌∙◌, sym, ap, refl, ℕ, ◌+◌, ◌<◌, Bool, true, false, cond, not, ◌||◌, ◌==◌, nat_eq, List, [], ◌∷◌, ◌++◌, length, take, get_or, filter, All, Ok}
use Rattle.std.specs.List.{list_any}
use Rattle.std.proofs.lemmas.List.{take_more}
use Rattle.std.proofs.lemmas.List.Elements.{filter-append}
use Rattle.std.proofs.lemmas.Bool.Decides.{Decides-eqb}
use Rattle.prov_fold.specs.Rules.{Made, Rule, given, firsts, left, list_by, list_of}
use Rattle.prov_fold.specs.Graphs.{Graph}
use Rattle.prov_arena.specs.Formulas.{Formula}
use Rattle.prov_fold.proofs.SameLemmas.{All_head, All_tail, All_cons}

-- the test of equal numbers, both ways
eqb_other : (x y : ℕ) (b : Bool) → nat_eq x y ≡ false → nat_eq y x ≡ b → nat_eq y x ≡ false
eqb_other x y true e h = let no : true ≡ false = sym ((Decides-eqb x y).1 (sym ((Decides-eqb y x).0 h))) ∙ e in cc
eqb_other x y false e h = h

eqb_flips : (x y : ℕ) (b : Bool) → nat_eq x y ≡ b → nat_eq y x ≡ b
eqb_flips x y true e = (Decides-eqb y x).1 (sym ((Decides-eqb x y).0 e))
eqb_flips x y false e = eqb_other x y (nat_eq y x) e refl

pub eqb_comm : (x y : ℕ) → nat_eq x y ≡ nat_eq y x
eqb_comm x y = sym (eqb_flips x y (nat_eq x y) refl)

-- filtering a list of one
filter_one : (p : ℕ → Bool) (k : ℕ) (b : Bool) → p k ≡ b → filter p (k ∷ []) ≡ cond b (k ∷ []) []
filter_one p k b e = ap (λ c. cond c (k ∷ []) []) e

append_nil : (ys : List ℕ) → ys ++ [] ≡ ys
append_nil [] = refl
append_nil (y ∷ ys) = ap (λ zs. y ∷ zs) (append_nil ys)

firsts_step : (x k : ℕ) (xs : List ℕ) (a b : Bool) → nat_eq k x ≡ a → list_any (nat_eq k) xs ≡ b → firsts (xs ++ k ∷ []) ≡ cond b (firsts xs) (firsts xs ++ k ∷ [])
    → firsts (x ∷ (xs ++ k ∷ [])) ≡ cond (a || b) (firsts (x ∷ xs)) (firsts (x ∷ xs) ++ k ∷ [])
firsts_step x k xs true true e h ih = ap (λ ys. x ∷ filter (λ y. not (y == x)) ys) ih
firsts_step x k xs false true e h ih = ap (λ ys. x ∷ filter (λ y. not (y == x)) ys) ih
firsts_step x k xs true false e h ih =
    ap (λ ys. x ∷ filter (λ y. not (y == x)) ys) ih
    ∙ ap (λ ys. x ∷ ys) (filter-append (λ y. not (y == x)) (firsts xs) (k ∷ []) ∙ ap (λ zs. filter (λ y. not (y == x)) (firsts xs) ++ zs) (filter_one (λ y. not (y == x)) k false (ap not e)) ∙ append_nil (filter (λ y. not (y == x)) (firsts xs)))
firsts_step x k xs false false e h ih =
    ap (λ ys. x ∷ filter (λ y. not (y == x)) ys) ih
    ∙ ap (λ ys. x ∷ ys) (filter-append (λ y. not (y == x)) (firsts xs) (k ∷ []) ∙ ap (λ zs. filter (λ y. not (y == x)) (firsts xs) ++ zs) (filter_one (λ y. not (y == x)) k true (ap not e)))

-- one more number is kept where it did not come before
pub firsts_more : (k : ℕ) (xs : List ℕ) → firsts (xs ++ k ∷ []) ≡ cond (list_any (nat_eq k) xs) (firsts xs) (firsts xs ++ k ∷ [])
firsts_more k [] = refl
firsts_more k (x ∷ xs) = firsts_step x k xs (nat_eq k x) (list_any (nat_eq k) xs) refl refl (firsts_more k xs)

filter_all : (P : ℕ → Type 0) (p : ℕ → Bool) (x : ℕ) (xs : List ℕ) (b : Bool) → P x → All P xs → All P (cond b (x ∷ xs) xs)
filter_all P p x xs true h r = All_cons P x xs h r
filter_all P p x xs false h r = r

All-kept : (P : ℕ → Type 0) (p : ℕ → Bool) (xs : List ℕ) → All P xs → All P (filter p xs)
All-kept P p [] h = h
All-kept P p (x ∷ xs) h = filter_all P p x (filter p xs) (p x) (All_head P x xs h) (All-kept P p xs (All_tail P x xs h))

All-firsts : (P : ℕ → Type 0) (xs : List ℕ) → All P xs → All P (firsts xs)
All-firsts P [] h = h
All-firsts P (x ∷ xs) h = All_cons P x (filter (λ y. not (y == x)) (firsts xs)) (All_head P x xs h) (All-kept P (λ y. not (y == x)) (firsts xs) (All-firsts P xs (All_tail P x xs h)))

-- what is left of a list was in it
pub All-left : (P : ℕ → Type 0) (unit : ℕ) (xs : List ℕ) → All P xs → All P (left unit xs)
All-left P unit xs h = All-firsts P (filter (λ kid. not (kid == unit)) xs) (All-kept P (λ kid. not (kid == unit)) xs h)

-- ---- the step of the loop

skip_step : (unit k : ℕ) (xs : List ℕ) → k ≡ unit → filter (λ kid. not (kid == unit)) (xs ++ k ∷ []) ≡ filter (λ kid. not (kid == unit)) xs
skip_step unit k xs is =
    filter-append (λ kid. not (kid == unit)) xs (k ∷ []) ∙ ap (λ ys. filter (λ kid. not (kid == unit)) xs ++ ys) (filter_one (λ kid. not (kid == unit)) k false (ap not ((Decides-eqb k unit).1 is))) ∙ append_nil (filter (λ kid. not (kid == unit)) xs)

eqb_false : (x y : ℕ) (b : Bool) → nat_eq x y ≡ b → x ≢ y → nat_eq x y ≡ false
eqb_false x y true e other = absurd (other ((Decides-eqb x y).0 e))
eqb_false x y false e other = e

keep_step : (unit k : ℕ) (xs : List ℕ) → k ≢ unit → filter (λ kid. not (kid == unit)) (xs ++ k ∷ []) ≡ filter (λ kid. not (kid == unit)) xs ++ k ∷ []
keep_step unit k xs other =
    filter-append (λ kid. not (kid == unit)) xs (k ∷ []) ∙ ap (λ ys. filter (λ kid. not (kid == unit)) xs ++ ys) (filter_one (λ kid. not (kid == unit)) k true (ap not (eqb_false k unit (nat_eq k unit) refl other)))

or_cond : (a b : Bool) → (a || b) ≡ cond a true b
or_cond true b = refl
or_cond false b = refl

or_in : (a b r : Bool) → (a || cond b true r) ≡ cond b true (a || r)
or_in true true r = refl
or_in true false r = refl
or_in false true r = refl
or_in false false r = refl

any_push : (q k : ℕ) (xs : List ℕ) → list_any (nat_eq q) (xs ++ k ∷ []) ≡ cond (nat_eq k q) true (list_any (nat_eq q) xs)
any_push q k [] = ap (λ b. b || false) (eqb_comm q k) ∙ or_cond (nat_eq k q) false
any_push q k (x ∷ xs) = ap (λ b. nat_eq q x || b) (any_push q k xs) ∙ or_in (nat_eq q x) (nat_eq k q) (list_any (nat_eq q) xs)

module _ (unit : ℕ) (kids : List ℕ) (i : ℕ) (lt : i < length kids) where
  pub skipped : get_or kids i 0 ≡ unit → filter (λ kid. not (kid == unit)) (take (i + 1) kids) ≡ filter (λ kid. not (kid == unit)) (take i kids)
  skipped is = ap (filter (λ kid. not (kid == unit))) (take_more kids i 0 lt) ∙ skip_step unit (get_or kids i 0) (take i kids) is

  held : get_or kids i 0 ≢ unit → filter (λ kid. not (kid == unit)) (take (i + 1) kids) ≡ filter (λ kid. not (kid == unit)) (take i kids) ++ get_or kids i 0 ∷ []
  held other = ap (filter (λ kid. not (kid == unit))) (take_more kids i 0 lt) ∙ keep_step unit (get_or kids i 0) (take i kids) other

  pub held_firsts : (some some' : List ℕ) (known : Bool) → get_or kids i 0 ≢ unit → some ≡ firsts (filter (λ kid. not (kid == unit)) (take i kids))
      → known ≡ list_any (nat_eq (get_or kids i 0)) (filter (λ kid. not (kid == unit)) (take i kids)) → some' ≡ cond known some (some ++ get_or kids i 0 ∷ [])
      → some' ≡ firsts (filter (λ kid. not (kid == unit)) (take (i + 1) kids))
  held_firsts some some' known other some_is known_is e =
      e ∙ (λ j. cond (known_is j) (some_is j) (some_is j ++ get_or kids i 0 ∷ [])) ∙ sym (firsts_more (get_or kids i 0) (filter (λ kid. not (kid == unit)) (take i kids))) ∙ ap firsts (sym (held other))

  pub held_any : (q : ℕ) (known : Bool) → get_or kids i 0 ≢ unit → known ≡ list_any (nat_eq q) (filter (λ kid. not (kid == unit)) (take i kids))
      → cond (nat_eq (get_or kids i 0) q) true known ≡ list_any (nat_eq q) (filter (λ kid. not (kid == unit)) (take (i + 1) kids))
  held_any q known other known_is =
      ap (cond (nat_eq (get_or kids i 0) q) true) known_is ∙ sym (any_push q (get_or kids i 0) (filter (λ kid. not (kid == unit)) (take i kids))) ∙ ap (list_any (nat_eq q)) (sym (held other))

-- ---- the rules

decide : (b : Bool) (x y : Rule) → b ≡ true → cond b x y ≡ x
decide true x y e = refl
decide false x y e = cc

go_on : (b : Bool) (x y : Rule) → b ≡ false → cond b x y ≡ y
go_on true x y e = cc
go_on false x y e = refl

pub decided : (unit decides : ℕ) (word : List ℕ → Formula) (all : List ℕ) (g : Graph) → list_any (λ k. k == decides) all ≡ true → record { gives = Ok decides; list = g } ≡ list_of unit decides word all g
decided unit decides word all g e =
    sym (ap (λ (r : Rule). r g) (decide (list_any (λ k. k == decides) all) (given decides) (list_by unit word (left unit all)) e))

pub undecided : (unit decides : ℕ) (word : List ℕ → Formula) (all some : List ℕ) (g : Graph) (m : Made) → list_any (λ k. k == decides) all ≡ false → some ≡ left unit all → m ≡ list_by unit word some g → m ≡ list_of unit decides word all g
undecided unit decides word all some g m e is made =
    made ∙ ap (λ (ks : List ℕ). list_by unit word ks g) is ∙ sym (ap (λ (r : Rule). r g) (go_on (list_any (λ k. k == decides) all) (given decides) (list_by unit word (left unit all)) e))
