-- What the rules of lists of truths mean, And and Or alike.
use Rattle.std.proofs.Common.{◌≡◌, ◌∙◌, sym, ap, ℕ, suc, ◌<◌, ◌==◌, ℤ, pos, Bool, true, false, cond, not, ◌&&◌, ◌||◌, List, [], ◌∷◌, ◌++◌, filter, flat_map, get_or, All, refl, arith}
use Rattle.std.specs.List.{list_all, list_any}
use Rattle.std.specs.Ordering.{int_eq}
use Rattle.std.proofs.lemmas.Bool.{eqb-true}
use Rattle.prov_arena.specs.Formulas.{Formula, AndNode, OrNode}
use Rattle.prov_fold.specs.Graphs.{Graph, node, size}
use Rattle.prov_fold.specs.Folds.{IsFold}
use Rattle.prov_fold.specs.Values.{holds, value_of}
use Rattle.prov_fold.specs.Meanings.{values_in, IsLater}
use Rattle.prov_fold.specs.Rules.{given, node_of, firsts, left, and_kids, or_kids, list_by, list_of, and_of, or_of}
use Rattle.prov_fold.proofs.PlaceLemmas.{value_kept, value_zero, value_one, as_is}
use Rattle.prov_fold.proofs.StandLemmas.{by_rule}
use Rattle.prov_fold.proofs.MeantLemmas.{Meant, given_meant, meant_so, IsWorth, node_meant}

-- ---- lists of truths, each judged by q

not_not : (b : Bool) → not b ≡ false → b ≡ true
not_not true e = refl
not_not false e = sym e

and_assoc : (a b c : Bool) → (a && (b && c)) ≡ ((a && b) && c)
and_assoc true b c = refl
and_assoc false b c = refl

and_false : (b : Bool) → (b && false) ≡ false
and_false true = refl
and_false false = refl

module _ (q : ℕ → Bool) where
  all_append : (xs ys : List ℕ) → list_all q (xs ++ ys) ≡ (list_all q xs && list_all q ys)
  all_append [] ys = refl
  all_append (x ∷ xs) ys = ap (λ b. q x && b) (all_append xs ys) ∙ and_assoc (q x) (list_all q xs) (list_all q ys)

  spread_all : (kids_in : ℕ → List ℕ) (kids : List ℕ) → All (λ k. list_all q (kids_in k) ≡ q k) kids → list_all q (flat_map kids_in kids) ≡ list_all q kids
  spread_all kids_in [] h = refl
  spread_all kids_in (k ∷ kids) h = all_append (kids_in k) (flat_map kids_in kids) ∙ (λ i. h 0 0 (omega arith) i && spread_all kids_in kids (λ j d lt. h (suc j) d (omega arith)) i)

  -- what is left out passes
  filter_all : (p : ℕ → Bool) → ((k : ℕ) → p k ≡ false → q k ≡ true) → (ks : List ℕ) → list_all q (filter p ks) ≡ list_all q ks
  filter_all p out [] = refl
  filter_all p out (k ∷ ks) = by_test (p k) refl (filter_all p out ks)
    where
      by_test : (b : Bool) → p k ≡ b → list_all q (filter p ks) ≡ list_all q ks → list_all q (cond b (k ∷ filter p ks) (filter p ks)) ≡ (q k && list_all q ks)
      by_test true e r = ap (λ b. q k && b) r
      by_test false e r = r ∙ ap (λ b. b && list_all q ks) (sym (out k e))

  firsts_all : (ks : List ℕ) → list_all q (firsts ks) ≡ list_all q ks
  firsts_all [] = refl
  firsts_all (k ∷ ks) = by_test (q k) refl (firsts_all ks)
    where
      by_test : (b : Bool) → q k ≡ b → list_all q (firsts ks) ≡ list_all q ks → (b && list_all q (filter (λ y. not (y == k)) (firsts ks))) ≡ (b && list_all q ks)
      by_test true e r = filter_all (λ y. not (y == k)) (λ y out. ap q (eqb-true y k (not_not (y == k) out)) ∙ e) (firsts ks) ∙ r
      by_test false e r = refl

  left_all : (unit : ℕ) → q unit ≡ true → (ks : List ℕ) → list_all q (left unit ks) ≡ list_all q ks
  left_all unit on ks = firsts_all (filter (λ k. not (k == unit)) ks) ∙ filter_all (λ k. not (k == unit)) (λ k out. ap q (eqb-true k unit (not_not (k == unit) out)) ∙ on) ks

  any_decides : (d : ℕ) → q d ≡ false → (ks : List ℕ) → list_any (λ k. k == d) ks ≡ true → list_all q ks ≡ false
  any_decides d off [] e = sym e
  any_decides d off (k ∷ ks) e = by_test (k == d) refl e (any_decides d off ks)
    where
      by_test : (b : Bool) → (k == d) ≡ b → (b || list_any (λ k. k == d) ks) ≡ true → (list_any (λ k. k == d) ks ≡ true → list_all q ks ≡ false) → (q k && list_all q ks) ≡ false
      by_test true t e r = ap (λ b. b && list_all q ks) (ap q (eqb-true k d t) ∙ off)
      by_test false t e r = ap (λ b. q k && b) (r e) ∙ and_false (q k)

-- ---- a list's node, over what a kind of list is to mean

and_true : (b : Bool) → (b && true) ≡ b
and_true true = refl
and_true false = refl

not_twice : (b : Bool) → not (not b) ≡ b
not_twice true = refl
not_twice false = refl

-- Q judges a node by the values; `unit` passes, `decides` does not, and a word's node passes where all its kids do
pub record IsWord (Q : (ℕ → ℤ) → ℕ → Bool) (unit decides : ℕ) (word : List ℕ → Formula) (kids_in : ℕ → Formula → List ℕ) : Type 0 where
  pub on : (h : Graph) (world : List ℤ) → IsFold h → Q (values_in h world) unit ≡ true
  pub off : (h : Graph) (world : List ℤ) → IsFold h → Q (values_in h world) decides ≡ false
  pub made : (world : List ℤ) (v : ℕ → ℤ) (id : ℕ) (kids : List ℕ) → v id ≡ value_of world v (word kids) → Q v id ≡ list_all (Q v) kids
  pub spreads : (world : List ℤ) (v : ℕ → ℤ) (id : ℕ) (m : Formula) → v id ≡ value_of world v m → list_all (Q v) (kids_in id m) ≡ Q v id

module _ (Q : (ℕ → ℤ) → ℕ → Bool) (unit decides : ℕ) (word : List ℕ → Formula) (kids_in : ℕ → Formula → List ℕ) (is : IsWord Q unit decides word kids_in) where
  -- the node passes where all the kids do
  abbrev AllOf : List ℕ → ℕ → List ℤ → (ℕ → ℤ) → Type 0
  AllOf kids id world v = Q v id ≡ list_all (Q v) kids

  by_means : (kids : List ℕ) (g : Graph) → IsFold g → Meant g (AllOf kids) (list_by unit word kids g)
  by_means [] g fold = given_meant g (AllOf []) unit (λ h world later. is.on h world later.fold)
  by_means (k ∷ []) g fold = given_meant g (AllOf (k ∷ [])) k (λ h world later. sym (and_true (Q (values_in h world) k)))
  by_means (k ∷ l ∷ rest) g fold =
      meant_so g (IsWorth (λ world v. value_of world v (word (k ∷ l ∷ rest)))) (AllOf (k ∷ l ∷ rest)) (node_of (word (k ∷ l ∷ rest)) g)
      (λ id h world later e. is.made world (values_in h world) id (k ∷ l ∷ rest) e) (node_meant (word (k ∷ l ∷ rest)) g (λ world v. value_of world v (word (k ∷ l ∷ rest))) fold.count (λ h world later. refl))

  list_means : (kids : List ℕ) (g : Graph) → IsFold g → All (λ k. k < size g) kids → Meant g (AllOf kids) (list_of unit decides word (flat_map (λ k. kids_in k (node g k)) kids) g)
  list_means kids g fold below =
      by_rule (Meant g (AllOf kids)) (list_any (λ k. k == decides) all) (given decides) (list_by unit word (left unit all)) g
      (λ t. given_meant g (AllOf kids) decides (λ h world later.
      let off = is.off h world later.fold in
      off ∙ sym (any_decides (Q (values_in h world)) decides off all t) ∙ spread h world later))
      (λ _. meant_so g (AllOf (left unit all)) (AllOf kids) (list_by unit word (left unit all) g)
      (λ id h world later e. e ∙ left_all (Q (values_in h world)) unit (is.on h world later.fold) all ∙ spread h world later) (by_means (left unit all) g fold))
    where
      all : List ℕ
      all = flat_map (λ k. kids_in k (node g k)) kids

      spread : (h : Graph) (world : List ℤ) → IsLater g h world → list_all (Q (values_in h world)) all ≡ list_all (Q (values_in h world)) kids
      spread h world later =
          spread_all (Q (values_in h world)) (λ k. kids_in k (node g k)) kids
          (λ j d lt. is.spreads world (values_in h world) (get_or kids j d) (node g (get_or kids j d)) (value_kept g h world later (get_or kids j d) (below j d lt)))

-- ---- and

and_spreads : (world : List ℤ) (v : ℕ → ℤ) (id : ℕ) (m : Formula) → v id ≡ value_of world v m → list_all (holds v) (and_kids id m) ≡ holds v id
and_spreads world v id (AndNode ks) e = sym (ap (λ (x : ℤ). int_eq x (pos 1)) e ∙ as_is (list_all (holds v) ks))
and_spreads world v id _ e = and_true (holds v id)

and_word : IsWord holds 1 0 (λ ks. AndNode ks) and_kids
and_word = record {
  on = λ h world fold. ap (λ (x : ℤ). int_eq x (pos 1)) (value_one h world fold);
  off = λ h world fold. ap (λ (x : ℤ). int_eq x (pos 1)) (value_zero h world fold);
  made = λ world v id kids e. ap (λ (x : ℤ). int_eq x (pos 1)) e ∙ as_is (list_all (holds v) kids);
  spreads = and_spreads;
}

abbrev pub AndOf : List ℕ → ℕ → List ℤ → (ℕ → ℤ) → Type 0
AndOf kids id world v = holds v id ≡ list_all (holds v) kids

pub and_means : (kids : List ℕ) (g : Graph) → IsFold g → All (λ k. k < size g) kids → Meant g (AndOf kids) (and_of kids g)
unfolding and_of
and_means kids g fold below = list_means holds 1 0 (λ ks. AndNode ks) and_kids and_word kids g fold below

-- ---- or: not all fail

abbrev fails : (ℕ → ℤ) → ℕ → Bool
fails v k = not (holds v k)

not_or : (a b : Bool) → not (a || b) ≡ (not a && not b)
not_or true b = refl
not_or false b = refl

any_is : (v : ℕ → ℤ) (ks : List ℕ) → not (list_any (holds v) ks) ≡ list_all (fails v) ks
any_is v [] = refl
any_is v (k ∷ ks) = not_or (holds v k) (list_any (holds v) ks) ∙ ap (λ b. not (holds v k) && b) (any_is v ks)

or_spreads : (world : List ℤ) (v : ℕ → ℤ) (id : ℕ) (m : Formula) → v id ≡ value_of world v m → list_all (fails v) (or_kids id m) ≡ fails v id
or_spreads world v id (OrNode ks) e = sym (ap (λ (x : ℤ). not (int_eq x (pos 1))) e ∙ ap not (as_is (list_any (holds v) ks)) ∙ any_is v ks)
or_spreads world v id _ e = and_true (fails v id)

or_word : IsWord fails 0 1 (λ ks. OrNode ks) or_kids
or_word = record {
  on = λ h world fold. ap (λ (x : ℤ). not (int_eq x (pos 1))) (value_zero h world fold);
  off = λ h world fold. ap (λ (x : ℤ). not (int_eq x (pos 1))) (value_one h world fold);
  made = λ world v id kids e. ap (λ (x : ℤ). not (int_eq x (pos 1))) e ∙ ap not (as_is (list_any (holds v) kids)) ∙ any_is v kids;
  spreads = or_spreads;
}

abbrev pub OrOf : List ℕ → ℕ → List ℤ → (ℕ → ℤ) → Type 0
OrOf kids id world v = holds v id ≡ list_any (holds v) kids

abbrev NoneOf : List ℕ → ℕ → List ℤ → (ℕ → ℤ) → Type 0
NoneOf kids id world v = fails v id ≡ list_all (fails v) kids

pub or_means : (kids : List ℕ) (g : Graph) → IsFold g → All (λ k. k < size g) kids → Meant g (OrOf kids) (or_of kids g)
unfolding or_of
or_means kids g fold below =
    meant_so g (NoneOf kids) (OrOf kids) (or_of kids g)
    (λ id h world later e. sym (not_twice (holds (values_in h world) id)) ∙ ap not (e ∙ sym (any_is (values_in h world) kids)) ∙ not_twice (list_any (holds (values_in h world)) kids))
    (list_means fails 0 1 (λ ks. OrNode ks) or_kids or_word kids g fold below)
