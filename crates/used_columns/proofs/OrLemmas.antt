-- Where the `or` of truths stands in a list that has it.
use Rattle.std.proofs.Common.{◌≡◌, ◌∙◌, sym, ap, subst, refl, ℕ, ◌<◌, ◌==◌, true, false, List, [], ◌∷◌, map, All, Result, Ok, Err, IfOk, OnOk, arith}
use Rattle.std.specs.List.{list_any}
use Rattle.prov_arena.specs.declared.part.Pair.{Pair}
use Rattle.prov_arena.specs.Formulas.{Formula, MinNode, OrNode, kids_of}
use Rattle.prov_fold.specs.Graphs.{Graph, node, size}
use Rattle.prov_fold.specs.Folds.{IsFold, HasAid, OrStandsBefore}
use Rattle.prov_fold.specs.Rules.{Made, given, left, list_of, or_of}
use Rattle.prov_fold.proofs.ListLemmas.{decided, undecided}
use Rattle.prov_fold.proofs.AidLemmas.{spread_in, or_found, truths_below}
use Rattle.cmp_encode.specs.Tables.{aid_of, found, made}
use Rattle.whole_points.proofs.Named.{min_place}
use Rattle.used_columns.specs.Aids.{listed}

abbrev or_word : List ℕ → Formula
or_word kids = OrNode kids

module _ (truths all : List ℕ) (g : Graph) (place : ℕ) (spread : all ≡ spread_in g truths) (e : or_of truths g ≡ given place g) where
  of_all : list_of 0 1 or_word all g ≡ given place g
  unfolding or_of
  of_all = ap (λ ks. list_of 0 1 or_word ks g) spread ∙ e

  pub or_true : list_any (λ k. k == 1) all ≡ true → 1 ≡ place
  or_true h = ap (λ (m : Made). made m.gives) (decided 0 1 or_word all g h ∙ of_all)

  none_spread : list_any (λ k. k == 1) all ≡ false → list_any (λ k. k == 1) (spread_in g truths) ≡ false
  none_spread none = sym (ap (list_any (λ k. k == 1)) spread) ∙ none

  pub or_rest : (some : List ℕ) → list_any (λ k. k == 1) all ≡ false → some ≡ left 0 all → listed g some ≡ place
  or_rest [] none is = ap (λ (m : Made). made m.gives) (undecided 0 1 or_word all [] g (given 0 g) none is refl ∙ of_all)
  or_rest (k ∷ []) none is = ap (λ (m : Made). made m.gives) (undecided 0 1 or_word all (k ∷ []) g (given k g) none is refl ∙ of_all)
  or_rest (k ∷ l ∷ rest) none is = ap found (or_found truths g place k l rest e (none_spread none) (sym (is ∙ ap (left 0) spread)))

-- the truths of pairs whose places are named
pub truths_in : (g : Graph) (z : ℕ) (pairs : List Pair) (truths : List ℕ) → z < size g → truths ≡ map (λ (p : Pair). p.truth) pairs → All (λ kid. kid < z) (kids_of (MinNode pairs)) → All (λ kid. kid < size g) truths
truths_in g z pairs truths lt is h = λ j d less. let first = subst (All (λ kid. kid < z)) (sym is) (truths_below z pairs h) j d less in omega (arith, first, lt)

-- what holds of an answer
pub if_ok : {A E : Type 0} {P Q : A → Type 0} (r : Result A E) → ((a : A) → P a → Q a) → IfOk r P → IfOk r Q
if_ok (Ok a) f h = f a h
if_ok (Err e) f h = h

-- the truth beside a Min is where the `or` of its truths stands
pub min_aid : {E : Type 0} (g : Graph) (z : ℕ) (pairs : List Pair) (truths : List ℕ) (r : Result ℕ E) → IsFold g → z < size g → MinNode pairs ≡ node g z → truths ≡ map (λ (p : Pair). p.truth) pairs
    → ((place : ℕ) → or_of truths g ≡ given place g → IfOk r (λ id. id ≡ place)) → IfOk r (λ id. id ≡ aid_of g (node g z))
min_aid g z pairs truths r fold lt e is h =
    let s : OrStandsBefore g z (map (λ (p : Pair). p.truth) pairs) = subst (HasAid g z) (sym e) (fold.aids z lt) in
    if_ok r (λ id found. found ∙ sym (min_place g z fold lt pairs s) ∙ ap (aid_of g) e) (h s.place (ap (λ ts. or_of ts g) is ∙ s.is))

pub on_ok : {A E P Q : Type 0} (r : Result A E) → (P → Q) → OnOk r P → OnOk r Q
on_ok (Ok a) f h = f h
on_ok (Err e) f h = h
