-- Marks: what is marked once more places are.
use Rattle.std.proofs.Common.{◌≡◌, ◌∙◌, sym, ap, subst, refl, ℕ, zero, suc, ◌+◌, ◌<◌, ◌⊎◌, inl, inr, ⊎_elim, Bool, true, false, List, [], ◌∷◌, ◌++◌, length, drop, get_or, set, replicate, map, All, Contains, arith}
use Rattle.std.proofs.lemmas.Bool.{cases_eq}
use Rattle.std.proofs.lemmas.List.{length-set, get_or-set_same, get_or-set_other, drop_more}
use Rattle.prov_arena.specs.declared.part.Pair.{Pair}
use Rattle.prov_arena.specs.declared.part.Term.{Term}
use Rattle.prov_arena.specs.Formulas.{MinNode, kids_of}
use Rattle.prov_fold.specs.Graphs.{Graph, node}
use Rattle.used_columns.specs.Used.{made_of, all_made_of, mark_at}
use Rattle.used_columns.specs.Marks.{marked}

pub marked-append : (marks : List Bool) (xs ys : List ℕ) → marked marks (xs ++ ys) ≡ marked (marked marks xs) ys
marked-append marks [] ys = refl
marked-append marks (x ∷ xs) ys = marked-append (set marks x true) xs ys

pub length-marked : (marks : List Bool) (zs : List ℕ) → length (marked marks zs) ≡ length marks
length-marked marks [] = refl
length-marked marks (z ∷ zs) = length-marked (set marks z true) zs ∙ length-set marks z true

pub length_after : (marks next : List Bool) (zs : List ℕ) (n : ℕ) → next ≡ marked marks zs → length marks ≡ n → length next ≡ n
length_after marks next zs n is count = ap (λ m. length m) is ∙ length-marked marks zs ∙ count

-- ---- one mark

set_here : (marks : List Bool) (z : ℕ) → z < length marks → mark_at (set marks z true) z ≡ true
set_here marks z lt = get_or-set_same marks z true false lt

set_kept : (marks : List Bool) (x z : ℕ) → x < length marks → mark_at marks z ≡ true → mark_at (set marks x true) z ≡ true
set_kept marks x z lt e = ⊎_elim (λ same. ap (mark_at (set marks x true)) same ∙ set_here marks x lt) (λ other. get_or-set_other marks x z true false other ∙ e) (cases_eq z x)

set_from : (marks : List Bool) (x z : ℕ) → mark_at (set marks x true) z ≡ true → (mark_at marks z ≡ true) ⊎ (z ≡ x)
set_from marks x z e = ⊎_elim (λ same. inr same) (λ other. inl (sym (get_or-set_other marks x z true false other) ∙ e)) (cases_eq z x)

-- ---- many

below_set : (marks : List Bool) (x : ℕ) (zs : List ℕ) → All (λ z. z < length marks) zs → All (λ z. z < length (set marks x true)) zs
below_set marks x zs h = subst (λ n. All (λ z. z < n) zs) (sym (length-set marks x true)) h

pub marked_kept : (marks : List Bool) (zs : List ℕ) (z : ℕ) → All (λ z. z < length marks) zs → mark_at marks z ≡ true → mark_at (marked marks zs) z ≡ true
marked_kept marks [] z h e = e
marked_kept marks (x ∷ zs) z h e =
    marked_kept (set marks x true) zs z (below_set marks x zs (λ k d lt. h (suc k) d (omega arith))) (set_kept marks x z (h 0 0 (omega arith)) e)

pub marked_there : (marks : List Bool) (zs : List ℕ) (z : ℕ) → All (λ z. z < length marks) zs → Contains zs z → mark_at (marked marks zs) z ≡ true
marked_there marks [] z h (k, lt, e) = absurd (omega arith)
marked_there marks (x ∷ zs) z h (zero, lt, e) =
    marked_kept (set marks x true) zs z (below_set marks x zs (λ k d lt. h (suc k) d (omega arith))) (ap (mark_at (set marks x true)) (sym e) ∙ set_here marks x (h 0 0 (omega arith)))
marked_there marks (x ∷ zs) z h (suc k, lt, e) =
    marked_there (set marks x true) zs z (below_set marks x zs (λ k d lt. h (suc k) d (omega arith))) (k, omega arith, e)

pub marked_from : (marks : List Bool) (zs : List ℕ) (z : ℕ) → mark_at (marked marks zs) z ≡ true → (mark_at marks z ≡ true) ⊎ Contains zs z
marked_from marks [] z e = inl e
marked_from marks (x ∷ zs) z e =
    ⊎_elim
    (λ before. ⊎_elim (λ b. inl b) (λ same. inr (0, omega arith, sym same)) (set_from marks x z before))
    (λ later. inr (suc later.0, omega (arith, later.1), later.2))
    (marked_from (set marks x true) zs z e)

pub none_marked : (n z : ℕ) → mark_at (replicate n false) z ≡ false
none_marked zero z = refl
none_marked (suc n) zero = refl
none_marked (suc n) (suc z) = none_marked n z

-- ---- the steps of the loops

pub each_more : (marks : List Bool) (nodes : List ℕ) (i k : ℕ) (all : List Bool) → i < length nodes → k ≡ get_or nodes i k → marked marks (drop i nodes) ≡ all → marked (set marks k true) (drop (i + 1) nodes) ≡ all
each_more marks nodes i k all lt is e = ap (λ x. marked (set marks x true) (drop (i + 1) nodes)) is ∙ sym (ap (marked marks) (drop_more nodes i k lt)) ∙ e

pub terms_more : (marks : List Bool) (terms : List Term) (i : ℕ) (t : Term) (all : List Bool) → i < length terms → t ≡ get_or terms i t → marked marks (map (λ (t : Term). t.node) (drop i terms)) ≡ all
    → marked (set marks t.node true) (map (λ (t : Term). t.node) (drop (i + 1) terms)) ≡ all
terms_more marks terms i t all lt is e =
    ap (λ (x : Term). marked (set marks x.node true) (map (λ (t : Term). t.node) (drop (i + 1) terms))) is ∙ sym (ap (λ (ts : List Term). marked marks (map (λ (t : Term). t.node) ts)) (drop_more terms i t lt)) ∙ e

module _ (g : Graph) where
  pub all_more : (marks next : List Bool) (nodes : List ℕ) (i k : ℕ) (all : List Bool) → i < length nodes → k ≡ get_or nodes i k → next ≡ marked marks (made_of k (node g k))
      → marked marks (all_made_of g (drop i nodes)) ≡ all → marked next (all_made_of g (drop (i + 1) nodes)) ≡ all
  all_more marks next nodes i k all lt is made e =
      let rest = all_made_of g (drop (i + 1) nodes) in
      ap (λ m. marked m rest) made ∙ sym (marked-append marks (made_of k (node g k)) rest) ∙ ap (λ x. marked marks (made_of x (node g x) ++ rest)) is ∙ sym (ap (λ ks. marked marks (all_made_of g ks)) (drop_more nodes i k lt)) ∙ e

  abbrev kids_from : List Pair → List ℕ
  kids_from pairs = all_made_of g (kids_of (MinNode pairs))

  pub pairs_more : (marks middle next : List Bool) (pairs : List Pair) (i : ℕ) (p : Pair) (all : List Bool) → i < length pairs → p ≡ get_or pairs i p
      → middle ≡ marked marks (made_of p.truth (node g p.truth)) → next ≡ marked middle (made_of p.number (node g p.number))
      → marked marks (kids_from (drop i pairs)) ≡ all → marked next (kids_from (drop (i + 1) pairs)) ≡ all
  pairs_more marks middle next pairs i p all lt is first second e =
      let rest = kids_from (drop (i + 1) pairs) in
      let truths = made_of p.truth (node g p.truth) in
      let numbers = made_of p.number (node g p.number) in
      ap (λ m. marked m rest) second ∙ sym (marked-append middle numbers rest) ∙ ap (λ m. marked m (numbers ++ rest)) first ∙ sym (marked-append marks truths (numbers ++ rest))
      ∙ ap (λ (x : Pair). marked marks (made_of x.truth (node g x.truth) ++ (made_of x.number (node g x.number) ++ rest))) is ∙ sym (ap (λ (ps : List Pair). marked marks (kids_from ps)) (drop_more pairs i p lt)) ∙ e
