-- The value of each place of a list is that of its formula on the values of the places that it names, and stays so.
use Rattle.std.proofs.Common.{◌≡◌, ◌∙◌, sym, ap, ℕ, zero, suc, ◌+◌, ◌<◌, ◌≤◌, ℤ, pos, ◌+ℤ◌, ◌*ℤ◌, Bool, true, false, ◌&&◌, ◌||◌, List, [], ◌∷◌, map, filter, flat_map, cond, length, take, get_or, All, inl, inr, refl, arith}
use Rattle.std.specs.List.{list_all, list_any}
use Rattle.std.specs.Ordering.{int_eq}
use Rattle.std.proofs.lemmas.Bool.{cases_lt}
use Rattle.std.proofs.lemmas.List.{take_all, get_or_append_left, get_or_push, length_push}
use Rattle.prov_arena.specs.declared.part.Term.{Term}
use Rattle.prov_arena.specs.declared.part.Pair.{Pair}
use Rattle.prov_arena.specs.Formulas.{Formula, FalseNode, TrueNode, PresNode, CellNode, PosNode, NotNode, AndNode, OrNode, LinNode, GuardNode, AbsNode, TotNode, MinNode, kids_of}
use Rattle.prov_arena.specs.Graphs.{at}
use Rattle.prov_fold.specs.Sums.{total_by}
use Rattle.prov_fold.specs.Spans.{least}
use Rattle.prov_fold.specs.Kinds.{is_plain, is_truth}
use Rattle.prov_fold.specs.Graphs.{Graph, node, size, Keeps}
use Rattle.prov_fold.specs.Folds.{IsFold}
use Rattle.prov_fold.specs.Values.{number_at, as_number, holds, value_of, values_of}
use Rattle.prov_fold.specs.Meanings.{values_in, IsLater, Means}
use Rattle.prov_fold.proofs.ValueLemmas.{values_more}
use Rattle.prov_fold.proofs.StandLemmas.{keeps_on}

-- ---- a value rests on the values of the kids

module _ (world : List ℤ) (f f' : ℕ → ℤ) where
  all_same : (kids : List ℕ) → All (λ k. f k ≡ f' k) kids → list_all (holds f) kids ≡ list_all (holds f') kids
  all_same [] h = refl
  all_same (k ∷ kids) h =
      let here : f k ≡ f' k = h 0 0 (omega arith) in
      let rest = all_same kids (λ j d lt. h (suc j) d (omega arith)) in
      λ i. int_eq (here i) (pos 1) && rest i

  any_same : (kids : List ℕ) → All (λ k. f k ≡ f' k) kids → list_any (holds f) kids ≡ list_any (holds f') kids
  any_same [] h = refl
  any_same (k ∷ kids) h =
      let here : f k ≡ f' k = h 0 0 (omega arith) in
      let rest = any_same kids (λ j d lt. h (suc j) d (omega arith)) in
      λ i. int_eq (here i) (pos 1) || rest i

  total_same : (terms : List Term) → All (λ k. f k ≡ f' k) (map (λ (t : Term). t.node) terms) → total_by (λ (t : Term). t.factor *ℤ f t.node) terms ≡ total_by (λ (t : Term). t.factor *ℤ f' t.node) terms
  total_same [] h = refl
  total_same (t ∷ terms) h =
      let here : f t.node ≡ f' t.node = h 0 0 (omega arith) in
      let rest = total_same terms (λ j d lt. h (suc j) d (omega arith)) in
      λ i. t.factor *ℤ here i +ℤ rest i

  pair_step : (b c : Bool) (p : Pair) (ps qs : List Pair) → b ≡ c → f p.number ≡ f' p.number → map (λ (p : Pair). f p.number) ps ≡ map (λ (p : Pair). f' p.number) qs
      → map (λ (p : Pair). f p.number) (cond b (p ∷ ps) ps) ≡ map (λ (p : Pair). f' p.number) (cond c (p ∷ qs) qs)
  pair_step true true p ps qs e n h = λ i. n i ∷ h i
  pair_step false false p ps qs e n h = h
  pair_step true false p ps qs e n h = cc
  pair_step false true p ps qs e n h = cc

  pairs_same : (pairs : List Pair) → All (λ k. f k ≡ f' k) (flat_map (λ (p : Pair). p.truth ∷ p.number ∷ []) pairs)
      → map (λ (p : Pair). f p.number) (filter (λ (p : Pair). holds f p.truth) pairs) ≡ map (λ (p : Pair). f' p.number) (filter (λ (p : Pair). holds f' p.truth) pairs)
  pairs_same [] h = refl
  pairs_same (p ∷ ps) h =
      let here : f p.truth ≡ f' p.truth = h 0 0 (omega arith) in
      pair_step (holds f p.truth) (holds f' p.truth) p (filter (λ (p : Pair). holds f p.truth) ps) (filter (λ (p : Pair). holds f' p.truth) ps) (ap (λ (x : ℤ). int_eq x (pos 1)) here) (h 1 0 (omega arith))
      (pairs_same ps (λ j d lt. h (suc (suc j)) d (omega arith)))

  pub value_same : (m : Formula) → All (λ k. f k ≡ f' k) (kids_of m) → value_of world f m ≡ value_of world f' m
  value_same FalseNode h = refl
  value_same TrueNode h = refl
  value_same (PresNode column) h = refl
  value_same (CellNode column) h = refl
  value_same (PosNode n) h = ap (λ (v : ℤ). value_of world (λ k. v) (PosNode n)) (h 0 0 (omega arith))
  value_same (NotNode t) h = ap (λ (v : ℤ). value_of world (λ k. v) (NotNode t)) (h 0 0 (omega arith))
  value_same (AndNode kids) h = ap as_number (all_same kids h)
  value_same (OrNode kids) h = ap as_number (any_same kids h)
  value_same (LinNode c terms) h = ap (λ (v : ℤ). c +ℤ v) (total_same terms h)
  value_same (GuardNode t n) h =
      let truth : f t ≡ f' t = h 0 0 (omega arith) in
      let number : f n ≡ f' n = h 1 0 (omega arith) in
      λ i. cond (int_eq (truth i) (pos 1)) (number i) (pos 0)
  value_same (AbsNode n) h = ap (λ (v : ℤ). value_of world (λ k. v) (AbsNode n)) (h 0 0 (omega arith))
  value_same (TotNode n) h = h 0 0 (omega arith)
  value_same (MinNode pairs) h = ap least (pairs_same pairs h)

-- ---- place by place

module _ (world : List ℤ) (parts : List Formula) where
  -- the values of the first places
  abbrev upto : ℕ → List ℤ
  upto n = values_of world (take n parts)

  upto_none : upto 0 ≡ []
  unfolding values_of
  upto_none = refl

  upto_long : (n : ℕ) → n ≤ length parts → length (upto n) ≡ n
  upto_long zero le = ap length upto_none
  upto_long (suc n) le =
      let s : suc n ≡ n + 1 = omega arith in
      ap (λ m. length (upto m)) s ∙ ap length (values_more world parts n (omega arith)) ∙ length_push (upto n) (value_of world (number_at (upto n)) (at parts n)) ∙ ap (λ m. m + 1) (upto_long n (omega arith)) ∙ sym s

  -- what was written stays
  upto_keeps : (n k : ℕ) → k < n → n ≤ length parts → number_at (upto n) k ≡ number_at (upto (k + 1)) k
  upto_keeps zero k lt le = absurd (omega arith)
  upto_keeps (suc n) k lt le =
      let s : suc n ≡ n + 1 = omega arith in
      elim (cases_lt k n) as (λ _. number_at (upto (suc n)) k ≡ number_at (upto (k + 1)) k) [
        | inl less ↦
            ap (λ m. number_at (upto m) k) s ∙ ap (λ vs. number_at vs k) (values_more world parts n (omega arith))
            ∙ get_or_append_left (upto n) (value_of world (number_at (upto n)) (at parts n) ∷ []) (pos 0) k (let long = upto_long n (omega arith) in omega (arith, long)) ∙ upto_keeps n k less (omega arith)
        | inr ge ↦ ap (λ m. number_at (upto m) k) (let e : suc n ≡ k + 1 = omega arith in e)
      ]

  upto_at : (k : ℕ) → k < length parts → number_at (upto (k + 1)) k ≡ value_of world (number_at (upto k)) (at parts k)
  upto_at k lt =
      ap (λ vs. number_at vs k) (values_more world parts k lt) ∙ get_or_push (upto k) (value_of world (number_at (upto k)) (at parts k)) (pos 0) k (upto_long k (omega arith))

  value_is : (k : ℕ) → k < length parts → number_at (values_of world parts) k ≡ number_at (upto (k + 1)) k
  value_is k lt =
      ap (λ ps. number_at (values_of world ps) k) (sym (take_all (length parts) parts (omega arith))) ∙ upto_keeps (length parts) k lt (omega arith)

  -- where a formula names only places before its own, its value is by the values of those
  pub value_at : (k : ℕ) → k < length parts → All (λ kid. kid < k) (kids_of (at parts k)) → number_at (values_of world parts) k ≡ value_of world (number_at (values_of world parts)) (at parts k)
  value_at k lt below =
      value_is k lt ∙ upto_at k lt
      ∙ value_same world (number_at (upto k)) (number_at (values_of world parts)) (at parts k)
      (λ j d less. let b = below j d less in upto_keeps k (get_or (kids_of (at parts k)) j d) b (omega arith) ∙ sym (value_is (get_or (kids_of (at parts k)) j d) (omega (arith, b, lt))))

-- ---- in later lists

pub later_of : (a b h : Graph) (world : List ℤ) → Keeps a b → IsLater b h world → IsLater a h world
later_of a b h world keeps later = record { keeps = keeps_on a b h keeps later.keeps; fold = later.fold; has = later.has }

-- what is meant of a list, there and back
pub means_by : (g : Graph) (Tells : List ℤ → (ℕ → ℤ) → Type 0) → ((h : Graph) (world : List ℤ) → IsLater g h world → Tells world (values_in h world)) → Means g Tells
unfolding Means
means_by g Tells tells = tells

pub told_by : (g : Graph) (Tells : List ℤ → (ℕ → ℤ) → Type 0) → Means g Tells → (h : Graph) (world : List ℤ) → IsLater g h world → Tells world (values_in h world)
unfolding Means
told_by g Tells means = means

-- it is meant of each list that keeps this one
pub means_kept : (g g' : Graph) (Tells : List ℤ → (ℕ → ℤ) → Type 0) → Keeps g g' → Means g Tells → Means g' Tells
means_kept g g' Tells keeps means = means_by g' Tells (λ h world later. told_by g Tells means h world (later_of g g' h world keeps later))

pub value_here : (h : Graph) (world : List ℤ) → IsFold h → (k : ℕ) → k < size h → values_in h world k ≡ value_of world (values_in h world) (node h k)
value_here h world fold k lt = value_at world h.parts k lt (fold.graph.below k lt)

pub value_zero : (h : Graph) (world : List ℤ) → IsFold h → values_in h world 0 ≡ pos 0
value_zero h world fold = value_here h world fold 0 (let s = fold.graph.some in omega (arith, s)) ∙ ap (value_of world (values_in h world)) fold.graph.false_at

pub value_one : (h : Graph) (world : List ℤ) → IsFold h → values_in h world 1 ≡ pos 1
value_one h world fold = value_here h world fold 1 (let s = fold.graph.some in omega (arith, s)) ∙ ap (value_of world (values_in h world)) fold.graph.true_at

-- the value of a node of the list before is by its formula there
pub value_kept : (g h : Graph) (world : List ℤ) → IsLater g h world → (k : ℕ) → k < size g → values_in h world k ≡ value_of world (values_in h world) (node g k)
value_kept g h world later k lt =
    value_here h world later.fold k (let n = later.keeps.longer in omega (arith, lt, n)) ∙ ap (value_of world (values_in h world)) (later.keeps.nodes k lt)

-- ---- truths are worth 1 or 0

pub as_is : (b : Bool) → int_eq (as_number b) (pos 1) ≡ b
as_is true = refl
as_is false = refl

as_bit : (b : Bool) → as_number b ≡ as_number (int_eq (as_number b) (pos 1))
as_bit true = refl
as_bit false = refl

not_bit : (b : Bool) → cond b (pos 0) (pos 1) ≡ as_number (int_eq (cond b (pos 0) (pos 1)) (pos 1))
not_bit true = refl
not_bit false = refl

bit_of : (world : List ℤ) (v : ℕ → ℤ) (m : Formula) → is_truth m ≡ true → value_of world v m ≡ as_number (int_eq (value_of world v m) (pos 1))
bit_of world v FalseNode e = refl
bit_of world v TrueNode e = refl
bit_of world v (PresNode column) e = as_bit _
bit_of world v (PosNode number) e = as_bit _
bit_of world v (AndNode kids) e = as_bit (list_all (holds v) kids)
bit_of world v (OrNode kids) e = as_bit (list_any (holds v) kids)
bit_of world v (NotNode truth) e = not_bit (holds v truth)
bit_of world v _ e = cc

pub bit_kept : (g h : Graph) (world : List ℤ) → IsLater g h world → (t : ℕ) → t < size g → is_truth (node g t) ≡ true → values_in h world t ≡ as_number (holds (values_in h world) t)
bit_kept g h world later t lt kind =
    let is = value_kept g h world later t lt in
    is ∙ bit_of world (values_in h world) (node g t) kind ∙ ap (λ (x : ℤ). as_number (int_eq x (pos 1))) (sym is)

pub plain_truth : (m : Formula) → is_plain m ≡ true → is_truth m ≡ true
plain_truth FalseNode e = refl
plain_truth TrueNode e = refl
plain_truth (NotNode t) e = refl
plain_truth _ e = e
