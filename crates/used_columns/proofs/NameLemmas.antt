-- What rows name, and marks on the way down the list.
use Rattle.std.proofs.Common.{◌≡◌, ◌∙◌, sym, ap, subst, refl, ℕ, zero, suc, ◌+◌, ◌-◌, ◌<◌, ◌≤◌, ⊎_elim, if◌then◌else◌, Bool, true, false, List, [], ◌∷◌, ◌++◌, length, get_or, map, replicate, All, Contains, arith}
use Rattle.std.proofs.lemmas.Bool.{cases_lt}
use Rattle.std.proofs.lemmas.List.{append-nil, get_or_past}
use Rattle.std.proofs.lemmas.List.Elements.{All-append}
use Rattle.prov_arena.specs.declared.part.Pair.{Pair}
use Rattle.prov_arena.specs.declared.part.Term.{Term}
use Rattle.prov_arena.specs.Formulas.{Formula, FalseNode, TrueNode, PresNode, CellNode, PosNode, NotNode, AndNode, OrNode, LinNode, GuardNode, AbsNode, TotNode, MinNode, kids_of}
use Rattle.prov_fold.specs.Graphs.{Graph, node, size}
use Rattle.prov_fold.specs.Folds.{IsFold}
use Rattle.cmp_encode.specs.Tables.{aid_of, named_by}
use Rattle.whole_points.specs.Matched.{has_column}
use Rattle.whole_points.proofs.Named.{named_less}
use Rattle.used_columns.specs.Used.{made_of, all_made_of, names, mark_at, IsUsed, AreUsed}
use Rattle.used_columns.specs.Marks.{marked, IsDoneFrom}
use Rattle.used_columns.proofs.MarkLemmas.{marked-append, length-marked, marked_kept, marked_there, marked_from, none_marked}

all_one : (P : ℕ → Type 0) (k : ℕ) → P k → All P (k ∷ [])
all_one P k p zero d lt = p
all_one P k p (suc j) d lt = absurd (omega arith)

all_none : (P : ℕ → Type 0) → All P []
all_none P j d lt = absurd (omega arith)

-- the places that terms, and pairs, name
pub terms_below : (n m : ℕ) (terms : List Term) → n ≤ m → All (λ k. k < n) (map (λ (t : Term). t.node) terms) → All (λ (t : Term). t.node < m) terms
terms_below n m [] le h j d lt = absurd (omega arith)
terms_below n m (t ∷ ts) le h zero d lt = let first = h 0 0 (omega arith) in omega (arith, first, le)
terms_below n m (t ∷ ts) le h (suc j) d lt = terms_below n m ts le (λ k e less. h (suc k) e (omega arith)) j d (omega arith)

pub pair_there : (n : ℕ) (pairs : List Pair) (i : ℕ) (d : Pair) → i < length pairs → All (λ k. k < n) (kids_of (MinNode pairs)) → ((get_or pairs i d).truth < n) × ((get_or pairs i d).number < n)
pair_there n [] i d lt h = absurd (omega arith)
pair_there n (p ∷ ps) zero d lt h = (h 0 0 (omega arith), h 1 0 (omega arith))
pair_there n (p ∷ ps) (suc i) d lt h = pair_there n ps i d (omega arith) (λ k e less. h (suc (suc k)) e (omega arith))

-- what makes up a node stands at its place or before
made_below : (k n : ℕ) (m : Formula) → k < n → All (λ kid. kid < k) (kids_of m) → All (λ z. z < n) (made_of k m)
made_below k n FalseNode lt h = all_none (λ z. z < n)
made_below k n TrueNode lt h = all_none (λ z. z < n)
made_below k n (NotNode truth) lt h = all_one (λ z. z < n) truth (let less = h 0 0 (omega arith) in omega (arith, less, lt))
made_below k n (LinNode c terms) lt h = λ j d less. let first = h j d less in omega (arith, first, lt)
made_below k n (PresNode c) lt h = all_one (λ z. z < n) k lt
made_below k n (CellNode c) lt h = all_one (λ z. z < n) k lt
made_below k n (PosNode a) lt h = all_one (λ z. z < n) k lt
made_below k n (AndNode kids) lt h = all_one (λ z. z < n) k lt
made_below k n (OrNode kids) lt h = all_one (λ z. z < n) k lt
made_below k n (GuardNode t a) lt h = all_one (λ z. z < n) k lt
made_below k n (AbsNode a) lt h = all_one (λ z. z < n) k lt
made_below k n (TotNode a) lt h = all_one (λ z. z < n) k lt
made_below k n (MinNode pairs) lt h = all_one (λ z. z < n) k lt

module _ (g : Graph) (fold : IsFold g) where
  all_below : (n : ℕ) (ks : List ℕ) → n ≤ size g → All (λ k. k < n) ks → All (λ z. z < n) (all_made_of g ks)
  all_below n [] le h = all_none (λ z. z < n)
  all_below n (k ∷ ks) le h =
      let lt = h 0 0 (omega arith) in
      All-append (λ z. z < n) (made_of k (node g k)) (all_made_of g ks) (made_below k n (node g k) lt (fold.graph.below k (omega (arith, lt, le)))) (all_below n ks le (λ j d less. h (suc j) d (omega arith)))

  names_by : (z : ℕ) (b : Bool) → z < size g → has_column (node g z) ≡ b → All (λ k. k < z) (names g z)
  unfolding names
  names_by z true lt e = subst (λ b. All (λ k. k < z) (if b then all_made_of g (named_by g (node g z)) else [])) (sym e) (all_below z (named_by g (node g z)) (omega arith) (named_less g z fold lt))
  names_by z false lt e = subst (λ b. All (λ k. k < z) (if b then all_made_of g (named_by g (node g z)) else [])) (sym e) (all_none (λ k. k < z))

  -- rows name nothing behind their node
  pub names_less : (z : ℕ) → z < size g → All (λ k. k < z) (names g z)
  names_less z lt = names_by z (has_column (node g z)) lt refl

  aid_by : (z : ℕ) (m : Formula) → z < size g → node g z ≡ m → aid_of g m < size g
  aid_by z (AbsNode n) lt e = let less = subst (λ m. All (λ k. k < z) (named_by g m)) e (named_less g z fold lt) 1 0 (omega arith) in omega (arith, less, lt)
  aid_by z (MinNode pairs) lt e = let less = subst (λ m. All (λ k. k < z) (named_by g m)) e (named_less g z fold lt) 0 0 (omega arith) in omega (arith, less, lt)
  aid_by z FalseNode lt e = let some = fold.graph.some in omega (arith, some)
  aid_by z TrueNode lt e = let some = fold.graph.some in omega (arith, some)
  aid_by z (PresNode c) lt e = let some = fold.graph.some in omega (arith, some)
  aid_by z (CellNode c) lt e = let some = fold.graph.some in omega (arith, some)
  aid_by z (PosNode n) lt e = let some = fold.graph.some in omega (arith, some)
  aid_by z (NotNode t) lt e = let some = fold.graph.some in omega (arith, some)
  aid_by z (AndNode kids) lt e = let some = fold.graph.some in omega (arith, some)
  aid_by z (OrNode kids) lt e = let some = fold.graph.some in omega (arith, some)
  aid_by z (LinNode c terms) lt e = let some = fold.graph.some in omega (arith, some)
  aid_by z (GuardNode t n) lt e = let some = fold.graph.some in omega (arith, some)
  aid_by z (TotNode n) lt e = let some = fold.graph.some in omega (arith, some)

  pub aid_less : (z aid : ℕ) → z < size g → aid ≡ aid_of g (node g z) → aid < size g
  aid_less z aid lt is = let less = aid_by z (node g z) lt refl in omega (arith, less, is)

  -- ---- down the list

  unmarked_past : (marks : List Bool) (y : ℕ) → length marks ≤ y → mark_at marks y ≡ true → ⊥
  unmarked_past marks y le e = let no : false ≡ true = sym (get_or_past marks y false le) ∙ e in cc

  pub done_none : (marks : List Bool) → length marks ≡ size g → IsDoneFrom g (size g) marks marks
  done_none marks count = record {
    count = count;
    kept = λ z e. e;
    named = λ y z le e at. absurd (unmarked_past marks y (omega (arith, le, count)) e);
    used = λ seeds h z e. h z e;
  }

  done_skip_at : (i : ℕ) (before marks : List Bool) → mark_at marks i ≡ false → IsDoneFrom g (i + 1) before marks → (y z : ℕ) → i ≤ y → mark_at marks y ≡ true → Contains (names g y) z → mark_at marks z ≡ true
  done_skip_at i before marks none d y z le e at =
      ⊎_elim (λ lt. d.named y z (omega (arith, lt)) e at)
      (λ ge. let same : y ≡ i = omega (arith, le, ge) in let no : true ≡ false = sym e ∙ ap (mark_at marks) same ∙ none in cc)
      (cases_lt i y)

  pub done_skip : (i : ℕ) (before marks : List Bool) → mark_at marks i ≡ false → IsDoneFrom g (i + 1) before marks → IsDoneFrom g i before marks
  done_skip i before marks none d = record {
    count = d.count;
    kept = d.kept;
    named = done_skip_at i before marks none d;
    used = d.used;
  }

  module _ (i : ℕ) (before marks next : List Bool) (lt : i < size g) (here : mark_at marks i ≡ true) (made : next ≡ marked marks (names g i)) (d : IsDoneFrom g (i + 1) before marks) where
    less : All (λ k. k < i) (names g i)
    less = names_less i lt

    below : All (λ k. k < length marks) (names g i)
    below j e at = let first = less j e at in let count = d.count in omega (arith, first, count, lt)

    at_next : (z : ℕ) → mark_at next z ≡ mark_at (marked marks (names g i)) z
    at_next z = ap (λ (m : List Bool). mark_at m z) made

    kept_next : (z : ℕ) → mark_at marks z ≡ true → mark_at next z ≡ true
    kept_next z e = at_next z ∙ marked_kept marks (names g i) z below e

    -- from i on no mark is new
    old_mark : (y : ℕ) → i ≤ y → mark_at next y ≡ true → mark_at marks y ≡ true
    old_mark y le e =
        ⊎_elim (λ old. old) (λ (c : Contains (names g i) y). let first = less c.0 y c.1 in let is = c.2 in absurd (omega (arith, first, is, le)))
        (marked_from marks (names g i) y (sym (at_next y) ∙ e))

    named_next : (y z : ℕ) → i ≤ y → mark_at next y ≡ true → Contains (names g y) z → mark_at next z ≡ true
    named_next y z le e at =
        ⊎_elim (λ later. kept_next z (d.named y z (omega (arith, later)) (old_mark y le e) at))
        (λ ge. let same : y ≡ i = omega (arith, le, ge) in at_next z ∙ marked_there marks (names g i) z below (subst (λ x. Contains (names g x) z) same at))
        (cases_lt i y)

    used_next : (seeds : List ℕ) → ((z : ℕ) → mark_at before z ≡ true → IsUsed g seeds z) → (z : ℕ) → mark_at next z ≡ true → IsUsed g seeds z
    used_next seeds h z e =
        ⊎_elim (λ old. d.used seeds h z old) (λ c. IsUsed.Named i z (d.used seeds h i here) c)
        (marked_from marks (names g i) z (sym (at_next z) ∙ e))

    pub done_more : IsDoneFrom g i before next
    done_more = record {
      count = ap (λ (m : List Bool). length m) made ∙ length-marked marks (names g i) ∙ d.count;
      kept = λ z e. kept_next z (d.kept z e);
      named = named_next;
      used = used_next;
    }

  done_by : (i : ℕ) (before marks next : List Bool) (b : Bool) → mark_at marks i ≡ b → i < size g → next ≡ (if b then marked marks (names g i) else marks) → IsDoneFrom g (i + 1) before marks → IsDoneFrom g i before next
  done_by i before marks next true here lt made d = done_more i before marks next lt here made d
  done_by i before marks next false here lt made d = subst (λ (m : List Bool). IsDoneFrom g i before m) (sym made) (done_skip i before marks here d)

  -- one place down
  pub done_down : (k : ℕ) (before marks next : List Bool) → 0 < k → k ≤ size g → next ≡ (if mark_at marks (k - 1) then marked marks (names g (k - 1)) else marks) → IsDoneFrom g k before marks → IsDoneFrom g (k - 1) before next
  done_down k before marks next some le made d =
      done_by (k - 1) before marks next (mark_at marks (k - 1)) refl (omega (arith, some, le)) made (subst (λ n. IsDoneFrom g n before marks) (omega (arith, some)) d)

  -- ---- the end

  module _ (seeds : List ℕ) (before marks : List Bool) (there : All (λ z. z < size g) seeds) (begun : before ≡ marked (replicate (size g) false) seeds) (long : length (replicate (size g) false) ≡ size g) (d : IsDoneFrom g 0 before marks) where
    seed_mark : (z : ℕ) → Contains seeds z → mark_at marks z ≡ true
    seed_mark z c = d.kept z (ap (λ (m : List Bool). mark_at m z) begun ∙ marked_there (replicate (size g) false) seeds z (subst (λ n. All (λ z. z < n) seeds) (sym long) there) c)

    used_mark : (z : ℕ) → IsUsed g seeds z → mark_at marks z ≡ true
    used_mark z (IsUsed.Seed _ c) = seed_mark z c
    used_mark z (IsUsed.Named y _ u c) = d.named y z (omega arith) (used_mark y u) c

    seed_used : (z : ℕ) → mark_at before z ≡ true → IsUsed g seeds z
    seed_used z e =
        ⊎_elim (λ old. let no : false ≡ true = sym (none_marked (size g) z) ∙ old in cc) (λ c. IsUsed.Seed z c)
        (marked_from (replicate (size g) false) seeds z (sym (ap (λ (m : List Bool). mark_at m z) begun) ∙ e))

    pub are_used : AreUsed g seeds marks
    are_used = record {
      count = d.count;
      each = λ z. (λ e. d.used seeds seed_used z e, λ u. used_mark z u);
    }

-- ---- what one node names

module _ (g : Graph) (z : ℕ) where
  names_are : (m : Formula) → node g z ≡ m → names g z ≡ (if has_column m then all_made_of g (named_by g m) else [])
  unfolding names
  names_are m e = ap (λ m. if has_column m then all_made_of g (named_by g m) else []) e

  -- two marks, and many behind one
  pub mark_two : (m : Formula) (a b : ℕ) (marks middle next : List Bool) → m ≡ node g z → (if has_column m then all_made_of g (named_by g m) else []) ≡ all_made_of g (a ∷ b ∷ [])
      → middle ≡ marked marks (made_of a (node g a)) → next ≡ marked middle (made_of b (node g b)) → next ≡ marked marks (names g z)
  mark_two m a b marks middle next e named first second =
      second ∙ ap (λ x. marked x (made_of b (node g b))) first ∙ sym (marked-append marks (made_of a (node g a)) (made_of b (node g b)))
      ∙ ap (λ xs. marked marks (made_of a (node g a) ++ xs)) (sym (append-nil (made_of b (node g b)))) ∙ ap (marked marks) (sym (names_are m (sym e) ∙ named))

  pub mark_pairs_too : (pairs : List Pair) (a : ℕ) (marks middle next : List Bool) → MinNode pairs ≡ node g z → a ≡ aid_of g (node g z)
      → middle ≡ marked marks (made_of a (node g a)) → next ≡ marked middle (all_made_of g (kids_of (MinNode pairs))) → next ≡ marked marks (names g z)
  mark_pairs_too pairs a marks middle next e is first second =
      let kids = all_made_of g (kids_of (MinNode pairs)) in
      second ∙ ap (λ x. marked x kids) first ∙ sym (marked-append marks (made_of a (node g a)) kids)
      ∙ ap (λ x. marked marks (made_of x (node g x) ++ kids)) (is ∙ ap (aid_of g) (sym e)) ∙ ap (marked marks) (sym (names_are (MinNode pairs) (sym e)))
