-- What a point gives to nodes, and what they are worth on a world, go by their terms; and which columns are left of a form's row.
use Rattle.std.proofs.Common.{◌≡◌, ◌∙◌, sym, ap, subst, refl, ℕ, ◌<◌, ℤ, pos, negsuc, ◌+ℤ◌, ◌*ℤ◌, if◌then◌else◌, Bool, true, false, List, [], ◌∷◌, map, get_or, All, arith}
use Rattle.std.proofs.lemmas.Int.{ints}
use Rattle.ip_rows.specs.Programs.{sum_at}
use Rattle.prov_arena.specs.declared.part.Term.{Term}
use Rattle.prov_arena.specs.Formulas.{Formula, FalseNode, TrueNode, PresNode, CellNode, PosNode, NotNode, AndNode, OrNode, LinNode, GuardNode, AbsNode, TotNode, MinNode, kids_of}
use Rattle.prov_fold.specs.Graphs.{Graph, node, size, IsTyped}
use Rattle.prov_fold.specs.Folds.{IsFold}
use Rattle.prov_fold.specs.Kinds.{is_plain, is_term, is_truth}
use Rattle.prov_fold.specs.Meanings.{values_in}
use Rattle.prov_fold.specs.Sums.{total_by}
use Rattle.prov_fold.specs.Values.{HasNumbers, as_number, holds, value_of}
use Rattle.prov_fold.proofs.PlaceLemmas.{value_here, bit_kept}
use Rattle.prov_fold.proofs.Rings.{+ℤ-*ℤ}
use Rattle.prov_fold.proofs.SameLemmas.{All_head, All_tail}
use Rattle.prov_fold.proofs.StandLemmas.{keeps_same}
use Rattle.bool_encode.specs.declared.form.Key.{Key}
use Rattle.bool_encode.specs.declared.form.Key.TheVariants as key
use Rattle.bool_encode.specs.declared.stand.Stand.{Stand}
use Rattle.bool_encode.specs.Columns.{coef, column_at, constant_by, reading}
use Rattle.bool_encode.proofs.FormLemmas.{total_over}
use Rattle.bool_encode.proofs.Numbers.{zero_d}
use Rattle.whole_points.proofs.Places.{reads, term_reads}
use Rattle.used_columns.specs.Seeds.{terms_of}
use Rattle.used_columns.proofs.Linear.{IsLinearOver}

pub plain_term : (m : Formula) → is_plain m ≡ true → is_term m ≡ true
plain_term FalseNode e = cc
plain_term TrueNode e = cc
plain_term (PresNode column) e = refl
plain_term (CellNode column) e = refl
plain_term (PosNode number) e = refl
plain_term (NotNode truth) e = cc
plain_term (AndNode kids) e = refl
plain_term (OrNode kids) e = refl
plain_term (LinNode c terms) e = cc
plain_term (GuardNode truth number) e = refl
plain_term (AbsNode number) e = refl
plain_term (TotNode number) e = refl
plain_term (MinNode pairs) e = refl

plain_truth : (m : Formula) → is_plain m ≡ true → is_truth m ≡ true
plain_truth FalseNode e = refl
plain_truth TrueNode e = refl
plain_truth (PresNode column) e = refl
plain_truth (CellNode column) e = cc
plain_truth (PosNode number) e = refl
plain_truth (NotNode truth) e = refl
plain_truth (AndNode kids) e = refl
plain_truth (OrNode kids) e = refl
plain_truth (LinNode c terms) e = cc
plain_truth (GuardNode truth number) e = cc
plain_truth (AbsNode number) e = cc
plain_truth (TotNode number) e = cc
plain_truth (MinNode pairs) e = cc

-- a node that is a term of its own
once_is : (d : ℕ) (x : ℤ) → x ≡ pos 0 *ℤ pos d +ℤ (pos 1 *ℤ x +ℤ pos 0)
once_is d x = sym (ap (λ (y : ℤ). y +ℤ (pos 1 *ℤ x +ℤ pos 0)) (zero_d d) ∙ once x)
  where
    once : (x : ℤ) → pos 0 +ℤ (pos 1 *ℤ x +ℤ pos 0) ≡ x
    once x = omega (arith, ints)

module _ (g : Graph) (d : ℕ) (f : Key → ℤ) where
  -- what the node z comes to by its formula
  abbrev Sum : ℕ → Formula → Type 0
  Sum z m = f (key.Node z) ≡ constant_by m *ℤ pos d +ℤ total_by (λ (t : Term). t.factor *ℤ f (key.Node t.node)) (terms_of z m)

  by_kind : (z : ℕ) (m : Formula)
      → (m ≡ FalseNode → Sum z FalseNode) → (m ≡ TrueNode → Sum z TrueNode) → ((t : ℕ) → m ≡ NotNode t → Sum z (NotNode t)) → ((c : ℤ) (terms : List Term) → m ≡ LinNode c terms → Sum z (LinNode c terms)) → Sum z m
  by_kind z FalseNode none one negated lin = none refl
  by_kind z TrueNode none one negated lin = one refl
  by_kind z (NotNode truth) none one negated lin = negated truth refl
  by_kind z (LinNode c terms) none one negated lin = lin c terms refl
  by_kind z (PresNode column) none one negated lin = once_is d (f (key.Node z))
  by_kind z (CellNode column) none one negated lin = once_is d (f (key.Node z))
  by_kind z (PosNode number) none one negated lin = once_is d (f (key.Node z))
  by_kind z (AndNode kids) none one negated lin = once_is d (f (key.Node z))
  by_kind z (OrNode kids) none one negated lin = once_is d (f (key.Node z))
  by_kind z (GuardNode truth number) none one negated lin = once_is d (f (key.Node z))
  by_kind z (AbsNode number) none one negated lin = once_is d (f (key.Node z))
  by_kind z (TotNode number) none one negated lin = once_is d (f (key.Node z))
  by_kind z (MinNode pairs) none one negated lin = once_is d (f (key.Node z))

-- what a point gives goes by terms
module _ (g : Graph) (fold : IsFold g) (stands : List Stand) (d : ℕ) (point : List ℤ) where
  abbrev read : ℕ → ℤ
  read z = reading g stands d point (key.Node z)

  terms_read : (terms : List Term) → All (λ (t : Term). is_term (node g t.node) ≡ true) terms
      → sum_at point (map (λ (t : Term). coef t.factor (column_at g stands t.node)) terms) ≡ total_by (λ (t : Term). t.factor *ℤ reading g stands d point (key.Node t.node)) terms
  terms_read [] h = refl
  terms_read (t ∷ terms) h =
      let here = term_reads g stands d point t.node (All_head (λ (t : Term). is_term (node g t.node) ≡ true) t terms h) in
      let rest = terms_read terms (All_tail (λ (t : Term). is_term (node g t.node) ≡ true) t terms h) in
      λ i. t.factor *ℤ sym here i +ℤ rest i

  typed_as : (z : ℕ) (m : Formula) → z < size g → node g z ≡ m → IsTyped g m
  typed_as z m lt e = subst (IsTyped g) e (fold.fits z lt).typed

  pub reading_linear : IsLinearOver g d (reading g stands d point)
  reading_linear = λ z lt. by_kind g d (reading g stands d point) z (node g z)
      (λ e. reads g stands d point z FalseNode e)
      (λ e. reads g stands d point z TrueNode e)
      (λ t e. let here = term_reads g stands d point t (plain_term (node g t) (typed_as z (NotNode t) lt e)) in
      reads g stands d point z (NotNode t) e ∙ ap (λ (y : ℤ). pos 1 *ℤ pos d +ℤ (negsuc 0 *ℤ y +ℤ pos 0)) (sym here))
      (λ c terms e. reads g stands d point z (LinNode c terms) e ∙ ap (λ (y : ℤ). c *ℤ pos d +ℤ y) (terms_read terms (typed_as z (LinNode c terms) lt e).kinds))

-- what nodes are worth on a world, over d, goes by terms
module _ (g : Graph) (fold : IsFold g) (world : List ℤ) (has : HasNumbers g world) (d : ℕ) (f : Key → ℤ) (is : (z : ℕ) → f (key.Node z) ≡ values_in g world z *ℤ pos d) where
  not_value : (v : ℤ) (b : Bool) → v ≡ as_number b → (if b then pos 0 else pos 1) *ℤ pos d ≡ pos 1 *ℤ pos d +ℤ (negsuc 0 *ℤ (v *ℤ pos d) +ℤ pos 0)
  not_value v true e = zero_d d ∙ sym (ap (λ (y : ℤ). pos 1 *ℤ pos d +ℤ (negsuc 0 *ℤ (y *ℤ pos d) +ℤ pos 0)) e ∙ gone (pos 1 *ℤ pos d))
    where
      gone : (y : ℤ) → y +ℤ (negsuc 0 *ℤ y +ℤ pos 0) ≡ pos 0
      gone y = omega (arith, ints)
  not_value v false e = sym (ap (λ (y : ℤ). pos 1 *ℤ pos d +ℤ (negsuc 0 *ℤ (y *ℤ pos d) +ℤ pos 0)) e ∙ ap (λ (y : ℤ). pos 1 *ℤ pos d +ℤ (negsuc 0 *ℤ y +ℤ pos 0)) (zero_d d) ∙ whole (pos 1 *ℤ pos d))
    where
      whole : (y : ℤ) → y +ℤ (negsuc 0 *ℤ pos 0 +ℤ pos 0) ≡ y
      whole y = omega (arith, ints)

  no_sum : (x : ℤ) → x ≡ x +ℤ pos 0
  no_sum x = omega (arith, ints)

  value_at : (z : ℕ) (m : Formula) → z < size g → node g z ≡ m → f (key.Node z) ≡ value_of world (values_in g world) m *ℤ pos d
  value_at z m lt e = is z ∙ ap (λ (y : ℤ). y *ℤ pos d) (value_here g world fold z lt ∙ ap (value_of world (values_in g world)) e)

  bit_at : (t : ℕ) → t < size g → is_plain (node g t) ≡ true → values_in g world t ≡ as_number (holds (values_in g world) t)
  bit_at t lt plain = bit_kept g g world (record { keeps = keeps_same g; fold = fold; has = has }) t lt (plain_truth (node g t) plain)

  typed_at : (z : ℕ) (m : Formula) → z < size g → node g z ≡ m → IsTyped g m
  typed_at z m lt e = subst (IsTyped g) e (fold.fits z lt).typed

  kid_below : (z t : ℕ) → z < size g → node g z ≡ NotNode t → t < size g
  kid_below z t lt e = let k = subst (λ (m : Formula). All (λ kid. kid < z) (kids_of m)) e (fold.graph.below z lt) 0 0 (omega arith) in omega (arith, k, lt)

  not_sum : (z t : ℕ) → z < size g → node g z ≡ NotNode t → f (key.Node z) ≡ pos 1 *ℤ pos d +ℤ (negsuc 0 *ℤ f (key.Node t) +ℤ pos 0)
  not_sum z t lt e =
      value_at z (NotNode t) lt e ∙ not_value (values_in g world t) (holds (values_in g world) t) (bit_at t (kid_below z t lt e) (typed_at z (NotNode t) lt e))
      ∙ ap (λ (y : ℤ). pos 1 *ℤ pos d +ℤ (negsuc 0 *ℤ y +ℤ pos 0)) (sym (is t))

  linear_sum : (z : ℕ) (c : ℤ) (terms : List Term) → z < size g → node g z ≡ LinNode c terms → f (key.Node z) ≡ c *ℤ pos d +ℤ total_by (λ (t : Term). t.factor *ℤ f (key.Node t.node)) terms
  linear_sum z c terms lt e =
      let all = total_over d (λ (t : Term). t.factor) (λ (t : Term). f (key.Node t.node)) (λ (t : Term). values_in g world t.node) terms (λ j x less. is (get_or terms j x).node) in
      value_at z (LinNode c terms) lt e ∙ +ℤ-*ℤ c (total_by (λ (t : Term). t.factor *ℤ values_in g world t.node) terms) (pos d) ∙ ap (λ (y : ℤ). c *ℤ pos d +ℤ y) (sym all)

  pub values_linear : IsLinearOver g d f
  values_linear = λ z lt. by_kind g d f z (node g z)
      (λ e. value_at z FalseNode lt e ∙ no_sum (pos 0 *ℤ pos d)) (λ e. value_at z TrueNode lt e ∙ no_sum (pos 1 *ℤ pos d)) (λ t e. not_sum z t lt e) (λ c terms e. linear_sum z c terms lt e)
