-- Which column stands for what in a map, and what a point gives a node by its columns.
use Rattle.std.proofs.Common.{◌≡◌, ◌∙◌, sym, ap, subst, refl, ℕ, zero, suc, ◌<◌, ◌==◌, ℤ, pos, ◌+ℤ◌, ◌*ℤ◌, Bool, true, false, cond, List, [], ◌∷◌, length, All, arith}
use Rattle.std.proofs.lemmas.Bool.{and_parts}
use Rattle.std.proofs.lemmas.Bool.Decides.{Decides-eqb}
use Rattle.std.proofs.lemmas.Int.{ints}
use Rattle.ip_rows.specs.declared.rows.Coef.{Coef}
use Rattle.ip_rows.specs.Programs.{number_at, sum_at}
use Rattle.prov_arena.specs.Formulas.{Formula, FalseNode, TrueNode, PresNode, CellNode, PosNode, NotNode, AndNode, OrNode, LinNode, GuardNode, AbsNode, TotNode, MinNode}
use Rattle.prov_fold.specs.Graphs.{Graph, node}
use Rattle.prov_fold.specs.Kinds.{is_term, is_plain}
use Rattle.bool_encode.specs.declared.form.Key.TheVariants as key
use Rattle.bool_encode.specs.declared.stand.Stand.{Stand}
use Rattle.bool_encode.specs.declared.stand.Stand.TheVariants as stand
use Rattle.bool_encode.specs.Stands.{is_same, column_of, stand_at}
use Rattle.bool_encode.specs.Columns.{Columns, once, coef, stand_by, column_at, columns_by, columns_of, reading, IsOnMap}
use Rattle.whole_points.specs.Matched.{has_column}

-- ---- the column that is found

same_true : (a b : Stand) → is_same a b ≡ true → a ≡ b
same_true (stand.World i) (stand.World j) e = ap (λ n. stand.World n) ((Decides-eqb i j).0 e)
same_true (stand.World i) (stand.Node j) e = cc
same_true (stand.World i) (stand.Selector j k) e = cc
same_true (stand.Node i) (stand.World j) e = cc
same_true (stand.Node i) (stand.Node j) e = ap (λ n. stand.Node n) ((Decides-eqb i j).0 e)
same_true (stand.Node i) (stand.Selector j k) e = cc
same_true (stand.Selector i j) (stand.World k) e = cc
same_true (stand.Selector i j) (stand.Node k) e = cc
same_true (stand.Selector i j) (stand.Selector k l) e =
    let parts = and_parts (i == k) (j == l) e in
    let p : i ≡ k = (Decides-eqb i k).0 parts.0 in
    let q : j ≡ l = (Decides-eqb j l).0 parts.1 in
    λ n. stand.Selector (p n) (q n)

there_by : (x s : Stand) (stands : List Stand) (at : ℕ) (b : Bool) → is_same x s ≡ b → (at < length stands → stand_at stands at ≡ s) → cond b 0 (suc at) < suc (length stands) → stand_at (x ∷ stands) (cond b 0 (suc at)) ≡ s
there_by x s stands at true e rest lt = same_true x s e
there_by x s stands at false e rest lt = rest (omega arith)

-- the column that is found stands for what was sought
pub stand_there : (stands : List Stand) (s : Stand) → column_of stands s < length stands → stand_at stands (column_of stands s) ≡ s
unfolding column_of
stand_there [] s lt = absurd (omega arith)
stand_there (x ∷ stands) s lt = there_by x s stands (column_of stands s) (is_same x s) refl (stand_there stands s) lt

-- ---- kinds with one column

term_once : (g : Graph) (stands : List Stand) (z : ℕ) (m : Formula) → is_term m ≡ true → columns_by g stands z m ≡ once (column_of stands (stand_by z m))
term_once g stands z (PresNode c) e = refl
term_once g stands z (CellNode c) e = refl
term_once g stands z (PosNode n) e = refl
term_once g stands z (AndNode kids) e = refl
term_once g stands z (OrNode kids) e = refl
term_once g stands z (GuardNode t n) e = refl
term_once g stands z (AbsNode n) e = refl
term_once g stands z (TotNode n) e = refl
term_once g stands z (MinNode pairs) e = refl
term_once g stands z FalseNode e = cc
term_once g stands z TrueNode e = cc
term_once g stands z (NotNode t) e = cc
term_once g stands z (LinNode c terms) e = cc

pub plain_term : (m : Formula) → is_plain m ≡ true → is_term m ≡ true
plain_term (PresNode c) e = refl
plain_term (PosNode n) e = refl
plain_term (AndNode kids) e = refl
plain_term (OrNode kids) e = refl
plain_term (CellNode c) e = refl
plain_term (GuardNode t n) e = refl
plain_term (AbsNode n) e = refl
plain_term (TotNode n) e = refl
plain_term (MinNode pairs) e = refl
plain_term FalseNode e = cc
plain_term TrueNode e = cc
plain_term (NotNode t) e = cc
plain_term (LinNode c terms) e = cc

own_once : (g : Graph) (stands : List Stand) (z : ℕ) (m : Formula) → has_column m ≡ true → columns_by g stands z m ≡ once (column_of stands (stand.Node z))
own_once g stands z (PosNode n) e = refl
own_once g stands z (AndNode kids) e = refl
own_once g stands z (OrNode kids) e = refl
own_once g stands z (GuardNode t n) e = refl
own_once g stands z (AbsNode n) e = refl
own_once g stands z (TotNode n) e = refl
own_once g stands z (MinNode pairs) e = refl
own_once g stands z (PresNode c) e = cc
own_once g stands z (CellNode c) e = cc
own_once g stands z FalseNode e = cc
own_once g stands z TrueNode e = cc
own_once g stands z (NotNode t) e = cc
own_once g stands z (LinNode c terms) e = cc

once_sum : (d : ℕ) (x : ℤ) → pos 0 *ℤ pos d +ℤ (pos 1 *ℤ x +ℤ pos 0) ≡ x
once_sum d x = omega (arith, ints)

-- what columns come to at a point over d
abbrev pub sum_of : ℕ → List ℤ → Columns → ℤ
sum_of d point c = c.constant *ℤ pos d +ℤ sum_at point c.terms

abbrev pub AreThere : List Stand → List Coef → Type 0
AreThere stands terms = All (λ (t : Coef). t.column < length stands) terms

module _ (g : Graph) (stands : List Stand) where
  pub on_by : (z : ℕ) (m : Formula) → node g z ≡ m → IsOnMap g stands (key.Node z) → AreThere stands (columns_by g stands z m).terms
  unfolding IsOnMap columns_of
  on_by z m e on = subst (λ (m : Formula). AreThere stands (columns_by g stands z m).terms) e on

  pub by_on : (z : ℕ) → AreThere stands (columns_by g stands z (node g z)).terms → IsOnMap g stands (key.Node z)
  unfolding IsOnMap columns_of
  by_on z on = on

  -- one column that is there
  one_there : (column : ℕ) → column < length stands → AreThere stands (once column).terms
  one_there column lt zero d less = lt
  one_there column lt (suc k) d less = absurd (omega arith)

  pub term_on : (z : ℕ) → is_term (node g z) ≡ true → column_at g stands z < length stands → IsOnMap g stands (key.Node z)
  term_on z e lt = by_on z (subst (λ (c : Columns). AreThere stands c.terms) (sym (term_once g stands z (node g z) e)) (one_there (column_at g stands z) lt))

  pub term_there : (z : ℕ) → is_term (node g z) ≡ true → IsOnMap g stands (key.Node z) → column_at g stands z < length stands
  term_there z e on = subst (λ (c : Columns). AreThere stands c.terms) (term_once g stands z (node g z) e) (on_by z (node g z) refl on) 0 (coef (pos 1) 0) (omega arith)

  pub own_there : (z : ℕ) → has_column (node g z) ≡ true → IsOnMap g stands (key.Node z) → column_of stands (stand.Node z) < length stands
  own_there z e on = subst (λ (c : Columns). AreThere stands c.terms) (own_once g stands z (node g z) e) (on_by z (node g z) refl on) 0 (coef (pos 1) 0) (omega arith)

  pub own_on : (z : ℕ) → has_column (node g z) ≡ true → column_of stands (stand.Node z) < length stands → IsOnMap g stands (key.Node z)
  own_on z e lt = by_on z (subst (λ (c : Columns). AreThere stands c.terms) (sym (own_once g stands z (node g z) e)) (one_there (column_of stands (stand.Node z)) lt))

  pub selector_there : (z pair : ℕ) → IsOnMap g stands (key.Selector z pair) → column_of stands (stand.Selector z pair) < length stands
  unfolding IsOnMap columns_of
  selector_there z pair on = on 0 (coef (pos 1) 0) (omega arith)

  module _ (d : ℕ) (point : List ℤ) where
    pub reads : (z : ℕ) (m : Formula) → node g z ≡ m → reading g stands d point (key.Node z) ≡ sum_of d point (columns_by g stands z m)
    unfolding reading columns_of
    reads z m e = ap (λ (m : Formula). sum_of d point (columns_by g stands z m)) e

    pub term_reads : (z : ℕ) → is_term (node g z) ≡ true → reading g stands d point (key.Node z) ≡ number_at point (column_at g stands z)
    term_reads z e = reads z (node g z) refl ∙ ap (sum_of d point) (term_once g stands z (node g z) e) ∙ once_sum d (number_at point (column_at g stands z))

    pub own_reads : (z : ℕ) → has_column (node g z) ≡ true → reading g stands d point (key.Node z) ≡ number_at point (column_of stands (stand.Node z))
    own_reads z e = reads z (node g z) refl ∙ ap (sum_of d point) (own_once g stands z (node g z) e) ∙ once_sum d (number_at point (column_of stands (stand.Node z)))

    pub selector_reads : (z pair : ℕ) → reading g stands d point (key.Selector z pair) ≡ number_at point (column_of stands (stand.Selector z pair))
    unfolding reading columns_of
    selector_reads z pair = once_sum d (number_at point (column_of stands (stand.Selector z pair)))
