-- How large the numbers of these rows are together.
use Rattle.std.proofs.Common.{◌≡◌, ap, refl, ℕ, ◌+◌, ◌<◌, ◌≤◌, ◌^◌, ℤ, unsigned_abs, true, List, [], ◌∷◌, map, arith}
use Rattle.std.proofs.Math.Nat.{mul-le-mul_left, mul-le-mul_right}
use Rattle.ip_rows.specs.declared.rows.Coef.{Coef}
use Rattle.prov_arena.specs.declared.part.Term.{Term}
use Rattle.prov_arena.specs.Formulas.{Formula, FalseNode, TrueNode, PresNode, CellNode, PosNode, NotNode, AndNode, OrNode, LinNode, GuardNode, AbsNode, TotNode, MinNode}
use Rattle.prov_fold.specs.Graphs.{Graph, node, range, size, Fits}
use Rattle.prov_fold.specs.Folds.{IsFold}
use Rattle.prov_fold.specs.Kinds.{is_number, is_term}
use Rattle.prov_fold.specs.Sums.{added_by}
use Rattle.prov_fold.proofs.SumLemmas.{number_weight}
use Rattle.prov_fold.proofs.SpreadLemmas.{linear_good, factors_weight}
use Rattle.bool_encode.specs.declared.form.Key.TheVariants as key
use Rattle.bool_encode.specs.declared.stand.Stand.{Stand}
use Rattle.bool_encode.specs.Columns.{coef, column_at, columns_by, columns_of, IsOnMap}
use Rattle.bool_encode.specs.Rows.{heft, weight, IsKid}
use Rattle.bool_encode.specs.Tables.{times}
use Rattle.cmp_encode.specs.Light.{IsLight}

-- ---- how much a node weighs

added_coefs : (g : Graph) (stands : List Stand) (terms : List Term) → added_by (λ (t : Coef). unsigned_abs t.factor) (map (λ (t : Term). coef t.factor (column_at g stands t.node)) terms) ≡ added_by (λ (t : Term). unsigned_abs t.factor) terms
added_coefs g stands [] = refl
added_coefs g stands (t ∷ terms) = ap (λ n. unsigned_abs t.factor + n) (added_coefs g stands terms)

number_heft : (g : Graph) (stands : List Stand) (z : ℕ) (m : Formula) → IsFold g → Fits g (range g z) m → is_number m ≡ true → heft (columns_by g stands z m) ≤ 300000000000000000
number_heft g stands z (LinNode c terms) fold fits e =
    let factors = factors_weight g terms fold (linear_good g c terms fits.kids fits.typed.kinds) in
    let weight = number_weight g (range g z) c terms fold fits in
    let small = fits.typed.small in
    let same = added_coefs g stands terms in
    omega (arith, factors, weight, small, same)
number_heft g stands z FalseNode fold fits e = cc
number_heft g stands z TrueNode fold fits e = cc
number_heft g stands z (PresNode column) fold fits e = cc
number_heft g stands z (CellNode column) fold fits e = cc
number_heft g stands z (PosNode number) fold fits e = cc
number_heft g stands z (NotNode truth) fold fits e = cc
number_heft g stands z (AndNode kids) fold fits e = cc
number_heft g stands z (OrNode kids) fold fits e = cc
number_heft g stands z (GuardNode truth number) fold fits e = cc
number_heft g stands z (AbsNode number) fold fits e = cc
number_heft g stands z (TotNode number) fold fits e = cc
number_heft g stands z (MinNode pairs) fold fits e = cc

pub number_light : (g : Graph) (stands : List Stand) (z : ℕ) → IsFold g → z < size g → is_number (node g z) ≡ true → heft (columns_of g stands (key.Node z)) ≤ 300000000000000000
unfolding columns_of
number_light g stands z fold lt e = number_heft g stands z (node g z) fold (fold.fits z lt) e

pub number_kid : (g : Graph) (stands : List Stand) (z : ℕ) → IsFold g → z < size g → IsOnMap g stands (key.Node z) → is_number (node g z) ≡ true → IsKid g stands 300000000000000000 z
unfolding columns_of
number_kid g stands z fold lt on e = record { there = lt; on_map = on; light = number_heft g stands z (node g z) fold (fold.fits z lt) e }

own_heft : (g : Graph) (stands : List Stand) (z : ℕ) (m : Formula) → is_term m ≡ true → heft (columns_by g stands z m) ≤ 2
own_heft g stands z FalseNode e = cc
own_heft g stands z TrueNode e = cc
own_heft g stands z (PresNode column) e = omega arith
own_heft g stands z (CellNode column) e = omega arith
own_heft g stands z (PosNode number) e = omega arith
own_heft g stands z (NotNode truth) e = cc
own_heft g stands z (AndNode kids) e = omega arith
own_heft g stands z (OrNode kids) e = omega arith
own_heft g stands z (LinNode c terms) e = cc
own_heft g stands z (GuardNode truth number) e = omega arith
own_heft g stands z (AbsNode number) e = omega arith
own_heft g stands z (TotNode number) e = omega arith
own_heft g stands z (MinNode pairs) e = omega arith

pub own_kid : (g : Graph) (stands : List Stand) (z : ℕ) → z < size g → IsOnMap g stands (key.Node z) → is_term (node g z) ≡ true → IsKid g stands 2 z
unfolding columns_of
own_kid g stands z lt on e = record { there = lt; on_map = on; light = own_heft g stands z (node g z) e }

-- ---- how much a factor times a node weighs

pub light_number : (g : Graph) (stands : List Stand) (a : ℤ) (x : ℕ) → IsKid g stands 300000000000000000 x → unsigned_abs a ≤ 1 → IsLight g stands a x
light_number g stands a x kid small =
    let p = mul-le-mul_right (heft (columns_of g stands (key.Node x))) small in
    let q = kid.light in
    record { there = kid.there; on_map = kid.on_map; light = omega (arith, p, q) }

pub light_own : (g : Graph) (stands : List Stand) (a : ℤ) (x : ℕ) → IsKid g stands 2 x → unsigned_abs a ≤ 200000000000000001 → IsLight g stands a x
light_own g stands a x kid small =
    let p = mul-le-mul_left (unsigned_abs a) kid.light in
    record { there = kid.there; on_map = kid.on_map; light = omega (arith, p, small) }

-- ---- how much two and three terms weigh

module _ (g : Graph) (stands : List Stand) (c a b : ℤ) (x y : ℕ) (one : IsLight g stands a x) (other : IsLight g stands b y) where
  pub two_weigh : unsigned_abs c ≤ 1000000000000000000 → weight g stands c (times a x ∷ times b y ∷ []) < 2 ^ 63
  two_weigh small = let p = one.light in let q = other.light in omega (arith, p, q, small)

module _ (g : Graph) (stands : List Stand) (c a b e : ℤ) (x y z : ℕ) (one : IsLight g stands a x) (other : IsLight g stands b y) (third : IsLight g stands e z) where
  pub three_weigh : unsigned_abs c ≤ 1000000000000000000 → weight g stands c (times a x ∷ times b y ∷ times e z ∷ []) < 2 ^ 63
  three_weigh small = let p = one.light in let q = other.light in let r = third.light in omega (arith, p, q, r, small)
