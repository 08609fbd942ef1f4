-- What the rows of Pos, Guard, Abs and Tot ask of the places that they name.
use Rattle.std.proofs.Common.{◌≡◌, ◌∙◌, sym, ap, subst, ℕ, ◌<◌, true, List, ◌∷◌, All, Result, Ok, Err, IfOk, arith}
use Rattle.ip_rows.specs.declared.rows.IpRow.{IpRow}
use Rattle.prov_arena.specs.Formulas.{Formula, PosNode, GuardNode, AbsNode, TotNode}
use Rattle.prov_fold.specs.Graphs.{Graph, node, range, size, Fits}
use Rattle.prov_fold.specs.Folds.{IsFold}
use Rattle.prov_fold.specs.Kinds.{is_truth, is_term}
use Rattle.bool_encode.specs.declared.form.Key.TheVariants as key
use Rattle.bool_encode.specs.declared.stand.Stand.{Stand}
use Rattle.bool_encode.specs.Columns.{IsOnMap}
use Rattle.bool_encode.specs.Rows.{AreRows, IsKid}
use Rattle.bool_encode.specs.Tellings.{Tells}
use Rattle.bool_encode.proofs.LightLemmas.{light_truth}
use Rattle.cmp_encode.specs.Tables.{forms_of, is_compared, named_by, aid_of}
use Rattle.cmp_encode.proofs.Aids.{aid_there}
use Rattle.cmp_encode.proofs.Telling.{compared_tells}
use Rattle.cmp_encode.proofs.Weights.{number_kid, own_kid}

if_ok : {A E : Type 0} (r : Result A E) (P Q : A → Type 0) → ((a : A) → P a → Q a) → IfOk r P → IfOk r Q
if_ok (Ok a) P Q f h = f a h
if_ok (Err e) P Q f h = tt

module _ (g : Graph) (stands : List Stand) (z : ℕ) (fold : IsFold g) (lt : z < size g) (named : All (λ k. IsOnMap g stands (key.Node k)) (z ∷ named_by g (node g z))) where
  abbrev Number : ℕ → Type 0
  Number k = IsKid g stands 300000000000000000 k

  abbrev Small : ℕ → Type 0
  Small k = IsKid g stands 2 k

  fits_as : (m : Formula) → m ≡ node g z → Fits g (range g z) m
  fits_as m e = subst (Fits g (range g z)) (sym e) (fold.fits z lt)

  named_as : (m : Formula) → m ≡ node g z → All (λ k. IsOnMap g stands (key.Node k)) (z ∷ named_by g m)
  named_as m e = subst (λ (m : Formula). All (λ k. IsOnMap g stands (key.Node k)) (z ∷ named_by g m)) (sym e) named

  own : (m : Formula) → m ≡ node g z → is_term m ≡ true → Small z
  own m e term = own_kid g stands z lt (named 0 0 (omega arith)) (ap is_term (sym e) ∙ term)

  pub pos_ready : (n : ℕ) → PosNode n ≡ node g z → Number n × Small z
  pos_ready n e =
      let fits = fits_as (PosNode n) e in
      (number_kid g stands n fold (fits.kids 0 0 (omega arith)) (named_as (PosNode n) e 1 0 (omega arith)) fits.typed, own (PosNode n) e (λ i. true))

  pub guard_ready : (t n : ℕ) → GuardNode t n ≡ node g z → Small t × Number n × Small z
  guard_ready t n e =
      let fits = fits_as (GuardNode t n) e in
      let on = named_as (GuardNode t n) e in
      (light_truth g stands t (fits.kids 0 0 (omega arith)) (on 1 0 (omega arith)) fits.typed.0, number_kid g stands n fold (fits.kids 1 0 (omega arith)) (on 2 0 (omega arith)) fits.typed.1, own (GuardNode t n) e (λ i. true))

  pub abs_ready : (n : ℕ) → AbsNode n ≡ node g z → Number n × Small z × Small (aid_of g (AbsNode n))
  abs_ready n e =
      let fits = fits_as (AbsNode n) e in
      let on = named_as (AbsNode n) e in
      let there = aid_there g z fold lt n (sym e) in (
        number_kid g stands n fold (fits.kids 0 0 (omega arith)) (on 1 0 (omega arith)) fits.typed,
        own (AbsNode n) e (λ i. true),
        light_truth g stands (aid_of g (AbsNode n)) there.0 (on 2 0 (omega arith)) (ap is_truth there.1),
      )

  pub tot_ready : (n : ℕ) → TotNode n ≡ node g z → Number n × Small z
  tot_ready n e =
      let fits = fits_as (TotNode n) e in
      (number_kid g stands n fold (fits.kids 0 0 (omega arith)) (named_as (TotNode n) e 1 0 (omega arith)) fits.typed, own (TotNode n) e (λ i. true))

-- a call that gives the rows of the forms gives rows that tell the value
pub compared_if : {E : Type 0} (g : Graph) (stands : List Stand) (z : ℕ) → IsFold g → z < size g → (r : Result (List IpRow) E) (m : Formula) → m ≡ node g z → is_compared (node g z) ≡ true → IfOk r (AreRows g stands (forms_of g z m)) → IfOk r (Tells g stands z (named_by g (node g z)))
compared_if g stands z fold lt r m e own h =
    if_ok r (AreRows g stands (forms_of g z m)) (Tells g stands z (named_by g (node g z))) (λ rows are. compared_tells g stands z rows fold lt own (subst (λ (m : Formula). AreRows g stands (forms_of g z m) rows) e are)) h
