-- Each value of a list lies in its range, also in later lists.
use Rattle.std.proofs.Common.{◌≡◌, subst, ℕ, zero, suc, ◌+◌, ◌<◌, ◌≤◌, ℤ, pos, List, map, set, take, refl, arith}
use Rattle.std.proofs.lemmas.List.{length-map}
use Rattle.prov_fold.specs.declared.span.Span.{Span}
use Rattle.prov_fold.specs.Graphs.{Graph, node, range, size}
use Rattle.prov_fold.specs.Folds.{IsFold}
use Rattle.prov_fold.specs.Values.{number_at, value_of, HasNumbers}
use Rattle.prov_fold.specs.Meanings.{values_in, IsLater}
use Rattle.prov_fold.proofs.ValueLemmas.{IsIn}
use Rattle.prov_fold.proofs.FillLemmas.{IsFilled, fill_start, fill_step, fill_end}

module _ (g : Graph) (world : List ℤ) (fold : IsFold g) (has : HasNumbers g world) where
  -- the values of the first n places can be written one after another
  filled : (n : ℕ) → n ≤ size g → (out : List ℤ) × IsFilled g world n out
  filled zero le = (map (λ f. pos 0) g.parts, fill_start g world (map (λ f. pos 0) g.parts) (length-map g.parts (λ f. pos 0)))
  filled (suc n) le =
      let before = filled n (omega (arith, le)) in
      let v = value_of world (number_at (take n before.0)) (node g n) in
      let e : n + 1 ≡ suc n = omega arith in
      (set before.0 n v, subst (λ m. IsFilled g world m (set before.0 n v)) e (fill_step g world n before.0 fold has (omega (arith, le)) before.1 v refl))

  pub inside_is : (k : ℕ) → k < size g → IsIn (range g k) (values_in g world k)
  inside_is k lt =
      let whole = filled (size g) (omega arith) in
      subst (λ vs. IsIn (range g k) (number_at vs k)) (fill_end g world (size g) whole.0 (omega arith) whole.1) (whole.1.inside k lt)

pub inside_kept : (g h : Graph) (world : List ℤ) → IsLater g h world → (k : ℕ) → k < size g → IsIn (range g k) (values_in h world k)
inside_kept g h world later k lt =
    subst (λ (s : Span). IsIn s (values_in h world k)) (later.keeps.ranges k lt) (inside_is h world later.fold later.has k (let n = later.keeps.longer in omega (arith, lt, n)))
