-- The truth that stands before an Abs is found, and is whether the number is 0 or above.
use Rattle.std.proofs.Common.{◌≡◌, ◌∙◌, ap, subst, refl, ℕ, ◌<◌, ℤ, pos, List, arith}
use Rattle.std.specs.Prelude.{int_le, Option, Some, None}
use Rattle.prov_arena.specs.Formulas.{PosNode, AbsNode}
use Rattle.prov_arena.specs.Graphs.{place_of}
use Rattle.prov_arena.proofs.GraphLemmas.{place_found, place_none}
use Rattle.prov_fold.specs.Graphs.{Graph, node, size}
use Rattle.prov_fold.specs.Folds.{IsFold, StandsBefore, HasAid}
use Rattle.prov_fold.specs.Values.{as_number, value_of, HasNumbers}
use Rattle.prov_fold.specs.Meanings.{values_in}
use Rattle.prov_fold.proofs.PlaceLemmas.{value_here}
use Rattle.cmp_encode.specs.Tables.{aid_of, found}

-- where an equal part stands, a place of it is found
place_there : (g : Graph) (n i : ℕ) → i < size g → node g i ≡ PosNode n → (place : Option ℕ) → place_of g.parts (PosNode n) ≡ place → (found place < size g) × (node g (found place) ≡ PosNode n)
place_there g n i lt is (Some place) e = place_found g.parts (PosNode n) place e
place_there g n i lt is None e = absurd (place_none g.parts (PosNode n) e i lt is)

module _ (g : Graph) (z : ℕ) (fold : IsFold g) (lt : z < size g) (n : ℕ) (e : node g z ≡ AbsNode n) where
  stands_before : StandsBefore g z (PosNode n)
  stands_before = subst (HasAid g z) e (fold.aids z lt)

  pub aid_there : (aid_of g (AbsNode n) < size g) × (node g (aid_of g (AbsNode n)) ≡ PosNode n)
  aid_there =
      let s = stands_before in
      let before = s.before in
      place_there g n s.place (omega (arith, before, lt)) s.is (place_of g.parts (PosNode n)) refl

pub aid_is : (g : Graph) (z : ℕ) (world : List ℤ) (fold : IsFold g) (lt : z < size g) (has : HasNumbers g world) (n : ℕ) → node g z ≡ AbsNode n → values_in g world (aid_of g (AbsNode n)) ≡ as_number (int_le (pos 0) (values_in g world n))
aid_is g z world fold lt has n e =
    let there = aid_there g z fold lt n e in
    value_here g world fold (aid_of g (AbsNode n)) there.0 ∙ ap (value_of world (values_in g world)) there.1
