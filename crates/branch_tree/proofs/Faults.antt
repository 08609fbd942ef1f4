-- A tree without a fault: neither side of a split has one, and a leaf with a value was judged to it.
use Rattle.std.proofs.Common.{◌≡◌, ℤ, List, refl, sym, ◌∙◌, ap, inl, inr}
use Rattle.std.specs.Prelude.{Option, Some, None, Result, Ok, Err}
use Rattle.ip_rows.specs.declared.Bounds.{Bounds}
use Rattle.branch_tree.specs.declared.node.Leaf.TheVariants as leaf
use Rattle.branch_tree.specs.Boxes.{low_box, high_box}
use Rattle.branch_tree.specs.Faults.{IsSound, NoFault, fault_of, or_later}
use Rattle.branch_tree.specs.Listing.{HasLeaf}
use Rattle.branch_tree.specs.Tree.{Tree, closed, split}

pub neither_first : {E : Type 0} (one other : Option E) → or_later one other ≡ None → one ≡ None
neither_first None other none = refl
neither_first (Some told) other none = none

pub neither_later : {E : Type 0} (one other : Option E) → or_later one other ≡ None → other ≡ None
neither_later None other none = none
neither_later {E} (Some told) other none = absurd (let k : ◌≡◌ {A = Option E} (Some told) None = none in cc)

-- what is not at fault has a value
pub sound_ok : {A E : Type 0} (outcome : Result A E) → IsSound outcome → (value : A) × (outcome ≡ Ok value)
sound_ok (Ok value) sound = (value, refl)
sound_ok {A} {E} (Err told) sound = absurd (let k : ◌≡◌ {A = Option E} (Some told) None = sound in cc)

module _ {E : Type 0} (value : List ℤ → Option ℤ) (judged : List ℤ → Result (Option ℤ) E) (agree : (point : List ℤ) (found : Option ℤ) → judged point ≡ Ok found → value point ≡ found) where
  sound_judged : (point : List ℤ) (v : ℤ) → IsSound (judged point) → value point ≡ Some v → judged point ≡ Ok (Some v)
  sound_judged point v sound is =
      let told = sound_ok (judged point) sound in
      told.1 ∙ ap (λ (o : Option ℤ). Ok o) (sym (agree point told.0 told.1) ∙ is)

  pub leaf_judged : (point : List ℤ) (v : ℤ) (tree : Tree) (sides : List Bounds) → NoFault judged tree sides → HasLeaf value point v tree sides → judged point ≡ Ok (Some v)
  leaf_judged point v (closed leaf.Pending) sides sound here = absurd here
  leaf_judged point v (closed leaf.Fixed) sides sound here = sound_judged point v (ap (λ (ns : List ℤ). fault_of (judged ns)) here.0 ∙ sound) here.1
  leaf_judged point v (split column at reason low high) sides sound (inl here) = leaf_judged point v low (low_box sides column at) (neither_first _ _ sound) here
  leaf_judged point v (split column at reason low high) sides sound (inr here) = leaf_judged point v high (high_box sides column at) (neither_later _ _ sound) here
