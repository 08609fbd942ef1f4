-- What a list with its ranges is.
use Rattle.std.specs.Prelude.{◌≡◌, ℕ, ◌<◌, ◌≤◌, true, List, length, map}
use Rattle.prov_arena.specs.declared.part.Pair.{Pair}
use Rattle.prov_arena.specs.Formulas.{Formula, PosNode, AbsNode, MinNode}
use Rattle.prov_arena.specs.Graphs.{IsGraph}
use Rattle.prov_fold.specs.Kinds.{is_truth}
use Rattle.prov_fold.specs.Graphs.{Graph, node, range, size, Fits}
use Rattle.prov_fold.specs.Rules.{given, or_of}

-- a formula stands before a place
pub record StandsBefore (g : Graph) (i : ℕ) (f : Formula) : Type 0 where
  pub place : ℕ
  pub before : place < i
  pub is : node g place ≡ f

-- the `or` of truths is a truth before a place: the rule gives it, and appends nothing
pub record OrStandsBefore (g : Graph) (i : ℕ) (truths : List ℕ) : Type 0 where
  pub place : ℕ
  pub before : place < i
  pub truth : is_truth (node g place) ≡ true
  pub is : or_of truths g ≡ given place g

-- the truth that stands before a formula at a place beside those that it names:
-- before an Abs the Pos of its number, and before a Min the `or` of its truths
abbrev pub HasAid : Graph → ℕ → Formula → Type 0
HasAid g i (AbsNode number) = StandsBefore g i (PosNode number)
HasAid g i (MinNode pairs) = OrStandsBefore g i (map (λ (p : Pair). p.truth) pairs)
HasAid g i _ = Unit {0}

-- what every list with its ranges is
pub record IsFold (g : Graph) : Type 0 where
  pub graph : IsGraph g.parts
  pub few : size g ≤ 20000000
  pub count : length g.ranges ≡ size g
  pub fits : (i : ℕ) → i < size g → Fits g (range g i) (node g i)
  pub aids : (i : ℕ) → i < size g → HasAid g i (node g i)
