-- What is meant of the nodes of a list: it holds on every world, also when the list has grown.
use Rattle.std.specs.Prelude.{ℕ, ℤ, List}
use Rattle.prov_fold.specs.Graphs.{Graph, Keeps}
use Rattle.prov_fold.specs.Folds.{IsFold}
use Rattle.prov_fold.specs.Values.{number_at, values_of, HasNumbers}

-- the values of the nodes of a list on a world
abbrev pub values_in : Graph → List ℤ → ℕ → ℤ
values_in g world = number_at (values_of world g.parts)

-- a list that begins with the one before, and a world whose numbers lie in its ranges
pub record IsLater (before after : Graph) (world : List ℤ) : Type 0 where
  pub keeps : Keeps before after
  pub fold : IsFold after
  pub has : HasNumbers after world

-- what is told of a world and of the nodes' values on it holds of every later list
unfoldable pub Means : Graph → (List ℤ → (ℕ → ℤ) → Type 0) → Type 0
Means g Tells = (later : Graph) (world : List ℤ) → IsLater g later world → Tells world (values_in later world)
