-- Which nodes are used: the seeds, and downward from them all whose columns the rows of used nodes name.
use Rattle.std.specs.Prelude.{◌≡◌, ◌↔◌, ℕ, Bool, true, false, if◌then◌else◌, List, [], ◌∷◌, map, flat_map, length, Contains, slice_index_or}
use Rattle.prov_arena.specs.declared.part.Term.{Term}
use Rattle.prov_arena.specs.Formulas.{Formula, FalseNode, TrueNode, NotNode, LinNode}
use Rattle.prov_fold.specs.Graphs.{Graph, node, size}
use Rattle.cmp_encode.specs.Tables.{named_by}
use Rattle.whole_points.specs.Matched.{has_column}

-- the nodes whose columns make up the formula at the place k: a Not is its truth's, a number its terms', and False and True have none
abbrev pub made_of : ℕ → Formula → List ℕ
made_of k FalseNode = []
made_of k TrueNode = []
made_of k (NotNode truth) = truth ∷ []
made_of k (LinNode c terms) = map (λ (t : Term). t.node) terms
made_of k m = k ∷ []

-- the same of the nodes at these places
abbrev pub all_made_of : Graph → List ℕ → List ℕ
all_made_of g places = flat_map (λ k. made_of k (node g k)) places

-- the nodes whose columns stand in the rows of the node at the place z beside its own: a node without a column has no rows
unfoldable pub names : Graph → ℕ → List ℕ
names g z = if has_column (node g z) then all_made_of g (named_by g (node g z)) else []

-- a node is used where it is a seed, or its column stands in the rows of a used node
pub data IsUsed (g : Graph) (seeds : List ℕ) : ℕ → Type 0 where
  Seed : (z : ℕ) → Contains seeds z → IsUsed g seeds z
  Named : (y z : ℕ) → IsUsed g seeds y → Contains (names g y) z → IsUsed g seeds z

-- the mark of a place
abbrev pub mark_at : List Bool → ℕ → Bool
mark_at marks z = slice_index_or marks z false

-- exactly the used nodes are marked
pub record AreUsed (g : Graph) (seeds : List ℕ) (marks : List Bool) : Type 0 where
  pub count : length marks ≡ size g
  pub each : (z : ℕ) → (mark_at marks z ≡ true) ↔ IsUsed g seeds z
