-- The point of a world.
use Rattle.std.specs.Prelude.{◌<◌, ◌&&◌, ℕ, ℤ, pos, Bool, not, List, map, length, take, slice_index_or}
use Rattle.std.specs.List.{list_any}
use Rattle.std.specs.Ordering.{int_eq}
use Rattle.prov_arena.specs.declared.part.Pair.{Pair}
use Rattle.prov_arena.specs.Formulas.{Formula, MinNode}
use Rattle.prov_fold.specs.Graphs.{Graph, node, size}
use Rattle.prov_fold.specs.Values.{number_at, as_number, holds}
use Rattle.prov_fold.specs.Meanings.{values_in}
use Rattle.bool_encode.specs.declared.stand.Stand.{Stand}
use Rattle.bool_encode.specs.declared.stand.Stand.TheVariants as stand

-- the pair is there, and has this number
abbrev pub has_least : (ℕ → ℤ) → ℤ → Pair → Bool
has_least v least p = holds v p.truth && int_eq (v p.number) least

-- the pair of this number is such, and none before it
abbrev pub is_first : (Pair → Bool) → List Pair → ℕ → Bool
is_first p pairs i = p (slice_index_or pairs i (record { truth = 0; number = 0 })) && not (list_any p (take i pairs))

-- 1 at the first pair that is there and has the least number, which the Min at z is worth
abbrev pub chosen_by : (ℕ → ℤ) → ℕ → ℕ → Formula → ℤ
chosen_by v z pair (MinNode pairs) = as_number (is_first (has_least v (v z)) pairs pair)
chosen_by v z pair _ = pos 0

-- the number of a column
abbrev pub number_by : Graph → List ℤ → (ℕ → ℤ) → Stand → ℤ
number_by g world v (stand.World column) = number_at world column
number_by g world v (stand.Node z) = v z
number_by g world v (stand.Selector z pair) = chosen_by v z pair (node g z)

-- each column has the number of what it stands for
unfoldable pub point_of : Graph → List Stand → List ℤ → List ℤ
point_of g stands world = map (number_by g world (values_in g world)) stands

abbrev pub HasPairAt : ℕ → Formula → Type 0
HasPairAt pair (MinNode pairs) = pair < length pairs
HasPairAt pair _ = ⊥

-- what a column stands for is there
abbrev pub IsThere : Graph → List ℤ → Stand → Type 0
IsThere g world (stand.World column) = column < length world
IsThere g world (stand.Node z) = z < size g
IsThere g world (stand.Selector z pair) = (z < size g) × HasPairAt pair (node g z)
