-- What columns are for: they fit the list, and all that the rows of a node with a column name has its column too.
use Rattle.std.specs.Prelude.{◌≡◌, ◌<◌, ℕ, true, List, length, All}
use Rattle.ip_rows.specs.declared.Bounds.{Bounds}
use Rattle.ip_rows.specs.declared.program.IpColumn.{IpColumn}
use Rattle.prov_fold.specs.Kinds.{is_term}
use Rattle.prov_fold.specs.Graphs.{Graph, node, range, size}
use Rattle.bool_encode.specs.declared.form.Key.TheVariants as key
use Rattle.bool_encode.specs.declared.stand.Stand.{Stand}
use Rattle.bool_encode.specs.declared.stand.Stand.TheVariants as stand
use Rattle.bool_encode.specs.Stands.{IsMap, stand_at}
use Rattle.bool_encode.specs.Columns.{IsOnMap}
use Rattle.bool_encode.specs.Points.{HasPairAt}
use Rattle.cmp_encode.specs.Tables.{named_by}
use Rattle.whole_points.specs.Matched.{BeginsWithWorld, IsChoice, IsColumnOf, bounds_of, column_at, world_count}
use Rattle.used_columns.specs.Used.{IsUsed}
use Rattle.used_columns.specs.Columns.{side_at}

-- each presence and each cell of the list is a world column with these sides, which are its range
pub record HasChoices (g : Graph) (sides : List Bounds) : Type 0 where
  pub there : (z number : ℕ) → z < size g → IsChoice number (node g z) → number < length sides
  pub ranged : (z number : ℕ) → z < size g → IsChoice number (node g z) → side_at sides number ≡ bounds_of (range g z)

-- the map and the columns of a program whose seeds these are
pub record IsLaid (g : Graph) (seeds : List ℕ) (stands : List Stand) (made : List IpColumn) : Type 0 where
  pub map : IsMap stands
  pub begins : BeginsWithWorld stands (world_count stands)
  pub choices : (z number : ℕ) → z < size g → IsChoice number (node g z) → number < world_count stands
  pub count : length made ≡ length stands
  pub columns : (number : ℕ) → number < length stands → IsColumnOf g stands (stand_at stands number) (column_at made number)
  pub named : (number z : ℕ) → number < length stands → stand_at stands number ≡ stand.Node z → All (λ k. IsOnMap g stands (key.Node k)) (named_by g (node g z))
  pub chosen : (number z pair : ℕ) → number < length stands → stand_at stands number ≡ stand.Node z → HasPairAt pair (node g z) → IsOnMap g stands (key.Selector z pair)
  pub reached : (z : ℕ) → z < size g → is_term (node g z) ≡ true → IsUsed g seeds z → IsOnMap g stands (key.Node z)
