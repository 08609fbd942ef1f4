-- how large the numbers of a term of a row are together; public contracts cite none of this
use Rattle.std.specs.Prelude.{ℕ, ℤ, ◌<◌, ◌≤◌, ◌*◌, unsigned_abs, List}
use Rattle.prov_fold.specs.Graphs.{Graph, size}
use Rattle.bool_encode.specs.declared.form.Key.TheVariants as key
use Rattle.bool_encode.specs.declared.stand.Stand.{Stand}
use Rattle.bool_encode.specs.Columns.{IsOnMap, columns_of}
use Rattle.bool_encode.specs.Rows.{heft}

-- a factor with a node that is there and on the map, and whose numbers are small together
pub record IsLight (g : Graph) (stands : List Stand) (factor : ℤ) (z : ℕ) : Type 0 where
  pub there : z < size g
  pub on_map : IsOnMap g stands (key.Node z)
  pub light : unsigned_abs factor * heft (columns_of g stands (key.Node z)) ≤ 1000000000000000000
