-- How large the numbers of a node are together; public contracts cite none of this.
use Rattle.std.specs.Prelude.{◌<◌, ◌≤◌, ℕ, List}
use Rattle.prov_fold.specs.Graphs.{Graph, size}
use Rattle.bool_encode.specs.declared.form.Key.TheVariants as key
use Rattle.bool_encode.specs.declared.stand.Stand.{Stand}
use Rattle.bool_encode.specs.Columns.{columns_of}
use Rattle.bool_encode.specs.Rows.{heft}

-- a node that is there, and whose numbers together are at most this
pub record IsLightNode (g : Graph) (stands : List Stand) (most : ℕ) (z : ℕ) : Type 0 where
  pub there : z < size g
  pub light : heft (columns_of g stands (key.Node z)) ≤ most
