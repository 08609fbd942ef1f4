-- Rows by groups; public contracts cite none of this.
use Rattle.std.specs.Prelude.{ℕ, ◌<◌, List, ◌++◌, length, All}
use Rattle.ip_rows.specs.declared.rows.IpRow.{IpRow}
use Rattle.prov_arena.specs.declared.part.Pair.{Pair}
use Rattle.prov_fold.specs.Graphs.{Graph}
use Rattle.bool_encode.specs.declared.form.Key.TheVariants as key
use Rattle.bool_encode.specs.declared.stand.Stand.{Stand}
use Rattle.bool_encode.specs.Columns.{IsOnMap}
use Rattle.bool_encode.specs.Forms.{Form}
use Rattle.bool_encode.specs.Rows.{AreRows, IsKid}

-- the rows of these forms were appended
abbrev pub Appends : Graph → List Stand → List Form → List IpRow → List IpRow → Type 0
Appends g stands forms old new = (before : List Form) → AreRows g stands before old → AreRows g stands (before ++ forms) new

-- the truth and the number of a pair are there and on the map
pub record IsKidPair (g : Graph) (stands : List Stand) (p : Pair) : Type 0 where
  pub truth : IsKid g stands 2 p.truth
  pub number : IsKid g stands 300000000000000000 p.number

-- so are those of each pair of z, and each pair's selector
pub record AreKidPairs (g : Graph) (stands : List Stand) (z : ℕ) (pairs : List Pair) : Type 0 where
  pub each : All (IsKidPair g stands) pairs
  pub chosen : (pair : ℕ) → pair < length pairs → IsOnMap g stands (key.Selector z pair)
