-- What rows tell: that a node has its value.
use Rattle.std.specs.Prelude.{◌≡◌, ◌<◌, ◌↔◌, ◌⊎◌, ℕ, ℤ, pos, ◌*ℤ◌, Bool, true, false, List, All}
use Rattle.ip_rows.specs.declared.rows.IpRow.{IpRow}
use Rattle.prov_arena.specs.Formulas.{Formula, PosNode, AndNode, OrNode}
use Rattle.prov_fold.specs.Graphs.{Graph, node}
use Rattle.prov_fold.specs.Values.{HasNumbers}
use Rattle.prov_fold.specs.Meanings.{values_in}
use Rattle.bool_encode.specs.declared.form.Key.TheVariants as key
use Rattle.bool_encode.specs.declared.stand.Stand.{Stand}
use Rattle.bool_encode.specs.Columns.{reading}
use Rattle.bool_encode.specs.Rows.{HoldsOver}

-- what a point over d has at a node is the node's value on a world
abbrev pub IsRight : Graph → List Stand → List ℤ → ℕ → List ℤ → ℕ → Type 0
IsRight g stands world d point z = reading g stands d point (key.Node z) ≡ values_in g world z *ℤ pos d

-- 0 or 1, over d
abbrev pub IsBit : ℕ → ℤ → Type 0
IsBit d n = (n ≡ pos 0) ⊎ (n ≡ pos d)

-- the truths that have a column of their own
abbrev pub is_switch : Formula → Bool
is_switch (PosNode number) = true
is_switch (AndNode kids) = true
is_switch (OrNode kids) = true
is_switch _ = false

-- a point over d that has the values on a world at the places that the rows of z name beside z; at z, where it is a truth, 0 or 1
pub record IsPrepared (g : Graph) (stands : List Stand) (z : ℕ) (named : List ℕ) (world : List ℤ) (d : ℕ) (point : List ℤ) : Type 0 where
  pub numbers : HasNumbers g world
  pub some : 0 < d
  pub right : All (IsRight g stands world d point) named
  pub bit : is_switch (node g z) ≡ true → IsBit d (reading g stands d point (key.Node z))

-- at such points all rows hold exactly where z too has its value. Whole points are those over 1
unfoldable pub Tells : Graph → List Stand → ℕ → List ℕ → List IpRow → Type 0
Tells g stands z named rows = (world : List ℤ) (d : ℕ) (point : List ℤ) → IsPrepared g stands z named world d point → (All (HoldsOver d point) rows ↔ IsRight g stands world d point z)
