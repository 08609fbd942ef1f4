-- What the rows of a root tell: that it holds.
use Rattle.std.specs.Prelude.{◌≡◌, ◌<◌, ◌↔◌, ℕ, ℤ, pos, ◌*ℤ◌, true, List, [], ◌∷◌, ◌++◌, All}
use Rattle.ip_rows.specs.declared.rows.IpRow.{IpRow}
use Rattle.prov_fold.specs.Graphs.{Graph}
use Rattle.prov_fold.specs.Values.{HasNumbers, holds}
use Rattle.prov_fold.specs.Meanings.{values_in}
use Rattle.bool_encode.specs.declared.form.Key.{Key}
use Rattle.bool_encode.specs.declared.form.Key.TheVariants as key
use Rattle.bool_encode.specs.declared.stand.Stand.{Stand}
use Rattle.bool_encode.specs.Forms.{Form, form_at}
use Rattle.bool_encode.specs.Columns.{reading}
use Rattle.bool_encode.specs.Rows.{AreRows, HoldsOver}
use Rattle.root_encode.specs.Roots.{root_forms}

-- what a key is on a world: a node its value. No selector stands in a root's forms
abbrev pub value_of : Graph → List ℤ → Key → ℤ
value_of g world (key.Node z) = values_in g world z
value_of g world (key.Selector z pair) = pos 0

-- the point over d gives each form what it is on the world
abbrev pub AreRight : Graph → List Stand → List ℤ → ℕ → List ℤ → List Form → Type 0
AreRight g stands world d point [] = Unit {0}
AreRight g stands world d point (r ∷ rs) = (form_at d (reading g stands d point) r ≡ form_at d (λ k. value_of g world k *ℤ pos d) r) × AreRight g stands world d point rs

-- a point over d at which each of a root's forms comes to what it is on the world. The nodes that they name may be wrong, where they cancel
pub record IsReadied (g : Graph) (stands : List Stand) (root : ℕ) (world : List ℤ) (d : ℕ) (point : List ℤ) : Type 0 where
  pub numbers : HasNumbers g world
  pub some : 0 < d
  pub right : AreRight g stands world d point (root_forms g true root)

-- at such points all rows hold exactly where the root does. Whole points are those over 1
unfoldable pub TellsRoot : Graph → List Stand → ℕ → List IpRow → Type 0
TellsRoot g stands root rows = (world : List ℤ) (d : ℕ) (point : List ℤ) → IsReadied g stands root world d point → (All (HoldsOver d point) rows ↔ (holds (values_in g world) root ≡ true))

-- rows of these forms were appended
pub record Adds (g : Graph) (stands : List Stand) (forms : List Form) (before after : List IpRow) : Type 0 where
  pub made : List IpRow
  pub all : after ≡ before ++ made
  pub are : AreRows g stands forms made
