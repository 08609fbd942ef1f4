-- What the rows of a Min tell: that it has its value, and which of its selectors is 1.
use Rattle.std.specs.Prelude.{◌≡◌, ◌≢◌, ◌<◌, ◌↔◌, ℕ, ℤ, pos, Bool, true, false, List, length, All, slice_index_or}
use Rattle.std.specs.List.{list_any}
use Rattle.ip_rows.specs.declared.rows.IpRow.{IpRow}
use Rattle.prov_arena.specs.declared.part.Pair.{Pair}
use Rattle.prov_arena.specs.Formulas.{Formula, MinNode}
use Rattle.prov_fold.specs.Graphs.{Graph, node}
use Rattle.prov_fold.specs.Values.{HasNumbers, holds}
use Rattle.prov_fold.specs.Meanings.{values_in}
use Rattle.bool_encode.specs.declared.form.Key.TheVariants as key
use Rattle.bool_encode.specs.declared.stand.Stand.{Stand}
use Rattle.bool_encode.specs.Columns.{reading}
use Rattle.bool_encode.specs.Points.{HasPairAt, has_least}
use Rattle.bool_encode.specs.Rows.{HoldsOver}
use Rattle.bool_encode.specs.Tellings.{IsBit, IsRight}
use Rattle.cmp_encode.specs.Tables.{named_by}

abbrev pub is_least : Formula → Bool
is_least (MinNode pairs) = true
is_least _ = false

-- ---- which selectors are 1, where w gives the number of each over d

-- of so many selectors that of this pair alone is 1, and the others are 0
pub record IsChosenAlone (d : ℕ) (w : ℕ → ℤ) (count pair : ℕ) : Type 0 where
  pub there : pair < count
  pub chosen : w pair ≡ pos d
  pub others : (other : ℕ) → other < count → other ≢ pair → w other ≡ pos 0

abbrev pub pair_at : List Pair → ℕ → Pair
pair_at pairs pair = slice_index_or pairs pair (record { truth = 0; number = 0 })

-- one pair alone is chosen, and it is such
abbrev pub ChoosesOne : ℕ → (ℕ → ℤ) → (Pair → Bool) → List Pair → Type 0
ChoosesOne d w is_such pairs = (pair : ℕ) × IsChosenAlone d w (length pairs) pair × (is_such (pair_at pairs pair) ≡ true)

abbrev pub ChoosesNone : (ℕ → ℤ) → List Pair → Type 0
ChoosesNone w pairs = (pair : ℕ) → pair < length pairs → w pair ≡ pos 0

-- where a pair is there, one that is such, else none
abbrev pub ChoosesIf : Bool → ℕ → (ℕ → ℤ) → (Pair → Bool) → List Pair → Type 0
ChoosesIf true d w is_such pairs = ChoosesOne d w is_such pairs
ChoosesIf false d w is_such pairs = ChoosesNone w pairs

-- by the values v: where a pair is there, the selectors of the Min at z choose one that is there and has the least number
abbrev pub Chooses : (ℕ → ℤ) → ℕ → ℕ → (ℕ → ℤ) → Formula → Type 0
Chooses v z d w (MinNode pairs) = ChoosesIf (list_any (λ (p : Pair). holds v p.truth) pairs) d w (has_least v (v z)) pairs
Chooses v z d w _ = Unit {0}

-- ---- what rows tell

-- the numbers of the selectors of z
abbrev pub selectors_at : Graph → List Stand → ℕ → List ℤ → ℕ → ℕ → ℤ
selectors_at g stands d point z pair = reading g stands d point (key.Selector z pair)

-- a point over d that has the values on a world at the places that the rows of z name beside z, and whose selectors of z are 0 or 1
pub record IsReadied (g : Graph) (stands : List Stand) (z : ℕ) (world : List ℤ) (d : ℕ) (point : List ℤ) : Type 0 where
  pub numbers : HasNumbers g world
  pub some : 0 < d
  pub right : All (IsRight g stands world d point) (named_by g (node g z))
  pub bits : (pair : ℕ) → HasPairAt pair (node g z) → IsBit d (selectors_at g stands d point z pair)

-- at such points all rows hold exactly where z too has its value and one pair with it is chosen, or none where none is there.
-- Whole points are those over 1
unfoldable pub TellsLeast : Graph → List Stand → ℕ → List IpRow → Type 0
TellsLeast g stands z rows = (world : List ℤ) (d : ℕ) (point : List ℤ) → IsReadied g stands z world d point
    → (All (HoldsOver d point) rows ↔ (IsRight g stands world d point z × Chooses (values_in g world) z d (selectors_at g stands d point z) (node g z)))
