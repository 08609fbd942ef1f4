-- Which column stands for what.
use Rattle.std.specs.Prelude.{◌≢◌, ◌<◌, ◌^◌, ◌==◌, ◌&&◌, ℕ, suc, Bool, false, cond, List, [], ◌∷◌, length, slice_index_or}
use Rattle.bool_encode.specs.declared.stand.Stand.{Stand}
use Rattle.bool_encode.specs.declared.stand.Stand.TheVariants as stand

abbrev pub is_same : Stand → Stand → Bool
is_same (stand.World i) (stand.World j) = i == j
is_same (stand.Node i) (stand.Node j) = i == j
is_same (stand.Selector i j) (stand.Selector k l) = (i == k) && (j == l)
is_same _ _ = false

-- the first column that stands for this; where none does, the number of columns
unfoldable pub column_of : List Stand → Stand → ℕ
column_of [] sought = 0
column_of (s ∷ stands) sought = cond (is_same s sought) 0 (suc (column_of stands sought))

-- what the column of this number stands for
abbrev pub stand_at : List Stand → ℕ → Stand
stand_at stands column = slice_index_or stands column (stand.World 0)

-- what the columns of a program stand for: no two stand for the same
pub record IsMap (stands : List Stand) : Type 0 where
  pub few : length stands < 2 ^ 32
  pub once : (i j : ℕ) → i < j → j < length stands → stand_at stands i ≢ stand_at stands j
