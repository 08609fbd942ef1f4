-- How parts are found: each column has the number of its part, counted from 1, or 0 while it is in none.
use Rattle.std.specs.Prelude.{◌≡◌, ◌⊎◌, ℕ, ◌+◌, ◌<◌, ◌≤◌, ◌==◌, Bool, true, false, List, [], ◌∷◌, length, count_by, Contains, slice_index, slice_index_or}
use Rattle.cross_links.specs.Layout.{Layout, live_columns}
use Rattle.ip_partition.specs.Linked.{IsLive, SharesRow, IsLinked}

-- the number of a column's part
abbrev pub part_of : List ℕ → ℕ → ℕ
part_of labels column = slice_index labels column

-- whether a row's columns are all labelled
abbrev pub is_seen : List Bool → ℕ → Bool
is_seen seen row = slice_index_or seen row false

-- how many have no label
abbrev pub unlabelled : List ℕ → ℕ
unlabelled labels = count_by (λ label. label == 0) labels

-- the number stands in the list at some place
abbrev pub IsListed : List ℕ → ℕ → Type 0
IsListed reached column = (k : ℕ) × (k < length reached) × (slice_index reached k ≡ column)

-- live entries are below these ends, which lie in the grid
pub record HasRoom (grid : Layout) (columns rows : ℕ) : Type 0 where
  pub columns_in : columns ≤ grid.columns
  pub rows_in : rows ≤ grid.rows
  pub live : (row column : ℕ) → IsLive grid row column → (row < rows) × (column < columns)

-- parts up to a last one, which is spread from the columns reached so far, up to one place
pub record IsSpread (grid : Layout) (part at : ℕ) (labels : List ℕ) (seen : List Bool) (reached : List ℕ) : Type 0 where
  pub bound : (c : ℕ) → part_of labels c ≤ part
  pub linked : (a b : ℕ) → 0 < part_of labels a → part_of labels a ≡ part_of labels b → IsLinked grid a b
  pub rows : (row a b : ℕ) → is_seen seen row ≡ true → IsLive grid row a → IsLive grid row b → (0 < part_of labels a) × (part_of labels b ≡ part_of labels a)
  pub listed : (c : ℕ) → 0 < part_of labels c → IsListed reached c
  pub done : (k row : ℕ) → k < at → k < length reached → IsLive grid row (slice_index reached k) → is_seen seen row ≡ true
  pub current : (k : ℕ) → at ≤ k → k < length reached → part_of labels (slice_index reached k) ≡ part
  pub count : unlabelled labels + length reached ≡ length labels

-- a longer list that begins with the shorter one
pub record Extends (before after : List ℕ) : Type 0 where
  pub longer : length before ≤ length after
  pub same : (k : ℕ) → k < length before → slice_index after k ≡ slice_index before k

-- labels stay once they are given
abbrev pub Keeps : List ℕ → List ℕ → Type 0
Keeps before after = (c : ℕ) → 0 < part_of before c → part_of after c ≡ part_of before c

-- the columns of a row, but for those of a rest, are labelled: those that had no label by this part
pub record SpreadsRow (grid : Layout) (row part : ℕ) (labels reached labels' reached' rest : List ℕ) : Type 0 where
  pub size : length labels' ≡ length labels
  pub kept : Keeps labels labels'
  pub fresh : (c : ℕ) → part_of labels c ≡ 0 → 0 < part_of labels' c → (part_of labels' c ≡ part) × IsLive grid row c × IsListed reached' c
  pub covers : (c : ℕ) → IsLive grid row c → (0 < part_of labels' c) ⊎ Contains rest c
  pub within : (c : ℕ) → Contains rest c → IsLive grid row c
  pub extends : Extends reached reached'
  pub pushed : (k : ℕ) → length reached ≤ k → k < length reached' → part_of labels' (slice_index reached' k) ≡ part
  pub count : unlabelled labels' + length reached' ≡ unlabelled labels + length reached

-- spread up to a place, from labels that stay
pub record SpreadsOn (grid : Layout) (part at : ℕ) (before labels : List ℕ) (seen : List Bool) (reached : List ℕ) : Type 0 where
  pub spread : IsSpread grid part at labels seen reached
  pub kept : Keeps before labels
  pub within : at ≤ length reached

-- the rows of the column at a place, but for a rest, are seen
pub record SpreadsColumn (grid : Layout) (part at column : ℕ) (before labels : List ℕ) (seen : List Bool) (reached rest : List ℕ) : Type 0 where
  pub spread : IsSpread grid part at labels seen reached
  pub kept : Keeps before labels
  pub within : at < length reached
  pub here : slice_index reached at ≡ column
  pub covers : (row : ℕ) → IsLive grid row column → (is_seen seen row ≡ true) ⊎ Contains rest row
  pub rows : (row : ℕ) → Contains rest row → IsLive grid row column

-- the first of the columns are labelled, by as many parts, in the order of their first columns
pub record IsLabelled (grid : Layout) (columns : List ℕ) (i count : ℕ) (labels : List ℕ) (seen : List Bool) (reached : List ℕ) : Type 0 where
  pub spread : IsSpread grid count (length reached) labels seen reached
  pub labelled : (j : ℕ) → j < i → 0 < part_of labels (slice_index columns j)
  pub before : (j m : ℕ) → j < i → 0 < m → m < part_of labels (slice_index columns j) → (k : ℕ) × (k < j) × (part_of labels (slice_index columns k) ≡ m)
  pub each : (m : ℕ) → 0 < m → m ≤ count → (k : ℕ) × (k < i) × (part_of labels (slice_index columns k) ≡ m)
  pub few : count ≤ i

-- the columns are labelled by their classes, in the order of their first columns
pub record AreLabels (grid : Layout) (columns : List ℕ) (count : ℕ) (labels : List ℕ) : Type 0 where
  pub bound : (c : ℕ) → part_of labels c ≤ count
  pub linked : (a b : ℕ) → 0 < part_of labels a → part_of labels a ≡ part_of labels b → IsLinked grid a b
  pub closed : (a b : ℕ) → SharesRow grid a b → 0 < part_of labels a → part_of labels b ≡ part_of labels a
  pub labelled : (j : ℕ) → j < length columns → 0 < part_of labels (slice_index columns j)
  pub before : (j m : ℕ) → j < length columns → 0 < m → m < part_of labels (slice_index columns j) → (k : ℕ) × (k < j) × (part_of labels (slice_index columns k) ≡ m)
  pub each : (m : ℕ) → 0 < m → m ≤ count → (k : ℕ) × (k < length columns) × (part_of labels (slice_index columns k) ≡ m)

-- the part of the first of some columns, or 0
abbrev pub first_part : List ℕ → List ℕ → ℕ
first_part labels [] = 0
first_part labels (column ∷ columns) = part_of labels column

-- the part of a row's first live column, or 0
abbrev pub row_part : Layout → List ℕ → ℕ → ℕ
row_part grid labels row = first_part labels (live_columns grid row)
