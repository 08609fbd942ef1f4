-- How a grid is kept: the heads of the rows are the first places, then come the heads of the columns,
-- and then the entries.
use Rattle.std.specs.Prelude.{◌≡◌, ℕ, ◌+◌, ◌-◌, ◌^◌, ◌<◌, ◌≤◌, if◌then◌else◌, nat_lt, List, [], ◌∷◌, ◌++◌, length, reverse, take, All, slice_index, slice_index_or}
use Rattle.cross_links.specs.declared.entry.Entry.{Entry}
use Rattle.cross_links.specs.Entries.{AreRising}
use Rattle.cross_links.specs.Rings.{Stays, Undoable, Closed, falling}

-- the entry at an index
abbrev pub entry_at : List Entry → ℕ → Entry
entry_at entries i = slice_index_or entries i (record { row = 0; column = 0 })

-- the head of a place's row: a head is its own
abbrev pub row_head : ℕ → List Entry → ℕ → ℕ
row_head first entries y = if nat_lt y first then y else (entry_at entries (y - first)).row

-- the head of a place's column: a head is its own
abbrev pub column_head : ℕ → ℕ → List Entry → ℕ → ℕ
column_head rows first entries y = if nat_lt y first then y else rows + (entry_at entries (y - first)).column

-- the entries of earlier rows are those below an index
pub record IsStart (entries : List Entry) (row at : ℕ) : Type 0 where
  pub within : at ≤ length entries
  pub below : (i : ℕ) → i < at → (entry_at entries i).row < row
  pub beyond : (i : ℕ) → at ≤ i → i < length entries → row ≤ (entry_at entries i).row

-- each row's start, and behind the last row's the end
pub record AreStarts (rows : ℕ) (entries : List Entry) (starts : List ℕ) : Type 0 where
  pub count : length starts ≡ rows + 1
  pub each : (row : ℕ) → row ≤ rows → IsStart entries row (slice_index starts row)

-- rows below a limit, each once
abbrev pub AreRows : ℕ → List ℕ → Type 0
AreRows rows [] = Unit {0}
AreRows rows (row ∷ unlinked) = (row < rows) × Stays unlinked row × AreRows rows unlinked

-- the places of the entries of unlinked rows, in the order in which they are put back
abbrev pub places_off : ℕ → List ℕ → List ℕ → List ℕ
places_off first starts [] = []
places_off first starts (row ∷ unlinked) =
    falling (first + slice_index starts row) (slice_index starts (row + 1) - slice_index starts row) ++ places_off first starts unlinked

-- entries that stand in the rows and columns, by row and column, few enough that places have numbers
pub record AreFitting (rows columns : ℕ) (entries : List Entry) : Type 0 where
  pub few : rows + columns + length entries < 2 ^ 32
  pub within : All (λ e. (e.row < rows) × (e.column < columns)) entries
  pub rising : AreRising entries

-- the rows on a stack of such a depth, the last first
abbrev pub rows_on : List ℕ → ℕ → List ℕ
rows_on stack depth = reverse (take depth stack)

-- a stack of rows, each once, with room for all of them
pub record IsStack (rows : ℕ) (stack : List ℕ) (depth : ℕ) : Type 0 where
  pub room : length stack ≡ rows
  pub within : depth ≤ rows
  pub rows_once : AreRows rows (rows_on stack depth)

-- the places stand in circles behind their heads, but for those that were taken out
pub record AreCircles (places : ℕ) (head : ℕ → ℕ) (off next back : List ℕ) : Type 0 where
  pub count : length next ≡ places
  pub closed : Closed next back
  pub undoable : Undoable places head off next back

-- what holds of the fields of a grid
pub record Kept (rows columns : ℕ) (entries : List Entry) (starts stack : List ℕ) (depth : ℕ) (right left down up : List ℕ) : Type 0 where
  pub fitting : AreFitting rows columns entries
  pub begins : AreStarts rows entries starts
  pub stacked : IsStack rows stack depth
  pub across : AreCircles (rows + columns + length entries) (row_head (rows + columns) entries) (places_off (rows + columns) starts (rows_on stack depth)) right left
  pub along : AreCircles (rows + columns + length entries) (column_head rows (rows + columns) entries) (places_off (rows + columns) starts (rows_on stack depth)) down up
