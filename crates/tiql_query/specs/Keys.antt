-- the keys of rows
use Rattle.std.specs.Prelude.{◌≡◌, ◌≢◌, ◌<◌, ◌≤◌, ◌-◌, ℕ, List, [], length, map, slice_get, slice_index_or, Option}
use Rattle.base_kit.specs.declared.value.Value.{Value}

-- the values of a row in the columns of the key
unfoldable pub key_of : List ℕ → List Value → List (Option Value)
key_of key row = map (λ column. slice_get row column) key

-- the key of the row with this number, from 0
abbrev pub key_at : List ℕ → List (List Value) → ℕ → List (Option Value)
key_at key rows i = key_of key (slice_index_or rows i [])

-- no two rows have equal keys, where there is a key
abbrev pub HaveDistinctKeys : List ℕ → List (List Value) → Type 0
HaveDistinctKeys key rows = 0 < length key → (i j : ℕ) → i < j → j < length rows → key_at key rows i ≢ key_at key rows j

-- none of the rows has the key of this row, where there is a key
abbrev pub HasNewKey : List ℕ → List (List Value) → List Value → Type 0
HasNewKey key rows row = 0 < length key → (i : ℕ) → i < length rows → key_at key rows i ≢ key_of key row

-- there is a key, and this row has that of the row with this number, from 1
pub record HasKeyOf (key : List ℕ) (rows : List (List Value)) (row : List Value) (earlier : ℕ) : Type 0 where
  pub some : 0 < length key
  pub first : 0 < earlier
  pub within : earlier ≤ length rows
  pub same : key_at key rows (earlier - 1) ≡ key_of key row
