-- Chains of rows whose hashes are equal. A link is 0 at the end of a chain, and else one more than the place of a row.
use Rattle.std.specs.Prelude.{◌≡◌, ◌≢◌, ℕ, zero, suc, ◌<◌, ◌≤◌, ◌-◌, ◌%◌, ◌==◌, if◌then◌else◌, List, length, slice_index}
use Rattle.ip_rows.specs.declared.rows.IpRow.{IpRow}
use Rattle.ip_rows.specs.Programs.{row_at}
use Rattle.ip_reduce.specs.Hashes.{hash_of}

-- the link to the last place below k whose hash falls into the chain
abbrev pub last_before : ℕ → List ℕ → ℕ → ℕ → ℕ
last_before chains hashes chain zero = 0
last_before chains hashes chain (suc k) =
    if slice_index hashes k % chains == chain then suc k else last_before chains hashes chain k

-- each of the first k places stands in exactly the chain of its hash, and places fall along a chain
pub record Linked (k : ℕ) (hashes links heads : List ℕ) : Type 0 where
  pub some : 0 < length heads
  pub first : (chain : ℕ) → chain < length heads → slice_index heads chain ≡ last_before (length heads) hashes chain k
  pub next : (i : ℕ) → i < k → slice_index links i ≡ last_before (length heads) hashes (slice_index hashes i % length heads) i

-- the rows are linked by their hashes
pub record AreLinked (rows : List IpRow) (hashes links heads : List ℕ) : Type 0 where
  pub hashes_size : length hashes ≡ length rows
  pub links_size : length links ≡ length rows
  pub hashed : (i : ℕ) → i < length rows → slice_index hashes i ≡ hash_of (row_at rows i)
  pub linked : Linked (length rows) hashes links heads

-- how far a search has come: none of the rows behind equals the sought one
pub record Seeking (rows : List IpRow) (hashes : List ℕ) (chains : ℕ) (sought : IpRow) (link : ℕ) : Type 0 where
  pub within : link ≤ length rows
  pub beyond : (i : ℕ) → link ≤ i → i < length rows → row_at rows i ≢ sought
  pub hashed : 0 < link → slice_index hashes (link - 1) % chains ≡ hash_of sought % chains
