-- chains of rows whose keys have equal hashes. A link is 0 at the end of a chain, and else the number of a row, from 1
use Rattle.std.specs.Prelude.{◌≡◌, ◌≢◌, ◌<◌, ◌≤◌, ◌-◌, ◌%◌, ◌==◌, cond, ℕ, zero, suc, List, length, slice_index, Option}
use Rattle.base_kit.specs.declared.value.Value.{Value}
use Rattle.tables_csv.specs.declared.keys.Keys.{Keys}
use Rattle.tables_csv.specs.Hashes.{hash_of}
use Rattle.tiql_query.specs.Keys.{key_at}

-- the link to the last place below k whose hash falls into the chain
abbrev pub last_before : ℕ → List ℕ → ℕ → ℕ → ℕ
last_before chains hashes chain zero = 0
last_before chains hashes chain (suc k) =
    cond (slice_index hashes k % chains == chain) (suc k) (last_before chains hashes chain k)

-- each of the first k places stands in exactly the chain of its hash, and places fall along a chain
pub record Linked (k : ℕ) (hashes links heads : List ℕ) : Type 0 where
  pub some : 0 < length heads
  pub first : (chain : ℕ) → chain < length heads → slice_index heads chain ≡ last_before (length heads) hashes chain k
  pub next : (i : ℕ) → i < k → slice_index links i ≡ last_before (length heads) hashes (slice_index hashes i % length heads) i

-- the rows are linked by the hashes of their keys
pub record AreLinked (key : List ℕ) (rows : List (List Value)) (hashes links heads : List ℕ) : Type 0 where
  pub hashes_size : length hashes ≡ length rows
  pub links_size : length links ≡ length rows
  pub hashed : (i : ℕ) → i < length rows → slice_index hashes i ≡ hash_of (key_at key rows i)
  pub linked : Linked (length rows) hashes links heads

-- where there is a key, the chains are those of the rows
abbrev pub AreKeysOf : List ℕ → List (List Value) → Keys → Type 0
AreKeysOf key rows keys = 0 < length key → AreLinked key rows keys.hashes.items keys.links.items keys.heads.items

-- what a search ends with: the number of a row with this key, or 0 where none has it
pub record Sought (key : List ℕ) (rows : List (List Value)) (sought : List (Option Value)) (link : ℕ) : Type 0 where
  pub within : link ≤ length rows
  pub absent : link ≡ 0 → (i : ℕ) → i < length rows → key_at key rows i ≢ sought
  pub found : 0 < link → key_at key rows (link - 1) ≡ sought

-- how far a search has come: none of the rows behind has the key
pub record Seeking (key : List ℕ) (rows : List (List Value)) (hashes : List ℕ) (chains : ℕ) (sought : List (Option Value)) (link : ℕ) : Type 0 where
  pub within : link ≤ length rows
  pub beyond : (i : ℕ) → link ≤ i → i < length rows → key_at key rows i ≢ sought
  pub hashed : 0 < link → slice_index hashes (link - 1) % chains ≡ hash_of sought % chains
