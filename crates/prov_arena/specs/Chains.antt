-- Chains of equal hash. A link is 0 at the end of a chain, and else one more than a place.
use Rattle.std.specs.Prelude.{◌≡◌, ◌≢◌, ℕ, zero, suc, ◌-◌, ◌%◌, ◌<◌, ◌≤◌, ◌^◌, ◌==◌, cond, List, length, map, slice_index}
use Rattle.prov_arena.specs.declared.chains.Node.{Node}
use Rattle.prov_arena.specs.Formulas.{Formula, formula}
use Rattle.prov_arena.specs.Graphs.{IsGraph, IsAbsent, at}
use Rattle.prov_arena.specs.Hashes.{hash_of}

abbrev pub formulas : List Node → List Formula
formulas nodes = map (λ n. formula n.part) nodes

abbrev pub hashes : List Node → List ℕ
hashes nodes = map (λ n. n.hash) nodes

abbrev pub nexts : List Node → List ℕ
nexts nodes = map (λ n. n.next) nodes

-- the link to the last place below k whose hash falls into the chain
abbrev pub last_before : ℕ → List ℕ → ℕ → ℕ → ℕ
last_before chains hashes chain zero = 0
last_before chains hashes chain (suc k) =
    cond (slice_index hashes k % chains == chain) (suc k) (last_before chains hashes chain k)

-- each of the first k places stands in exactly the chain of its hash, and places fall along a chain
pub record Linked (k : ℕ) (hashes links heads : List ℕ) : Type 0 where
  pub some : 0 < length heads
  pub size : length heads < 2 ^ 32
  pub first : (chain : ℕ) → chain < length heads → slice_index heads chain ≡ last_before (length heads) hashes chain k
  pub next : (i : ℕ) → i < k → slice_index links i ≡ last_before (length heads) hashes (slice_index hashes i % length heads) i

-- what holds of the nodes and the heads of the chains
pub record Kept (parts : List Formula) (hashes links heads : List ℕ) : Type 0 where
  pub graph : IsGraph parts
  pub hashed : (i : ℕ) → i < length parts → slice_index hashes i ≡ hash_of (at parts i)
  pub linked : Linked (length parts) hashes links heads

-- what a search ends with: the link to the place of the formula, or 0 where it stands nowhere
pub record Sought (parts : List Formula) (f : Formula) (link : ℕ) : Type 0 where
  pub within : link ≤ length parts
  pub absent : link ≡ 0 → IsAbsent parts f
  pub found : 0 < link → at parts (link - 1) ≡ f

-- how far a search has come: the formula stands at none of the places behind
pub record Seeking (parts : List Formula) (hashes : List ℕ) (chains : ℕ) (f : Formula) (link : ℕ) : Type 0 where
  pub within : link ≤ length parts
  pub beyond : (i : ℕ) → link ≤ i → i < length parts → at parts i ≢ f
  pub hashed : 0 < link → slice_index hashes (link - 1) % chains ≡ hash_of f % chains
