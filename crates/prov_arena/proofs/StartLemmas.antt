-- The list of False and True.
use Rattle.std.proofs.Common.{◌≡◌, ◌≢◌, sym, subst, refl, ℕ, zero, suc, ◌<◌, List, [], ◌∷◌, length, get_or, All, arith}
use Rattle.prov_arena.specs.Formulas.{Formula, FalseNode, TrueNode, kids_of}
use Rattle.prov_arena.specs.Graphs.{at, IsGraph}
use Rattle.prov_arena.specs.Hashes.{hash_of}
use Rattle.prov_arena.specs.Chains.{Linked, Kept}

first_distinct : (i j : ℕ) → i < j → j < 2 → at (FalseNode ∷ TrueNode ∷ []) i ≢ at (FalseNode ∷ TrueNode ∷ []) j
first_distinct zero zero less lt same = absurd (omega arith)
first_distinct zero (suc zero) less lt same = cc
first_distinct zero (suc (suc j)) less lt same = absurd (omega arith)
first_distinct (suc i) zero less lt same = absurd (omega arith)
first_distinct (suc i) (suc zero) less lt same = absurd (omega arith)
first_distinct (suc i) (suc (suc j)) less lt same = absurd (omega arith)

first_below : (i : ℕ) → i < 2 → All (λ kid. kid < i) (kids_of (at (FalseNode ∷ TrueNode ∷ []) i))
first_below zero lt = λ k d within. absurd (omega arith)
first_below (suc zero) lt = λ k d within. absurd (omega arith)
first_below (suc (suc i)) lt = absurd (omega arith)

first_graph : IsGraph (FalseNode ∷ TrueNode ∷ [])
first_graph = record { few = omega arith; some = omega arith; false_at = refl; true_at = refl; below = first_below; distinct = first_distinct }

first_hashed : (hash hash' : ℕ) → hash ≡ hash_of FalseNode → hash' ≡ hash_of TrueNode → (i : ℕ) → i < 2 → get_or (hash ∷ hash' ∷ []) i 0 ≡ hash_of (at (FalseNode ∷ TrueNode ∷ []) i)
first_hashed hash hash' is is' zero lt = is
first_hashed hash hash' is is' (suc zero) lt = is'
first_hashed hash hash' is is' (suc (suc i)) lt = absurd (omega arith)

pub kept_first : (parts : List Formula) (hashes links heads : List ℕ) (hash hash' : ℕ) → parts ≡ FalseNode ∷ TrueNode ∷ [] → hashes ≡ hash ∷ hash' ∷ [] → hash ≡ hash_of FalseNode → hash' ≡ hash_of TrueNode → Linked (length parts) hashes links heads → Kept parts hashes links heads
kept_first parts hashes links heads hash hash' parts_are hashes_are is is' linked = record {
  graph = subst IsGraph (sym parts_are) first_graph;
  hashed = rw (parts_are, hashes_are) (first_hashed hash hash' is is');
  linked = linked;
}
