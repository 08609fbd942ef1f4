-- Marks on the way down the list.
use Rattle.std.specs.Prelude.{◌≡◌, ◌≤◌, ℕ, Bool, true, List, [], ◌∷◌, length, slice_set, Contains}
use Rattle.prov_fold.specs.Graphs.{Graph, size}
use Rattle.used_columns.specs.Used.{names, IsUsed, mark_at}

-- these places marked too
abbrev pub marked : List Bool → List ℕ → List Bool
marked marks [] = marks
marked marks (z ∷ zs) = marked (slice_set marks z true) zs

-- what the marks are once all places from n on are done: no mark is lost, what the rows of marked nodes from n on name is marked,
-- and nothing is marked that is not used, if that was so before
pub record IsDoneFrom (g : Graph) (n : ℕ) (before marks : List Bool) : Type 0 where
  pub count : length marks ≡ size g
  pub kept : (z : ℕ) → mark_at before z ≡ true → mark_at marks z ≡ true
  pub named : (y z : ℕ) → n ≤ y → mark_at marks y ≡ true → Contains (names g y) z → mark_at marks z ≡ true
  pub used : (seeds : List ℕ) → ((z : ℕ) → mark_at before z ≡ true → IsUsed g seeds z) → (z : ℕ) → mark_at marks z ≡ true → IsUsed g seeds z
