-- Which rows of a grid are unlinked while rows go through a sieve.
use Rattle.std.specs.Prelude.{◌≡◌, ℕ, ◌<◌, ◌==◌, not, List, filter, All}
use Rattle.std.specs.List.{list_any, range_with_len}

-- of the first rows exactly those are unlinked that are not kept
pub record IsUnlinked (n : ℕ) (unlinked full : List ℕ) : Type 0 where
  pub below : All (λ row. row < n) unlinked
  pub kept : full ≡ filter (λ number. not (list_any (λ row. row == number) unlinked)) (range_with_len 0 n)
