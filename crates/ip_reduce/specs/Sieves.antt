-- How rows go through a sieve, one after another.
use Rattle.std.specs.Prelude.{◌≡◌, ◌≢◌, ◌⊎◌, ◌↔◌, ℕ, ◌<◌, Bool, true, false, Option, Some, MatchOption, List, [], ◌∷◌, ◌++◌, map, All, Contains}
use Rattle.std.specs.Option.{option_or}
use Rattle.std.specs.List.Sorted.{IsStrictlyIncreasing}
use Rattle.ip_rows.specs.declared.Bounds.{Bounds}
use Rattle.ip_rows.specs.declared.rows.IpRow.{IpRow}
use Rattle.ip_reduce.specs.declared.sieve.Sieve.{Sieve}
use Rattle.ip_reduce.specs.Chains.{AreLinked}
use Rattle.ip_reduce.specs.Reductions.{row_in, Asks, IsFalse, IsKept}

-- the kept rows of a sieve are linked by their hashes
abbrev pub IsReady : Sieve → Type 0
IsReady sieve = AreLinked sieve.rows.items sieve.chains.hashes.items sieve.chains.links.items sieve.chains.heads.items

-- why a row is not kept, and which false row is then the first
abbrev pub IsDropped : List Bounds → ℕ → IpRow → List IpRow → Option ℕ → Option ℕ → Type 0
IsDropped sides number row kept before after =
    ((Asks sides row → ⊥) × (after ≡ before))
    ⊎ ((row.terms ≡ []) × Asks sides row × (after ≡ option_or before (Some number)))
    ⊎ (Contains kept row × (after ≡ before))

-- a row is kept, behind the others, or is dropped
abbrev pub Takes : List Bounds → ℕ → IpRow → Sieve → Sieve → Bool → Type 0
Takes sides number row before after true =
    Asks sides row × (row.terms ≢ []) × (Contains before.rows.items row → ⊥)
    × (after.rows.items ≡ before.rows.items ++ row ∷ []) × (after.full.items ≡ before.full.items ++ number ∷ []) × (after.false_row ≡ before.false_row)
Takes sides number row before after false =
    (after.rows.items ≡ before.rows.items) × (after.full.items ≡ before.full.items) × IsDropped sides number row before.rows.items before.false_row after.false_row

-- of the first rows: which are kept, which is the first false one, and that each that asks for something equals a kept one
pub record IsSieved (sides : List Bounds) (rows : List IpRow) (n : ℕ) (kept : List IpRow) (full : List ℕ) (false_row : Option ℕ) : Type 0 where
  pub full_rises : IsStrictlyIncreasing full
  pub full_below : All (λ number. number < n) full
  pub numbers : (number : ℕ) → number < n → Contains full number ↔ IsKept sides rows number
  pub rows_are : kept ≡ map (row_in sides rows) full
  pub covers : (number : ℕ) → number < n → (row_in sides rows number).terms ≢ [] → Asks sides (row_in sides rows number) → Contains kept (row_in sides rows number)
  pub first_false : MatchOption false_row ((number : ℕ) → number < n → IsFalse sides rows number → ⊥) (λ first. (first < n) × IsFalse sides rows first × ((earlier : ℕ) → earlier < first → IsFalse sides rows earlier → ⊥))
