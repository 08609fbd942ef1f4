-- What the rule does at a dictionary, and how the path ends. Public contracts cite none of this.
use Rattle.std.specs.Prelude.{◌≡◌, ℕ, ℤ, pos, ◌-ℤ◌, Bool, MatchBool, Option}
use Rattle.rat128.specs.Fractions.{Fraction}
use Rattle.rat128.specs.Rationals.{ℚ, value, whole, ◌<ℚ◌}
use Rattle.dict_pivot.specs.Tables.{Table}
use Rattle.dual_simplex.specs.declared.next.Step.{Step}
use Rattle.dual_simplex.specs.declared.next.Step.TheVariants.{Past, Solved, Stuck, Pivot}
use Rattle.dual_simplex.specs.Path.{FirstViolated, NoneViolated, Enters, NoneEnters, IsPast, IsChosen}

abbrev pub IsStep : (ℕ → ℚ) → Option ℤ → Table → Step → Type 0
IsStep least best t Past = IsPast best t
IsStep least best t Solved = (IsPast best t → ⊥) × NoneViolated least t
IsStep least best t (Stuck r) = (IsPast best t → ⊥) × FirstViolated least t r × NoneEnters t r
IsStep least best t (Pivot at) = IsChosen least best t at.row at.column

-- what it does about row r
abbrev pub IsMended : Table → ℕ → Step → Type 0
IsMended t r Past = ⊥
IsMended t r Solved = ⊥
IsMended t r (Stuck i) = (i ≡ r) × NoneEnters t i
IsMended t r (Pivot at) = (at.row ≡ r) × Enters t at.row at.column

-- whether a fraction is above a whole number less 1
abbrev pub IsAbove : Fraction → ℤ → Bool → Type 0
IsAbove p n above =
    MatchBool above (whole (n -ℤ pos 1) <ℚ value p) ((whole (n -ℤ pos 1) <ℚ value p) → ⊥)
