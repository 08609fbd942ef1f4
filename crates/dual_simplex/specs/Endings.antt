-- How the path goes no further at a dictionary. Public contracts cite none of this.
use Rattle.std.specs.Prelude.{ℤ, Option}
use Rattle.dict_pivot.specs.Dictionaries.{Dictionary, least_of, table, IsFirstWide}
use Rattle.dual_simplex.specs.declared.walk.Ended.{Ended}
use Rattle.dual_simplex.specs.declared.walk.Ended.TheVariants.{Past, Solved, Stuck, Wide}
use Rattle.dual_simplex.specs.Path.{FirstViolated, NoneViolated, NoneEnters, IsPast, IsChosen}

abbrev pub IsEnded : Option ℤ → Dictionary → Ended → Type 0
IsEnded best d Past = IsPast best (table d)
IsEnded best d Solved = (IsPast best (table d) → ⊥) × NoneViolated (least_of d.low) (table d)
IsEnded best d (Stuck r) =
    (IsPast best (table d) → ⊥) × FirstViolated (least_of d.low) (table d) r × NoneEnters (table d) r
IsEnded best d (Wide at cell) =
    IsChosen (least_of d.low) best (table d) at.row at.column × IsFirstWide d at.row at.column cell.row cell.column
