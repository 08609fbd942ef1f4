-- What each answer of `relax` shows.
use Rattle.std.specs.Prelude.{◌≡◌, ℕ, true, false, ℤ, ◌⊎◌, List, [], length, drop, Option, Some, None}
use Rattle.ip_rows.specs.declared.lp.Lp.{Lp}
use Rattle.dict_pivot.specs.declared.pivot.WideCell.{WideCell}
use Rattle.dict_pivot.specs.Dictionaries.{Dictionary, least_of, table}
use Rattle.dual_simplex.specs.declared.next.PivotAt.{PivotAt}
use Rattle.dual_simplex.specs.declared.answer.Relaxed.{Relaxed}
use Rattle.dual_simplex.specs.declared.answer.Relaxed.TheVariants.{Closed, Optimum, Wide}
use Rattle.dual_simplex.specs.Path.{FirstViolated, NoneViolated, NoneEnters, IsPast}
use Rattle.dual_simplex.specs.Shown.{Stands, objective_multiplier, row_multiplier, multipliers_of, bound_with, ShowsPast, ShowsNone, ShowsOptimum, ShowsWidePivot}

-- the bound that belongs to a first end is none: by the aim's row past the best value and where no row is violated, else by the violated row
abbrev pub HasNoBound : Lp → Option ℤ → Dictionary → Type 0
HasNoBound lp best d =
    ((IsPast best (table d) ⊎ ((IsPast best (table d) → ⊥) × NoneViolated (least_of d.low) (table d))) × (bound_with lp lp.aim (multipliers_of (objective_multiplier lp d) (length lp.rows)) ≡ None)) ⊎ ((i : ℕ) × (IsPast best (table d) → ⊥) × FirstViolated (least_of d.low) (table d) i × NoneEnters (table d) i × (bound_with lp [] (multipliers_of (row_multiplier lp d i) (length lp.rows)) ≡ None))

-- a first end without its bound
pub record ShowsWideEnd (lp : Lp) (best : Option ℤ) (basis : List ℕ) (d : Dictionary) : Type 0 where
  pub stands : Stands lp best d
  pub those : basis ≡ drop 1 d.free
  pub none : HasNoBound lp best d

-- where a number is too wide
abbrev pub ShowsWide : Lp → Option ℤ → List ℕ → Option PivotAt → Option WideCell → Type 0
ShowsWide lp best basis (Some at) (Some cell) =
    (d : Dictionary) × ShowsWidePivot lp best basis at.row at.column cell.row cell.column d
ShowsWide lp best basis (Some at) None = ⊥
ShowsWide lp best basis None (Some cell) = ⊥
ShowsWide lp best basis None None = (d : Dictionary) × ShowsWideEnd lp best basis d

abbrev pub Shows : Lp → Option ℤ → Relaxed → Type 0
Shows lp best (Closed true multipliers) =
    (d : Dictionary) × (b : ℤ) × (best ≡ Some b) × ShowsPast lp b multipliers d
Shows lp best (Closed false multipliers) = (d : Dictionary) × ShowsNone lp best multipliers d
Shows lp best (Optimum worth point multipliers) = (d : Dictionary) × ShowsOptimum lp best worth point multipliers d
Shows lp best (Wide proof) = ShowsWide lp best proof.basis proof.pivot proof.cell
