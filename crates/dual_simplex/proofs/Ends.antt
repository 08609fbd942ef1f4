-- What holds of every dictionary on the path: its shape, its solutions, and what they say of relaxed points.
use Rattle.std.proofs.Common.{◌≡◌, ℕ, zero, suc, ◌+◌, ◌<◌, ℤ, Option, length, sym, ◌∙◌, ap, subst}
use Rattle.rat128.specs.Rationals.{ℚ, zero_ℚ, ◌+ℚ◌, ◌-ℚ◌, ◌*ℚ◌}
use Rattle.rat128.proofs.Rationals.{+ℚ_zero, +ℚ_neg, *ℚ_zero}
use Rattle.ip_rows.specs.declared.lp.Lp.{Lp}
use Rattle.ip_rows.specs.Lps.{IsWellFormedLp}
use Rattle.dict_pivot.specs.Tables.{Table, distance, Solves, IsUnits, IsHome}
use Rattle.dict_pivot.specs.Quantities.{quantities, AreLeast}
use Rattle.dict_pivot.proofs.PivotLaws.{stays_units}
use Rattle.dict_pivot.proofs.Sums.{total_zero}
use Rattle.dict_pivot.proofs.Solutions.{solves_after, solves_before, stays_home}
use Rattle.dict_pivot.proofs.StartLaws.{start_solves, solved_by_point, start_units, start_home}
use Rattle.dual_simplex.specs.Path.{OnPath}
use Rattle.dual_simplex.specs.Goods.{IsGood}
use Rattle.dual_simplex.proofs.Steps.{path_good, some}
use Rattle.dual_simplex.proofs.Starts.{start_good}

module _ (lp : Lp) (w : IsWellFormedLp lp) (least : ℕ → ℚ) (a : AreLeast lp least) (best : Option ℤ) where
  -- the shape that a pivot keeps
  pub record IsShaped (t : Table) : Type 0 where
    pub height : t.height ≡ suc (length lp.sides + length lp.sides + length lp.rows)
    pub width : t.width ≡ length lp.sides
    pub units : IsUnits t
    pub home : IsHome least t

  pub path_shaped : (k : ℕ) (t : Table) → OnPath lp least best k t → IsShaped t
  path_shaped zero t s = record {
    height = s.height;
    width = s.width;
    units = start_units lp w least a t s;
    home = start_home lp w least a t s;
  }
  path_shaped (suc k) t' (t, on, n) =
      let before = path_shaped k t on in
      let not_zero = some least t t' n.row n.column n.chosen.violated n.chosen.enters n.pivot in
      record {
        height = n.pivot.height ∙ before.height;
        width = n.pivot.width ∙ before.width;
        units = stays_units least t t' n.row n.column n.chosen.violated.within n.chosen.enters.column not_zero n.pivot before.units;
        home = stays_home least t t' n.row n.column n.chosen.violated.within n.chosen.enters.column not_zero n.pivot (λ i. zero_ℚ) before.units before.home;
      }

  -- the quantities of every point solve it
  pub path_solves : (k : ℕ) (t : Table) → OnPath lp least best k t → (x : ℕ → ℚ) → Solves least t (quantities lp x)
  path_solves zero t s x = start_solves lp w least a t s x
  path_solves (suc k) t' (t, on, n) x =
      let not_zero = some least t t' n.row n.column n.chosen.violated n.chosen.enters n.pivot in
      solves_after least t t' n.row n.column n.chosen.violated.within n.chosen.enters.column not_zero n.pivot (quantities lp x) (path_solves k t on x)

  -- and what solves it are those of a point
  pub path_solved : (k : ℕ) (t : Table) → OnPath lp least best k t → (q : ℕ → ℚ) → Solves least t q → (i : ℕ) → i < suc (length lp.sides + length lp.sides + length lp.rows) → q i ≡ quantities lp (λ j. q (suc j)) i
  path_solved zero t s q v i l = solved_by_point lp w least a t s q v i (subst (λ h. i < h) (sym s.height) l)
  path_solved (suc k) t' (t, on, n) q v i l =
      let before = path_shaped k t on in
      let not_zero = some least t t' n.row n.column n.chosen.violated n.chosen.enters n.pivot in
      path_solved k t on q (solves_before least t t' n.row n.column n.chosen.violated.within n.chosen.enters.column not_zero n.pivot q before.units before.home v) i l

  pub path_is_good : (k : ℕ) (t : Table) → OnPath lp least best k t → IsGood t
  path_is_good = path_good lp least best (start_good lp w least a)

  -- the constants of a dictionary solve it: each free quantity is at its least
  pub constants_solve : (t : Table) → IsHome least t → Solves least t (λ i. t.cell i 0)
  constants_solve t h = record { each = λ i l. sym (ap (λ s. t.cell i 0 +ℚ s) (total_zero t.width (λ j. t.cell i j *ℚ distance least (λ i. t.cell i 0) (t.free j)) (λ j some le. ap (λ d. t.cell i j *ℚ d) (ap (λ x. x -ℚ least (t.free j)) (h.home j (record { some = some; within = le })) ∙ +ℚ_neg (least (t.free j))) ∙ *ℚ_zero (t.cell i j))) ∙ +ℚ_zero (t.cell i 0)) }
