use Rattle.std.proofs.Common.{◌≤◌, ◌<◌, ◌≤ℤ◌, ℕ, length, sym, subst, arith}
use Rattle.ip_rows.specs.declared.lp.Lp.{Lp}
use Rattle.ip_rows.specs.Rows.{side_at}
use Rattle.ip_rows.specs.Lps.{IsWellFormedLp, IsMeasuredLp}
use Rattle.simplex_tests.specs.Columns.{part_of}
use Rattle.simplex_tests.proofs.Parts.{part_formed, part_measured, part_open}
use Rattle.simplex_tests.proofs.Columns.{many_part, many_sides}
use Rattle.simplex_tests.proofs.many.relaxed.Goals as goal

pub relax-requires-clause-formed : goal.relax-requires-clause-formed
relax-requires-clause-formed c = subst IsWellFormedLp (sym c.in_ok-lp.ensures) (part_formed (part_of 1024) many_part)

pub relax-requires-clause-measured : goal.relax-requires-clause-measured
relax-requires-clause-measured c = subst IsMeasuredLp (sym c.in_ok-lp.ensures) (part_measured (part_of 1024) many_part)

pub relax-requires-clause-sides : goal.relax-requires-clause-sides
relax-requires-clause-sides c = subst (λ (lp : Lp). (j : ℕ) → j < length lp.sides → (side_at lp.sides j).lo ≤ℤ (side_at lp.sides j).hi) (sym c.in_ok-lp.ensures) (part_open (part_of 1024) many_part)

pub relax-requires-clause-columns : goal.relax-requires-clause-columns
relax-requires-clause-columns c = subst (λ (lp : Lp). length lp.sides ≤ 1024) (sym c.in_ok-lp.ensures) (omega (arith, many_sides))

pub relax-requires-clause-rows : goal.relax-requires-clause-rows
relax-requires-clause-rows c = subst (λ (lp : Lp). length lp.rows ≤ 4096) (sym c.in_ok-lp.ensures) (omega arith)
