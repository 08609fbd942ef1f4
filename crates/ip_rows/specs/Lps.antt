-- Relaxed parts of a program: which are well formed, and which are measured.
use Rattle.std.specs.Prelude.{◌≤◌, ◌^◌, length, All}
use Rattle.ip_rows.specs.declared.rows.IpRow.{IpRow}
use Rattle.ip_rows.specs.declared.lp.Lp.{Lp}
use Rattle.ip_rows.specs.Rows.{AreTerms, weight, IsMeasuredRow}

-- the terms of the aim and of each row name places in the sides
pub record IsWellFormedLp (lp : Lp) : Type 0 where
  pub aim : AreTerms (length lp.sides) lp.aim
  pub rows : All (λ (row : IpRow). AreTerms (length lp.sides) row.terms) lp.rows

-- the weights are at most 2 ^ 120, each row's together with the size of what it asks
pub record IsMeasuredLp (lp : Lp) : Type 0 where
  pub aim : weight lp.sides lp.aim ≤ 2 ^ 120
  pub rows : All (IsMeasuredRow lp.sides) lp.rows
