use Rattle.std.proofs.Common.{sym, subst}
use Rattle.std.specs.Result.{IfOk}
use Rattle.ip_rows.specs.declared.program.Program.{Program}
use Rattle.ip_rows.specs.Programs.{IsWellFormed, IsMeasured}
use Rattle.ip_reduce.specs.Reductions.{IsReduced}
use Rattle.reduce_tests.proofs.Measured.{worked_formed, worked_measured}
use Rattle.reduce_tests.proofs.worked.left.Goals as goal

pub reduce-requires-clause-formed : goal.reduce-requires-clause-formed
reduce-requires-clause-formed c = subst (λ (p : Program). IsWellFormed p) (sym c.in_ok-program.ensures) worked_formed

pub reduce-requires-clause-measured : goal.reduce-requires-clause-measured
reduce-requires-clause-measured c = subst (λ (p : Program). IsMeasured p) (sym c.in_ok-program.ensures) worked_measured

pub returns : goal.returns
returns c = subst (λ (p : Program). IfOk c.reduce.result (IsReduced p)) c.in_ok-program.ensures c.reduce.ensures.reduced
