use Rattle.std.proofs.Common.{◌≡◌, ◌-◌, length}
use Rattle.tiql_read.specs.Steps.{many_at}
use Rattle.tiql_read.specs.Queries as spec
use Rattle.tiql_read.proofs.Loops.{left}
use Rattle.tiql_read.proofs.whole.declarations.Given as goal

abbrev pub invariant-loop : goal.invariant-loop
invariant-loop l =
    left spec.declares spec.decl_at l.decls (length l.words - l.counter) l.rest ≡ many_at spec.declares spec.decl_at l.words
