use Rattle.std.proofs.Common.{◌≡◌, drop}
use Rattle.tiql_check.specs.Turns.{in_turn}
use Rattle.tiql_check.specs.Sound.{with_decl}
use Rattle.tiql_check.specs.Known.{nothing}
use Rattle.tiql_check.proofs.query.check_declarations.Given as goal

abbrev pub invariant-loop-decl : goal.invariant-loop-decl
invariant-loop-decl l = in_turn with_decl l.known (drop l.decl-index l.decls) ≡ in_turn with_decl nothing l.decls
