use Rattle.std.proofs.Common.{◌≡◌, [], map, drop}
use Rattle.tiql_check.specs.Turns.{in_turn}
use Rattle.tiql_check.specs.Scopes.{scope_of}
use Rattle.tiql_check.specs.Conditions.{with_part, cond_in}
use Rattle.tiql_check.proofs.condition.+condition.Given as goal

abbrev pub invariant-check_conditions-loop-part : goal.invariant-check_conditions-loop-part
invariant-check_conditions-loop-part l =
    in_turn with_part l.before (map (cond_in (scope_of l.scope)) (drop l.part-index l.parts)) ≡ in_turn with_part [] (map (cond_in (scope_of l.scope)) l.parts)
