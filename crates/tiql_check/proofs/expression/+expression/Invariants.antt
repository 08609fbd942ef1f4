use Rattle.std.proofs.Common.{◌≡◌, map, drop}
use Rattle.tiql_check.specs.Turns.{in_turn}
use Rattle.tiql_check.specs.Scopes.{scope_of}
use Rattle.tiql_check.specs.Expressions.{with_term, no_terms, signed_in, with_factor, no_factors, part_in}
use Rattle.tiql_check.proofs.expression.+expression.Given as goal

abbrev pub invariant-check_terms-loop-part : goal.invariant-check_terms-loop-part
invariant-check_terms-loop-part l =
    in_turn with_term l.before (map (signed_in (scope_of l.scope)) (drop l.part-index l.parts)) ≡ in_turn with_term no_terms (map (signed_in (scope_of l.scope)) l.parts)

abbrev pub invariant-check_factors-loop-part : goal.invariant-check_factors-loop-part
invariant-check_factors-loop-part l =
    in_turn with_factor l.before (map (part_in (scope_of l.scope)) (drop l.part-index l.parts)) ≡ in_turn with_factor no_factors (map (part_in (scope_of l.scope)) l.parts)
