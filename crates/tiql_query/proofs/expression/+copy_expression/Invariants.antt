use Rattle.std.proofs.Common.{◌≡◌, take}
use Rattle.tiql_query.proofs.expression.+copy_expression.Given as goal

abbrev pub invariant-copy_factors-loop-factor : goal.invariant-copy_factors-loop-factor
invariant-copy_factors-loop-factor l = l.made ≡ take l.factor-index l.factors

abbrev pub invariant-copy_parts-loop-part : goal.invariant-copy_parts-loop-part
invariant-copy_parts-loop-part l = l.made ≡ take l.part-index l.parts
