use Rattle.std.proofs.Common.{◌≡◌, take}
use Rattle.tiql_query.proofs.condition.+copy_condition.Given as goal

abbrev pub invariant-copy_parts-loop-part : goal.invariant-copy_parts-loop-part
invariant-copy_parts-loop-part l = l.made ≡ take l.part-index l.parts
