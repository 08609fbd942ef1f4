use Rattle.std.proofs.Common.{◌≡◌, ◌++◌, map, drop}
use Rattle.std.specs.List.{flat_map}
use Rattle.tiql_tree.specs.Printed.{cond_made}
use Rattle.tiql_tree.specs.CondRooms.{or_bytes, and_bytes, or_part, and_part}
use Rattle.tiql_tree.proofs.write_condition.+put_cond.Given as goal

abbrev pub invariant-put_or-loop-part : goal.invariant-put_or-loop-part
invariant-put_or-loop-part l =
    l.out.items ++ flat_map or_part (map cond_made (drop l.part-index l.more)) ≡ l.fn.out.items ++ or_bytes (map cond_made l.parts)

abbrev pub invariant-put_and-loop-part : goal.invariant-put_and-loop-part
invariant-put_and-loop-part l =
    l.out.items ++ flat_map and_part (map cond_made (drop l.part-index l.more)) ≡ l.fn.out.items ++ and_bytes (map cond_made l.parts)
