use Rattle.std.proofs.Common.{◌≡◌, ◌++◌, map, drop}
use Rattle.std.specs.List.{flat_map}
use Rattle.tiql_tree.specs.Printed.{signed_made, expr_made}
use Rattle.tiql_tree.specs.Rooms.{sum_bytes, product_bytes, signed_bytes, star_bytes}
use Rattle.tiql_tree.proofs.write_expression.+put.Given as goal

abbrev pub invariant-put_terms-loop-part : goal.invariant-put_terms-loop-part
invariant-put_terms-loop-part l =
    l.out.items ++ flat_map signed_bytes (map signed_made (drop l.part-index l.more)) ≡ l.fn.out.items ++ sum_bytes (map signed_made l.parts)

abbrev pub invariant-put_factors-loop-part : goal.invariant-put_factors-loop-part
invariant-put_factors-loop-part l =
    l.out.items ++ flat_map star_bytes (map expr_made (drop l.part-index l.more)) ≡ l.fn.out.items ++ product_bytes (map expr_made l.parts)
