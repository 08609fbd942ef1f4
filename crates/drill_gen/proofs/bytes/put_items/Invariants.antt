use Rattle.std.proofs.Common.{◌≡◌, ◌++◌}
use Rattle.drill_gen.specs.Drills.{items_text}
use Rattle.drill_gen.proofs.bytes.put_items.Given as goal

abbrev pub invariant-loop-before : goal.invariant-loop-before
invariant-loop-before l = l.table.items ≡ l.fn.table.items ++ items_text l.before
