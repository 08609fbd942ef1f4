use Rattle.std.proofs.Common.{◌≡◌, ◌++◌, flat_map, take}
use Rattle.answer_text.specs.Text.{part_bytes}
use Rattle.answer_text.proofs.write.put_parts.Given as goal

abbrev pub invariant-loop-part : goal.invariant-loop-part
invariant-loop-part l = l.out.items ≡ l.initial.out.items ++ flat_map part_bytes (take l.part-index l.parts)
