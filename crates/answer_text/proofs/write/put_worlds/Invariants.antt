use Rattle.std.proofs.Common.{◌≡◌, ◌++◌, flat_map, take}
use Rattle.answer_text.specs.Text.{world_bytes}
use Rattle.answer_text.proofs.write.put_worlds.Given as goal

abbrev pub invariant-loop-world : goal.invariant-loop-world
invariant-loop-world l = l.out.items ≡ l.initial.out.items ++ flat_map world_bytes (take l.world-index l.worlds)
