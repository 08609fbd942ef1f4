use Rattle.std.proofs.Common.{take}
use Rattle.answer_text.specs.Worlds.{AreSections}
use Rattle.answer_text.proofs.world.sections.Given as goal

abbrev pub invariant-loop-number : goal.invariant-loop-number
invariant-loop-number l = AreSections l.query l.tables (take l.number l.query.hypos) (take l.number l.worlds) l.made
