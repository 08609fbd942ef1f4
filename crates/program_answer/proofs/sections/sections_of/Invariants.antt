use Rattle.std.proofs.Common.{take}
use Rattle.answer_text.specs.Written.{AreWritten}
use Rattle.program_answer.proofs.sections.sections_of.Given as goal

abbrev pub invariant-loop-at : goal.invariant-loop-at
invariant-loop-at l = AreWritten (take l.at l.hypos) (take l.at l.tables) l.sections
