use Rattle.std.proofs.Common.{◌≡◌, ◌≤◌, true, length}
use Rattle.tiql_lex.specs.Lexemes.{behind_blanks}
use Rattle.tiql_lex.proofs.blank.after_comment.Given as goal

abbrev pub invariant-loop-rest : goal.invariant-loop-rest
invariant-loop-rest l = (behind_blanks true l.rest ≡ behind_blanks true l.bytes) × (length l.rest ≤ length l.bytes)

abbrev pub decreases-loop-rest : goal.decreases-loop-rest
decreases-loop-rest l = length l.rest
