use Rattle.std.proofs.Common.{◌≡◌, ◌≤◌, false, length}
use Rattle.tiql_lex.specs.Lexemes.{behind_blanks}
use Rattle.tiql_lex.proofs.blank.skip_blanks.Given as goal

abbrev pub invariant-loop-after : goal.invariant-loop-after
invariant-loop-after l = (behind_blanks false l.rest ≡ behind_blanks false l.bytes) × (length l.rest ≤ length l.bytes)

abbrev pub decreases-loop-after : goal.decreases-loop-after
decreases-loop-after l = length l.rest
