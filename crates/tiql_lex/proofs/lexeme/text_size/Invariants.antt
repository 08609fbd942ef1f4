use Rattle.std.proofs.Common.{◌≡◌, ◌+◌, false, drop}
use Rattle.tiql_lex.specs.Scan.{text_size}
use Rattle.tiql_lex.proofs.lexeme.text_size.Given as goal

abbrev pub invariant-loop-byte : goal.invariant-loop-byte
invariant-loop-byte l = (l.size ≡ l.byte-index) × (l.size + text_size l.ended (drop l.byte-index l.bytes) ≡ text_size false l.bytes)
