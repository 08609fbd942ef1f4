use Rattle.std.proofs.Common.{◌≡◌, ◌+◌, drop}
use Rattle.std.specs.Char.{is_ascii_digit}
use Rattle.std.specs.List.{prefix_len}
use Rattle.tiql_lex.proofs.lexeme.digits_size.Given as goal

abbrev pub invariant-loop-byte : goal.invariant-loop-byte
invariant-loop-byte l =
    (l.size ≡ l.byte-index) × (l.size + prefix_len is_ascii_digit (drop l.byte-index l.bytes) ≡ prefix_len is_ascii_digit l.bytes)
