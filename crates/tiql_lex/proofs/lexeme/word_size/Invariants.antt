use Rattle.std.proofs.Common.{◌≡◌, ◌+◌, drop}
use Rattle.std.specs.List.{prefix_len}
use Rattle.base_kit.specs.Names.{continues_name}
use Rattle.tiql_lex.proofs.lexeme.word_size.Given as goal

abbrev pub invariant-loop-byte : goal.invariant-loop-byte
invariant-loop-byte l =
    (l.size ≡ l.byte-index) × (l.size + prefix_len continues_name (drop l.byte-index l.bytes) ≡ prefix_len continues_name l.bytes)
