use Rattle.std.proofs.Common.{◌≡◌, [], false, drop}
use Rattle.tiql_lex.specs.Scan.{value_from}
use Rattle.tiql_lex.proofs.value.value_behind.Given as goal

abbrev pub invariant-loop-byte : goal.invariant-loop-byte
invariant-loop-byte l = value_from l.value.items l.ended (drop l.byte-index l.bytes) ≡ value_from [] false l.bytes
