use Rattle.std.proofs.Common.{◌≡◌, ◌+◌, ◌≤◌, drop}
use Rattle.tiql_lex.specs.Places as spec
use Rattle.tiql_lex.proofs.blank.behind.Given as goal

abbrev pub invariant-loop-byte : goal.invariant-loop-byte
invariant-loop-byte l = record {
  place : spec.behind l.place (drop l.byte-index l.bytes) ≡ spec.behind l.fn.place l.bytes;
  line : l.place.line ≤ l.fn.place.line + l.byte-index;
  column : l.place.column ≤ l.fn.place.column + l.byte-index;
}
