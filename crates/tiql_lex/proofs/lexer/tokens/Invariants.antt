use Rattle.std.proofs.Common.{◌-◌, length}
use Rattle.tiql_lex.specs.Lexed.{AreTokens, Skips, end_of}
use Rattle.tiql_lex.specs.Places.{mark_size}
use Rattle.tiql_lex.specs.Scan.{IsPosition}
use Rattle.tiql_lex.proofs.lexer.tokens.Given as goal

abbrev pub invariant-loop-tokens : goal.invariant-loop-tokens
invariant-loop-tokens l = record {
  tokens : AreTokens l.bytes (mark_size l.bytes) l.tokens;
  skips : Skips l.bytes (end_of (mark_size l.bytes) l.tokens) l.position.at;
  position : IsPosition l.bytes l.position;
}

abbrev pub decreases-loop-tokens : goal.decreases-loop-tokens
decreases-loop-tokens l = length l.bytes - l.position.at
