use Rattle.std.proofs.Common.{◌≡◌, ◌++◌, drop}
use Rattle.tiql_lex.specs.Kinds.{doubled}
use Rattle.tiql_tree.proofs.words.put_doubled.Given as goal

abbrev pub invariant-loop-byte : goal.invariant-loop-byte
invariant-loop-byte l = l.out.items ++ doubled (drop l.byte-index l.value) ≡ l.fn.out.items ++ doubled l.value
