use Rattle.std.proofs.Common.{◌≡◌, take}
use Rattle.tiql_query.specs.Keys.{key_of}
use Rattle.tables_csv.proofs.keys.has_same_key.Given as goal

abbrev pub invariant-loop-column : goal.invariant-loop-column
invariant-loop-column l = key_of (take l.column-index l.key) l.one ≡ key_of (take l.column-index l.key) l.other
