use Rattle.std.proofs.Common.{◌≡◌, take}
use Rattle.tables_csv.specs.Hashes.{hash_of}
use Rattle.tiql_query.specs.Keys.{key_of}
use Rattle.tables_csv.proofs.hash.hash.Given as goal

abbrev pub invariant-loop-column : goal.invariant-loop-column
invariant-loop-column l = l.hash ≡ hash_of (key_of (take l.column-index l.key) l.row)
