use Rattle.std.proofs.Common.{◌≡◌, map}
use Rattle.tiql_query.specs.Names.{NoneBefore}
use Rattle.tiql_query.proofs.query.Query.find_table.Given as goal

abbrev pub invariant-loop-table : goal.invariant-loop-table
invariant-loop-table l = (l.number ≡ l.table-index) × NoneBefore l.name (map (λ it. it.name) l.self.tables) l.table-index
