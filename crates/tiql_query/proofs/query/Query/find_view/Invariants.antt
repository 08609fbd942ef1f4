use Rattle.std.proofs.Common.{◌≡◌, map}
use Rattle.tiql_query.specs.Names.{NoneBefore}
use Rattle.tiql_query.proofs.query.Query.find_view.Given as goal

abbrev pub invariant-loop-view : goal.invariant-loop-view
invariant-loop-view l = (l.number ≡ l.view-index) × NoneBefore l.name (map (λ it. it.name) l.self.views) l.view-index
