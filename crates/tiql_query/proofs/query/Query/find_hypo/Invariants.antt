use Rattle.std.proofs.Common.{◌≡◌, map}
use Rattle.tiql_query.specs.Names.{NoneBefore}
use Rattle.tiql_query.proofs.query.Query.find_hypo.Given as goal

abbrev pub invariant-loop-hypo : goal.invariant-loop-hypo
invariant-loop-hypo l = (l.number ≡ l.hypo-index) × NoneBefore l.name (map (λ it. it.name) l.self.hypos) l.hypo-index
