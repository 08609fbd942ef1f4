use Rattle.std.proofs.Common.{◌≡◌, drop, map, ◌++◌, ◌*ℤ◌}
use Rattle.prov_arena.specs.declared.part.Term.{Term}
use Rattle.bool_encode.specs.Columns.{coef, column_at}
use Rattle.bool_encode.specs.Scraps.{told}
use Rattle.bool_encode.proofs.form.add_terms.Given as goal

abbrev pub invariant-loop-term : goal.invariant-loop-term
invariant-loop-term l =
    map told l.scraps.items ++ map (λ (t : Term). coef (l.factor *ℤ t.factor) (column_at l.fold l.stands t.node)) (drop l.term-index l.terms)
    ≡ map told l.initial.scraps.items ++ map (λ (t : Term). coef (l.factor *ℤ t.factor) (column_at l.fold l.stands t.node)) l.terms
