use Rattle.std.proofs.Common.{◌≡◌, length, drop, map}
use Rattle.prov_arena.specs.declared.part.Term.{Term}
use Rattle.used_columns.specs.Marks.{marked}
use Rattle.used_columns.proofs.walk.mark_terms.Given as goal

abbrev pub invariant-loop-term : goal.invariant-loop-term
invariant-loop-term l = record {
  count : length l.marks ≡ length l.initial.marks;
  rest : marked l.marks (map (λ (t : Term). t.node) (drop l.term-index l.terms)) ≡ marked l.initial.marks (map (λ (t : Term). t.node) l.terms);
}
