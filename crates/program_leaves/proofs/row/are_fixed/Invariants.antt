use Rattle.std.proofs.Common.{◌≡◌, take, not, true}
use Rattle.std.specs.List.{list_all}
use Rattle.program_leaves.specs.Leaves.{is_open}
use Rattle.program_leaves.proofs.row.are_fixed.Given as goal

abbrev pub invariant-loop-term : goal.invariant-loop-term
invariant-loop-term l = list_all (λ t. not (is_open l.program t)) (take l.term-index l.terms) ≡ true
