use Rattle.std.proofs.Common.{true, flat_map, take}
use Rattle.root_encode.specs.Roots.{root_forms}
use Rattle.program_rows.specs.Fair.{Asks}
use Rattle.program_rows.proofs.linear.forms_of.Given as goal

abbrev pub invariant-loop-root : goal.invariant-loop-root
invariant-loop-root l = Asks l.fold (flat_map (root_forms l.fold true) (take l.root-index l.roots)) l.initial.forms l.forms
