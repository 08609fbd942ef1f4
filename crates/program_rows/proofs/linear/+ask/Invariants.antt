use Rattle.std.proofs.Common.{◌+◌, flat_map, take}
use Rattle.root_encode.specs.Roots.{root_forms}
use Rattle.program_rows.specs.Fair.{Asks}
use Rattle.program_rows.proofs.linear.+ask.Given as goal

abbrev pub decreases-ask : goal.decreases-ask
decreases-ask l = l.id + l.id + 1

abbrev pub decreases-ask_each : goal.decreases-ask_each
decreases-ask_each l = l.id + l.id

abbrev pub invariant-ask_each-loop-kid : goal.invariant-ask_each-loop-kid
invariant-ask_each-loop-kid l = Asks l.fold (flat_map (root_forms l.fold l.holds) (take l.kid-index l.kids)) l.initial.forms l.forms
