use Rattle.program_text.specs.Text as spec
use Rattle.program_text.proofs.Numbered.{Written}
use Rattle.program_text.proofs.nodes.put_all.Given as goal

abbrev pub invariant-loop-id : goal.invariant-loop-id
invariant-loop-id l = Written spec.node_line l.prov l.id l.initial.out.items l.out.items
