use Rattle.program_text.specs.Text as spec
use Rattle.program_text.proofs.Numbered.{Written}
use Rattle.program_text.proofs.rows.put_all.Given as goal

abbrev pub invariant-loop-number : goal.invariant-loop-number
invariant-loop-number l = Written spec.row_line l.rows l.number l.initial.out.items l.out.items
