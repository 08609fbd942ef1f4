use Rattle.std.proofs.Common.{◌∙◌, ap, ◌++◌}
use Rattle.ip_rows.specs.declared.rows.IpRow.{IpRow}
use Rattle.program_text.specs.Text as spec
use Rattle.program_text.proofs.Numbered.{written_start, written_step, written_end}
use Rattle.program_text.proofs.rows.put_all.Goals as goal

pub loop-number-init : goal.loop-number-init
loop-number-init c = written_start spec.row_line c.args.rows.now c.args.out.now.items

pub loop-number-preserved : goal.loop-number-preserved
loop-number-preserved c =
    written_step spec.row_line c.args.rows.now c.loop-number.number c.index-rows-number.result c.args.out.now.items c.loop-number.out.items c.put_row.new.out.items c.loop-number-test.true
    (c.in_ok-put_row.ensures ∙ ap (λ (row : IpRow). c.loop-number.out.items ++ spec.row_line c.loop-number.number row) c.index-rows-number.is)
    c.loop-number.invariant

pub returns : goal.returns
returns c = written_end spec.row_line c.args.rows.now c.loop-number.number c.args.out.now.items c.loop-number.out.items c.loop-number-test.false c.loop-number.invariant
