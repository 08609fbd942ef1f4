use Rattle.std.proofs.Common.{pos}
use Rattle.ip_rows.specs.declared.program.ColumnKind.TheVariants as kind
use Rattle.program_text.specs.Text as spec
use Rattle.program_text.proofs.Numbered.{written_start, written_step, written_end}
use Rattle.program_text.proofs.columns.put_all.Goals as goal

pub loop-number-init : goal.loop-number-init
loop-number-init c = written_start (spec.column_line c.args.stands.now) c.args.columns.now c.args.out.now.items

pub loop-number-preserved : goal.loop-number-preserved
loop-number-preserved c =
    written_step (spec.column_line c.args.stands.now) c.args.columns.now c.loop-number.number (record { kind = kind.World; sides = record { lo = pos 0; hi = pos 0 } }) c.args.out.now.items c.loop-number.out.items c.put_column.new.out.items c.loop-number-test.true
    c.in_ok-put_column.ensures c.loop-number.invariant

pub returns : goal.returns
returns c = written_end (spec.column_line c.args.stands.now) c.args.columns.now c.loop-number.number c.args.out.now.items c.loop-number.out.items c.loop-number-test.false c.loop-number.invariant
