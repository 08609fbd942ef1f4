use Rattle.std.proofs.Common.{◌≡◌, ◌-◌, length, get_or, arith}
use Rattle.ip_partition.specs.Spreading.{part_of}
use Rattle.ip_partition.proofs.FillLemmas.{columns_begin, columns_step, columns_done}
use Rattle.ip_partition.proofs.split.add_columns.Goals as goal

pub loop-column-init : goal.loop-column-init
loop-column-init c = columns_begin _ _ _

pub loop-column-preserved : goal.loop-column-preserved
loop-column-preserved c =
    let column = get_or c.args.columns.now c.loop-column.column-index 0 in
    let label = c.requires.labelled c.loop-column.column-index 0 c.loop-column-test.true in
    let some = label.0 in
    let few = label.1 in
    let same : length c.loop-column.parts ≡ length c.args.parts.now = c.loop-column.auto.parts in
    columns_step (part_of c.args.labels.now) c.args.columns.now c.loop-column.column-index c.args.parts.now c.loop-column.parts (get_or c.args.labels.now column 0 - 1) _ c.add_column.new.part
    c.loop-column-test.true (omega (arith, some)) (omega (arith, some, few, same)) c.in_ok-add_column.ensures c.loop-column.invariant

pub returns : goal.returns
returns c = columns_done (part_of c.args.labels.now) c.args.columns.now c.loop-column.column-index c.args.parts.now c.loop-column.parts c.loop-column-test.false c.loop-column.invariant
