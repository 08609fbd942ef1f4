use Rattle.std.proofs.Common.{◌≡◌, ◌+◌, ◌-◌, List, length, arith, sym, subst}
use Rattle.std.specs.List.{range_with_len}
use Rattle.cross_links.specs.Layout.{live_columns}
use Rattle.ip_partition.specs.declared.part.PartCols.{PartCols}
use Rattle.ip_partition.specs.Spreading.{row_part}
use Rattle.ip_partition.proofs.FillLemmas.{FillsRows, rows_first, rows_step, rows_pass, rows_done}
use Rattle.ip_partition.proofs.PartLemmas.{first_few}
use Rattle.ip_partition.proofs.split.add_rows.Goals as goal
use Rattle.ip_partition.proofs.split.add_rows.Goals.{then-label-ne0+in_ok-add_row, else-label-ne0}

pub loop-row-init : goal.loop-row-init
loop-row-init c = rows_first _ _ _

pub loop-row-preserved : goal.loop-row-preserved
loop-row-preserved c =
    let few = first_few c.args.labels.now (length c.args.parts.now) c.requires.labelled (live_columns c.args.grid.now c.loop-row.row) in
    let same : length c.loop-row.parts ≡ length c.args.parts.now = c.loop-row.auto.parts in
    let label = c.label_of_row-label.ensures in
    elim c.if-label-ne0.branch [
      | then-label-ne0+in_ok-add_row w ↦
          subst (λ (ps : List PartCols). FillsRows (row_part c.args.grid.now c.args.labels.now) (range_with_len 0 c.args.end) (range_with_len (c.loop-row.row + 1) (c.args.end - (c.loop-row.row + 1))) c.args.parts.now ps) (sym w.parts-is)
          (rows_step (row_part c.args.grid.now c.args.labels.now) c.args.end c.loop-row.row c.args.parts.now c.loop-row.parts c.loop-row.invariant (c.label_of_row-label.result - 1) _ w.add_row.new.part
          c.loop-row-test.true (omega (arith, label, w.if-label-ne0.true)) (omega (arith, label, few, same, w.if-label-ne0.true)) w.in_ok-add_row.ensures)
      | else-label-ne0 w ↦
          subst (λ (ps : List PartCols). FillsRows (row_part c.args.grid.now c.args.labels.now) (range_with_len 0 c.args.end) (range_with_len (c.loop-row.row + 1) (c.args.end - (c.loop-row.row + 1))) c.args.parts.now ps) (sym w.parts-is)
          (rows_pass (row_part c.args.grid.now c.args.labels.now) c.args.end c.loop-row.row c.args.parts.now c.loop-row.parts c.loop-row.invariant c.loop-row-test.true (omega (arith, label, w.if-label-ne0.false)))
    ]

pub returns : goal.returns
returns c = rows_done (row_part c.args.grid.now c.args.labels.now) c.args.end c.loop-row.row c.args.parts.now c.loop-row.parts c.loop-row.invariant c.loop-row-test.false
