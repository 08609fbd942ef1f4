use Rattle.std.proofs.Common.{◌≡◌, ◌∙◌, ℕ, List, ap, arith, length, subst}
use Rattle.std.proofs.lemmas.Result.{IfOk-weaker}
use Rattle.tables_csv.proofs.WholeWritten.{all_written, bytes_read, row_added}
use Rattle.tables_csv.specs.WholeTables.{names_of}
use Rattle.tables_csv.specs.Writers.{HasWritten}
use Rattle.tables_csv.proofs.write.table_text.Goals as goal

pub loop-row-preserved : goal.loop-row-preserved
loop-row-preserved c =
    let lent = c.as_slice-row-items.ensures in
    let size : length c.as_slice-row-items.result.now ≡ length c.args.rows.now = ap length lent in
    subst (λ (l : List ℕ). HasWritten c.put-in-loop-row-2.new.writer l)
    (row_added (names_of c.args.columns.now) c.args.rows.now c.loop-row.row-index _ _ c.row-item.result c.in_ok-value_fields.ensures c.as_slice-in-loop-row.ensures (omega arith)
    (rw lent at c.row-item.is))
    (c.in_ok-put-2.ensures _ c.loop-row.invariant)

pub returns-clause-text : goal.returns-clause-text
returns-clause-text c =
    let size : length c.as_slice-row-items.result.now ≡ length c.args.rows.now = ap length c.as_slice-row-items.ensures in
    let all = all_written c.args.columns.now c.args.rows.now c.loop-row.row-index (omega arith) in
    IfOk-weaker c.written.result _ _ (λ bytes is. is _ c.loop-row.invariant ∙ all) c.written.ensures

-- what is read again is that text
pub returns-clause-table : goal.returns-clause-table
returns-clause-table c =
    let named = rw c.as_slice.ensures at c.in_ok-column_fields.ensures.names in
    IfOk-weaker c.written.result _ _ (λ bytes is. bytes_read bytes c.args.columns.now c.args.rows.now is named) (returns-clause-text c)
