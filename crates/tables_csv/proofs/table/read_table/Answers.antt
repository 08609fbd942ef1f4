use Rattle.std.proofs.Common.{sym}
use Rattle.std.proofs.lemmas.Result.{IfErr-weaker, IfOk-weaker}
use Rattle.tables_csv.specs.declared.fault.TableFault.TheVariants as fault
use Rattle.tables_csv.proofs.Outcomes.{table_no_fault}
use Rattle.tables_csv.proofs.WholeReading.{header_refused, table_read, table_refused}
use Rattle.tables_csv.proofs.table.read_table.Goals as goal

pub returns-then-not-branch-clause-no_table : goal.returns-then-not-branch-clause-no_table
returns-then-not-branch-clause-no_table c =
    let lacks = rw c.if-not-branch.true at c.in_ok-take_header.ensures in
    λ ne rows is. table_no_fault c.args.bytes.now c.args.table.now rows fault.Header is
    (header_refused c.reader_of-reader.result c.take_header.new.reader c.args.bytes.now c.without_mark-text.result.now c.args.table.now c.without_mark-text.ensures
    c.reader_of-reader.ensures.source c.reader_of-reader.ensures.state (rw c.as_slice.ensures at lacks))

pub returns-clause-table : goal.returns-clause-table
returns-clause-table c =
    let takes = rw c.if-not-branch.false at c.in_ok-take_header.ensures in
    IfOk-weaker c.rows_left.result _ _
    (λ rows gives. table_read c.reader_of-reader.result c.take_header.new.reader c.args.bytes.now c.without_mark-text.result.now c.args.table.now c.without_mark-text.ensures
    c.reader_of-reader.ensures.source c.reader_of-reader.ensures.state rows (sym c.if-is_marked.ensures) (rw c.as_slice.ensures at takes.1) gives)
    c.rows_left.ensures.rows

pub returns-clause-fault : goal.returns-clause-fault
returns-clause-fault c =
    let takes = rw c.if-not-branch.false at c.in_ok-take_header.ensures in
    IfErr-weaker c.rows_left.result _ _
    (λ told gives ne. table_refused c.reader_of-reader.result c.take_header.new.reader c.args.bytes.now c.without_mark-text.result.now c.args.table.now c.without_mark-text.ensures
    c.reader_of-reader.ensures.source c.reader_of-reader.ensures.state told (sym c.if-is_marked.ensures) (rw c.as_slice.ensures at takes.1) (gives ne))
    c.rows_left.ensures.fault

pub returns-clause-no_table : goal.returns-clause-no_table
returns-clause-no_table c =
    IfErr-weaker c.rows_left.result _ _ (λ told first ne rows is. table_no_fault c.args.bytes.now c.args.table.now rows told is (first ne)) (returns-clause-fault c)
