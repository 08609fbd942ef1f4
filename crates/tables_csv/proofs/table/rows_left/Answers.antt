use Rattle.std.proofs.Common.{arith}
use Rattle.std.proofs.lemmas.Result.{err_from_is_err_and}
use Rattle.tables_csv.proofs.TableRows.{key_refused, row_refused, rows_all, rows_full, rows_more, rows_none}
use Rattle.tables_csv.proofs.table.rows_left.Goals as goal

pub loop-fields-init : goal.loop-fields-init
loop-fields-init c = record {
  opened = c.requires.open;
  passed = rw c.new-rows.ensures (rows_none c.args.table.now c.args.reader.now c.requires.open);
  keys = rw (c.new-rows.ensures, ← c.as_slice-key.ensures) c.in_ok-keys.ensures;
}

pub returns-then-len-eq-MOST_ROWS-clause-fault : goal.returns-then-len-eq-MOST_ROWS-clause-fault
returns-then-len-eq-MOST_ROWS-clause-fault c =
    λ ne. rows_full c.args.table.now c.args.reader.now c.loop-fields.reader c.take_record.new.reader c.loop-fields.rows _ c.loop-fields.invariant.passed
    (rw c.if-branch.true at c.in_ok-take_record.ensures).1 (omega arith)

pub returns-in_err-row-clause-fault : goal.returns-in_err-row-clause-fault
returns-in_err-row-clause-fault c =
    let p = err_from_is_err_and c.from_residual-in_err-row.result c.from_residual-in_err-row.ensures.1 in
    rw (p.1, p.2) (λ ne. row_refused c.args.table.now c.args.reader.now c.loop-fields.reader c.take_record.new.reader c.loop-fields.rows _ c.loop-fields.invariant.passed
    (rw c.if-branch.true at c.in_ok-take_record.ensures).1 _ _ (omega (arith, c.loop-fields.invariant.passed.given.few)) (omega arith)
    (rw c.as_slice.ensures at (c.in_err-row.ensures.fault ne)))

pub returns-in-Some-clause-fault : goal.returns-in-Some-clause-fault
returns-in-Some-clause-fault c =
    let entered = rw c.in-Some.is at c.in_ok-earlier.ensures.new in
    λ ne. key_refused c.args.table.now c.args.reader.now c.loop-fields.reader c.take_record.new.reader c.loop-fields.rows _ c.loop-fields.invariant.passed
    (rw c.if-branch.true at c.in_ok-take_record.ensures).1 _ c.in-Some.earlier c.in_ok-row.row (omega (arith, c.loop-fields.invariant.passed.given.few)) (omega arith)
    (rw c.as_slice.ensures at c.in_ok-row.ensures.values) (rw (c.as_slice-key.ensures, c.as_slice-in-loop-fields.ensures) at entered)

pub loop-fields-preserved : goal.loop-fields-preserved
loop-fields-preserved c =
    let entered = rw c.in_default.is at c.in_ok-earlier.ensures.new in
    let both = rw (c.as_slice-key.ensures, c.as_slice-in-loop-fields.ensures) at entered in
    record {
      opened = (rw c.if-branch.true at c.in_ok-take_record.ensures).0;
      passed = rows_more c.args.table.now c.args.reader.now c.loop-fields.reader c.take_record.new.reader c.loop-fields.rows _ _ c.in_ok-row.row c.loop-fields.invariant.passed
          (rw c.if-branch.true at c.in_ok-take_record.ensures).1 (omega (arith, c.loop-fields.invariant.passed.given.few))
          (rw c.as_slice.ensures at c.in_ok-row.ensures.values) both.0 c.in_ok-push.ensures.ok;
      keys = rw c.in_ok-push.ensures.ok both.1;
    }

pub returns-clause-rows : goal.returns-clause-rows
returns-clause-rows c =
    rows_all c.args.table.now c.args.reader.now c.loop-fields.reader c.loop-fields.rows c.loop-fields.invariant.passed (rw c.if-branch.false at c.in_ok-take_record.ensures)
