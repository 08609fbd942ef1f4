use Rattle.std.proofs.Common.{◌∙◌, ap, arith, length, rules}
use Rattle.std.proofs.lemmas.List.{length_push}
use Rattle.std.proofs.lemmas.Result.{err_from_is_err_and}
use Rattle.csv.specs.Records.{fields_of}
use Rattle.tables_csv.proofs.ValueLemmas.{column_there, values_all, values_more, values_stuck}
use Rattle.tables_csv.proofs.row.row_of.Goals as goal

pub offset_bounds-columns-at : goal.offset_bounds-columns-at
offset_bounds-columns-at c =
    let there = column_there c.args.columns.now (fields_of c.args.fields.now) _ _ _ _ (rw c.loop-field.invariant.whole at c.in-Some.ensures.steps.1) (omega arith) c.loop-field.invariant.size c.len-at.ensures in
    omega (arith, there, c.requires)

pub bounds-columns-at : goal.bounds-columns-at
bounds-columns-at c =
    column_there c.args.columns.now (fields_of c.args.fields.now) _ _ _ _ (rw c.loop-field.invariant.whole at c.in-Some.ensures.steps.1) (omega arith) c.loop-field.invariant.size c.len-at.ensures

pub overflow_cast-at : goal.overflow_cast-at
overflow_cast-at c =
    let there = column_there c.args.columns.now (fields_of c.args.fields.now) _ _ _ _ (rw c.loop-field.invariant.whole at c.in-Some.ensures.steps.1) (omega arith) c.loop-field.invariant.size c.len-at.ensures in
    omega (arith, there, c.requires)

pub overflow_add-at : goal.overflow_add-at
overflow_add-at c =
    let there = column_there c.args.columns.now (fields_of c.args.fields.now) _ _ _ _ (rw c.loop-field.invariant.whole at c.in-Some.ensures.steps.1) (omega arith) c.loop-field.invariant.size c.len-at.ensures in
    omega (arith, there, c.requires)

pub returns-in_err-value_of-clause-fault : goal.returns-in_err-value_of-clause-fault
returns-in_err-value_of-clause-fault c =
    let p = err_from_is_err_and c.from_residual-in_err-value_of.result c.from_residual-in_err-value_of.ensures.1 in
    rw (p.1, p.2) (λ ne. values_stuck c.args.columns.now (fields_of c.args.fields.now) c.loop-field.values c.loop-field.field-iterator.at c.len-at.result c.args.row _ c.index-columns-at.result _ _
    (rw c.loop-field.invariant.whole at c.in-Some.ensures.steps.1) (omega arith) (omega arith) (omega arith) c.index-columns-at.is c.loop-field.invariant.front (c.in_err-value_of.ensures.fault ne))

pub loop-field-preserved : goal.loop-field-preserved
loop-field-preserved c =
    let size = ap length c.in_ok-push.ensures.ok ∙ length_push c.loop-field.values c.in_ok-value_of.field-0 in
    record {
      whole = search rules;
      size = omega (arith, size, c.in-Some.ensures.steps.2);
      front = values_more c.args.columns.now (fields_of c.args.fields.now) c.loop-field.values _ c.loop-field.field-iterator.at _ c.len-at.result c.index-columns-at.result _ c.in_ok-value_of.field-0
          (rw c.loop-field.invariant.whole at c.in-Some.ensures.steps.1) c.in-Some.ensures.steps.2 (omega arith)
          (column_there c.args.columns.now (fields_of c.args.fields.now) _ _ _ _ (rw c.loop-field.invariant.whole at c.in-Some.ensures.steps.1) (omega arith) c.loop-field.invariant.size c.len-at.ensures)
          c.index-columns-at.is c.loop-field.invariant.front c.in_ok-value_of.ensures.value c.in_ok-push.ensures.ok;
    }

pub returns-clause-values : goal.returns-clause-values
returns-clause-values c =
    values_all c.args.columns.now (fields_of c.args.fields.now) c.loop-field.values c.loop-field.field-iterator.at (rw c.loop-field.invariant.whole at c.in-None.ensures.steps.1) (omega arith) c.loop-field.invariant.front
