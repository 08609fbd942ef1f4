use Rattle.std.proofs.Common.{arith}
use Rattle.answer_text.proofs.Columns.{columns_stop, columns_next, columns_last_stop, columns_end, cut_shorter}
use Rattle.answer_text.proofs.lines.columns_from.Goals as goal

pub returns-in_default-column_of : goal.returns-in_default-column_of
returns-in_default-column_of c =
    columns_stop c.loop-word.columns c.loop-word.least c.loop-word.rest.now _ c.loop-word.invariant.columns _ _ c.in-Some.ensures c.in_default-column_of.ensures

pub loop-word-smaller : goal.loop-word-smaller
loop-word-smaller c = cut_shorter 32 c.loop-word.rest.now _ _ c.in-Some.ensures

pub loop-word-preserved : goal.loop-word-preserved
loop-word-preserved c = record {
  least = omega arith;
  columns = columns_next c.loop-word.columns c.loop-word.least c.loop-word.rest.now _ c.loop-word.invariant.columns _ _ _ _ _ c.in-Some.ensures c.in-Some-column_of.ensures c.in_ok-push.ensures.ok (omega arith);
}

pub returns-in_default-column_of-2 : goal.returns-in_default-column_of-2
returns-in_default-column_of-2 c =
    columns_last_stop c.loop-word.columns c.loop-word.least c.loop-word.rest.now _ c.loop-word.invariant.columns c.in_default.ensures c.in_default-column_of-2.ensures

pub returns : goal.returns
returns c =
    columns_end c.loop-word.columns c.loop-word.least c.loop-word.rest.now _ c.loop-word.invariant.columns _ _ c.in_default.ensures c.in-Some-column_of-2.ensures c.in_ok-push-2.ensures.ok
