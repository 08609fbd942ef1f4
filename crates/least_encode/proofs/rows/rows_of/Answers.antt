use Rattle.std.proofs.Common.{subst}
use Rattle.prov_fold.specs.Graphs.{range}
use Rattle.prov_fold.specs.declared.span.Span.{Span}
use Rattle.bool_encode.specs.Rows.{AreRows}
use Rattle.cmp_encode.specs.Spans.{narrow_span}
use Rattle.cmp_encode.specs.Tables.{above_forms, below_forms, end_forms, min_forms, present_forms, sum_forms}
use Rattle.least_encode.proofs.Loops.{appended}
use Rattle.least_encode.proofs.Ready.{narrow_small}
use Rattle.least_encode.proofs.rows.rows_of.Goals as goal

pub end_rows-requires-clause-small_lo : goal.end_rows-requires-clause-small_lo
end_rows-requires-clause-small_lo c = (narrow_small c.args.fold.now c.span-span.ensures.fold c.args.pairs.now c.in_ok-narrow.narrow c.in_ok-narrow.ensures (λ k d lt. (c.requires.pairs.each k d lt).number.there)).0

pub end_rows-requires-clause-small_hi : goal.end_rows-requires-clause-small_hi
end_rows-requires-clause-small_hi c = (narrow_small c.args.fold.now c.span-span.ensures.fold c.args.pairs.now c.in_ok-narrow.narrow c.in_ok-narrow.ensures (λ k d lt. (c.requires.pairs.each k d lt).number.there)).1

pub returns : goal.returns
returns c =
    subst (λ (s : Span). AreRows c.args.fold.now c.args.map.now.stands (min_forms s (narrow_span (range c.args.fold.now) c.args.pairs.now) (range c.args.fold.now) c.args.some_pair c.args.id c.args.pairs.now) c.end_rows.new.rows) c.span-span.ensures.range
    (subst (λ (h : Span). AreRows c.args.fold.now c.args.map.now.stands (min_forms c.span-span.result h (range c.args.fold.now) c.args.some_pair c.args.id c.args.pairs.now) c.end_rows.new.rows) c.in_ok-narrow.ensures
    (appended c.args.fold.now c.args.map.now.stands (present_forms c.args.id 0 c.args.pairs.now) (sum_forms c.args.some_pair c.args.id c.args.pairs.now) (above_forms c.span-span.result (range c.args.fold.now) c.args.id c.args.pairs.now) (below_forms c.span-span.result (range c.args.fold.now) c.args.id 0 c.args.pairs.now) (end_forms c.in_ok-narrow.narrow c.args.some_pair c.args.id)
    c.new-rows.result c.present_rows.new.rows c.sum_rows.new.rows c.above_rows.new.rows c.below_rows.new.rows c.end_rows.new.rows c.new-rows.ensures
    c.in_ok-present_rows.ensures c.in_ok-sum_rows.ensures c.in_ok-above_rows.ensures c.in_ok-below_rows.ensures c.in_ok-end_rows.ensures))
