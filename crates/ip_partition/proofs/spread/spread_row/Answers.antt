use Rattle.std.proofs.Common.{◌∙◌, arith}
use Rattle.ip_partition.proofs.RowLemmas.{row_begins, row_skips, row_gains_by, row_ends, next_is_live}
use Rattle.ip_partition.proofs.spread.spread_row.Goals as goal

pub loop-column-init : goal.loop-column-init
loop-column-init c = row_begins c.args.grid.now c.args.row c.args.part c.args.labels.now c.args.reached.now.items _ (c.into_iter-column-iterator.ensures.into_iter_gives ∙ c.row-column-items.ensures.numbers)

pub bounds-labels-column : goal.bounds-labels-column
bounds-labels-column c =
    let size = c.loop-column.invariant.size in
    omega (arith, c.requires.room c.in-Some.column (next_is_live _ _ _ _ _ _ _ _ _ _ c.in-Some.ensures.steps c.loop-column.invariant))

pub bounds-labels-column-then-labels-column-eq0 : goal.bounds-labels-column-then-labels-column-eq0
bounds-labels-column-then-labels-column-eq0 c =
    let size = c.loop-column.invariant.size in
    omega (arith, c.requires.room c.in-Some.column (next_is_live _ _ _ _ _ _ _ _ _ _ c.in-Some.ensures.steps c.loop-column.invariant))

pub loop-column-preserved-in-Continue-1 : goal.loop-column-preserved-in-Continue-1
loop-column-preserved-in-Continue-1 c =
    let size = c.loop-column.invariant.size in
    row_gains_by c.args.grid.now c.args.row c.args.part c.args.labels.now c.args.reached.now.items c.loop-column.labels c.loop-column.reached.items c.loop-column.column-iterator c.next.new.self c.in-Some.column c.in-Some.ensures.steps c.loop-column.invariant c.if-labels-column-eq0.true
    (omega (arith, c.requires.room c.in-Some.column (next_is_live _ _ _ _ _ _ _ _ _ _ c.in-Some.ensures.steps c.loop-column.invariant)))
    c.requires.some c.push.new.self.items c.in_ok-push.ensures.items

pub loop-column-preserved : goal.loop-column-preserved
loop-column-preserved c = row_skips _ _ _ _ _ _ _ _ _ _ c.in-Some.ensures.steps c.loop-column.invariant c.if-labels-column-eq0.false

pub returns : goal.returns
returns c = row_ends _ _ _ _ _ _ _ _ c.in-None.ensures.steps.0 c.loop-column.invariant
