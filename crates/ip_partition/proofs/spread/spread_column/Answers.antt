use Rattle.std.proofs.Common.{◌∙◌, length, arith}
use Rattle.std.proofs.lemmas.List.{get_or_read}
use Rattle.ip_partition.proofs.ColumnLemmas.{read_within, column_begins, next_row_is_live, column_skips, column_gains, column_ends}
use Rattle.ip_partition.proofs.spread.spread_column.Goals as goal

pub column-row-items-requires : goal.column-row-items-requires
column-row-items-requires c =
    read_within c.args.grid.now c.args.part c.args.at c.index-column.result.now (length c.args.seen.now) c.args.labels.now c.args.seen.now c.args.reached.now.items c.requires.room c.requires.begun c.requires.within c.requires.some
    (get_or_read c.args.reached.now.items c.args.at c.index-column.result.now c.requires.within c.index-column.ensures 0)

pub loop-row-init : goal.loop-row-init
loop-row-init c =
    column_begins c.args.grid.now c.args.part c.args.at c.index-column.result.now c.args.labels.now c.args.seen.now c.args.reached.now.items _ c.requires.begun c.requires.within
    (get_or_read c.args.reached.now.items c.args.at c.index-column.result.now c.requires.within c.index-column.ensures 0)
    (c.into_iter-row-iterator.ensures.into_iter_gives ∙ c.column-row-items.ensures.numbers)

pub bounds-seen-row : goal.bounds-seen-row
bounds-seen-row c =
    omega (arith, (c.requires.room.live c.in-Some.row _ (next_row_is_live _ _ _ _ _ _ _ _ _ _ _ c.in-Some.ensures.steps c.loop-row.invariant)).0)

pub spread_row-requires-clause-within : goal.spread_row-requires-clause-within
spread_row-requires-clause-within c =
    let rows = c.requires.room.rows_in in
    omega (arith, (c.requires.room.live c.in-Some.row _ (next_row_is_live _ _ _ _ _ _ _ _ _ _ _ c.in-Some.ensures.steps c.loop-row.invariant)).0)

pub spread_row-requires-clause-room : goal.spread_row-requires-clause-room
spread_row-requires-clause-room c = λ column live. omega (arith, (c.requires.room.live c.in-Some.row column live).1)

pub bounds-seen-row-then-not-seen-row : goal.bounds-seen-row-then-not-seen-row
bounds-seen-row-then-not-seen-row c =
    omega (arith, (c.requires.room.live c.in-Some.row _ (next_row_is_live _ _ _ _ _ _ _ _ _ _ _ c.in-Some.ensures.steps c.loop-row.invariant)).0)

pub loop-row-preserved-then-not-seen-row : goal.loop-row-preserved-then-not-seen-row
loop-row-preserved-then-not-seen-row c =
    column_gains c.args.grid.now c.args.part c.args.at c.index-column.result.now c.args.labels.now c.loop-row.labels c.loop-row.seen c.loop-row.reached.items c.loop-row.row-iterator c.next.new.self c.in-Some.row c.in-Some.ensures.steps c.loop-row.invariant
    c.spread_row.new.labels c.spread_row.new.reached.items c.if-not-seen-row.true
    (omega (arith, (c.requires.room.live c.in-Some.row _ (next_row_is_live _ _ _ _ _ _ _ _ _ _ _ c.in-Some.ensures.steps c.loop-row.invariant)).0))
    c.requires.some c.in_ok-spread_row.ensures

pub loop-row-preserved : goal.loop-row-preserved
loop-row-preserved c = column_skips c.args.grid.now c.args.part c.args.at c.index-column.result.now c.args.labels.now c.loop-row.labels c.loop-row.seen c.loop-row.reached.items c.loop-row.row-iterator c.next.new.self c.in-Some.row c.in-Some.ensures.steps c.loop-row.invariant c.if-not-seen-row.false

pub returns : goal.returns
returns c = column_ends c.args.grid.now c.args.part c.args.at c.index-column.result.now c.args.labels.now c.loop-row.labels c.loop-row.seen c.loop-row.reached.items c.loop-row.row-iterator c.in-None.ensures.steps.0 c.loop-row.invariant
