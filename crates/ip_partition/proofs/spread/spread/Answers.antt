use Rattle.std.proofs.Common.{◌≡◌, ◌+◌, ◌-◌, ◌<◌, length, arith}
use Rattle.ip_partition.proofs.ColumnLemmas.{room_same, reached_few, spread_begins, spread_goes_on, spread_ends}
use Rattle.ip_partition.proofs.spread.spread.Goals as goal

pub loop-at-init : goal.loop-at-init
loop-at-init c = spread_begins _ _ _ _ _ _ c.requires.begun c.requires.within

pub spread_column-requires-clause-room : goal.spread_column-requires-clause-room
spread_column-requires-clause-room c = room_same _ _ _ _ _ (omega arith) (omega arith) c.requires.room

pub spread_column-requires-clause-begun : goal.spread_column-requires-clause-begun
spread_column-requires-clause-begun c = c.loop-at.invariant.spread

pub loop-at-smaller : goal.loop-at-smaller
loop-at-smaller c =
    let few = reached_few c.args.grid.now c.args.part c.loop-at.at c.loop-at.labels c.loop-at.seen c.loop-at.reached.items c.loop-at.invariant.spread in
    let before : c.loop-at.at < length c.loop-at.reached.items = omega (arith, c.loop-at-test.true, c.len.ensures, c.loop-at.reached.ok.0) in
    let same : length c.spread_column.new.labels ≡ length c.loop-at.labels = c.spread_column.auto.labels in
    let less : length c.spread_column.new.labels - (c.loop-at.at + 1) < length c.loop-at.labels - c.loop-at.at = omega arith in
    less

pub loop-at-preserved : goal.loop-at-preserved
loop-at-preserved c =
    spread_goes_on c.args.grid.now c.args.part c.loop-at.at c.args.labels.now c.loop-at.labels c.spread_column.new.labels c.loop-at.seen c.spread_column.new.seen c.loop-at.reached.items c.spread_column.new.reached.items
    c.loop-at.invariant c.in_ok-spread_column.ensures

pub returns : goal.returns
returns c =
    spread_ends c.args.grid.now c.args.part c.loop-at.at c.args.labels.now c.loop-at.labels c.loop-at.seen c.loop-at.reached.items (omega (arith, c.loop-at-test.false, c.len.ensures, c.loop-at.reached.ok.0)) c.loop-at.invariant
