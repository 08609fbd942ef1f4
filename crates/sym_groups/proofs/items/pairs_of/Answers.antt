use Rattle.std.proofs.Common.{arith}
use Rattle.sym_groups.proofs.ItemCells.{pairs_none, pairs_step, pairs_end}
use Rattle.sym_groups.proofs.items.pairs_of.Goals as goal

pub loop-row-init : goal.loop-row-init
loop-row-init c = pairs_none c.args.place c.new-made.result.items c.new-made.ensures.items

pub loop-row-preserved : goal.loop-row-preserved
loop-row-preserved c = pairs_step c.args.place c.args.group.now c.loop-row.row-index c.row-item.result c.loop-row.made.items c.add_pair.new.made.items c.pair_of.result (omega arith) c.row-item.is c.pair_of.ensures c.in_ok-add_pair.ensures c.loop-row.invariant

pub returns : goal.returns
returns c = pairs_end c.args.place c.args.group.now c.loop-row.row-index c.loop-row.made.items (omega arith) c.loop-row.invariant
