use Rattle.std.proofs.Common.{get_or}
use Rattle.std.proofs.lemmas.List.{get_or_default}
use Rattle.prov_fold.specs.Graphs.{node, size}
use Rattle.used_columns.specs.Used.{made_of, all_made_of}
use Rattle.used_columns.specs.Marks.{marked}
use Rattle.used_columns.proofs.MarkLemmas.{all_more, length_after}
use Rattle.used_columns.proofs.walk.mark_all.Goals as goal

pub loop-node-preserved : goal.loop-node-preserved
loop-node-preserved c =
    let g = c.args.fold.now in
    let k = get_or c.args.nodes.now c.loop-node.node-index 0 in
    let made = made_of k (node g k) in
    record {
      count = length_after c.loop-node.marks c.mark.new.marks made (size g) c.mark.ensures c.loop-node.invariant.count;
      rest = all_more g c.loop-node.marks c.mark.new.marks c.args.nodes.now c.loop-node.node-index k (marked c.args.marks.now (all_made_of g c.args.nodes.now)) c.loop-node-test.true (get_or_default c.args.nodes.now c.loop-node.node-index 0 k c.loop-node-test.true) c.mark.ensures c.loop-node.invariant.rest;
    }
