use Rattle.std.proofs.Common.{ℕ, suc, ◌-◌, ◌≡◌, arith, ◌∙◌, ap, length}
use Rattle.answer_text.specs.Blocks.{joined, nodes_from, nodes_at, wanted_behind}
use Rattle.answer_text.proofs.Grammar.{reads_node-shorter, nodes_step}
use Rattle.answer_text.proofs.Loops.{loop_on, joined-nil, wanted_behind-le}
use Rattle.answer_text.proofs.blocks.nodes.Goals as goal

pub each-init : goal.each-init
unfolding nodes_at
each-init c = record {
  within = omega arith;
  items = rw c.new-nodes.ensures (joined-nil (nodes_from (length c.args.bytes.now) 1 c.args.bytes.now));
}

pub each-smaller : goal.each-smaller
each-smaller c = reads_node-shorter c.each.rest.now (c.in_ok-node.node, c.in_ok-node.after.now) c.in_ok-node.ensures

pub each-preserved : goal.each-preserved
each-preserved c =
    let shorter = reads_node-shorter c.each.rest.now (c.in_ok-node.node, c.in_ok-node.after.now) c.in_ok-node.ensures in
    let some : c.each.wanted ≡ suc (c.each.wanted - 1) = omega arith in
    let step : nodes_from (length c.each.rest.now) c.each.wanted c.each.rest.now ≡ _ = ap (λ (n : ℕ). nodes_from (length c.each.rest.now) n c.each.rest.now) some ∙ nodes_step (c.each.wanted - 1) c.each.rest.now (c.in_ok-node.node, c.in_ok-node.after.now) c.in_ok-node.ensures in
    let wanted = c.wanted_behind-wanted.ensures in
    record {
      within = omega (arith, wanted_behind-le c.in_ok-node.node (c.each.wanted - 1));
      items = ap (λ (n : ℕ). joined c.push.new.self (nodes_from (length c.in_ok-node.after.now) n c.in_ok-node.after.now)) wanted
          ∙ loop_on c.each.nodes (nodes_from (length c.each.rest.now) c.each.wanted c.each.rest.now) (nodes_at c.args.bytes.now) c.each.invariant.items c.in_ok-node.node c.push.new.self
          (nodes_from (length c.in_ok-node.after.now) (wanted_behind c.in_ok-node.node (c.each.wanted - 1)) c.in_ok-node.after.now) step c.in_ok-push.ensures.ok;
    }
