use Rattle.std.proofs.Common.{ℕ, ◌+◌, ap, ◌∙◌, arith, drop}
use Rattle.branch_tree.specs.Tree.{are_whole}
use Rattle.branch_tree.proofs.Trees.{wanted_none, wanted_more, wanted_less}
use Rattle.branch_tree.proofs.branches.are_one_tree.Goals as goal
use Rattle.branch_tree.proofs.branches.are_one_tree.Goals.{in-Split, in-Closed}

pub returns-then-wanted-eq0 : goal.returns-then-wanted-eq0
returns-then-wanted-eq0 c = wanted_none _ _ _ _ c.loop-node-test.true c.if-wanted-eq0.true c.loop-node.invariant.0

pub loop-node-preserved : goal.loop-node-preserved
loop-node-preserved c =
    let left = drop (c.loop-node.node-index + 1) c.args.nodes.now in
    elim c.match-node.branch [
      | in-Split w ↦ (ap (λ (n : ℕ). are_whole n left) w.wanted-is ∙ wanted_more _ _ _ _ _ _ _ _ c.loop-node-test.true w.in-Split.is (omega arith) c.loop-node.invariant.0, omega arith)
      | in-Closed w ↦ (ap (λ (n : ℕ). are_whole n left) w.wanted-is ∙ wanted_less _ _ _ _ _ _ c.loop-node-test.true w.in-Closed.is (omega arith) c.loop-node.invariant.0, omega arith)
    ]
