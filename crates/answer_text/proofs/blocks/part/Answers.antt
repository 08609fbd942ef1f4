use Rattle.std.proofs.Common.{arith}
use Rattle.answer_text.proofs.Grammar.{best_within, part_head_within}
use Rattle.answer_text.proofs.blocks.part.Goals as goal

pub tree-requires : goal.tree-requires
tree-requires c =
    omega (arith, part_head_within c.args.bytes.now (c.in_ok-head.head, c.in_ok-head.rest.now) c.in_ok-head.ensures, best_within c.in_ok-head.rest.now (c.in_ok-best.best, c.in_ok-best.rest.now) c.in_ok-best.ensures)
