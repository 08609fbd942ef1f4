use Rattle.ip_reduce.proofs.ChainLemmas.{linked_none}
use Rattle.ip_reduce.proofs.chains.Chains.new.Goals as goal

pub returns : goal.returns
returns c = linked_none c.new.result.items c.new-2.result.items c.in_ok-vec.field-0.items c.args.rows c.new.ensures.items c.new-2.ensures.items (c.in_ok-vec.ensures.items_if_clones_equal (λ y e. e))
