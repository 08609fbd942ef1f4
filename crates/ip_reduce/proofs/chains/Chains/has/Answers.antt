use Rattle.ip_reduce.proofs.ChainLemmas.{linked_by}
use Rattle.ip_reduce.proofs.chains.Chains.has.Goals as goal

pub seek-requires-clause-linked : goal.seek-requires-clause-linked
seek-requires-clause-linked c = linked_by c.args.rows.now _ _ _ _ _ _ c.as_slice.ensures.value c.as_slice-2.ensures.value c.as_slice-3.ensures.value c.requires
