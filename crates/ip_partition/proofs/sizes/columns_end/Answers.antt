use Rattle.ip_partition.proofs.SizeLemmas.{last_greatest, last_within, last_none}
use Rattle.ip_partition.proofs.sizes.columns_end.Goals as goal

pub returns-in-Some-clause-beyond : goal.returns-in-Some-clause-beyond
returns-in-Some-clause-beyond c = λ column h. last_greatest c.args.columns.now c.in-Some.last.now column c.requires c.in-Some.ensures.value h

pub returns-in-Some-clause-within : goal.returns-in-Some-clause-within
returns-in-Some-clause-within c = λ end below. last_within c.args.columns.now c.in-Some.last.now end c.in-Some.ensures.value below

pub returns-in-None-clause-beyond : goal.returns-in-None-clause-beyond
returns-in-None-clause-beyond c = λ column h. last_none c.args.columns.now column c.in-None.ensures.value h
