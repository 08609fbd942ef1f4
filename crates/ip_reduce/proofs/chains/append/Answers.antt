use Rattle.std.proofs.Common.{◌%◌, ℕ, List, length, get_or, ap, arith}
use Rattle.std.proofs.lemmas.List.{length_push}
use Rattle.ip_reduce.proofs.ChainLemmas.{linked_append}
use Rattle.ip_reduce.proofs.chains.append.Goals as goal

pub returns-clause-links : goal.returns-clause-links
returns-clause-links c = omega (arith, ap (λ (ls : List ℕ). length ls) c.in_ok-push-2.ensures.items, length_push c.args.links.now.items (get_or c.args.heads.now (c.args.hash % length c.args.heads.now) 0), c.requires.links)

pub returns-clause-linked : goal.returns-clause-linked
returns-clause-linked c =
    linked_append c.args.hashes.now.items c.args.links.now.items c.args.heads.now c.push.new.self.items c.push-2.new.self.items c.args.hash c.len.result c.requires.linked c.requires.links (omega (arith, c.requires.linked.some))
    c.in_ok-push.ensures.items c.in_ok-push-2.ensures.items (omega (arith, c.len.ensures, c.args.hashes.now.ok.0))
