use Rattle.std.proofs.Common.{arith}
use Rattle.tables_csv.proofs.ChainLemmas.{linked_append}
use Rattle.tables_csv.proofs.keys.append.Goals as goal

pub returns-clause-linked : goal.returns-clause-linked
returns-clause-linked c =
    let some = c.requires.linked.some in
    linked_append c.args.hashes.now.items c.args.links.now.items c.args.heads.now _ _ c.args.hash c.len.result c.requires.linked c.requires.links (omega arith) c.in_ok-push.ensures.items
    c.in_ok-push-2.ensures.items (omega (arith, c.len.ensures, c.args.hashes.now.ok.0))
