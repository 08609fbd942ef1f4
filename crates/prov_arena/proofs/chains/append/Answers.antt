use Rattle.std.proofs.Common.{◌≡◌, ap, ◌%◌, ◌<◌, arith, length}
use Rattle.std.proofs.lemmas.List.{get_or_read}
use Rattle.prov_arena.proofs.Blanks.{linked_append}
use Rattle.prov_arena.proofs.chains.append.Goals as goal

pub returns-clause-linked : goal.returns-clause-linked
returns-clause-linked c =
    let heads = c.args.heads.now.items in
    let len : c.len.result ≡ length c.args.heads.now.items = omega (arith, c.len.ensures, c.args.heads.now.ok.0) in
    let some = c.requires.linked.some in
    let lt : c.args.hash % c.len.result < length c.args.heads.now.items = omega (arith, len, some) in
    linked_append c.args.nodes.now.items _ _ heads _ _ c.requires.linked c.in_ok-push.ensures.items (ap (λ n. c.args.hash % n) len) lt (get_or_read heads _ c.index-next.result.now lt c.index-next.ensures 0) (omega (arith, c.len-id.ensures, c.args.nodes.now.ok.0))
