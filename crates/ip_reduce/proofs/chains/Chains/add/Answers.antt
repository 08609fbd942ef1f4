use Rattle.std.proofs.Common.{◌++◌, ◌∷◌, ◌∙◌, ℕ, List, [], length, drop, sym, subst, arith}
use Rattle.std.proofs.lemmas.List.{take_at}
use Rattle.ip_reduce.specs.Chains.{AreLinked}
use Rattle.ip_reduce.proofs.ChainLemmas.{links_of, linked_more}
use Rattle.ip_reduce.proofs.chains.Chains.add.Goals as goal

pub append-requires-clause-linked : goal.append-requires-clause-linked
append-requires-clause-linked c = links_of c.args.rows.now c.args.self.now.hashes.items c.args.self.now.links.items c.args.self.now.heads.items _ c.as_mut_slice.ensures.value c.requires.linked

pub append-requires-clause-links : goal.append-requires-clause-links
append-requires-clause-links c = c.requires.linked.links_size ∙ sym c.requires.linked.hashes_size

pub append-requires-clause-few : goal.append-requires-clause-few
append-requires-clause-few c = omega (arith, c.requires.few, c.requires.linked.hashes_size)

pub returns : goal.returns
returns c =
    subst (λ (hs : List ℕ). AreLinked (c.args.rows.now ++ c.args.row.now ∷ []) c.append.new.hashes.items c.append.new.links.items hs)
    (sym (take_at c.append.new.heads (drop (length c.append.new.heads) c.args.self.now.heads.items) _ (omega (arith, c.append.auto.heads, c.as_mut_slice.ensures.len, c.args.self.now.heads.ok.0))))
    (linked_more c.args.rows.now c.args.row.now c.args.self.now.hashes.items c.args.self.now.links.items c.args.self.now.heads.items c.append.new.hashes.items c.append.new.links.items c.append.new.heads
    c.hash.result c.requires.linked c.hash.ensures c.in_ok-append.ensures.hashes c.in_ok-append.ensures.links c.in_ok-append.ensures.linked)
