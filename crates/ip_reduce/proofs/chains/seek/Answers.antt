use Rattle.std.proofs.Common.{◌-◌, ◌∙◌, length, refl, arith}
use Rattle.std.proofs.lemmas.Bool.{false≢true}
use Rattle.ip_reduce.proofs.ChainLemmas.{seek_begins, seek_goes_on, next_falls, not_there, is_there, read_row, read_hash}
use Rattle.ip_reduce.proofs.chains.seek.Goals as goal

pub chain-init : goal.chain-init
chain-init c = seek_begins c.args.rows.now c.args.hashes.now c.args.links.now c.args.heads.now c.args.row.now c.args.hash _ c.requires.linked c.requires.hash (omega (arith, c.requires.linked.linked.some)) refl

pub bounds-rows-at : goal.bounds-rows-at
bounds-rows-at c = (omega (arith, c.chain.invariant.within, c.chain-test.true))

pub bounds-hashes-at : goal.bounds-hashes-at
bounds-hashes-at c = omega (arith, c.requires.linked.hashes_size, c.chain.invariant.within, c.chain-test.true)

pub bounds-links-at : goal.bounds-links-at
bounds-links-at c = omega (arith, c.requires.linked.links_size, c.chain.invariant.within, c.chain-test.true)

pub is_it-requires-clause-row_hash : goal.is_it-requires-clause-row_hash
is_it-requires-clause-row_hash c = read_hash c.args.rows.now c.args.hashes.now c.args.links.now c.args.heads.now (c.chain.link - 1) c.index-rows-at.result c.requires.linked (omega (arith, c.chain.invariant.within, c.chain-test.true)) c.index-rows-at.is

pub returns-then-is_it : goal.returns-then-is_it
returns-then-is_it c = ((λ h. is_there c.args.rows.now (c.chain.link - 1) c.index-rows-at.result c.args.row.now (omega (arith, c.chain.invariant.within, c.chain-test.true)) c.index-rows-at.is (c.if-is_it.ensures.0 refl)), (λ h. refl))

pub chain-smaller : goal.chain-smaller
chain-smaller c = omega (arith, c.chain-test.true, next_falls c.args.rows.now c.args.hashes.now c.args.links.now c.args.heads.now (c.chain.link - 1) c.requires.linked (omega (arith, c.chain.invariant.within, c.chain-test.true)))

pub chain-preserved : goal.chain-preserved
chain-preserved c =
    seek_goes_on c.args.rows.now c.args.hashes.now c.args.links.now c.args.heads.now c.args.row.now c.chain.link _ c.requires.linked c.chain.invariant (omega (arith, c.chain-test.true))
    (λ e. false≢true (c.if-is_it.ensures.1 (read_row c.args.rows.now c.args.hashes.now c.args.links.now c.args.heads.now (c.chain.link - 1) c.index-rows-at.result c.requires.linked (omega (arith, c.chain.invariant.within, c.chain-test.true)) c.index-rows-at.is ∙ e))) refl

pub returns : goal.returns
returns c =
    ((λ h. absurd (false≢true h)), (λ h. absurd (not_there c.args.rows.now c.args.hashes.now (length c.args.heads.now) c.args.row.now c.chain.link (omega (arith, c.chain-test.false)) c.chain.invariant h)))
