use Rattle.std.proofs.Common.{◌∙◌, ◌-◌, ◌<◌, ap, arith, length, refl, sym, true≢false}
use Rattle.tables_csv.specs.Hashes.{hash_of}
use Rattle.tables_csv.proofs.ChainLemmas.{next_falls, seek_begins, seek_goes_on}
use Rattle.tables_csv.proofs.KeyLemmas.{key_read}
use Rattle.tables_csv.proofs.keys.seek.Goals as goal
use Rattle.tables_csv.proofs.keys.seek.Goals.{else-hashes-at-via-then-hashes-at+else-has_same_key, else-hashes-at-via-else-hashes-at}

pub chain-init : goal.chain-init
chain-init c =
    let some = c.requires.linked.linked.some in
    seek_begins c.args.key.now c.args.rows.now c.args.hashes.now c.args.links.now c.args.heads.now _ c.args.hash _ c.requires.linked c.requires.hash (omega arith) refl

pub chain-smaller : goal.chain-smaller
chain-smaller c =
    let i = c.chain.link - 1 in
    let falls = next_falls c.args.key.now c.args.rows.now c.args.hashes.now c.args.links.now c.args.heads.now i c.requires.linked (omega (arith, c.chain.invariant.within)) in
    omega (arith, falls)

pub chain-preserved : goal.chain-preserved
chain-preserved c =
    let i = c.chain.link - 1 in
    let lt : i < length c.args.rows.now = omega (arith, c.chain.invariant.within) in
    seek_goes_on c.args.key.now c.args.rows.now c.args.hashes.now c.args.links.now c.args.heads.now _ c.chain.link _ c.requires.linked c.chain.invariant (omega arith)
    (λ same. elim c.else-hashes-at.branch [
      | else-hashes-at-via-then-hashes-at+else-has_same_key w ↦
          true≢false (sym (w.if-has_same_key.ensures.1 (sym (key_read c.args.key.now c.args.rows.now i w.index-rows-at.result lt w.index-rows-at.is) ∙ same)))
      | else-hashes-at-via-else-hashes-at w ↦ w.if-hashes-at.false (c.requires.linked.hashed i lt ∙ ap hash_of same ∙ sym c.requires.hash)
    ])
    refl
