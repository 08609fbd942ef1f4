use Rattle.std.proofs.Common.{◌∙◌, sym, ap, ◌-◌, arith, refl, true≢false}
use Rattle.prov_arena.specs.Hashes.{hash_of}
use Rattle.prov_arena.specs.Chains.{formulas, hashes, nexts}
use Rattle.prov_arena.proofs.Blanks.{formula_at, hash_at, next_at}
use Rattle.prov_arena.proofs.ChainLemmas.{seek_begins, seek_goes_on, next_falls}
use Rattle.prov_arena.proofs.chains.seek.Goals as goal

pub chain-init : goal.chain-init
chain-init c =
    seek_begins (formulas c.args.nodes.now) (hashes c.args.nodes.now) (nexts c.args.nodes.now) c.args.heads.now _ c.args.hash _ c.requires.kept c.requires.hash (omega (arith, c.requires.kept.linked.some)) refl

pub holds-requires-clause-own : goal.holds-requires-clause-own
holds-requires-clause-own c =
    let i = c.chain.link - 1 in
    sym (hash_at c.args.nodes.now i) ∙ c.requires.kept.hashed i (omega (arith, c.chain.invariant.within)) ∙ ap hash_of (formula_at c.args.nodes.now i)

pub returns-then-holds : goal.returns-then-holds
returns-then-holds c =
    let i = c.chain.link - 1 in
    record {
      within = c.chain.invariant.within;
      absent = λ none. absurd (omega arith);
      found = λ some. formula_at c.args.nodes.now i ∙ c.if-holds.ensures.0 refl;
    }

pub chain-smaller : goal.chain-smaller
chain-smaller c =
    let i = c.chain.link - 1 in
    let falls = next_falls (formulas c.args.nodes.now) (hashes c.args.nodes.now) (nexts c.args.nodes.now) c.args.heads.now i c.requires.kept (omega (arith, c.chain.invariant.within)) in
    omega (arith, falls, next_at c.args.nodes.now i)

pub chain-preserved : goal.chain-preserved
chain-preserved c =
    let i = c.chain.link - 1 in
    seek_goes_on (formulas c.args.nodes.now) (hashes c.args.nodes.now) (nexts c.args.nodes.now) c.args.heads.now _ c.chain.link _ c.requires.kept c.chain.invariant (omega arith)
    (λ same. true≢false (sym (c.if-holds.ensures.1 (sym (formula_at c.args.nodes.now i) ∙ same))))
    (sym (next_at c.args.nodes.now i))
