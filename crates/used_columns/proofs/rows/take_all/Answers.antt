use Rattle.std.proofs.Common.{sym, subst, pos, take, length, get_or}
use Rattle.std.proofs.lemmas.List.{get_or_default}
use Rattle.prov_arena.specs.declared.part.Term.{Term}
use Rattle.used_columns.proofs.TakeLemmas.{AreTaken, taken_begin, taken_more, taken_seeds, taken_totals}
use Rattle.used_columns.proofs.rows.take_all.Goals as goal

pub loop-term-init : goal.loop-term-init
loop-term-init c =
    subst (λ seeds. AreTaken (length c.args.totals.now) c.args.terms.now (take 0 c.args.terms.now) c.args.totals.now seeds) (sym c.new-seeds.ensures) (taken_begin (length c.args.totals.now) c.args.terms.now c.args.totals.now c.requires.totals)

pub loop-term-preserved : goal.loop-term-preserved
loop-term-preserved c =
    let blank : Term = record { factor = pos 0; node = 0 } in
    let terms = c.args.terms.now in
    let i = c.loop-term.term-index in
    let t : Term = get_or c.args.terms.now c.loop-term.term-index (record { factor = pos 0; node = 0 }) in
    taken_more (length c.args.totals.now) terms i t c.loop-term-test.true (get_or_default terms i blank t c.loop-term-test.true) (c.requires.there i blank c.loop-term-test.true) c.loop-term.totals c.take.new.totals c.loop-term.seeds c.take.new.seeds c.in_ok-take.ensures.totals
    c.in_ok-take.ensures.seeds c.loop-term.invariant

pub returns-clause-seeds : goal.returns-clause-seeds
returns-clause-seeds c = taken_seeds (length c.args.totals.now) c.loop-term.term-index c.args.terms.now c.loop-term.totals c.loop-term.seeds c.loop-term-test.false c.loop-term.invariant

pub returns-clause-totals : goal.returns-clause-totals
returns-clause-totals c = taken_totals (length c.args.totals.now) c.loop-term.term-index c.args.terms.now c.loop-term.totals c.loop-term.seeds c.loop-term-test.false c.loop-term.invariant
