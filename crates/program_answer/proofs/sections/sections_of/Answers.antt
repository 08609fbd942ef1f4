use Rattle.std.proofs.Common.{sym, subst, arith}
use Rattle.tiql_query.specs.declared.relation.QHypo.{QHypo}
use Rattle.program_answer.specs.Sections.{IsFit}
use Rattle.program_answer.proofs.Widths.{fit_at, fit_long, sections_all, sections_more, sections_none}
use Rattle.program_answer.proofs.sections.sections_of.Goals as goal

pub loop-at-init : goal.loop-at-init
loop-at-init c = sections_none c.args.hypos.now c.args.tables.now _ c.new-sections.ensures

pub bounds-tables-at : goal.bounds-tables-at
bounds-tables-at c = let long = fit_long c.args.hypos.now c.args.tables.now c.requires in omega (arith, long)

pub section_of-requires : goal.section_of-requires
section_of-requires c =
    subst (λ (h : QHypo). IsFit h c.index-tables-at.result) (sym c.index-hypos-at.is)
    (subst (IsFit _) (sym c.index-tables-at.is) (fit_at c.args.hypos.now c.args.tables.now c.loop-at.at c.index-hypos-at.result c.index-tables-at.result c.requires c.loop-at-test.true))

pub loop-at-preserved : goal.loop-at-preserved
loop-at-preserved c =
    sections_more c.args.hypos.now c.args.tables.now c.loop-at.sections c.push.new.self c.loop-at.at c.index-hypos-at.result c.index-tables-at.result c.in_ok-section_of.field-0
    c.requires c.loop-at-test.true c.index-hypos-at.is c.index-tables-at.is c.in_ok-section_of.ensures c.in_ok-push.ensures.ok c.loop-at.invariant

pub returns : goal.returns
returns c = sections_all c.args.hypos.now c.args.tables.now c.loop-at.sections c.loop-at.at c.requires c.loop-at-test.false c.loop-at.invariant
