use Rattle.std.proofs.Common.{◌≡◌, ◌≤◌, ◌^◌, ℤ, List, ap, sym, ◌∙◌, subst, refl, rules}
use Rattle.std.specs.Prelude.{unsigned_abs}
use Rattle.std.proofs.lemmas.Int.{to_z-of_z}
use mir.Val.{SFits}
use mir.Syntax.{w64, w128}
use Rattle.tiql_query.specs.declared.relation.QHypo.{QHypo}
use Rattle.world_def.specs.declared.world.WorldTable.{WorldTable}
use Rattle.world_def.specs.Worlds.{tables_at}
use Rattle.world_points.specs.Points.{world_at, cost}
use Rattle.answer_text.specs.Written.{AreWritten}
use Rattle.world_listing.specs.Sections.{AreFit}
use Rattle.world_listing.proofs.Sizes.{fits_score, judged_small}
use Rattle.world_listing.proofs.Widths.{world_fit}
use Rattle.world_listing.proofs.answer.optimal.Goals as goal

pub sections_of-requires : goal.sections_of-requires
sections_of-requires c =
    let tables : c.as_slice-3.result.now ≡ tables_at c.args.judge.now.tables.now 0 c.args.judge.now.query.now.hypos c.args.judge.now.columns.now c.args.found.point =
    c.as_slice-3.ensures ∙ c.in_ok-world.ensures.walk ∙ ap (tables_at c.args.judge.now.tables.now 0 c.args.judge.now.query.now.hypos c.args.judge.now.columns.now) c.as_slice.ensures in
    subst (λ (h : List QHypo). AreFit h c.as_slice-3.result.now) (sym c.as_slice-2.ensures)
    (subst (AreFit c.args.judge.now.query.now.hypos) (sym tables) (world_fit c.args.judge.now.query.now c.args.judge.now.tables.now c.requires.asked.given 0 c.args.judge.now.query.now.hypos c.requires.asked.fit.hypos c.args.judge.now.columns.now c.args.found.point))

pub score_of-requires : goal.score_of-requires
score_of-requires c =
    let wide : SFits w128 c.args.found.cost = search rules in
    subst (λ (n : ℤ). unsigned_abs n ≤ 10 ^ 17) (sym (to_z-of_z w128 c.args.found.cost wide)) (judged_small c.args.judge.now.query.now c.args.judge.now.tables.now c.args.judge.now.columns.now c.args.found.point c.args.found.cost c.requires.value)

pub returns : goal.returns
unfolding world_at
returns c =
    let wide : SFits w128 c.args.found.cost = search rules in
    let score : c.score_of.result ≡ cost c.args.judge.now.query.now.aim c.args.found.cost = c.score_of.ensures ∙ ap (cost c.args.judge.now.query.now.aim) (to_z-of_z w128 c.args.found.cost wide) in
    let fits : SFits w64 c.score_of.result = subst (λ (n : ℤ). SFits w64 n) (sym score) (fits_score c.args.judge.now.query.now.aim c.args.found.cost (judged_small c.args.judge.now.query.now c.args.judge.now.tables.now c.args.judge.now.columns.now c.args.found.point c.args.found.cost c.requires.value)) in
    let tables : c.as_slice-3.result.now ≡ tables_at c.args.judge.now.tables.now 0 c.args.judge.now.query.now.hypos c.args.judge.now.columns.now c.args.found.point =
    c.as_slice-3.ensures ∙ c.in_ok-world.ensures.walk ∙ ap (tables_at c.args.judge.now.tables.now 0 c.args.judge.now.query.now.hypos c.args.judge.now.columns.now) c.as_slice.ensures in (
      to_z-of_z w64 c.score_of.result fits ∙ score,
      subst (λ (h : List QHypo). AreWritten h (tables_at c.args.judge.now.tables.now 0 c.args.judge.now.query.now.hypos c.args.judge.now.columns.now c.args.found.point) c.in_ok-worlds.worlds) c.as_slice-2.ensures
          (subst (λ (t : List WorldTable). AreWritten c.as_slice-2.result.now t c.in_ok-worlds.worlds) tables c.in_ok-worlds.ensures),
      refl,
    )
