use Rattle.std.proofs.Common.{◌≡◌, ◌≤◌, ◌^◌, ℤ, List, ap, sym, ◌∙◌, subst, refl, rules, arith}
use Rattle.std.specs.Prelude.{unsigned_abs}
use Rattle.std.proofs.lemmas.Int.{fits_signed_from_abs, to_z-of_z}
use mir.Val.{SFits}
use mir.Syntax.{w64, w128}
use Rattle.tiql_query.specs.declared.relation.QHypo.{QHypo}
use Rattle.world_def.specs.declared.world.WorldTable.{WorldTable}
use Rattle.world_points.specs.Points.{cost}
use Rattle.answer_text.specs.Written.{AreWritten}
use Rattle.agg_encode.specs.Encoding.{value_at}
use Rattle.program_answer.specs.Answers.{IsWorldAt}
use Rattle.program_answer.specs.Sections.{AreFit}
use Rattle.program_answer.proofs.Best.{cost_size}
use Rattle.program_answer.proofs.Verdicts.{world_told}
use Rattle.program_answer.proofs.Widths.{world_fit}
use Rattle.program_answer.proofs.answer.optimal.Goals as goal

pub sections_of-requires : goal.sections_of-requires
sections_of-requires c =
    let query = c.args.subject.now.query.now in
    let tables = c.args.subject.now.tables.now in
    let columns = c.args.subject.now.columns.now in
    subst (λ (h : List QHypo). AreFit h c.as_slice-3.result.now) (sym c.as_slice-2.ensures)
    (subst (AreFit query.hypos) (sym (c.as_slice-3.ensures ∙ c.in_ok-world.ensures.walk)) (world_fit query tables c.requires.subject.given 0 query.hypos c.requires.subject.fit.hypos columns _))

pub returns : goal.returns
returns c =
    let query = c.args.subject.now.query.now in
    let tables = c.args.subject.now.tables.now in
    let columns = c.args.subject.now.columns.now in
    let program = c.args.built.now.program in
    let point = c.args.point in
    let worth : c.value-value.result ≡ value_at program point = c.value-value.ensures ∙ ap (value_at program) c.as_slice-4.ensures in
    let wide : SFits w128 c.value-value.result = search rules in
    let told : c.score_of.result ≡ cost query.aim c.value-value.result = c.score_of.ensures ∙ ap (cost query.aim) (to_z-of_z w128 c.value-value.result wide) in
    let small : unsigned_abs (value_at program point) ≤ 10 ^ 17 = c.requires.small point c.requires.whole in
    let size_is = cost_size query.aim c.value-value.result in
    let few : unsigned_abs c.score_of.result ≤ 10 ^ 17 =
    subst (λ (n : ℤ). unsigned_abs n ≤ 10 ^ 17) (sym told) (let same : unsigned_abs c.value-value.result ≤ 10 ^ 17 = subst (λ (n : ℤ). unsigned_abs n ≤ 10 ^ 17) (sym worth) small in omega (arith, same, size_is)) in
    let fits : SFits w64 c.score_of.result = fits_signed_from_abs w64 c.score_of.result (omega (arith, few)) in
    let written = subst (λ (t : List WorldTable). AreWritten query.hypos t c.in_ok-worlds.worlds) c.as_slice-3.ensures
    (subst (λ (h : List QHypo). AreWritten h c.as_slice-3.result.now c.in_ok-worlds.worlds) c.as_slice-2.ensures c.in_ok-worlds.ensures) in (
      world_told query tables columns program c.args.built.now.fold c.args.built.now.map.stands c.requires.encodes c.requires.subject.made point _ c.in_ok-world.world _ c.value-value.result c.in_ok-worlds.worlds
          c.requires.whole (search rules) c.in_ok-world.ensures.world worth (to_z-of_z w64 c.score_of.result fits ∙ told) written,
      refl,
    )
