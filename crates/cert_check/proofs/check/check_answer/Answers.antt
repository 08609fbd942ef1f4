use Rattle.std.proofs.Common.{ℤ, to_z-of_z, List, subst, sym, ◌∙◌}
use mir.Val.{to_z, of_z}
use mir.Syntax.{w64}
use Rattle.answer_text.specs.Answers.{IsPart, IsVerdict}
use Rattle.answer_text.specs.declared.answer.PartAnswer.{PartAnswer}
use Rattle.answer_text.specs.declared.answer.Verdict.TheVariants as verdict
use Rattle.cert_check.specs.Checks.{TellsOptimal}
use Rattle.cert_check.proofs.Verdicts.{tells_optimal, tells_row, tells_no_world}
use Rattle.cert_check.proofs.check.check_answer.Goals as goal

pub returns-in_ok-check_program-in-Optimal : goal.returns-in_ok-check_program-in-Optimal
returns-in_ok-check_program-in-Optimal c =
    let holds : IsVerdict (verdict.Optimal c.in-Optimal.objective c.in-Optimal.worlds c.in-Optimal.parts) = subst IsVerdict c.in-Optimal.is c.requires.answer.verdict in
    let told : ℤ = to_z w64 (of_z w64 c.in-Optimal.objective) in
    tells_optimal c.args.subject.now.query.now c.args.subject.now.tables.now c.args.subject.now.columns.now c.args.answer.now (sym c.check_program.ensures ∙ c.in_ok-check_program-in-Optimal.was) c.in-Optimal.objective c.in-Optimal.worlds c.in-Optimal.parts c.in-Optimal.is holds.2
    c.check_optimal.result
    (subst (λ (z : ℤ). TellsOptimal c.args.subject.now.query.now c.args.subject.now.tables.now c.args.subject.now.columns.now z c.in-Optimal.worlds c.in-Optimal.parts c.check_optimal.result) (to_z-of_z holds.0)
    (subst (λ (p : List PartAnswer). TellsOptimal c.args.subject.now.query.now c.args.subject.now.tables.now c.args.subject.now.columns.now told c.in-Optimal.worlds p c.check_optimal.result) c.as_slice.ensures c.check_optimal.ensures))

pub returns-in_ok-check_program-in-FalseRow : goal.returns-in_ok-check_program-in-FalseRow
returns-in_ok-check_program-in-FalseRow c =
    tells_row c.args.subject.now.query.now c.args.subject.now.tables.now c.args.subject.now.columns.now c.args.answer.now (sym c.check_program-in-FalseRow.ensures ∙ c.in_ok-check_program-in-FalseRow.was) c.in-FalseRow.row c.in-FalseRow.is c.check_row.result c.check_row.ensures

pub returns-in_ok-check_program-in-NoWorld : goal.returns-in_ok-check_program-in-NoWorld
returns-in_ok-check_program-in-NoWorld c =
    let whole : IsPart c.in-NoWorld.part = subst IsVerdict c.in-NoWorld.is c.requires.answer.verdict in
    tells_no_world c.args.subject.now.query.now c.args.subject.now.tables.now c.args.subject.now.columns.now c.args.answer.now (sym c.check_program-in-NoWorld.ensures ∙ c.in_ok-check_program-in-NoWorld.was) c.in-NoWorld.part c.in-NoWorld.is whole c.check_no_world.result c.check_no_world.ensures
