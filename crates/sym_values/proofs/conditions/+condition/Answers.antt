use Rattle.std.proofs.Common.{All, List, arith, map, sym, ap, ◌∙◌, refl, rules}
use Rattle.tiql_query.specs.declared.condition.Cond.{Cond}
use Rattle.tiql_query.specs.declared.condition.Cond.TheViews.{Not, And, Or}
use Rattle.prov_fold.specs.Graphs.{HasTruth}
use Rattle.sym_rows.proofs.Makes.{truth_kept}
use Rattle.sym_rows.proofs.Each.{going_init, going_step, going_err, going_end}
use Rattle.sym_values.specs.Meanings.{IsTruthOf}
use Rattle.sym_values.specs.Conditions.{test_of}
use Rattle.sym_values.specs.Tests.{AreTruthsOf}
use Rattle.sym_values.proofs.Truths.{of_condition, condition_compare, condition_not, condition_and, condition_or, not_stop, and_stop, or_stop, TruthsSo, truths_step, truths_end}
use Rattle.sym_values.proofs.conditions.+condition.Goals as goal

pub condition-returns-in-Compare : goal.condition-returns-in-Compare
condition-returns-in-Compare t c = of_condition (map (λ columns. columns.now) c.args.scope.now) (map (λ row. row.now) c.args.rows.now) c.args.test.now _ c.args.fold.now _ _ c.in-Compare.is (condition_compare (map (λ columns. columns.now) c.args.scope.now) (map (λ row. row.now) c.args.rows.now) c.args.fold.now _ _ _ _ _ c.compare.ensures)

pub condition-returns-in_ok-id-in-Not : goal.condition-returns-in_ok-id-in-Not
condition-returns-in_ok-id-in-Not t c = of_condition (map (λ columns. columns.now) c.args.scope.now) (map (λ row. row.now) c.args.rows.now) c.args.test.now _ c.args.fold.now _ _ (c.in-Not.is ∙ ap (λ (test : Cond). Not test) (sym c.get.ensures)) (condition_not (map (λ columns. columns.now) c.args.scope.now) (map (λ row. row.now) c.args.rows.now) c.args.fold.now _ _ _ _ _ c.in_ok-id-in-Not.ensures c.not.ensures)

pub condition-returns-in_err-id-in-Not : goal.condition-returns-in_err-id-in-Not
condition-returns-in_err-id-in-Not t c = search (rules, of_condition (map (λ columns. columns.now) c.args.scope.now) (map (λ row. row.now) c.args.rows.now) c.args.test.now _ c.args.fold.now _ _ (c.in-Not.is ∙ ap (λ (test : Cond). Not test) (sym c.get.ensures)) (not_stop (map (λ columns. columns.now) c.args.scope.now) (map (λ row. row.now) c.args.rows.now) c.args.fold.now _ c.in_err-id-in-Not.field-0.0 _ c.in_err-id-in-Not.ensures))

pub condition-returns-in_ok-ids-in-And : goal.condition-returns-in_ok-ids-in-And
condition-returns-in_ok-ids-in-And t c = of_condition (map (λ columns. columns.now) c.args.scope.now) (map (λ row. row.now) c.args.rows.now) c.args.test.now _ c.args.fold.now _ _ (c.in-And.is ∙ ap (λ (tests : List Cond). And tests) (sym c.as_slice.ensures)) (condition_and (map (λ columns. columns.now) c.args.scope.now) (map (λ row. row.now) c.args.rows.now) c.args.fold.now _ _ _ _ _ _ c.as_slice-in-And.ensures.value c.in_ok-ids-in-And.ensures c.and.ensures)

pub condition-returns-in_err-ids-in-And : goal.condition-returns-in_err-ids-in-And
condition-returns-in_err-ids-in-And t c = search (rules, of_condition (map (λ columns. columns.now) c.args.scope.now) (map (λ row. row.now) c.args.rows.now) c.args.test.now _ c.args.fold.now _ _ (c.in-And.is ∙ ap (λ (tests : List Cond). And tests) (sym c.as_slice.ensures)) (and_stop (map (λ columns. columns.now) c.args.scope.now) (map (λ row. row.now) c.args.rows.now) c.args.fold.now _ c.in_err-ids-in-And.field-0.0 _ c.in_err-ids-in-And.ensures))

pub condition-returns-in_ok-ids-in-Or : goal.condition-returns-in_ok-ids-in-Or
condition-returns-in_ok-ids-in-Or t c = of_condition (map (λ columns. columns.now) c.args.scope.now) (map (λ row. row.now) c.args.rows.now) c.args.test.now _ c.args.fold.now _ _ (c.in-Or.is ∙ ap (λ (tests : List Cond). Or tests) (sym c.as_slice-in-Or.ensures)) (condition_or (map (λ columns. columns.now) c.args.scope.now) (map (λ row. row.now) c.args.rows.now) c.args.fold.now _ _ _ _ _ _ c.as_slice-in-Or-2.ensures.value c.in_ok-ids-in-Or.ensures c.or.ensures)

pub condition-returns-in_err-ids-in-Or : goal.condition-returns-in_err-ids-in-Or
condition-returns-in_err-ids-in-Or t c = search (rules, of_condition (map (λ columns. columns.now) c.args.scope.now) (map (λ row. row.now) c.args.rows.now) c.args.test.now _ c.args.fold.now _ _ (c.in-Or.is ∙ ap (λ (tests : List Cond). Or tests) (sym c.as_slice-in-Or.ensures)) (or_stop (map (λ columns. columns.now) c.args.scope.now) (map (λ row. row.now) c.args.rows.now) c.args.fold.now _ c.in_err-ids-in-Or.field-0.0 _ c.in_err-ids-in-Or.ensures))

-- ---- in turn

pub conditions-loop-part-init : goal.conditions-loop-part-init
conditions-loop-part-init t c = going_init (λ place test. test_of (map (λ columns. columns.now) c.args.scope.now) (map (λ row. row.now) c.args.rows.now) test) c.args.parts.now HasTruth (TruthsSo (map (λ columns. columns.now) c.args.scope.now) (map (λ row. row.now) c.args.rows.now) c.args.parts.now) c.args.fold.now c.new-made.result.items c.new-made.ensures.items (λ h world later fit fits. refl)

pub conditions-loop-part-preserved : goal.conditions-loop-part-preserved
conditions-loop-part-preserved t c =
    going_step (λ place test. test_of (map (λ columns. columns.now) c.args.scope.now) (map (λ row. row.now) c.args.rows.now) test) c.args.parts.now HasTruth (TruthsSo (map (λ columns. columns.now) c.args.scope.now) (map (λ row. row.now) c.args.rows.now) c.args.parts.now) c.args.fold.now c.loop-part.part-index c.part-item.result c.in_ok-condition.field-0 c.loop-part.made.items c.push.new.self.items c.loop-part.fold c.condition.new.fold
    (IsTruthOf (map (λ columns. columns.now) c.args.scope.now) (map (λ row. row.now) c.args.rows.now) c.part-item.result) (omega arith) c.part-item.is c.in_ok-push.ensures.items
    (λ id kept is. truth_kept c.loop-part.fold c.condition.new.fold id kept is)
    (λ h world later so one. truths_step (map (λ columns. columns.now) c.args.scope.now) (map (λ row. row.now) c.args.rows.now) c.args.parts.now c.loop-part.part-index c.part-item.result c.loop-part.made.items c.in_ok-condition.field-0 world _ (omega arith) c.part-item.is so one)
    c.in_ok-condition.ensures c.loop-part.invariant

pub conditions-returns-in_err-condition : goal.conditions-returns-in_err-condition
conditions-returns-in_err-condition t c =
    search (
      rules,
      going_err (λ place test. test_of (map (λ columns. columns.now) c.args.scope.now) (map (λ row. row.now) c.args.rows.now) test) c.args.parts.now HasTruth (TruthsSo (map (λ columns. columns.now) c.args.scope.now) (map (λ row. row.now) c.args.rows.now) c.args.parts.now) c.args.fold.now c.loop-part.part-index c.part-item.result c.loop-part.made.items c.loop-part.fold c.condition.new.fold
          (IsTruthOf (map (λ columns. columns.now) c.args.scope.now) (map (λ row. row.now) c.args.rows.now) c.part-item.result) (λ g made. All (HasTruth g) made) (AreTruthsOf (map (λ columns. columns.now) c.args.scope.now) (map (λ row. row.now) c.args.rows.now) c.args.parts.now) c.in_err-condition.field-0.0 (omega arith) c.part-item.is c.in_err-condition.ensures c.loop-part.invariant,
    )

pub conditions-returns : goal.conditions-returns
conditions-returns t c =
    going_end (λ place test. test_of (map (λ columns. columns.now) c.args.scope.now) (map (λ row. row.now) c.args.rows.now) test) c.args.parts.now HasTruth (TruthsSo (map (λ columns. columns.now) c.args.scope.now) (map (λ row. row.now) c.args.rows.now) c.args.parts.now) c.args.fold.now c.loop-part.part-index c.loop-part.made.items c.loop-part.fold (AreTruthsOf (map (λ columns. columns.now) c.args.scope.now) (map (λ row. row.now) c.args.rows.now) c.args.parts.now) (omega arith)
    (λ h world later so. truths_end (map (λ columns. columns.now) c.args.scope.now) (map (λ row. row.now) c.args.rows.now) c.args.parts.now c.loop-part.part-index c.loop-part.made.items world _ (omega arith) so) c.loop-part.invariant
