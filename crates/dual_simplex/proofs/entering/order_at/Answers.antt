use Rattle.std.proofs.Common.{sym, ◌∙◌, ap, subst, to_z}
use Rattle.std.specs.Int.{w128}
use Rattle.std.proofs.lemmas.Int.{to_z-of_z}
use Rattle.rat128.specs.Rationals.{value, zero_ℚ, ◌<ℚ◌}
use Rattle.rat128.proofs.Rationals.{num_positive, value_zero}
use Rattle.dict_pivot.specs.Dictionaries.{table}
use Rattle.dual_simplex.proofs.Chosen.{zeros_equal, quotients_by}
use Rattle.dual_simplex.proofs.entering.order_at.Goals as goal

pub order_quotients-requires-clause-over : goal.order_quotients-requires-clause-over
order_quotients-requires-clause-over c = num_positive c.cell.result (subst (λ z. zero_ℚ <ℚ z) (sym (ap value c.cell.ensures.cell)) c.requires.one_positive)

pub order_quotients-requires-clause-other_over : goal.order_quotients-requires-clause-other_over
order_quotients-requires-clause-other_over c = num_positive c.cell-2.result (subst (λ z. zero_ℚ <ℚ z) (sym (ap value c.cell-2.ensures.cell)) c.requires.other_positive)

pub returns-then-num-eq0-2 : goal.returns-then-num-eq0-2
returns-then-num-eq0-2 c =
    let t = table c.args.dict.now in
    zeros_equal (t.cell c.args.i c.args.one) (t.cell c.args.row c.args.one) (t.cell c.args.i c.args.other) (t.cell c.args.row c.args.other) (sym (ap value c.cell-above.ensures.cell) ∙ value_zero c.cell-above.result (sym c.num.ensures.value ∙ sym (to_z-of_z w128 c.num.result (record { sfits = c.num.type_inv })) ∙ ap (λ n. to_z w128 n) c.if-num-eq0.true)) (sym (ap value c.cell-other_above.ensures.cell) ∙ value_zero c.cell-other_above.result (sym c.num-then-num-eq0.ensures.value ∙ sym (to_z-of_z w128 c.num-then-num-eq0.result (record { sfits = c.num-then-num-eq0.type_inv })) ∙ ap (λ n. to_z w128 n) c.if-num-eq0-2.true))

pub returns : goal.returns
returns c =
    let t = table c.args.dict.now in
    quotients_by c.order_quotients.result c.cell-above.result c.cell.result c.cell-other_above.result c.cell-2.result (t.cell c.args.i c.args.one) (t.cell c.args.row c.args.one) (t.cell c.args.i c.args.other) (t.cell c.args.row c.args.other) (ap value c.cell-above.ensures.cell) (ap value c.cell.ensures.cell) (ap value c.cell-other_above.ensures.cell) (ap value c.cell-2.ensures.cell) c.order_quotients.ensures
