use Rattle.std.proofs.Common.{FitsSigned, w64, ◌≡◌, All, pos, arith, map, sym, ◌∙◌, ap, subst, rules, refl, List}
use Rattle.std.proofs.Math.Facts.{to_z-of_z}
use Rattle.tiql_query.specs.declared.expression.Signed.{Signed}
use Rattle.tiql_query.specs.declared.expression.Expr.{Expr}
use Rattle.tiql_query.specs.declared.expression.Expr.TheViews.{Sum, Product, Neg, Abs}
use Rattle.sym_rows.specs.Cells.{IsCellThere}
use Rattle.prov_fold.specs.Graphs.{Graph, HasNumber}
use Rattle.prov_fold.specs.Rules as rule
use Rattle.sym_rows.specs.Walks.{by_rule, Makes}
use Rattle.sym_values.specs.Meanings.{IsNumberOf}
use Rattle.sym_values.specs.Numbers.{number_of}
use Rattle.sym_rows.proofs.Each.{going_init, going_step, going_err, going_end}
use Rattle.sym_values.specs.Steps.{part_walk, IsPart, ArePartsOf}
use Rattle.sym_values.proofs.Numbering.{cell_is_there, cell_as, number_fixed, of_variant, unknown_int, unknown_text, unknown_column, unknown_sum, unknown_product, unknown_neg, unknown_abs, neg_stop, abs_stop, sum_then, sum_stop, PartsSo, IsPartOf, part_ok, part_err, part_kept, parts_step, parts_end, product_err, product_ok, product_stop, first_found, first_missing}
use Rattle.sym_values.proofs.numbers.+number.Goals as goal

pub number-returns-else-is_unknown : goal.number-returns-else-is_unknown
number-returns-else-is_unknown t c = number_fixed (map (λ row. row.now) c.args.rows.now) c.args.expr.now c.args.fold.now (map (λ columns. columns.now) c.args.scope.now) c.fixed.new.fold c.fixed.result (sym c.is_unknown.ensures ∙ c.if-is_unknown.false) c.fixed.ensures

-- ---- an expression with an unknown column

pub unknown-cell_number-requires : goal.unknown-cell_number-requires
unknown-cell_number-requires t c = subst (IsCellThere c.args.fold.now) (sym c.cell_there.ensures) (cell_is_there c.args.fold.now (map (λ row. row.now) c.args.rows.now) _ c.requires.rows)

pub unknown-returns-in-Int : goal.unknown-returns-in-Int
unknown-returns-in-Int t c = of_variant (map (λ columns. columns.now) c.args.scope.now) (map (λ row. row.now) c.args.rows.now) c.args.expr.now _ c.args.fold.now _ _ c.in-Int.is c.requires.unknown (λ unknown. unknown_int (map (λ columns. columns.now) c.args.scope.now) (map (λ row. row.now) c.args.rows.now) c.args.fold.now _ _ _ unknown)

pub unknown-returns-in-Text : goal.unknown-returns-in-Text
unknown-returns-in-Text t c = of_variant (map (λ columns. columns.now) c.args.scope.now) (map (λ row. row.now) c.args.rows.now) c.args.expr.now _ c.args.fold.now _ _ c.in-Text.is c.requires.unknown (λ unknown. unknown_text (map (λ columns. columns.now) c.args.scope.now) (map (λ row. row.now) c.args.rows.now) c.args.fold.now _ _ _ unknown)

pub unknown-returns-in-Column : goal.unknown-returns-in-Column
unknown-returns-in-Column t c = of_variant (map (λ columns. columns.now) c.args.scope.now) (map (λ row. row.now) c.args.rows.now) c.args.expr.now _ c.args.fold.now _ _ c.in-Column.is c.requires.unknown (λ unknown. unknown_column (map (λ columns. columns.now) c.args.scope.now) (map (λ row. row.now) c.args.rows.now) c.args.fold.now _ _ _ unknown (cell_as _ _ c.args.fold.now _ _ c.cell_there.ensures c.cell_number.ensures))

pub unknown-returns-in-Sum : goal.unknown-returns-in-Sum
unknown-returns-in-Sum t c = of_variant (map (λ columns. columns.now) c.args.scope.now) (map (λ row. row.now) c.args.rows.now) c.args.expr.now _ c.args.fold.now _ _ (c.in-Sum.is ∙ ap (λ (l : List Signed). Sum l) (sym c.as_slice.ensures)) c.requires.unknown (λ unknown. unknown_sum (map (λ columns. columns.now) c.args.scope.now) (map (λ row. row.now) c.args.rows.now) c.args.fold.now _ _ _ unknown c.sum_of.ensures)

pub unknown-returns-in-Product : goal.unknown-returns-in-Product
unknown-returns-in-Product t c = of_variant (map (λ columns. columns.now) c.args.scope.now) (map (λ row. row.now) c.args.rows.now) c.args.expr.now _ c.args.fold.now _ _ (c.in-Product.is ∙ ap (λ (l : List Expr). Product l) (sym c.as_slice-in-Product.ensures)) c.requires.unknown (λ unknown. unknown_product (map (λ columns. columns.now) c.args.scope.now) (map (λ row. row.now) c.args.rows.now) c.args.fold.now _ _ _ unknown c.product_of.ensures)

pub unknown-returns-in_ok-id-in-Neg : goal.unknown-returns-in_ok-id-in-Neg
unknown-returns-in_ok-id-in-Neg t c = of_variant (map (λ columns. columns.now) c.args.scope.now) (map (λ row. row.now) c.args.rows.now) c.args.expr.now _ c.args.fold.now _ _ (c.in-Neg.is ∙ ap (λ (e : Expr). Neg e) (sym c.get.ensures)) c.requires.unknown (λ unknown. unknown_neg (map (λ columns. columns.now) c.args.scope.now) (map (λ row. row.now) c.args.rows.now) c.args.fold.now _ _ _ _ _ unknown c.in_ok-id-in-Neg.ensures c.times.ensures)

pub unknown-returns-in_err-id-in-Neg : goal.unknown-returns-in_err-id-in-Neg
unknown-returns-in_err-id-in-Neg t c = search (rules, of_variant (map (λ columns. columns.now) c.args.scope.now) (map (λ row. row.now) c.args.rows.now) c.args.expr.now _ c.args.fold.now _ _ (c.in-Neg.is ∙ ap (λ (e : Expr). Neg e) (sym c.get.ensures)) c.requires.unknown (λ unknown. neg_stop (map (λ columns. columns.now) c.args.scope.now) (map (λ row. row.now) c.args.rows.now) c.args.fold.now _ c.number.result _ c.in_err-id-in-Neg.field-0.0 unknown c.in_err-id-in-Neg.ensures))

pub unknown-returns-in_ok-id-in-Abs : goal.unknown-returns-in_ok-id-in-Abs
unknown-returns-in_ok-id-in-Abs t c = of_variant (map (λ columns. columns.now) c.args.scope.now) (map (λ row. row.now) c.args.rows.now) c.args.expr.now _ c.args.fold.now _ _ (c.in-Abs.is ∙ ap (λ (e : Expr). Abs e) (sym c.get-in-Abs.ensures)) c.requires.unknown (λ unknown. unknown_abs (map (λ columns. columns.now) c.args.scope.now) (map (λ row. row.now) c.args.rows.now) c.args.fold.now _ _ _ _ _ unknown c.in_ok-id-in-Abs.ensures c.abs.ensures)

pub unknown-returns-in_err-id-in-Abs : goal.unknown-returns-in_err-id-in-Abs
unknown-returns-in_err-id-in-Abs t c = search (rules, of_variant (map (λ columns. columns.now) c.args.scope.now) (map (λ row. row.now) c.args.rows.now) c.args.expr.now _ c.args.fold.now _ _ (c.in-Abs.is ∙ ap (λ (e : Expr). Abs e) (sym c.get-in-Abs.ensures)) c.requires.unknown (λ unknown. abs_stop (map (λ columns. columns.now) c.args.scope.now) (map (λ row. row.now) c.args.rows.now) c.args.fold.now _ c.number-in-Abs.result _ c.in_err-id-in-Abs.field-0.0 unknown c.in_err-id-in-Abs.ensures))

-- ---- sums

pub sum_of-returns : goal.sum_of-returns
sum_of-returns t c = sum_then (map (λ columns. columns.now) c.args.scope.now) (map (λ row. row.now) c.args.rows.now) c.args.parts.now c.args.fold.now c.parts_of.new.fold c.in_ok-made.made.items c.as_slice.result.now c.sum_parts.new.fold c.sum_parts.result c.as_slice.ensures.value c.in_ok-made.ensures c.sum_parts.ensures

pub sum_of-returns-in_err-made : goal.sum_of-returns-in_err-made
sum_of-returns-in_err-made t c = search (rules, sum_stop (map (λ columns. columns.now) c.args.scope.now) (map (λ row. row.now) c.args.rows.now) c.args.parts.now c.args.fold.now c.parts_of.new.fold c.in_err-made.field-0.0 c.in_err-made.ensures)

pub parts_of-loop-part-init : goal.parts_of-loop-part-init
parts_of-loop-part-init t c = going_init (part_walk (map (λ columns. columns.now) c.args.scope.now) (map (λ row. row.now) c.args.rows.now)) c.args.parts.now IsPart (PartsSo (map (λ columns. columns.now) c.args.scope.now) (map (λ row. row.now) c.args.rows.now) c.args.parts.now) c.args.fold.now c.new-made.result.items c.new-made.ensures.items (λ h world later fit has. refl)

pub parts_of-loop-part-preserved : goal.parts_of-loop-part-preserved
parts_of-loop-part-preserved t c =
    going_step (part_walk (map (λ columns. columns.now) c.args.scope.now) (map (λ row. row.now) c.args.rows.now)) c.args.parts.now IsPart (PartsSo (map (λ columns. columns.now) c.args.scope.now) (map (λ row. row.now) c.args.rows.now) c.args.parts.now) c.args.fold.now c.loop-part.part-index c.part-item.result c.signed.result c.loop-part.made.items c.push.new.self.items c.loop-part.fold c.number.new.fold
    (IsPartOf (map (λ columns. columns.now) c.args.scope.now) (map (λ row. row.now) c.args.rows.now) c.part-item.result) (omega arith) c.part-item.is c.in_ok-push.ensures.items
    (λ part kept is. part_kept c.loop-part.fold c.number.new.fold part kept is)
    (λ h world later so one. parts_step (map (λ columns. columns.now) c.args.scope.now) (map (λ row. row.now) c.args.rows.now) c.args.parts.now c.loop-part.part-index c.part-item.result c.loop-part.made.items c.signed.result world _ (omega arith) c.part-item.is so one)
    (part_ok (map (λ columns. columns.now) c.args.scope.now) (map (λ row. row.now) c.args.rows.now) c.part-item.result c.loop-part.part-index c.loop-part.fold c.number.new.fold c.in_ok-id.id c.signed.result c.signed.ensures c.in_ok-id.ensures)
    c.loop-part.invariant

pub parts_of-returns-in_err-id : goal.parts_of-returns-in_err-id
parts_of-returns-in_err-id t c =
    search (
      rules,
      going_err (part_walk (map (λ columns. columns.now) c.args.scope.now) (map (λ row. row.now) c.args.rows.now)) c.args.parts.now IsPart (PartsSo (map (λ columns. columns.now) c.args.scope.now) (map (λ row. row.now) c.args.rows.now) c.args.parts.now) c.args.fold.now c.loop-part.part-index c.part-item.result c.loop-part.made.items c.loop-part.fold c.number.new.fold
          (IsPartOf (map (λ columns. columns.now) c.args.scope.now) (map (λ row. row.now) c.args.rows.now) c.part-item.result) (λ g made. All (IsPart g) made) (ArePartsOf (map (λ columns. columns.now) c.args.scope.now) (map (λ row. row.now) c.args.rows.now) c.args.parts.now) c.in_err-id.field-0.0 (omega arith) c.part-item.is
          (part_err (map (λ columns. columns.now) c.args.scope.now) (map (λ row. row.now) c.args.rows.now) c.part-item.result c.loop-part.part-index c.loop-part.fold c.number.new.fold c.in_err-id.field-0.0 c.in_err-id.ensures) c.loop-part.invariant,
    )

pub parts_of-returns : goal.parts_of-returns
parts_of-returns t c =
    going_end (part_walk (map (λ columns. columns.now) c.args.scope.now) (map (λ row. row.now) c.args.rows.now)) c.args.parts.now IsPart (PartsSo (map (λ columns. columns.now) c.args.scope.now) (map (λ row. row.now) c.args.rows.now) c.args.parts.now) c.args.fold.now c.loop-part.part-index c.loop-part.made.items c.loop-part.fold (ArePartsOf (map (λ columns. columns.now) c.args.scope.now) (map (λ row. row.now) c.args.rows.now) c.args.parts.now) (omega arith)
    (λ h world later so. parts_end (map (λ columns. columns.now) c.args.scope.now) (map (λ row. row.now) c.args.rows.now) c.args.parts.now c.loop-part.part-index c.loop-part.made.items world _ (omega arith) so) c.loop-part.invariant

-- ---- products

pub product_of-returns-in_err-factor : goal.product_of-returns-in_err-factor
product_of-returns-in_err-factor t c = search (rules, product_err (map (λ columns. columns.now) c.args.scope.now) (map (λ row. row.now) c.args.rows.now) c.args.factors.now c.args.fold.now _ (sym c.fixed_product.ensures.value ∙ c.in_err-factor.was))

pub product_of-returns-in_err-id : goal.product_of-returns-in_err-id
product_of-returns-in_err-id t c = search (rules, product_stop (map (λ columns. columns.now) c.args.scope.now) (map (λ row. row.now) c.args.rows.now) c.args.factors.now c.args.fold.now _ c.first_unknown.new.fold c.in_err-id.field-0.0 (sym c.fixed_product.ensures.value ∙ c.in_ok-factor.was) c.in_err-id.ensures)

pub product_of-returns : goal.product_of-returns
product_of-returns t c =
    let fits : FitsSigned w64 c.in_ok-factor.factor = search rules in
    product_ok (map (λ columns. columns.now) c.args.scope.now) (map (λ row. row.now) c.args.rows.now) c.args.factors.now c.args.fold.now _ _ c.in_ok-id.id c.first_unknown.new.fold c.times.new.fold c.times.result (sym c.fixed_product.ensures.value ∙ c.in_ok-factor.was) (to_z-of_z fits) c.in_ok-id.ensures c.times.ensures

pub first_unknown-returns-then-is_unknown : goal.first_unknown-returns-then-is_unknown
first_unknown-returns-then-is_unknown t c =
    first_found (map (λ columns. columns.now) c.args.scope.now) (map (λ row. row.now) c.args.rows.now) c.args.factors.now c.args.fold.now c.loop-factor.factor-index c.factor-item.result c.number.new.fold c.number.result (omega arith) c.factor-item.is (sym c.is_unknown.ensures ∙ c.if-is_unknown.true) c.loop-factor.invariant.0
    (subst (λ (g : Graph). Makes (number_of (map (λ columns. columns.now) c.args.scope.now) (map (λ row. row.now) c.args.rows.now) c.factor-item.result g) HasNumber (IsNumberOf (map (λ columns. columns.now) c.args.scope.now) (map (λ row. row.now) c.args.rows.now) c.factor-item.result) g c.number.result c.number.new.fold) c.loop-factor.invariant.1 c.number.ensures)

pub first_unknown-returns : goal.first_unknown-returns
first_unknown-returns t c =
    first_missing (map (λ columns. columns.now) c.args.scope.now) (map (λ row. row.now) c.args.rows.now) c.args.factors.now c.args.fold.now c.loop-factor.factor-index c.constant.new.fold c.constant.result (omega arith) c.loop-factor.invariant.0
    (subst (λ (g : Graph). Makes (by_rule (rule.constant (pos 0)) g) HasNumber (λ id _ v. v id ≡ pos 0) g c.constant.result c.constant.new.fold) c.loop-factor.invariant.1 c.constant.ensures)
