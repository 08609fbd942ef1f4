use Rattle.std.proofs.Common.{rules, sym, ◌∙◌, FitsSigned, w64}
use Rattle.std.proofs.Math.Facts.{to_z-of_z}
use Rattle.sym_values.proofs.Numbering.{fixed_ok}
use Rattle.sym_values.proofs.numbers.fixed.Goals as goal

pub returns : goal.returns
returns c =
    let fits : FitsSigned w64 c.in_ok-value.value = search rules in
    fixed_ok _ c.args.expr.now c.args.fold.now _ _ c.constant.new.fold c.constant.result (sym c.plain.ensures.value ∙ c.in_ok-value.was) (to_z-of_z fits) c.constant.ensures
