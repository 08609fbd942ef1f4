use Rattle.std.proofs.Common.{rules, FitsSigned, w64, ◌∙◌, refl}
use Rattle.std.proofs.Math.Facts.{to_z-of_z}
use Rattle.sym_rows.proofs.Hypos.{known_ok, fixed_ok}
use Rattle.sym_groups.proofs.items.settled.Goals as goal

pub returns-in_ok-constant : goal.returns-in_ok-constant
returns-in_ok-constant c =
    let fits : FitsSigned w64 c.number_in.result = search rules in
    known_ok c.args.unknown c.args.value c.args.fold.now c.constant.new.fold _ c.in_ok-constant.field-0 c.if-unknown.true (to_z-of_z fits ∙ c.number_in.ensures) c.in_ok-constant.ensures

pub returns-else-unknown : goal.returns-else-unknown
returns-else-unknown c = fixed_ok c.args.unknown c.args.value c.args.value c.args.fold.now c.if-unknown.false refl
