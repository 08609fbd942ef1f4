use Rattle.std.proofs.Common.{rules, FitsSigned, w64}
use Rattle.std.proofs.Math.Facts.{to_z-of_z}
use Rattle.sym_values.proofs.Comparing.{difference_as, at_least_ok}
use Rattle.sym_values.proofs.conditions.at_least.Goals as goal

pub returns : goal.returns
returns c =
    let fits : FitsSigned w64 c.args.constant = search rules in
    at_least_ok c.args.constant c.args.one c.args.other c.args.fold.now c.sum.new.fold c.in_ok-difference.difference c.pos.new.fold c.pos.result (difference_as c.args.constant c.args.one c.args.other c.args.fold.now c.sum.new.fold _ _ (to_z-of_z fits) c.in_ok-difference.ensures) c.pos.ensures
