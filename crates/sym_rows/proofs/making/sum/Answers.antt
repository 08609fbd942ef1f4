use Rattle.std.proofs.Common.{FitsSigned, w64, rules}
use Rattle.std.proofs.Math.Facts.{to_z-of_z}
use Rattle.sym_rows.proofs.Walks.{sum_makes}
use Rattle.sym_rows.proofs.making.sum.Goals as goal

pub returns : goal.returns
returns c =
    let fits : FitsSigned w64 c.args.constant = search rules in
    sum_makes c.args.constant _ c.args.parts.now c.args.fold.now c.sum.new.self c.sum.result c.lifted.result (to_z-of_z fits) c.lifted.ensures c.sum.ensures.made c.sum.ensures.kept c.sum.ensures.number c.sum.ensures.means
