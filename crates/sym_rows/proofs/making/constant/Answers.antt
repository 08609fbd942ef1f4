use Rattle.std.proofs.Common.{FitsSigned, w64, rules}
use Rattle.std.proofs.Math.Facts.{to_z-of_z}
use Rattle.sym_rows.proofs.Walks.{constant_makes}
use Rattle.sym_rows.proofs.making.constant.Goals as goal

pub returns : goal.returns
returns c =
    let fits : FitsSigned w64 c.args.value = search rules in
    constant_makes c.args.value _ c.args.fold.now c.constant.new.self c.constant.result c.lifted.result (to_z-of_z fits) c.lifted.ensures c.constant.ensures.made c.constant.ensures.kept c.constant.ensures.number c.constant.ensures.means
