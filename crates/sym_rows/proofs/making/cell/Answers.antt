use Rattle.prov_fold.specs.Rules as rule
use Rattle.sym_rows.proofs.Walks.{rule_makes}
use Rattle.sym_rows.proofs.making.cell.Goals as goal

pub returns : goal.returns
returns c = rule_makes (rule.cell c.args.column c.args.range) _ _ c.args.fold.now c.cell.new.self c.cell.result c.lifted.result c.lifted.ensures c.cell.ensures.made c.cell.ensures.kept c.cell.ensures.number c.cell.ensures.means
