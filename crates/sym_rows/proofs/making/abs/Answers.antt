use Rattle.prov_fold.specs.Rules as rule
use Rattle.sym_rows.proofs.Walks.{rule_makes}
use Rattle.sym_rows.proofs.making.abs.Goals as goal

pub returns : goal.returns
returns c = rule_makes (rule.abs c.args.number) _ _ c.args.fold.now c.abs.new.self c.abs.result c.lifted.result c.lifted.ensures c.abs.ensures.made c.abs.ensures.kept c.abs.ensures.number c.abs.ensures.means
