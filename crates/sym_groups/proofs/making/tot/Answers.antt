use Rattle.prov_fold.specs.Rules as rule
use Rattle.sym_rows.proofs.Walks.{rule_makes}
use Rattle.sym_groups.proofs.making.tot.Goals as goal

pub returns : goal.returns
returns c = rule_makes (rule.tot c.args.number) _ _ c.args.fold.now c.tot.new.self c.tot.result c.lifted.result c.lifted.ensures c.tot.ensures.made c.tot.ensures.kept c.tot.ensures.number c.tot.ensures.means
