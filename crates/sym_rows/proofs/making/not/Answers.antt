use Rattle.prov_fold.specs.Rules as rule
use Rattle.sym_rows.proofs.Walks.{rule_makes}
use Rattle.sym_rows.proofs.making.not.Goals as goal

pub returns : goal.returns
returns c = rule_makes (rule.not_of c.args.truth) _ _ c.args.fold.now c.not.new.self c.not.result c.lifted.result c.lifted.ensures c.not.ensures.made c.not.ensures.kept c.not.ensures.truth c.not.ensures.means
