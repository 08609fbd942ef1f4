use Rattle.prov_fold.specs.Rules as rule
use Rattle.sym_rows.proofs.Walks.{rule_makes}
use Rattle.sym_rows.proofs.making.or.Goals as goal

pub returns : goal.returns
returns c = rule_makes (rule.or_of c.args.kids.now) _ _ c.args.fold.now c.or.new.self c.or.result c.lifted.result c.lifted.ensures c.or.ensures.made c.or.ensures.kept c.or.ensures.truth c.or.ensures.means
