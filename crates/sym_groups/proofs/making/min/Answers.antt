use Rattle.prov_fold.specs.Rules as rule
use Rattle.sym_rows.proofs.Walks.{rule_makes}
use Rattle.sym_groups.proofs.making.min.Goals as goal

pub returns : goal.returns
returns c = rule_makes (rule.min_of c.args.pairs.now) _ _ c.args.fold.now c.min.new.self c.min.result c.lifted.result c.lifted.ensures c.min.ensures.made c.min.ensures.kept c.min.ensures.number c.min.ensures.means
