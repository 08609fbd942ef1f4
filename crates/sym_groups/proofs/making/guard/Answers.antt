use Rattle.prov_fold.specs.Rules as rule
use Rattle.sym_rows.proofs.Walks.{rule_makes}
use Rattle.sym_groups.proofs.making.guard.Goals as goal

pub returns : goal.returns
returns c = rule_makes (rule.guard c.args.truth c.args.number) _ _ c.args.fold.now c.guard.new.self c.guard.result c.lifted.result c.lifted.ensures c.guard.ensures.made c.guard.ensures.kept c.guard.ensures.number c.guard.ensures.means
