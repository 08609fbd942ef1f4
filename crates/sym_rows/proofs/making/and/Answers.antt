use Rattle.prov_fold.specs.Rules as rule
use Rattle.sym_rows.proofs.Walks.{rule_makes}
use Rattle.sym_rows.proofs.making.and.Goals as goal

pub returns : goal.returns
returns c = rule_makes (rule.and_of c.args.kids.now) _ _ c.args.fold.now c.and.new.self c.and.result c.lifted.result c.lifted.ensures c.and.ensures.made c.and.ensures.kept c.and.ensures.truth c.and.ensures.means
