use Rattle.prov_fold.specs.Rules as rule
use Rattle.sym_rows.proofs.Walks.{rule_makes}
use Rattle.sym_rows.proofs.making.pos.Goals as goal

pub returns : goal.returns
returns c = rule_makes (rule.pos_of c.args.number) _ _ c.args.fold.now c.pos.new.self c.pos.result c.lifted.result c.lifted.ensures c.pos.ensures.made c.pos.ensures.kept c.pos.ensures.truth c.pos.ensures.means
