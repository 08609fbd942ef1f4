use Rattle.prov_fold.specs.Rules as rule
use Rattle.sym_rows.proofs.Walks.{rule_makes, pres_possible}
use Rattle.sym_rows.proofs.making.pres.Goals as goal

pub returns : goal.returns
returns c = rule_makes (rule.pres c.args.column) _ _ c.args.fold.now c.pres-made.new.self c.pres-made.result c.lifted.result c.lifted.ensures c.pres-made.ensures.made c.pres-made.ensures.kept
    (pres_possible c.args.fold.now c.pres-made.new.self c.args.column c.pres-made.result c.known.ensures.count c.known-2.ensures.graph.false_at c.pres-made.ensures.made c.pres-made.ensures.truth) c.pres-made.ensures.means
