use Rattle.std.proofs.Common.{arith, sym, ◌∙◌}
use Rattle.tiql_check.proofs.Lists.{relation_found, relation_passed, relation_missed}
use Rattle.tiql_check.proofs.known.find_relation.Goals as goal

pub returns-then-eq : goal.returns-then-eq
returns-then-eq c = relation_found c.args.name.now c.args.relations.now _ _ _ (omega arith) c.relation-item.is (sym c.eq.ensures ∙ c.if-eq.true) c.loop-relation.invariant

pub loop-relation-preserved : goal.loop-relation-preserved
loop-relation-preserved c = relation_passed c.args.name.now c.args.relations.now _ _ _ (omega arith) c.relation-item.is (sym c.eq.ensures ∙ c.if-eq.false) c.loop-relation.invariant

pub returns : goal.returns
returns c = relation_missed c.args.name.now c.args.relations.now _ _ (omega arith) c.loop-relation.invariant
