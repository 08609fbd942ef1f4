use Rattle.world_eval.proofs.Meant.{means_each, met_exactly}
use Rattle.world_eval.proofs.Stands.{standing_small, tells, tells_each}
use Rattle.world_eval.proofs.evaluation.evaluate_sections.Goals as goal

pub evaluation_of-requires-clause-small : goal.evaluation_of-requires-clause-small
evaluation_of-requires-clause-small c = standing_small c.args.query.now c.args.tables.now c.args.sections.now _ c.requires.small c.in_ok-standing.ensures

pub returns-clause-told : goal.returns-clause-told
returns-clause-told c = tells c.args.query.now c.args.tables.now c.requires.tables c.args.sections.now _ _ c.in_ok-standing.ensures c.evaluation_of.ensures

pub returns-clause-each : goal.returns-clause-each
returns-clause-each c = tells_each c.args.query.now c.args.tables.now c.requires.tables c.args.sections.now _ _ c.in_ok-standing.ensures c.evaluation_of.ensures

pub returns-clause-meant : goal.returns-clause-meant
returns-clause-meant c =
    means_each c.args.query.now c.args.tables.now c.args.sections.now c.requires.fit _
    (tells_each c.args.query.now c.args.tables.now c.requires.tables c.args.sections.now _ _ c.in_ok-standing.ensures c.evaluation_of.ensures)

pub returns-clause-met : goal.returns-clause-met
returns-clause-met c =
    met_exactly c.args.query.now c.args.tables.now c.args.sections.now c.requires.fit _
    (tells c.args.query.now c.args.tables.now c.requires.tables c.args.sections.now _ _ c.in_ok-standing.ensures c.evaluation_of.ensures)
    (means_each c.args.query.now c.args.tables.now c.args.sections.now c.requires.fit _
    (tells_each c.args.query.now c.args.tables.now c.requires.tables c.args.sections.now _ _ c.in_ok-standing.ensures c.evaluation_of.ensures))
