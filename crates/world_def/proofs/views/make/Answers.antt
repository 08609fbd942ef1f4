use Rattle.world_def.proofs.Making.{table_asked, hypo_asked}
use Rattle.world_def.proofs.views.make.Goals as goal

pub returns-in-Table : goal.returns-in-Table
returns-in-Table c = (c.requires.made, table_asked c.args.query.now c.args.tables.now c.args.world.now c.args.views.now.made.items c.args.source c.in-Table.field-0 c.in-Table.is)

pub returns-in-Hypo : goal.returns-in-Hypo
returns-in-Hypo c = (c.requires.made, hypo_asked c.args.query.now c.args.tables.now c.args.world.now c.args.views.now.made.items c.args.source c.in-Hypo.field-0 c.in-Hypo.is)
