use Rattle.dual_simplex.proofs.Reach.{noted_none, noted_one}
use Rattle.dual_simplex.proofs.closing.note.Goals as goal

pub returns-then-row-base : goal.returns-then-row-base
returns-then-row-base c = λ r l. noted_none c.args.factors.now c.args.base c.args.row c.args.factor.now c.if-row-base.true r

pub returns : goal.returns
returns c = noted_one c.args.factors.now c.args.base c.args.row c.args.factor.now c.if-row-base.false c.requires
