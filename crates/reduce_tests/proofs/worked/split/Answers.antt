use Rattle.ip_reduce.proofs.ReducedLaws.{columns_rise, columns_within, live_open}
use Rattle.reduce_tests.specs.Worked.{worked}
use Rattle.reduce_tests.proofs.Measured.{worked_formed}
use Rattle.reduce_tests.proofs.worked.split.Goals as goal

pub parts-requires-clause-rising : goal.parts-requires-clause-rising
parts-requires-clause-rising c = columns_rise worked worked_formed c.args.reduced.now c.requires

pub parts-requires-clause-within : goal.parts-requires-clause-within
parts-requires-clause-within c = columns_within worked worked_formed c.args.reduced.now c.requires

pub parts-requires-clause-live : goal.parts-requires-clause-live
parts-requires-clause-live c = live_open worked worked_formed c.args.reduced.now c.requires
