use Rattle.std.proofs.Common.{rules}
use Rattle.outside_io.proofs.Writing.{more_written}
use Rattle.outside_io.proofs.std_sink.write_whole.Goals as goal

pub loop-done-preserved : goal.loop-done-preserved
loop-done-preserved g c = (search rules, more_written _ _ _ c.args.piece.now c.loop-done.done c.in-Ok.count c.loop-done.invariant.1 c.in-Ok.ensures.bytes)
