use Rattle.std.proofs.Common.{rules}
use Rattle.outside_io.proofs.Reading.{more_read}
use Rattle.outside_io.proofs.file_shelf.fill.Goals as goal

pub loop-filled-preserved : goal.loop-filled-preserved
loop-filled-preserved g c =
    let turn = c.in_ok-count.ensures in
    (search rules, search rules, more_read _ _ _ c.loop-filled.bytes.items c.read_more.new.bytes.items c.loop-filled.filled c.in_ok-count.count turn.front c.loop-filled.invariant.2 turn.read)
