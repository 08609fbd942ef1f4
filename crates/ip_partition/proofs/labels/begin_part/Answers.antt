use Rattle.std.proofs.Common.{length, length-set, arith}
use Rattle.ip_partition.proofs.ColumnLemmas.{room_same}
use Rattle.ip_partition.proofs.LabelLemmas.{part_begins_by}
use Rattle.ip_partition.proofs.labels.begin_part.Goals as goal

pub spread-requires-clause-room : goal.spread-requires-clause-room
spread-requires-clause-room c = room_same c.args.grid.now (length c.args.labels.now) (length c.args.seen.now) _ _ (length-set c.args.labels.now c.args.column c.args.part) (omega arith) c.requires.room

pub spread-requires-clause-begun : goal.spread-requires-clause-begun
spread-requires-clause-begun c =
    part_begins_by c.args.grid.now c.args.part c.args.column c.args.labels.now c.args.seen.now c.args.reached.now.items c.requires.some c.requires.begun c.requires.none c.requires.within
    c.len-from.result c.push.new.self.items (omega (arith, c.len-from.ensures, c.args.reached.now.ok.0)) c.in_ok-push.ensures.items
