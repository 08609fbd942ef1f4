use Rattle.dict_pivot.proofs.StartRows.{free_size, free_more}
use Rattle.dict_pivot.proofs.begin.first_free.Goals as goal

pub loop-j-preserved : goal.loop-j-preserved
loop-j-preserved c = record {
  size = free_size c.loop-j.free.items _ c.loop-j.j c.first_row.result c.in_ok-push-2.ensures.items c.loop-j.invariant.size;
  each = free_more c.args.up.now c.loop-j.free.items _ c.loop-j.j c.first_row.result c.in_ok-push-2.ensures.items c.loop-j.invariant.size c.first_row.ensures c.loop-j.invariant.each;
}
