use Rattle.std.proofs.Common.{◌≡◌, ◌+◌, [], length, slice_index}
use Rattle.cross_links.specs.Rings.{Closed, Rings}
use Rattle.cross_links.specs.Linkage.{row_head}
use Rattle.cross_links.proofs.links.link_rows.Given as goal

abbrev pub invariant-loop-i : goal.invariant-loop-i
invariant-loop-i l = record {
  places : length l.next ≡ l.first + length l.entries;
  links : Closed l.next l.back × Rings (l.first + l.i) (row_head l.first l.entries) [] (slice_index l.next) (slice_index l.back);
}
