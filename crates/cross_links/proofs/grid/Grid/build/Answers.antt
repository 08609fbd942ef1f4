use Rattle.std.proofs.Common.{◌+◌, length, arith, ap, ◌∙◌}
use Rattle.cross_links.specs.Linkage.{row_head, column_head}
use Rattle.cross_links.proofs.CircleLemmas.{circles_built, stored}
use Rattle.cross_links.proofs.LinkageLemmas.{alone_length}
use Rattle.cross_links.proofs.grid.Grid.build.Goals as goal

pub invariant_of-result : goal.invariant_of-result
invariant_of-result c =
    let entries = c.args.entries.now in
    let places = c.args.rows + c.args.columns + length c.args.entries.now in
    rw c.in_ok-from_slice.ensures.items (record {
      fitting = record { few = omega arith; within = c.requires.within; rising = c.requires.rising };
      begins = c.in_ok-starts.ensures;
      stacked = record { room = omega (arith, c.in_ok-vec.ensures.len, c.in_ok-vec.field-0.ok.0); within = omega arith; rows_once = tt };
      across = circles_built places (row_head (c.args.rows + c.args.columns) entries) _ _ _ _ _ (ap length c.as_mut_slice.ensures.value ∙ alone_length _ _ c.in_ok-right.ensures) c.link_rows.auto.next c.link_rows.ensures.closed c.link_rows.ensures.linked
          (stored _ _ _ (omega (arith, c.as_mut_slice.ensures.len))) (stored _ _ _ (omega (arith, c.as_mut_slice-2.ensures.len)));
      along = circles_built places (column_head c.args.rows (c.args.rows + c.args.columns) entries) _ _ _ _ _ (ap length c.as_mut_slice-3.ensures.value ∙ alone_length _ _ c.in_ok-down.ensures) c.link_columns.auto.next c.link_columns.ensures.closed c.link_columns.ensures.linked
          (stored _ _ _ (omega (arith, c.as_mut_slice-3.ensures.len))) (stored _ _ _ (omega (arith, c.as_mut_slice-4.ensures.len)));
    })
