use Rattle.std.proofs.Common.{◌+◌, ◌<◌, length, arith, ap, ◌∙◌}
use Rattle.cross_links.specs.Layout.{Layout, live, stack}
use Rattle.cross_links.specs.Rings.{Stays}
use Rattle.cross_links.specs.Linkage.{rows_on}
use Rattle.cross_links.proofs.CircleLemmas.{run_read, circles_unlinked, row_inner, stored}
use Rattle.cross_links.proofs.LayoutLemmas.{layout-push, live-unlinked, stack-unlinked}
use Rattle.cross_links.proofs.LinkageLemmas.{fitting_rows, fitting_columns}
use Rattle.cross_links.proofs.StackLemmas.{Stays-from_missing, has_room, rows_on-push, IsStack-push}
use Rattle.cross_links.proofs.grid.Grid.unlink_row.Goals as goal

pub take_out_run-requires-clause-order : goal.take_out_run-requires-clause-order
take_out_run-requires-clause-order c =
    let lt : c.args.row < c.self.inside.rows = omega (arith, ap (λ (g : Layout). g.rows) c.self.view_is) in
    let run = run_read c.self.inside.rows c.self.inside.entries.items c.self.inside.starts.items c.args.row _ _ c.self.invariant.begins lt c.index.ensures c.index-2.ensures in
    omega (arith, run.order)

pub take_out_run-requires-2-clause-order : goal.take_out_run-requires-2-clause-order
take_out_run-requires-2-clause-order c =
    let lt : c.args.row < c.self.inside.rows = omega (arith, ap (λ (g : Layout). g.rows) c.self.view_is) in
    let run = run_read c.self.inside.rows c.self.inside.entries.items c.self.inside.starts.items c.args.row _ _ c.self.invariant.begins lt c.index.ensures c.index-2.ensures in
    omega (arith, run.order)

pub index_mut-requires : goal.index_mut-requires
index_mut-requires c =
    let lt : c.args.row < c.self.inside.rows = omega (arith, ap (λ (g : Layout). g.rows) c.self.view_is) in
    let stays : Stays (rows_on c.self.inside.stack.items c.self.inside.depth) c.args.row =
    rw (ap (λ (g : Layout). g.unlinked) c.self.view_is) (Stays-from_missing _ _ c.requires.linked) in
    let room = has_room c.self.inside.rows c.self.inside.stack.items c.self.inside.depth c.args.row c.self.invariant.stacked lt stays in
    omega (arith, room, c.self.inside.stack.ok.0)

pub invariant_of-self : goal.invariant_of-self
invariant_of-self c =
    let rows = c.self.inside.rows in
    let first = c.self.inside.rows + c.self.inside.columns in
    let entries = c.self.inside.entries.items in
    let starts = c.self.inside.starts.items in
    let unlinked = rows_on c.self.inside.stack.items c.self.inside.depth in
    let kept = c.self.invariant in
    let lt : c.args.row < c.self.inside.rows = omega (arith, ap (λ (g : Layout). g.rows) c.self.view_is) in
    let stays : Stays (rows_on c.self.inside.stack.items c.self.inside.depth) c.args.row =
    rw (ap (λ (g : Layout). g.unlinked) c.self.view_is) (Stays-from_missing _ _ c.requires.linked) in
    let room = has_room rows c.self.inside.stack.items c.self.inside.depth c.args.row kept.stacked lt stays in
    let run = run_read rows entries starts c.args.row _ _ kept.begins lt c.index.ensures c.index-2.ensures in
    record {
      fitting = kept.fitting;
      begins = kept.begins;
      stacked = IsStack-push _ _ _ _ kept.stacked lt stays;
      across = circles_unlinked first (length entries) _ starts unlinked _ c.self.inside.right.items c.self.inside.left.items _ _ _ _ _ _ c.args.row _ _
          (rows_on-push _ _ _ room) (ap (λ n. first + n) run.from_is) (ap (λ n. first + n) run.to_is)
          (row_inner rows first _ entries starts unlinked c.args.row kept.begins kept.stacked.rows_once (fitting_rows _ _ _ kept.fitting) lt stays) kept.across
          c.as_mut_slice.ensures.value c.as_mut_slice-2.ensures.value c.take_out_run.auto.next c.take_out_run.ensures.closed c.take_out_run.ensures.taken
          (stored _ _ _ (omega (arith, c.as_mut_slice.ensures.len))) (stored _ _ _ (omega (arith, c.as_mut_slice-2.ensures.len)));
      along = circles_unlinked first (length entries) _ starts unlinked _ c.self.inside.down.items c.self.inside.up.items _ _ _ _ _ _ c.args.row _ _
          (rows_on-push _ _ _ room) (ap (λ n. first + n) run.from_is) (ap (λ n. first + n) run.to_is)
          (row_inner rows first _ entries starts unlinked c.args.row kept.begins kept.stacked.rows_once (fitting_columns _ _ _ kept.fitting) lt stays) kept.along
          c.as_mut_slice-3.ensures.value c.as_mut_slice-4.ensures.value c.take_out_run-2.auto.next c.take_out_run-2.ensures.closed c.take_out_run-2.ensures.taken
          (stored _ _ _ (omega (arith, c.as_mut_slice-3.ensures.len))) (stored _ _ _ (omega (arith, c.as_mut_slice-4.ensures.len)));
    }

pub returns : goal.returns
returns c =
    let lt : c.args.row < c.self.inside.rows = omega (arith, ap (λ (g : Layout). g.rows) c.self.view_is) in
    let stays : Stays (rows_on c.self.inside.stack.items c.self.inside.depth) c.args.row =
    rw (ap (λ (g : Layout). g.unlinked) c.self.view_is) (Stays-from_missing _ _ c.requires.linked) in
    let room = has_room c.self.inside.rows c.self.inside.stack.items c.self.inside.depth c.args.row c.self.invariant.stacked lt stays in
    let grid = c.args.self.now in
    let pushed = layout-push grid c.self.inside.rows c.self.inside.columns c.self.inside.entries.items c.self.inside.stack.items c.self.inside.depth c.args.row room c.self.view_is in
    record {
      pushed = pushed;
      taken = ap live pushed ∙ live-unlinked grid c.args.row;
      stacked = ap stack pushed ∙ stack-unlinked grid c.args.row c.requires.linked;
    }
