use Rattle.std.proofs.Common.{◌+◌, length, arith, ap}
use Rattle.cross_links.proofs.CircleLemmas.{run_read, circles_linked, stored}
use Rattle.cross_links.proofs.StackLemmas.{popped, missing_from_stays}
use Rattle.cross_links.proofs.grid.Grid.relink_row.Goals as goal

pub put_back_run-requires-clause-order : goal.put_back_run-requires-clause-order
put_back_run-requires-clause-order c =
    let pop = popped c.self.inside.rows c.self.inside.stack.items c.self.inside.depth c.in_ok-depth.depth _ c.self.invariant.stacked (omega arith) c.index-row.ensures in
    let run = run_read c.self.inside.rows c.self.inside.entries.items c.self.inside.starts.items _ _ _ c.self.invariant.begins pop.row_in c.index.ensures c.index-2.ensures in
    omega (arith, run.order)

pub put_back_run-requires-clause-within : goal.put_back_run-requires-clause-within
put_back_run-requires-clause-within c =
    let pop = popped c.self.inside.rows c.self.inside.stack.items c.self.inside.depth c.in_ok-depth.depth _ c.self.invariant.stacked (omega arith) c.index-row.ensures in
    let run = run_read c.self.inside.rows c.self.inside.entries.items c.self.inside.starts.items _ _ _ c.self.invariant.begins pop.row_in c.index.ensures c.index-2.ensures in
    omega (arith, run.within, c.self.invariant.along.count, ap length c.as_mut_slice.ensures.value)

pub put_back_run-requires-2-clause-order : goal.put_back_run-requires-2-clause-order
put_back_run-requires-2-clause-order c =
    let pop = popped c.self.inside.rows c.self.inside.stack.items c.self.inside.depth c.in_ok-depth.depth _ c.self.invariant.stacked (omega arith) c.index-row.ensures in
    let run = run_read c.self.inside.rows c.self.inside.entries.items c.self.inside.starts.items _ _ _ c.self.invariant.begins pop.row_in c.index.ensures c.index-2.ensures in
    omega (arith, run.order)

pub put_back_run-requires-2-clause-within : goal.put_back_run-requires-2-clause-within
put_back_run-requires-2-clause-within c =
    let pop = popped c.self.inside.rows c.self.inside.stack.items c.self.inside.depth c.in_ok-depth.depth _ c.self.invariant.stacked (omega arith) c.index-row.ensures in
    let run = run_read c.self.inside.rows c.self.inside.entries.items c.self.inside.starts.items _ _ _ c.self.invariant.begins pop.row_in c.index.ensures c.index-2.ensures in
    omega (arith, run.within, c.self.invariant.across.count, ap length c.as_mut_slice-3.ensures.value)

pub invariant_of-self : goal.invariant_of-self
invariant_of-self c =
    let first = c.self.inside.rows + c.self.inside.columns in
    let places = c.self.inside.rows + c.self.inside.columns + length c.self.inside.entries.items in
    let starts = c.self.inside.starts.items in
    let kept = c.self.invariant in
    let pop = popped c.self.inside.rows c.self.inside.stack.items c.self.inside.depth c.in_ok-depth.depth _ c.self.invariant.stacked (omega arith) c.index-row.ensures in
    let run = run_read c.self.inside.rows c.self.inside.entries.items c.self.inside.starts.items _ _ _ c.self.invariant.begins pop.row_in c.index.ensures c.index-2.ensures in
    record {
      fitting = kept.fitting;
      begins = kept.begins;
      stacked = pop.rest;
      across = circles_linked places first _ starts _ _ c.self.inside.right.items c.self.inside.left.items _ _ _ _ _ _ _ _ _
          pop.was (ap (λ n. first + n) run.from_is) (ap (λ n. first + n) run.to_is) kept.across
          c.as_mut_slice-3.ensures.value c.as_mut_slice-4.ensures.value c.put_back_run-2.auto.next c.put_back_run-2.ensures.closed c.put_back_run-2.ensures.put
          (stored _ _ _ (omega (arith, c.as_mut_slice-3.ensures.len))) (stored _ _ _ (omega (arith, c.as_mut_slice-4.ensures.len)));
      along = circles_linked places first _ starts _ _ c.self.inside.down.items c.self.inside.up.items _ _ _ _ _ _ _ _ _
          pop.was (ap (λ n. first + n) run.from_is) (ap (λ n. first + n) run.to_is) kept.along
          c.as_mut_slice.ensures.value c.as_mut_slice-2.ensures.value c.put_back_run.auto.next c.put_back_run.ensures.closed c.put_back_run.ensures.put
          (stored _ _ _ (omega (arith, c.as_mut_slice.ensures.len))) (stored _ _ _ (omega (arith, c.as_mut_slice-2.ensures.len)));
    }

pub returns-clause-linked : goal.returns-clause-linked
returns-clause-linked c =
    let pop = popped c.self.inside.rows c.self.inside.stack.items c.self.inside.depth c.in_ok-depth.depth _ c.self.invariant.stacked (omega arith) c.index-row.ensures in
    missing_from_stays _ _ pop.stays
