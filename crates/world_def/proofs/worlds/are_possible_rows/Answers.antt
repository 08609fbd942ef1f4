use Rattle.std.proofs.Common.{◌∙◌, ap, ap₂, arith, ◌&&◌, take, drop, List, ℕ}
use Rattle.std.specs.Prelude.{option_map}
use Rattle.world_def.specs.Worlds.{leading, of_row, standing, count_of, row_possible, are_none}
use Rattle.world_def.specs.Columns.{Rows}
use Rattle.world_def.proofs.Walks.{possible_step, possible_not, possible_end, within_list}
use Rattle.world_def.proofs.worlds.are_possible_rows.Goals as goal

pub returns-then-not-is_possible_row : goal.returns-then-not-is_possible_row
returns-then-not-is_possible_row c = possible_not c.args.bases.now c.args.columns.now c.args.picks.now c.args.rows.now c.loop-at.at c.loop-at.from c.loop-at.next c.leading_row-end.result 0 _ _ _ _ (omega arith) c.index-bases-at.is (c.leading_row-end.ensures.value ∙ ap (leading (of_row c.loop-at.at)) c.behind-rest.ensures) (c.standing-row.ensures.value ∙ ap₂ (standing c.loop-at.at) c.behind-left_picks.ensures c.behind-left_rows.ensures) (c.is_possible_row.ensures ∙ ap (λ mine. row_possible mine c.index-bases-at.result (option_map (λ r. r.now) c.standing-row.result)) (c.head-mine.ensures ∙ ap (take c.leading_row-end.result) c.behind-rest.ensures)) c.if-not-is_possible_row.true c.loop-at.invariant.so_far

pub loop-at-preserved : goal.loop-at-preserved
loop-at-preserved c =
    let n = c.count_of-next.ensures ∙ ap count_of c.standing-row.ensures.value in
    record {
      so_far = possible_step c.args.bases.now c.args.columns.now c.args.picks.now c.args.rows.now c.loop-at.at c.loop-at.from c.loop-at.next c.leading_row-end.result c.count_of-next.result _ _ _ _ (omega arith) c.index-bases-at.is (c.leading_row-end.ensures.value ∙ ap (leading (of_row c.loop-at.at)) c.behind-rest.ensures) (c.standing-row.ensures.value ∙ ap₂ (standing c.loop-at.at) c.behind-left_picks.ensures c.behind-left_rows.ensures) c.count_of-next.ensures (c.is_possible_row.ensures ∙ ap (λ mine. row_possible mine c.index-bases-at.result (option_map (λ r. r.now) c.standing-row.result)) (c.head-mine.ensures ∙ ap (take c.leading_row-end.result) c.behind-rest.ensures)) c.if-not-is_possible_row.false c.loop-at.invariant.so_far;
      columns = within_list _ _ _ _ c.behind-rest.ensures c.loop-at.invariant.columns c.leading_row-end.ensures.room;
      picks = within_list _ _ _ _ c.behind-left_picks.ensures c.loop-at.invariant.picks (rw n c.standing-row.ensures.picks);
      rows = within_list _ _ _ _ c.behind-left_rows.ensures c.loop-at.invariant.rows (rw n c.standing-row.ensures.rows);
    }

pub returns : goal.returns
returns c = possible_end c.args.bases.now (drop c.loop-at.from c.args.columns.now) (drop c.loop-at.next c.args.picks.now) (drop c.loop-at.next c.args.rows.now) c.loop-at.at _ _ (omega arith)
    (c.are_none.ensures ∙ ap₂ (λ (picks : List ℕ) (rows : Rows). are_none picks && are_none rows) c.behind.ensures c.behind-2.ensures) c.loop-at.invariant.so_far
