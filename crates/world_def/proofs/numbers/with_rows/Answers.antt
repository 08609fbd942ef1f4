use Rattle.std.proofs.Common.{◌∙◌, ap, ap₂, arith, take, List, ◌++◌, map}
use Rattle.std.specs.Prelude.{option_map}
use Rattle.tiql_query.specs.declared.world_column.WorldColumn.{WorldColumn}
use Rattle.world_def.specs.Worlds.{leading, of_row, standing, count_of, number_in}
use Rattle.world_def.proofs.Walks.{within_list}
use Rattle.world_def.proofs.NumberWalks.{numbers_step, numbers_end}
use Rattle.world_def.proofs.numbers.with_rows.Goals as goal

pub loop-at-preserved : goal.loop-at-preserved
loop-at-preserved c =
    let n = c.count_of-next.ensures ∙ ap count_of c.standing-row.ensures.value in
    record {
      so_far = numbers_step c.args.bases.now c.args.columns.now c.args.picks.now c.args.rows.now c.loop-at.at c.loop-at.from c.loop-at.next c.leading_row-end.result c.count_of-next.result _ c.loop-at.made _ _ (omega arith) (c.leading_row-end.ensures.value ∙ ap (leading (of_row c.loop-at.at)) c.behind-rest.ensures) (c.standing-row.ensures.value ∙ ap₂ (standing c.loop-at.at) c.behind-left_picks.ensures c.behind-left_rows.ensures) c.count_of-next.ensures
          (c.in_ok-made.ensures ∙ ap (λ (mine : List WorldColumn). c.loop-at.made ++ map (number_in (option_map (λ r. r.now) c.standing-row.result)) mine) (c.head-mine.ensures ∙ ap (take c.leading_row-end.result) c.behind-rest.ensures)) c.loop-at.invariant.so_far;
      columns = within_list _ _ _ _ c.behind-rest.ensures c.loop-at.invariant.columns c.leading_row-end.ensures.room;
      picks = within_list _ _ _ _ c.behind-left_picks.ensures c.loop-at.invariant.picks (rw n c.standing-row.ensures.picks);
      rows = within_list _ _ _ _ c.behind-left_rows.ensures c.loop-at.invariant.rows (rw n c.standing-row.ensures.rows);
    }

pub returns : goal.returns
returns c = numbers_end c.args.bases.now _ _ _ c.loop-at.at _ _ (omega arith) c.loop-at.invariant.so_far
