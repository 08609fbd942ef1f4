use Rattle.std.proofs.Common.{◌∙◌, ap, sym, arith, length}
use Rattle.join_index.specs.Matching.{matching_rows}
use Rattle.answer_text.proofs.Picks.{key_pick, no_row_of_key, picks_all, picks_more, picks_none}
use Rattle.answer_text.proofs.world.picks_by_key.Goals as goal

pub loop-row-init : goal.loop-row-init
loop-row-init c = rw c.new-picks.ensures (picks_none c.args.table.now.key c.args.base.now c.args.rows.now)

pub returns-in_default : goal.returns-in_default
returns-in_default c =
    λ picks are. no_row_of_key c.args.table.now c.args.base.now c.args.rows.now c.requires.base c.requires.rows c.loop-row.row-index c.row-item.result c.matches.result.now
    (omega (arith, ap length c.as_slice-row-items.ensures)) (rw c.as_slice-row-items.ensures at c.row-item.is)
    (c.matches.ensures ∙ (rw c.as_slice.ensures at c.in_ok-index.ensures) _ ∙ ap (matching_rows c.args.table.now.key c.args.base.now) (rw c.as_slice-in-loop-row.ensures at c.in_ok-key.ensures))
    c.requires.some (sym c.in_default.ensures.value) picks are

pub loop-row-preserved : goal.loop-row-preserved
loop-row-preserved c =
    picks_more c.args.table.now.key c.args.base.now c.args.rows.now c.loop-row.picks _ c.loop-row.row-index c.in-Some.pick.now c.loop-row.invariant
    (key_pick c.args.table.now c.args.base.now c.args.rows.now c.requires.base c.requires.rows c.loop-row.row-index c.row-item.result c.matches.result.now
    (omega (arith, ap length c.as_slice-row-items.ensures)) (rw c.as_slice-row-items.ensures at c.row-item.is)
    (c.matches.ensures ∙ (rw c.as_slice.ensures at c.in_ok-index.ensures) _ ∙ ap (matching_rows c.args.table.now.key c.args.base.now) (rw c.as_slice-in-loop-row.ensures at c.in_ok-key.ensures))
    c.in-Some.pick.now c.requires.some (sym c.in-Some.ensures.value)) c.in_ok-push.ensures.ok

pub returns : goal.returns
returns c = picks_all c.args.table.now.key c.args.base.now c.args.rows.now c.loop-row.picks c.loop-row.row-index c.loop-row.invariant (omega (arith, ap length c.as_slice-row-items.ensures))
