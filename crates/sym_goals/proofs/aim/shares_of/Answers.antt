use Rattle.std.proofs.Common.{All, arith, rules, refl}
use Rattle.prov_fold.specs.Meanings.{values_in}
use Rattle.sym_rows.proofs.Each.{going_init, going_step, going_err, going_end}
use Rattle.sym_values.specs.Steps.{IsPart}
use Rattle.sym_values.proofs.Numbering.{part_kept}
use Rattle.sym_goals.specs.Goals.{share_of, shares_of}
use Rattle.sym_goals.specs.Shares.{IsShareOf, AreSharesOf}
use Rattle.sym_goals.proofs.Turns.{row_at}
use Rattle.sym_goals.proofs.Objective.{SharesSo, shares_step, shares_end}
use Rattle.sym_goals.proofs.aim.shares_of.Goals as goal

pub loop-row-init : goal.loop-row-init
loop-row-init c = going_init (λ place row. share_of c.args.columns.now c.args.part.now row) c.args.rows.now IsPart (SharesSo c.args.columns.now c.args.part.now c.args.rows.now) c.args.fold.now c.new-made.result.items c.new-made.ensures.items (λ h world later fit has. refl)

pub share_of-requires : goal.share_of-requires
share_of-requires c = row_at c.args.fold.now c.loop-row.fold c.args.rows.now c.loop-row.row-index c.row-item.result c.loop-row.invariant.kept c.requires (omega arith) c.row-item.is

pub loop-row-preserved : goal.loop-row-preserved
loop-row-preserved c =
    going_step (λ place row. share_of c.args.columns.now c.args.part.now row) c.args.rows.now IsPart (SharesSo c.args.columns.now c.args.part.now c.args.rows.now) c.args.fold.now c.loop-row.row-index c.row-item.result c.in_ok-share_of.field-0 c.loop-row.made.items c.push.new.self.items c.loop-row.fold c.share_of.new.fold
    (IsShareOf c.args.columns.now c.args.part.now c.row-item.result) (omega arith) c.row-item.is c.in_ok-push.ensures.items
    (λ part kept is. part_kept c.loop-row.fold c.share_of.new.fold part kept is)
    (λ h world later so one. shares_step c.args.columns.now c.args.part.now c.args.rows.now c.loop-row.row-index c.row-item.result c.loop-row.made.items c.in_ok-share_of.field-0 world (values_in h world) (omega arith) c.row-item.is so one)
    c.in_ok-share_of.ensures c.loop-row.invariant

pub returns-in_err-share_of : goal.returns-in_err-share_of
unfolding shares_of
returns-in_err-share_of c =
    search (
      rules,
      going_err (λ place row. share_of c.args.columns.now c.args.part.now row) c.args.rows.now IsPart (SharesSo c.args.columns.now c.args.part.now c.args.rows.now) c.args.fold.now c.loop-row.row-index c.row-item.result c.loop-row.made.items c.loop-row.fold c.share_of.new.fold
          (IsShareOf c.args.columns.now c.args.part.now c.row-item.result) (λ g made. All (IsPart g) made) (AreSharesOf c.args.columns.now c.args.part.now c.args.rows.now) c.in_err-share_of.field-0.0 (omega arith) c.row-item.is c.in_err-share_of.ensures c.loop-row.invariant,
    )

pub returns : goal.returns
unfolding shares_of
returns c =
    going_end (λ place row. share_of c.args.columns.now c.args.part.now row) c.args.rows.now IsPart (SharesSo c.args.columns.now c.args.part.now c.args.rows.now) c.args.fold.now c.loop-row.row-index c.loop-row.made.items c.loop-row.fold (AreSharesOf c.args.columns.now c.args.part.now c.args.rows.now) (omega arith)
    (λ h world later so. shares_end c.args.columns.now c.args.part.now c.args.rows.now c.loop-row.row-index c.loop-row.made.items world (values_in h world) (omega arith) so) c.loop-row.invariant
