use Rattle.std.proofs.Common.{rules}
use Rattle.sym_goals.proofs.Turns.{one_row}
use Rattle.sym_goals.proofs.Objective.{share_ok, share_stop, share_late}
use Rattle.sym_goals.proofs.aim.share_of.Goals as goal

pub number-requires : goal.number-requires
number-requires c = one_row c.args.fold.now c.args.row.now c.requires

pub returns-in_err-value : goal.returns-in_err-value
returns-in_err-value c = search (rules, share_stop c.args.columns.now c.args.part.now c.args.row.now c.args.fold.now c.in_err-value.field-0.0 c.number.new.fold c.in_err-value.ensures)

pub returns-in_err-share : goal.returns-in_err-share
returns-in_err-share c = search (rules, share_late c.args.columns.now c.args.part.now c.args.row.now c.args.fold.now c.in_ok-value.value c.in_err-share.field-0.0 c.number.new.fold c.guard.new.fold c.in_ok-value.ensures c.in_err-share.ensures)

pub returns : goal.returns
returns c = share_ok c.args.columns.now c.args.part.now c.args.row.now c.args.fold.now c.in_ok-value.value c.in_ok-share.share c.number.new.fold c.guard.new.fold c.in_ok-value.ensures c.in_ok-share.ensures
