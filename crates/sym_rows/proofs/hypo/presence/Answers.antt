use Rattle.std.proofs.Common.{sym, ◌∙◌}
use Rattle.sym_rows.proofs.Hypos.{presence_yes, presence_no}
use Rattle.sym_rows.proofs.hypo.presence.Goals as goal

pub returns-then-may_miss : goal.returns-then-may_miss
returns-then-may_miss c = presence_yes c.args.first c.args.chosen.now c.args.fold.now c.pres.new.fold c.pres.result (sym c.may_miss.ensures ∙ c.if-may_miss.true) c.pres.ensures

pub returns-else-may_miss : goal.returns-else-may_miss
returns-else-may_miss c = presence_no c.args.first c.args.chosen.now c.args.fold.now c.truth.result (sym c.may_miss.ensures ∙ c.if-may_miss.false) c.truth.ensures.place c.truth.ensures.truth c.truth.ensures.fold
