use Rattle.std.proofs.Common.{map}
use Rattle.sym_groups.proofs.Listed.{presence_sure, presence_some}
use Rattle.sym_groups.proofs.group.group_presence.Goals as goal

pub returns-then-sure : goal.returns-then-sure
returns-then-sure c = presence_sure (map (λ row. row.now) c.args.group.now) c.args.sure c.args.fold.now c.truth.result c.if-sure.true c.truth.ensures.place c.truth.ensures.truth

pub returns-else-sure : goal.returns-else-sure
returns-else-sure c = presence_some (map (λ row. row.now) c.args.group.now) c.args.sure c.args.fold.now c.presence_of.new.fold c.presence_of.result c.if-sure.false c.presence_of.ensures
