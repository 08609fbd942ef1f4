use Rattle.std.proofs.Common.{◌<◌, length, arith}
use Rattle.dict_pivot.proofs.RowLemmas.{number_is}
use Rattle.dict_pivot.proofs.ShareLemmas.{divided_first, divided_later}
use Rattle.dict_pivot.proofs.shares.divided.Goals as goal

pub returns-then-j-eq0 : goal.returns-then-j-eq0
returns-then-j-eq0 c =
    let some : 0 < length c.args.row.now = omega arith in
    divided_first c.args.row.now c.args.least.now _ c.args.j _ c.if-j-eq0.true (number_is c.args.row.now 0 _ some c.index-row-0.is) c.sub.ensures.gives

pub returns-else-j-eq0 : goal.returns-else-j-eq0
returns-else-j-eq0 c = divided_later c.args.row.now c.args.least.now _ c.args.j c.if-j-eq0.false (number_is c.args.row.now c.args.j _ c.requires c.index-row-j.is)
