use Rattle.dict_pivot.specs.Dictionaries.{least_of, table}
use Rattle.dual_simplex.proofs.Chosen.{true_part, false_part}
use Rattle.dual_simplex.proofs.Mended.{mended_step}
use Rattle.dual_simplex.proofs.next.next.Goals as goal

pub returns-then-is_past : goal.returns-then-is_past
returns-then-is_past c = true_part _ _ c.is_past.result c.if-is_past.true c.is_past.ensures

pub returns-in-None : goal.returns-in-None
returns-in-None c = (false_part _ _ c.is_past.result c.if-is_past.false c.is_past.ensures, c.in-None.ensures)

pub mend-requires : goal.mend-requires
mend-requires c = c.in-Some.ensures.within

pub returns-in-Some : goal.returns-in-Some
returns-in-Some c = mended_step (least_of c.args.dict.now.low) c.args.best (table c.args.dict.now) c.in-Some.row c.mend.result (false_part _ _ c.is_past.result c.if-is_past.false c.is_past.ensures) c.in-Some.ensures c.mend.ensures
