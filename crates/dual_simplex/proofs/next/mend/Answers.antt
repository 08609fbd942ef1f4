use Rattle.std.proofs.Common.{refl}
use Rattle.dual_simplex.proofs.next.mend.Goals as goal

pub returns-in-None : goal.returns-in-None
returns-in-None c = (refl, c.in-None.ensures)

pub returns-in-Some : goal.returns-in-Some
returns-in-Some c = (refl, c.in-Some.ensures)
