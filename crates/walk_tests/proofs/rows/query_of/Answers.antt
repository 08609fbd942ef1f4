use Rattle.std.proofs.Common.{refl}
use Rattle.walk_tests.proofs.rows.query_of.Goals as goal

-- what is read has a text, so what a check of it gives is well formed
pub returns : goal.returns
returns c = c.in_ok-check.ensures.well_formed (_, record { other = _; spelled = c.in_ok-tree.ensures.tree; same = refl })
