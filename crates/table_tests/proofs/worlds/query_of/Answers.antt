use Rattle.std.proofs.Common.{refl}
use Rattle.table_tests.proofs.worlds.query_of.Goals as goal

-- what is read has a text, so what a check of it gives is well formed
pub returns-clause-fit : goal.returns-clause-fit
returns-clause-fit c = c.in_ok-query.ensures.well_formed (_, record { other = _; spelled = c.in_ok-tree.ensures.tree; same = refl })
