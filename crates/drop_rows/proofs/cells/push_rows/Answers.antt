use Rattle.std.proofs.Common.{arith, sym, ◌∙◌}
use Rattle.std.proofs.lemmas.Int.{to_z-of_z}
use Rattle.drop_rows.proofs.Pushed.{pushed}
use Rattle.drop_rows.proofs.cells.push_rows.Goals as goal

pub returns-in_ok-push-2 : goal.returns-in_ok-push-2
returns-in_ok-push-2 c = pushed _ _ _ _ _ _ _ c.args.rows.now c.push.new.self _ (sym c.may_drop.ensures ∙ c.if-may_drop.true) (grind (arith, to_z-of_z)) (grind (arith, to_z-of_z)) c.in_ok-low_row.ensures c.in_ok-high_row.ensures c.in_ok-push.ensures.ok c.in_ok-push-2.ensures.ok
