use Rattle.std.proofs.Common.{◌≡◌}
use Rattle.world_eval.specs.Evaluating.{views_told}
use Rattle.world_eval.proofs.Turns.{views_left}
use Rattle.world_eval.proofs.tables.views_text.Given as goal

abbrev pub invariant-loop-at : goal.invariant-loop-at
invariant-loop-at l = views_left l.query l.tables l.world l.query.views l.at l.text.items ≡ views_told l.query l.tables l.world 0 l.query.views
