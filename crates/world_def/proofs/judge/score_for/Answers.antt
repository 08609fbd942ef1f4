use Rattle.std.proofs.Common.{◌≡◌, ◌≤◌, length, subst, sym}
use Rattle.world_def.proofs.Relations.{rows_few}
use Rattle.world_def.proofs.judge.score_for.Goals as goal

pub sum_over-requires : goal.sum_over-requires
sum_over-requires c = subst (λ rows. length rows ≤ 200000) (sym c.rows_at.ensures) (rows_few c.args.query.now c.args.tables.now c.args.world.now _ _ c.requires.small c.in_ok-make-in-Sum.ensures.1)
