use Rattle.std.proofs.Common.{◌≡◌, ◌≤◌, length, subst, sym}
use Rattle.world_def.proofs.Relations.{rows_few}
use Rattle.world_def.proofs.judge.broken_at.Goals as goal

pub broken_row-requires : goal.broken_row-requires
broken_row-requires c = subst (λ rows. length rows ≤ 200000) (sym c.rows_at.ensures) (rows_few c.args.query.now c.args.tables.now c.args.world.now _ _ c.requires.small c.in_ok-make.ensures.1)
