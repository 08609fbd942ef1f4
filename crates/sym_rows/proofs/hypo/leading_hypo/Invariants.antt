use Rattle.std.proofs.Common.{◌≡◌, ◌+◌, drop}
use Rattle.world_def.specs.Worlds.{leading, of_hypo}
use Rattle.sym_rows.proofs.hypo.leading_hypo.Given as goal

abbrev pub invariant-loop-at : goal.invariant-loop-at
invariant-loop-at l = l.at + leading (of_hypo l.hypo) (drop l.at l.columns) ≡ leading (of_hypo l.hypo) l.columns
