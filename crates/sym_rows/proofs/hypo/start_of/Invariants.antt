use Rattle.std.proofs.Common.{◌≡◌, ◌+◌, drop}
use Rattle.world_def.specs.Worlds.{leading}
use Rattle.sym_rows.specs.Hypos.{before_hypo}
use Rattle.sym_rows.proofs.hypo.start_of.Given as goal

abbrev pub invariant-loop-at : goal.invariant-loop-at
invariant-loop-at l = l.at + leading (before_hypo l.hypo) (drop l.at l.columns) ≡ leading (before_hypo l.hypo) l.columns
