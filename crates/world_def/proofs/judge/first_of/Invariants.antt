use Rattle.std.proofs.Common.{◌≡◌, ◌+◌, drop}
use Rattle.world_def.specs.Judging.{broken_from}
use Rattle.world_def.specs.Made.{AreMade}
use Rattle.world_def.proofs.judge.first_of.Given as goal

abbrev pub invariant-loop-at : goal.invariant-loop-at
invariant-loop-at l = AreMade l.query l.tables l.world l.views.made.items
    × (broken_from l.query l.tables l.world (l.at + 1) (drop l.at l.query.requires_) ≡ broken_from l.query l.tables l.world 1 l.query.requires_)
