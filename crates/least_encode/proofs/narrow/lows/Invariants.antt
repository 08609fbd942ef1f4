use Rattle.std.proofs.Common.{◌≡◌, ◌++◌, drop, map}
use Rattle.prov_arena.specs.declared.part.Pair.{Pair}
use Rattle.prov_fold.specs.Graphs.{range}
use Rattle.least_encode.proofs.narrow.lows.Given as goal

abbrev pub invariant-loop-pair : goal.invariant-loop-pair
invariant-loop-pair l = l.ends.items ++ map (λ (p : Pair). (range l.fold p.number).lo) (drop l.pair-index l.pairs) ≡ map (λ (p : Pair). (range l.fold p.number).lo) l.pairs
