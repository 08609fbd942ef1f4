use Rattle.std.proofs.Common.{◌≡◌, ◌++◌, drop, map}
use Rattle.prov_arena.specs.declared.part.Pair.{Pair}
use Rattle.used_columns.proofs.beside.truths.Given as goal

abbrev pub invariant-loop-pair : goal.invariant-loop-pair
invariant-loop-pair l = l.truths.items ++ map (λ (p : Pair). p.truth) (drop l.pair-index l.pairs) ≡ map (λ (p : Pair). p.truth) l.pairs
