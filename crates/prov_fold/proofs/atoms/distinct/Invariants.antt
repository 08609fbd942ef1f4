use Rattle.std.proofs.Common.{◌≡◌, take, filter}
use Rattle.std.specs.List.{list_any}
use Rattle.std.specs.HashSet.{contains}
use Rattle.prov_arena.specs.declared.part.Pair.{Pair}
use Rattle.prov_fold.specs.Rules.{first_pairs, is_same_key, is_same_pair}
use Rattle.prov_fold.proofs.PairLemmas.{holds_some}
use Rattle.prov_fold.proofs.atoms.distinct.Given as goal

abbrev pub invariant-loop-pair : goal.invariant-loop-pair
invariant-loop-pair l = record {
  listed : l.some.items ≡ first_pairs (filter holds_some (take l.pair-index l.pairs));
  known : (q : Pair) → contains is_same_key l.seen (q.truth, q.number) ≡ list_any (is_same_pair q) (filter holds_some (take l.pair-index l.pairs));
}
