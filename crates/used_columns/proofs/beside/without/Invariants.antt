use Rattle.std.proofs.Common.{◌≡◌, ℕ, ◌==◌, not, nat_eq, take, filter}
use Rattle.std.specs.List.{list_any}
use Rattle.std.specs.HashSet.{contains}
use Rattle.prov_fold.specs.Rules.{firsts}
use Rattle.used_columns.proofs.beside.without.Given as goal

abbrev pub invariant-loop-kid : goal.invariant-loop-kid
invariant-loop-kid l = record {
  kept : l.some.items ≡ firsts (filter (λ kid. not (kid == l.unit)) (take l.kid-index l.kids));
  known : (q : ℕ) → contains nat_eq l.seen q ≡ list_any (nat_eq q) (filter (λ kid. not (kid == l.unit)) (take l.kid-index l.kids));
}
