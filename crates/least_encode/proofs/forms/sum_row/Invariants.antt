use Rattle.std.proofs.Common.{◌≡◌, neg_ℤ, ◌∷◌, ◌++◌, drop}
use Rattle.bool_encode.specs.Tables.{times}
use Rattle.cmp_encode.specs.Tables.{selectors}
use Rattle.least_encode.proofs.forms.sum_row.Given as goal

abbrev pub invariant-loop-pair : goal.invariant-loop-pair
invariant-loop-pair l = l.pieces.items ++ selectors l.sign l.id l.pair (drop l.pair l.pairs) ≡ times (neg_ℤ l.sign) l.some_pair ∷ selectors l.sign l.id 0 l.pairs
