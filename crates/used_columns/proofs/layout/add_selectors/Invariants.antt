use Rattle.std.proofs.Common.{◌≡◌, ◌++◌, map}
use Rattle.std.specs.List.{range_with_len}
use Rattle.bool_encode.specs.declared.stand.Stand.TheVariants as stand
use Rattle.used_columns.proofs.layout.add_selectors.Given as goal

abbrev pub invariant-loop-pair : goal.invariant-loop-pair
invariant-loop-pair l = l.stands ≡ l.initial.stands ++ map (λ pair. stand.Selector l.id pair) (range_with_len 0 l.pair)
