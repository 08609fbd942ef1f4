use Rattle.std.proofs.Common.{◌≡◌, map}
use Rattle.std.specs.List.{range_with_len}
use Rattle.bool_encode.specs.declared.stand.Stand.TheVariants as stand
use Rattle.used_columns.proofs.layout.world_stands.Given as goal

abbrev pub invariant-loop-number : goal.invariant-loop-number
invariant-loop-number l = l.stands ≡ map (λ number. stand.World number) (range_with_len 0 l.number)
