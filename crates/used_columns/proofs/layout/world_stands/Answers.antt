use Rattle.std.proofs.Common.{[]}
use Rattle.bool_encode.specs.declared.stand.Stand.TheVariants as stand
use Rattle.used_columns.proofs.RangeLemmas.{map_more}
use Rattle.used_columns.proofs.layout.world_stands.Goals as goal

pub loop-number-preserved : goal.loop-number-preserved
loop-number-preserved c = map_more (λ number. stand.World number) c.loop-number.number [] c.loop-number.stands c.push.new.self c.in_ok-push.ensures.ok c.loop-number.invariant
