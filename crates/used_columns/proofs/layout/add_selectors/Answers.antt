use Rattle.bool_encode.specs.declared.stand.Stand.TheVariants as stand
use Rattle.used_columns.proofs.RangeLemmas.{map_more}
use Rattle.used_columns.proofs.layout.add_selectors.Goals as goal

pub loop-pair-preserved : goal.loop-pair-preserved
loop-pair-preserved c = map_more (λ pair. stand.Selector c.args.id pair) c.loop-pair.pair c.args.stands.now c.loop-pair.stands c.push.new.self c.in_ok-push.ensures.ok c.loop-pair.invariant
