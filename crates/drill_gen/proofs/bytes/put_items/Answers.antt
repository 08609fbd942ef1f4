use Rattle.drill_gen.proofs.ItemsText.{items_text_more}
use Rattle.drill_gen.proofs.bytes.put_items.Goals as goal

pub loop-before-preserved : goal.loop-before-preserved
loop-before-preserved c = items_text_more _ _ _ _ c.loop-before.invariant c.in_ok-put_item.ensures
