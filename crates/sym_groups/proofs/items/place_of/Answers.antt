use Rattle.std.proofs.Common.{sym, ◌∙◌, refl}
use Rattle.sym_groups.proofs.ItemCells.{place_here, place_on, place_end}
use Rattle.sym_groups.proofs.items.place_of.Goals as goal

pub returns-then-is_column : goal.returns-then-is_column
returns-then-is_column c = place_here c.args.at c.args.keys.now c.loop-place.place _ _ c.loop-place-test.true (sym c.is_column.ensures ∙ c.if-is_column.true) c.loop-place.invariant

pub loop-place-preserved : goal.loop-place-preserved
loop-place-preserved c = place_on c.args.at c.args.keys.now c.loop-place.place _ _ c.loop-place-test.true (sym c.is_column.ensures ∙ c.if-is_column.false) c.loop-place.invariant

pub returns : goal.returns
returns c = place_end c.args.at c.args.keys.now c.loop-place.place _ _ c.loop-place-test.false c.loop-place.auto.place-end refl c.loop-place.invariant
