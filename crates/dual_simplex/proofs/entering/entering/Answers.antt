use Rattle.std.proofs.Common.{◌≡◌, ◌+◌, arith}
use Rattle.dict_pivot.specs.Dictionaries.{table}
use Rattle.dual_simplex.proofs.Chosen.{chosen_last}
use Rattle.dual_simplex.proofs.entering.entering.Goals as goal

pub loop-column-init : goal.loop-column-init
loop-column-init c = λ j s l. absurd (omega (arith, s, l))

pub loop-column-preserved : goal.loop-column-preserved
loop-column-preserved c = c.lesser-least.ensures

pub returns : goal.returns
returns c =
    let e : c.loop-column.column ≡ (table c.args.dict.now).width + 1 = omega (arith, c.loop-column-test.false, c.loop-column.auto.column-end, c.width-column-end.ensures.width, c.width-column-end.ensures.dictionary.width) in
    chosen_last (table c.args.dict.now) c.args.row c.loop-column.column c.loop-column.least e c.loop-column.invariant
