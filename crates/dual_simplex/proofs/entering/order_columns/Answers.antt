use Rattle.std.proofs.Common.{refl, sym, ◌∙◌, arith}
use Rattle.dict_pivot.specs.Dictionaries.{table}
use Rattle.dual_simplex.specs.Path.{divided}
use Rattle.dual_simplex.proofs.Chosen.{columns_less, columns_greater, same_more}
use Rattle.dual_simplex.proofs.entering.order_columns.Goals as goal

pub loop-i-init : goal.loop-i-init
loop-i-init c = λ k l. absurd (omega (arith, l))

pub loop-i-preserved : goal.loop-i-preserved
loop-i-preserved c = same_more (divided (table c.args.dict.now) c.args.row c.args.one) (divided (table c.args.dict.now) c.args.row c.args.other) c.loop-i.i c.loop-i.invariant (sym c.order_at.ensures ∙ c.in-Equal.is)

pub returns-in-Less : goal.returns-in-Less
returns-in-Less c = columns_less c.args.dict.now.height c.loop-i.i (divided (table c.args.dict.now) c.args.row c.args.one) (divided (table c.args.dict.now) c.args.row c.args.other) _ _ (omega (arith, c.loop-i-test.true, c.height-i-end.ensures.height)) c.loop-i.invariant refl refl (sym c.order_at.ensures ∙ c.in-Less.is)

pub returns-in-Greater : goal.returns-in-Greater
returns-in-Greater c = columns_greater c.args.dict.now.height c.loop-i.i (divided (table c.args.dict.now) c.args.row c.args.one) (divided (table c.args.dict.now) c.args.row c.args.other) _ _ (omega (arith, c.loop-i-test.true, c.height-i-end.ensures.height)) c.loop-i.invariant refl refl (sym c.order_at.ensures ∙ c.in-Greater.is)

pub returns : goal.returns
returns c = λ i l. c.loop-i.invariant i (omega (arith, l, c.loop-i-test.false, c.height-i-end.ensures.height))
