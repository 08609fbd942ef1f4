use Rattle.std.proofs.Common.{arith, sym, ◌∙◌}
use Rattle.tiql_check.proofs.Names.{gives-is, none_here, first_here, second_here, at_end}
use Rattle.tiql_check.proofs.scope.resolve.Goals as goal

pub loop-source-preserved-in_default : goal.loop-source-preserved-in_default
loop-source-preserved-in_default c = none_here c.args.column.now c.args.scope.now _ _ _ _ (omega arith) c.index-scope-source.is (sym c.in_default.is ∙ c.in_ok-found.ensures.found) c.loop-source.invariant

pub returns-then-is_some : goal.returns-then-is_some
returns-then-is_some c = λ ne. second_here c.args.column.now c.args.scope.now _ _ c.in-Some.found _ (omega arith) c.index-scope-source.is (sym c.in-Some.is ∙ c.in_ok-found.ensures.found) (sym c.is_some.ensures ∙ c.if-is_some.true) c.loop-source.invariant

pub loop-source-preserved : goal.loop-source-preserved
loop-source-preserved c = first_here c.args.column.now c.args.scope.now _ _ _ c.in-Some.found _ _ c.in_ok-number_of.ensures.number (omega arith) c.index-scope-source.is (sym c.in-Some.is ∙ c.in_ok-found.ensures.found) (sym c.is_some.ensures ∙ c.if-is_some.false) c.loop-source.invariant

pub returns : goal.returns
returns c = gives-is _ _ (at_end c.args.column.now c.args.scope.now _ _ (omega arith) c.loop-source.invariant ∙ sym c.ok_or.ensures.value)
