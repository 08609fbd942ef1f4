use Rattle.sym_values.proofs.Comparing.{of_test, compared_less, compared_most, compared_more, compared_least, compared_equal, compared_unequal}
use Rattle.sym_values.proofs.conditions.compared.Goals as goal

pub returns-in_ok-most-in-Eq : goal.returns-in_ok-most-in-Eq
returns-in_ok-most-in-Eq c = of_test c.args.test _ c.args.one c.args.other c.args.fold.now _ _ c.in-Eq.is (compared_equal c.args.one c.args.other c.args.fold.now c.in_ok-least-in-Eq.least c.in_ok-most-in-Eq.most _ _ _ _ c.in_ok-least-in-Eq.ensures c.in_ok-most-in-Eq.ensures c.and.ensures)

pub returns-in_ok-below-in-Ne : goal.returns-in_ok-below-in-Ne
returns-in_ok-below-in-Ne c = of_test c.args.test _ c.args.one c.args.other c.args.fold.now _ _ c.in-Ne.is (compared_unequal c.args.one c.args.other c.args.fold.now c.in_ok-above-in-Ne.above c.in_ok-below-in-Ne.below _ _ _ _ c.in_ok-above-in-Ne.ensures c.in_ok-below-in-Ne.ensures c.or.ensures)

pub returns-in-Lt : goal.returns-in-Lt
returns-in-Lt c = of_test c.args.test _ c.args.one c.args.other c.args.fold.now _ _ c.in-Lt.is (compared_less c.args.one c.args.other c.args.fold.now _ _ c.at_least-in-Lt.ensures)

pub returns-in-Le : goal.returns-in-Le
returns-in-Le c = of_test c.args.test _ c.args.one c.args.other c.args.fold.now _ _ c.in-Le.is (compared_most c.args.one c.args.other c.args.fold.now _ _ c.at_least-in-Le.ensures)

pub returns-in-Gt : goal.returns-in-Gt
returns-in-Gt c = of_test c.args.test _ c.args.one c.args.other c.args.fold.now _ _ c.in-Gt.is (compared_more c.args.one c.args.other c.args.fold.now _ _ c.at_least-in-Gt.ensures)

pub returns-in-Ge : goal.returns-in-Ge
returns-in-Ge c = of_test c.args.test _ c.args.one c.args.other c.args.fold.now _ _ c.in-Ge.is (compared_least c.args.one c.args.other c.args.fold.now _ _ c.at_least-in-Ge.ensures)
