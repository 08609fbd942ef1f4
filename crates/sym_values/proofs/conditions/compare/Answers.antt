use Rattle.std.proofs.Common.{map, sym, ◌∙◌, rules}
use Rattle.sym_values.proofs.Truths.{fixed_compare_ok, fixed_compare_err, unknown_compare_ok, unknown_compare_first, unknown_compare_second}
use Rattle.sym_values.proofs.conditions.compare.Goals as goal

pub returns-in_ok-right : goal.returns-in_ok-right
returns-in_ok-right c = unknown_compare_ok (map (λ columns. columns.now) c.args.scope.now) (map (λ row. row.now) c.args.rows.now) c.args.test c.args.one.now c.args.other.now c.args.fold.now c.in_ok-left.left c.in_ok-right.right c.number.new.fold c.number-then-is_either_unknown.new.fold c.compared.new.fold c.compared.result (sym c.is_either_unknown.ensures ∙ c.if-is_either_unknown.true) c.in_ok-left.ensures c.in_ok-right.ensures c.compared.ensures

pub returns-in_err-left : goal.returns-in_err-left
returns-in_err-left c = search (rules, unknown_compare_first (map (λ columns. columns.now) c.args.scope.now) (map (λ row. row.now) c.args.rows.now) c.args.test c.args.one.now c.args.other.now c.args.fold.now c.in_err-left.field-0.0 c.number.new.fold (sym c.is_either_unknown.ensures ∙ c.if-is_either_unknown.true) c.in_err-left.ensures)

pub returns-in_err-right : goal.returns-in_err-right
returns-in_err-right c = search (rules, unknown_compare_second (map (λ columns. columns.now) c.args.scope.now) (map (λ row. row.now) c.args.rows.now) c.args.test c.args.one.now c.args.other.now c.args.fold.now c.in_ok-left.left c.in_err-right.field-0.0 c.number.new.fold c.number-then-is_either_unknown.new.fold (sym c.is_either_unknown.ensures ∙ c.if-is_either_unknown.true) c.in_ok-left.ensures c.in_err-right.ensures)

pub returns-in_err-holds : goal.returns-in_err-holds
returns-in_err-holds c = search (rules, fixed_compare_err (map (λ columns. columns.now) c.args.scope.now) (map (λ row. row.now) c.args.rows.now) c.args.test c.args.one.now c.args.other.now c.args.fold.now _ (sym c.is_either_unknown.ensures ∙ c.if-is_either_unknown.false) (sym c.compare_plain.ensures ∙ c.in_err-holds.was))

pub returns-in_ok-holds : goal.returns-in_ok-holds
returns-in_ok-holds c = fixed_compare_ok (map (λ columns. columns.now) c.args.scope.now) (map (λ row. row.now) c.args.rows.now) c.args.test c.args.one.now c.args.other.now c.args.fold.now c.in_ok-holds.holds c.truth.result (sym c.is_either_unknown.ensures ∙ c.if-is_either_unknown.false) (sym c.compare_plain.ensures ∙ c.in_ok-holds.was) c.truth.ensures.place c.truth.ensures.truth
