use Rattle.std.proofs.Common.{rules, ap, ◌∙◌, List, ℕ, ◌++◌, ◌∷◌, []}
use Rattle.sym_goals.proofs.Requirements.{one_of_ok, one_of_stop, one_of_memory}
use Rattle.sym_goals.proofs.roots.one_of.Goals as goal

pub returns-in_err-root : goal.returns-in_err-root
returns-in_err-root c = search (rules, one_of_stop c.args.parts.now c.args.fold.now c.or.new.fold c.in_err-root.field-0.0 c.in_err-root.ensures)

pub returns-in_err-push : goal.returns-in_err-push
returns-in_err-push c = search (rules, one_of_memory c.args.parts.now c.args.fold.now c.or.new.fold c.in_ok-root.root c.in_ok-root.ensures)

pub returns : goal.returns
returns c = one_of_ok c.args.parts.now c.args.fold.now c.or.new.fold c.in_ok-root.root c.push.new.self (c.in_ok-push.ensures.ok ∙ ap (λ (l : List ℕ). l ++ c.in_ok-root.root ∷ []) c.new-roots.ensures) c.in_ok-root.ensures
