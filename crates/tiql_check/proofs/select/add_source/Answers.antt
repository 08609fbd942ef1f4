use Rattle.std.proofs.Common.{rules, ap, ◌∙◌, ◌++◌, ◌∷◌, [], Some}
use Rattle.tiql_check.specs.Scopes.{scope_of}
use Rattle.tiql_check.proofs.Names.{scope_push, source_added}
use Rattle.tiql_check.proofs.select.add_source.Goals as goal

pub returns : goal.returns
returns c = source_added _ _ _ _ c.in_ok-source.source c.in_ok-source.ensures (search rules) c.in_ok-push.ensures.ok
    (ap scope_of c.in_ok-push-2.ensures.items ∙ scope_push _ _ ∙ ap (λ columns. scope_of c.args.before.now.scope.items ++ record { alias = Some c.args.tree.now.alias.name; columns = columns } ∷ []) c.columns_in.ensures)
