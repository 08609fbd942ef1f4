use Rattle.std.proofs.Common.{rules}
use Rattle.tiql_check.specs.Scopes.{Seen, seen, scope_of}
use Rattle.tiql_check.specs.Selects.{is_alias}
use Rattle.tiql_check.proofs.Names.{list_any-map}
use Rattle.tiql_check.proofs.select.has_alias.Goals as goal

pub returns : goal.returns
unfolding scope_of
returns c = rw (list_any-map (λ (it : Seen). is_alias c.args.name.now it.alias) seen c.args.scope.now) (search rules)
