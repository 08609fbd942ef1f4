use Rattle.std.proofs.Common.{◌≡◌, drop}
use Rattle.tiql_check.specs.Known.{relation_named}
use Rattle.tiql_check.proofs.known.find_relation.Given as goal

abbrev pub invariant-loop-relation : goal.invariant-loop-relation
invariant-loop-relation l = relation_named l.name (drop l.relation-index l.relations) ≡ relation_named l.name l.relations
