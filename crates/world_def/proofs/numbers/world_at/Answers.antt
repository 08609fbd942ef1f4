use Rattle.std.proofs.Common.{sym, subst, ◌≤◌, length, List, rules}
use Rattle.std.specs.Prelude.{All}
use Rattle.world_def.specs.declared.world.WorldTable.{WorldTable}
use Rattle.world_def.proofs.NumberWalks.{tables_small}
use Rattle.world_def.proofs.Numbered.{world_told}
use Rattle.world_def.proofs.numbers.world_at.Goals as goal

pub returns-clause-small : goal.returns-clause-small
returns-clause-small c = subst (λ (made : List WorldTable). All (λ (table : WorldTable). length table.rows ≤ 200000) made) (sym c.in_ok-tables_at.ensures) (tables_small c.args.tables.now c.requires.small.rows 0 _ _ _)

pub returns-clause-world : goal.returns-clause-world
returns-clause-world c = world_told c.args.query.now c.args.tables.now c.args.columns.now c.args.numbers.now (record { tables = c.in_ok-tables_at.field-0 }) (search rules)
