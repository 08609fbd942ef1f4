-- queries whose grouped selects list aggregates and columns of GROUP BY alone
use Rattle.std.specs.Prelude.{◌≡◌, List, Option, Some, None, All, Any}
use Rattle.tiql_query.specs.declared.expression.At.{At}
use Rattle.tiql_query.specs.declared.expression.Expr.TheVariants.{Column}
use Rattle.tiql_query.specs.declared.view.Item.{Item}
use Rattle.tiql_query.specs.declared.view.Item.TheVariants as items
use Rattle.tiql_query.specs.declared.view.Select.{Select}
use Rattle.tiql_query.specs.declared.view.QView.{QView}
use Rattle.tiql_query.specs.declared.query.Query.{Query}

-- an item of a select with these columns of GROUP BY is an aggregate or one of them, and an item of a plain select is no aggregate
abbrev pub FitsGroup : Option (List At) → Item → Type 0
FitsGroup None (items.Plain part) = Unit {0}
FitsGroup None other = ⊥
FitsGroup (Some group) (items.Plain part) = Any (λ at. part ≡ Column at) group
FitsGroup (Some group) other = Unit {0}

-- likewise of each item of a select
abbrev pub IsGroupedRightly : Select → Type 0
IsGroupedRightly select = All (FitsGroup select.group) select.items

-- likewise of each select of each view
unfoldable pub AreGrouped : Query → Type 0
AreGrouped query = All (λ (view : QView). All IsGroupedRightly view.arms) query.views
