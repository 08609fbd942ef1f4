use Rattle.std.proofs.Common.{◌≡◌, List, map, subst, take}
use Rattle.std.specs.Prelude.{IfOk}
use Rattle.sym_rows.specs.declared.row.SymRow.{SymRow}
use Rattle.sym_groups.specs.Groups.{values_at}
use Rattle.sym_groups.specs.Together.{lent_rows}
use Rattle.sym_groups.proofs.Finals.{groups_none, groups_some, keys_long}
use Rattle.sym_groups.proofs.group.groups_in.Goals as goal
use Rattle.std.proofs.Common.{◌∙◌, refl}

pub returns-then-count-eq0 : goal.returns-then-count-eq0
returns-then-count-eq0 c = subst (λ (l : List (List SymRow)). IfOk c.whole.result (λ made. map lent_rows made.items ≡ l)) (groups_none c.args.count c.args.fold.now c.args.rows.now c.if-count-eq0.true) c.whole.ensures

pub together-requires : goal.together-requires
together-requires c = keys_long (λ row. values_at c.args.fold.now (take c.args.count row.cells)) c.args.rows.now c.as_slice.result.now c.args.rows.now (c.as_slice.ensures.value ∙ c.in_ok-keys.ensures) refl

pub returns : goal.returns
returns c = subst (λ (l : List (List SymRow)). IfOk c.together.result (λ made. map lent_rows made.items ≡ l)) (groups_some c.args.count c.args.fold.now c.args.rows.now c.as_slice.result.now c.if-count-eq0.false (c.as_slice.ensures.value ∙ c.in_ok-keys.ensures)) c.together.ensures
