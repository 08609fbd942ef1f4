use Rattle.std.proofs.Common.{List, All, map, length, subst, sym, ap, ◌∙◌}
use Rattle.tiql_query.specs.declared.relation.Column.{Column}
use Rattle.sym_rows.specs.declared.row.SymRow.{SymRow}
use Rattle.sym_rows.specs.Cells.{IsRowOf, AreRowsOf}
use Rattle.sym_rows.specs.Walks.{Makes}
use Rattle.sym_groups.specs.Groups.{groups_in, group_rows}
use Rattle.sym_groups.specs.Meanings.{AreGroupsOf, AreGroups}
use Rattle.sym_groups.specs.Together.{lent_rows}
use Rattle.sym_groups.proofs.Finals.{group_made, groups_in_all}
use Rattle.sym_groups.proofs.group.group_rows.Goals as goal

pub groups_in-requires : goal.groups_in-requires
groups_in-requires c = subst (AreRowsOf c.args.fold.now) (sym c.as_slice.ensures) c.requires

pub rows_of_groups-requires : goal.rows_of_groups-requires
rows_of_groups-requires c = subst (All (AreRowsOf c.args.fold.now)) (sym (ap (map lent_rows) c.as_slice-3.ensures.value ∙ c.in_ok-groups.ensures))
    (groups_in_all (IsRowOf c.args.fold.now) (length c.keys_of-keys.result.now) c.args.fold.now c.as_slice.result.now (subst (AreRowsOf c.args.fold.now) (sym c.as_slice.ensures) c.requires))

pub returns : goal.returns
returns c =
    subst (λ (columns : List Column). Makes (group_rows columns c.args.select.now c.args.rows.now c.args.fold.now) (AreGroupsOf columns c.args.select.now c.args.rows.now) (AreGroups columns c.args.select.now c.args.rows.now) c.args.fold.now c.rows_of_groups.result c.rows_of_groups.new.fold) c.as_slice-2.ensures
    (group_made c.as_slice-2.result.now c.args.select.now c.args.rows.now c.args.fold.now c.rows_of_groups.new.fold c.keys_of-keys.result.now c.as_slice-items.result.now (map lent_rows c.as_slice-3.result.now) c.keys_of-keys.ensures c.as_slice-items.ensures c.rows_of_groups.result
    (ap (map lent_rows) c.as_slice-3.ensures.value ∙ c.in_ok-groups.ensures ∙ ap (λ (rows : List SymRow). groups_in (length c.keys_of-keys.result.now) c.args.fold.now rows) c.as_slice.ensures) c.rows_of_groups.ensures)
