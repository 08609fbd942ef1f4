use Rattle.std.proofs.Common.{List, All, map, subst, sym, ap, ap₂, ◌∙◌}
use Rattle.base_kit.specs.declared.value.Value.{Value}
use Rattle.sym_rows.specs.declared.row.SymRow.{SymRow}
use Rattle.sym_rows.specs.Cells.{IsRowOf, AreRowsOf}
use Rattle.sym_groups.specs.Groups.{values_at, together}
use Rattle.sym_groups.specs.Together.{lent_rows}
use Rattle.sym_groups.proofs.Finals.{distinct_made, groups_all, keys_long}
use Rattle.sym_groups.proofs.distinct.distinct_rows.Goals as goal

pub together-requires : goal.together-requires
together-requires c = keys_long (λ row. values_at c.args.fold.now row.cells) c.as_slice.result.now c.as_slice-2.result.now c.as_slice-3.result.now (c.as_slice-2.ensures.value ∙ c.in_ok-keys.ensures) (c.as_slice-3.ensures ∙ sym c.as_slice.ensures)

pub joined_rows-requires : goal.joined_rows-requires
joined_rows-requires c = subst (All (AreRowsOf c.args.fold.now)) (sym (ap (map lent_rows) c.as_slice-4.ensures.value ∙ c.in_ok-groups.ensures))
    (groups_all (IsRowOf c.args.fold.now) c.as_slice-2.result.now c.as_slice-3.result.now (subst (AreRowsOf c.args.fold.now) (sym c.as_slice-3.ensures) c.requires))

pub returns : goal.returns
returns c = distinct_made c.args.rows.now c.args.fold.now c.joined_rows.new.fold (map lent_rows c.as_slice-4.result.now) c.joined_rows.result
    (ap (map lent_rows) c.as_slice-4.ensures.value ∙ c.in_ok-groups.ensures
    ∙ ap₂ (λ (keys : List (List Value)) (rows : List SymRow). together keys rows) (c.as_slice-2.ensures.value ∙ c.in_ok-keys.ensures ∙ ap (map (λ (row : SymRow). values_at c.args.fold.now row.cells)) c.as_slice.ensures) c.as_slice-3.ensures)
    c.requires c.joined_rows.ensures
