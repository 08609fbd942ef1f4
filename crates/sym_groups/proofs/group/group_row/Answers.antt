use Rattle.std.proofs.Common.{map, rules, refl}
use Rattle.sym_rows.proofs.Hypos.{rows_kept}
use Rattle.sym_groups.specs.Aggregates.{item_cells}
use Rattle.sym_groups.specs.Groups.{is_sure, group_presence, group_row}
use Rattle.sym_groups.specs.Meanings.{group_there, items_then}
use Rattle.sym_groups.proofs.Listed.{row_none, row_some, row_stop, row_err, presence_same}
use Rattle.sym_groups.proofs.group.group_row.Goals as goal

pub item_cells-requires : goal.item_cells-requires
item_cells-requires c = rows_kept c.args.fold.now c.group_presence.new.fold (map (λ row. row.now) c.args.group.now) c.in_ok-presence.ensures.kept c.requires

pub returns-then-presence-eq-FALSE : goal.returns-then-presence-eq-FALSE
unfolding group_row
returns-then-presence-eq-FALSE c =
    let group = map (λ row. row.now) c.args.group.now in
    row_none (group_there c.args.keys.now c.args.items.now group) (λ v. items_then v c.args.columns.now c.args.keys.now c.args.items.now group) (group_presence (is_sure c.args.keys.now c.args.items.now) group) (item_cells c.args.columns.now c.args.keys.now c.args.items.now group) (group_row c.args.columns.now c.args.keys.now c.args.items.now group)
    c.args.fold.now c.group_presence.new.fold refl c.in_ok-presence.presence c.if-presence-eq-FALSE.true (presence_same c.is_sure.result _ group c.args.fold.now c.group_presence.new.fold _ c.is_sure.ensures c.in_ok-presence.ensures)

pub returns-in_err-presence : goal.returns-in_err-presence
unfolding group_row
returns-in_err-presence c =
    let group = map (λ row. row.now) c.args.group.now in
    search (
      rules,
      row_stop (group_there c.args.keys.now c.args.items.now group) (λ v. items_then v c.args.columns.now c.args.keys.now c.args.items.now group) (group_presence (is_sure c.args.keys.now c.args.items.now) group) (item_cells c.args.columns.now c.args.keys.now c.args.items.now group) (group_row c.args.columns.now c.args.keys.now c.args.items.now group)
          c.args.fold.now c.group_presence.new.fold refl c.in_err-presence.field-0.0 (presence_same c.is_sure.result _ group c.args.fold.now c.group_presence.new.fold _ c.is_sure.ensures c.in_err-presence.ensures),
    )

pub returns-in_err-cells : goal.returns-in_err-cells
unfolding group_row
returns-in_err-cells c =
    let group = map (λ row. row.now) c.args.group.now in
    search (
      rules,
      row_err (group_there c.args.keys.now c.args.items.now group) (λ v. items_then v c.args.columns.now c.args.keys.now c.args.items.now group) (group_presence (is_sure c.args.keys.now c.args.items.now) group) (item_cells c.args.columns.now c.args.keys.now c.args.items.now group) (group_row c.args.columns.now c.args.keys.now c.args.items.now group)
          c.args.fold.now c.group_presence.new.fold refl c.in_ok-presence.presence c.in_err-cells.field-0.0 c.item_cells.new.fold c.if-presence-eq-FALSE.false (presence_same c.is_sure.result _ group c.args.fold.now c.group_presence.new.fold _ c.is_sure.ensures c.in_ok-presence.ensures) c.in_err-cells.ensures,
    )

pub returns : goal.returns
unfolding group_row
returns c =
    let group = map (λ row. row.now) c.args.group.now in
    row_some (group_there c.args.keys.now c.args.items.now group) (λ v. items_then v c.args.columns.now c.args.keys.now c.args.items.now group) (group_presence (is_sure c.args.keys.now c.args.items.now) group) (item_cells c.args.columns.now c.args.keys.now c.args.items.now group) (group_row c.args.columns.now c.args.keys.now c.args.items.now group)
    c.args.fold.now c.group_presence.new.fold refl c.in_ok-presence.presence c.in_ok-cells.cells c.item_cells.new.fold c.if-presence-eq-FALSE.false (presence_same c.is_sure.result _ group c.args.fold.now c.group_presence.new.fold _ c.is_sure.ensures c.in_ok-presence.ensures) c.in_ok-cells.ensures
