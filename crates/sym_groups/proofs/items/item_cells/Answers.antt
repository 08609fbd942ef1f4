use Rattle.std.proofs.Common.{◌+◌, All, map, refl, arith, rules}
use Rattle.sym_rows.specs.Cells.{IsCellOf}
use Rattle.sym_rows.specs.Hypos.{is_unknown_in}
use Rattle.sym_rows.proofs.Each.{going_init, going_step, going_err, going_end}
use Rattle.sym_rows.proofs.Hypos.{cell_kept, rows_kept}
use Rattle.prov_fold.specs.Meanings.{values_in}
use Rattle.sym_groups.specs.Aggregates.{item_cell, item_cells, argument_place}
use Rattle.sym_groups.specs.Meanings.{AreItemsThen, IsItemThen}
use Rattle.sym_groups.proofs.ItemCells.{ItemsSo, items_step, items_end, place_none, place_step, cell_same, few_places}
use Rattle.sym_groups.proofs.items.item_cells.Goals as goal

pub loop-at-init : goal.loop-at-init
loop-at-init c =
    let group = map (λ row. row.now) c.args.group.now in (
      going_init (λ i item. item_cell (is_unknown_in c.args.columns.now i) c.args.keys.now (argument_place c.args.keys.now c.args.items.now i) group item) c.args.items.now IsCellOf (ItemsSo c.args.columns.now c.args.keys.now c.args.items.now group) c.args.fold.now c.new-made.result c.new-made.ensures (λ h world later. refl),
      place_none c.args.keys.now c.args.items.now c.first_place-place.result c.first_place-place.ensures.value,
    )

pub item_cell-requires : goal.item_cell-requires
item_cell-requires c = rows_kept c.args.fold.now c.loop-at.fold (map (λ row. row.now) c.args.group.now) c.loop-at.invariant.0.kept c.requires

pub overflow_add-place : goal.overflow_add-place
overflow_add-place c =
    let next = place_step c.args.keys.now c.args.items.now c.loop-at.at c.index-items-at.result c.loop-at.place c.argument_count.result c.loop-at-test.true c.index-items-at.is c.loop-at.invariant.1 c.argument_count.ensures.value in
    let few = few_places c.args.keys.now c.args.items.now (c.loop-at.at + 1) in
    let room = c.first_place-place.ensures.room in
    let value = c.first_place-place.ensures.value in
    omega (arith, next, few, room, value)

pub loop-at-preserved : goal.loop-at-preserved
loop-at-preserved c =
    let group = map (λ row. row.now) c.args.group.now in (
      going_step (λ i item. item_cell (is_unknown_in c.args.columns.now i) c.args.keys.now (argument_place c.args.keys.now c.args.items.now i) group item) c.args.items.now IsCellOf (ItemsSo c.args.columns.now c.args.keys.now c.args.items.now group) c.args.fold.now c.loop-at.at c.index-items-at.result c.in_ok-item_cell.field-0 c.loop-at.made c.push.new.self c.loop-at.fold c.item_cell.new.fold
          (IsItemThen (is_unknown_in c.args.columns.now c.loop-at.at) c.args.keys.now (argument_place c.args.keys.now c.args.items.now c.loop-at.at) group c.index-items-at.result) c.loop-at-test.true c.index-items-at.is c.in_ok-push.ensures.ok
          (λ cell kept is. cell_kept c.loop-at.fold c.item_cell.new.fold cell kept is)
          (λ h world later so one. items_step c.args.columns.now c.args.keys.now c.args.items.now group c.loop-at.at c.index-items-at.result c.loop-at.made c.in_ok-item_cell.field-0 world (values_in h world) c.loop-at-test.true c.index-items-at.is so one)
          (cell_same c.is_unknown_in-unknown.result _ c.loop-at.place _ c.args.keys.now group c.index-items-at.result c.loop-at.fold c.item_cell.new.fold _ c.is_unknown_in-unknown.ensures c.loop-at.invariant.1 c.in_ok-item_cell.ensures) c.loop-at.invariant.0,
      place_step c.args.keys.now c.args.items.now c.loop-at.at c.index-items-at.result c.loop-at.place c.argument_count.result c.loop-at-test.true c.index-items-at.is c.loop-at.invariant.1 c.argument_count.ensures.value,
    )

pub returns-in_err-item_cell : goal.returns-in_err-item_cell
unfolding item_cells
returns-in_err-item_cell c =
    let group = map (λ row. row.now) c.args.group.now in
    search (
      rules,
      going_err (λ i item. item_cell (is_unknown_in c.args.columns.now i) c.args.keys.now (argument_place c.args.keys.now c.args.items.now i) group item) c.args.items.now IsCellOf (ItemsSo c.args.columns.now c.args.keys.now c.args.items.now group) c.args.fold.now c.loop-at.at c.index-items-at.result c.loop-at.made c.loop-at.fold c.item_cell.new.fold
          (IsItemThen (is_unknown_in c.args.columns.now c.loop-at.at) c.args.keys.now (argument_place c.args.keys.now c.args.items.now c.loop-at.at) group c.index-items-at.result) (λ g made. All (IsCellOf g) made) (AreItemsThen c.args.columns.now c.args.keys.now c.args.items.now group) c.in_err-item_cell.field-0.0 c.loop-at-test.true c.index-items-at.is
          (cell_same c.is_unknown_in-unknown.result _ c.loop-at.place _ c.args.keys.now group c.index-items-at.result c.loop-at.fold c.item_cell.new.fold _ c.is_unknown_in-unknown.ensures c.loop-at.invariant.1 c.in_err-item_cell.ensures) c.loop-at.invariant.0,
    )

pub returns : goal.returns
unfolding item_cells
returns c =
    let group = map (λ row. row.now) c.args.group.now in
    going_end (λ i item. item_cell (is_unknown_in c.args.columns.now i) c.args.keys.now (argument_place c.args.keys.now c.args.items.now i) group item) c.args.items.now IsCellOf (ItemsSo c.args.columns.now c.args.keys.now c.args.items.now group) c.args.fold.now c.loop-at.at c.loop-at.made c.loop-at.fold (AreItemsThen c.args.columns.now c.args.keys.now c.args.items.now group) c.loop-at-test.false
    (λ h world later so. items_end c.args.columns.now c.args.keys.now c.args.items.now group c.loop-at.at c.loop-at.made world (values_in h world) c.loop-at-test.false so) c.loop-at.invariant.0
