use Rattle.std.proofs.Common.{map, arith, rules, ap}
use Rattle.sym_rows.specs.Cells.{AreRowsOf}
use Rattle.sym_rows.proofs.Makes.{makes_memory}
use Rattle.sym_groups.specs.Groups.{group_row, rows_of}
use Rattle.sym_groups.specs.Meanings.{group_there, items_then, AreRowsWhere}
use Rattle.sym_groups.specs.Together.{lent_rows}
use Rattle.sym_groups.proofs.Listed.{going_init, going_step, going_err, going_memory, going_end, group_kept}
use Rattle.sym_groups.proofs.group.rows_of_groups.Goals as goal

pub loop-group-init : goal.loop-group-init
loop-group-init c = going_init (group_row c.args.columns.now c.args.keys.now c.args.items.now) c.args.groups.now (group_there c.args.keys.now c.args.items.now) (λ group v. items_then v c.args.columns.now c.args.keys.now c.args.items.now group) c.args.fold.now c.new-made.result c.new-made.ensures

pub group_row-requires : goal.group_row-requires
group_row-requires c = group_kept c.args.fold.now c.loop-group.fold c.args.groups.now c.loop-group.group-index c.group-item.result (map (λ row. row.now) c.as_slice.result.now) (omega arith) c.group-item.is (ap (map (λ row. row.now)) c.as_slice.ensures.value) c.loop-group.invariant.kept c.requires

pub loop-group-preserved : goal.loop-group-preserved
loop-group-preserved c = going_step (group_row c.args.columns.now c.args.keys.now c.args.items.now) c.args.groups.now (group_there c.args.keys.now c.args.items.now) (λ group v. items_then v c.args.columns.now c.args.keys.now c.args.items.now group) c.args.fold.now c.loop-group.group-index c.group-item.result (map (λ row. row.now) c.as_slice.result.now) c.in_ok-row.row c.loop-group.made c.add.new.made c.loop-group.fold c.group_row.new.fold
    (omega arith) c.group-item.is (ap (map (λ row. row.now)) c.as_slice.ensures.value) c.in_ok-add.ensures c.in_ok-row.ensures c.loop-group.invariant

pub returns-in_err-row : goal.returns-in_err-row
returns-in_err-row c = search (
  rules,
  going_err (group_row c.args.columns.now c.args.keys.now c.args.items.now) c.args.groups.now (group_there c.args.keys.now c.args.items.now) (λ group v. items_then v c.args.columns.now c.args.keys.now c.args.items.now group) c.args.fold.now c.loop-group.group-index c.group-item.result (map (λ row. row.now) c.as_slice.result.now) c.loop-group.made c.loop-group.fold c.group_row.new.fold c.in_err-row.field-0.0
      (omega arith) c.group-item.is (ap (map (λ row. row.now)) c.as_slice.ensures.value) c.in_err-row.ensures c.loop-group.invariant,
)

pub returns-in_err-add : goal.returns-in_err-add
returns-in_err-add c = search (
  rules,
  makes_memory AreRowsOf (AreRowsWhere (group_there c.args.keys.now c.args.items.now) (λ group v. items_then v c.args.columns.now c.args.keys.now c.args.items.now group) (map lent_rows c.args.groups.now)) (rows_of (group_row c.args.columns.now c.args.keys.now c.args.items.now) (map lent_rows c.args.groups.now) c.args.fold.now) c.args.fold.now c.group_row.new.fold
      (going_memory (group_row c.args.columns.now c.args.keys.now c.args.items.now) c.args.groups.now (group_there c.args.keys.now c.args.items.now) (λ group v. items_then v c.args.columns.now c.args.keys.now c.args.items.now group) c.args.fold.now c.loop-group.group-index c.loop-group.made c.group-item.result (map (λ row. row.now) c.as_slice.result.now) c.in_ok-row.row c.loop-group.fold c.group_row.new.fold (ap (map (λ row. row.now)) c.as_slice.ensures.value) c.in_ok-row.ensures c.loop-group.invariant),
)

pub returns : goal.returns
returns c = going_end (group_row c.args.columns.now c.args.keys.now c.args.items.now) c.args.groups.now (group_there c.args.keys.now c.args.items.now) (λ group v. items_then v c.args.columns.now c.args.keys.now c.args.items.now group) c.args.fold.now c.loop-group.group-index c.loop-group.made c.loop-group.fold (omega arith) c.loop-group.invariant
