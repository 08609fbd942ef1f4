use Rattle.std.proofs.Common.{map, arith, rules, ap}
use Rattle.sym_rows.specs.Cells.{cell_in, AreRowsOf}
use Rattle.sym_rows.proofs.Makes.{makes_memory}
use Rattle.sym_groups.specs.Groups.{joined, first_cells, rows_of}
use Rattle.sym_groups.specs.Meanings.{some_there, AreRowsWhere}
use Rattle.sym_groups.specs.Together.{lent_rows}
use Rattle.sym_groups.proofs.Listed.{going_init, going_step, going_err, going_memory, going_end, group_kept}
use Rattle.sym_groups.proofs.distinct.joined_rows.Goals as goal

pub loop-group-init : goal.loop-group-init
loop-group-init c = going_init joined c.args.groups.now some_there (λ group v. map (cell_in v) (first_cells group)) c.args.fold.now c.new-made.result c.new-made.ensures

pub joined-requires : goal.joined-requires
joined-requires c = group_kept c.args.fold.now c.loop-group.fold c.args.groups.now c.loop-group.group-index c.group-item.result (map (λ row. row.now) c.as_slice.result.now) (omega arith) c.group-item.is (ap (map (λ row. row.now)) c.as_slice.ensures.value) c.loop-group.invariant.kept c.requires

pub loop-group-preserved : goal.loop-group-preserved
loop-group-preserved c = going_step joined c.args.groups.now some_there (λ group v. map (cell_in v) (first_cells group)) c.args.fold.now c.loop-group.group-index c.group-item.result (map (λ row. row.now) c.as_slice.result.now) c.in_ok-row.row c.loop-group.made c.add.new.made c.loop-group.fold c.joined.new.fold
    (omega arith) c.group-item.is (ap (map (λ row. row.now)) c.as_slice.ensures.value) c.in_ok-add.ensures c.in_ok-row.ensures c.loop-group.invariant

pub returns-in_err-row : goal.returns-in_err-row
returns-in_err-row c = search (
  rules,
  going_err joined c.args.groups.now some_there (λ group v. map (cell_in v) (first_cells group)) c.args.fold.now c.loop-group.group-index c.group-item.result (map (λ row. row.now) c.as_slice.result.now) c.loop-group.made c.loop-group.fold c.joined.new.fold c.in_err-row.field-0.0
      (omega arith) c.group-item.is (ap (map (λ row. row.now)) c.as_slice.ensures.value) c.in_err-row.ensures c.loop-group.invariant,
)

pub returns-in_err-add : goal.returns-in_err-add
returns-in_err-add c = search (
  rules,
  makes_memory AreRowsOf (AreRowsWhere some_there (λ group v. map (cell_in v) (first_cells group)) (map lent_rows c.args.groups.now)) (rows_of joined (map lent_rows c.args.groups.now) c.args.fold.now) c.args.fold.now c.joined.new.fold
      (going_memory joined c.args.groups.now some_there (λ group v. map (cell_in v) (first_cells group)) c.args.fold.now c.loop-group.group-index c.loop-group.made c.group-item.result (map (λ row. row.now) c.as_slice.result.now) c.in_ok-row.row c.loop-group.fold c.joined.new.fold (ap (map (λ row. row.now)) c.as_slice.ensures.value) c.in_ok-row.ensures c.loop-group.invariant),
)

pub returns : goal.returns
returns c = going_end joined c.args.groups.now some_there (λ group v. map (cell_in v) (first_cells group)) c.args.fold.now c.loop-group.group-index c.loop-group.made c.loop-group.fold (omega arith) c.loop-group.invariant
