use Rattle.std.proofs.Common.{◌≡◌, rules, sym, subst, refl, ◌<◌, ◌≤◌, List, length, get_or}
use Rattle.base_kit.specs.declared.value.Value.{Value}
use Rattle.sym_rows.specs.Cells.{IsCellOf}
use Rattle.sym_rows.specs.Hypos.{cells_of, cell_by, column_of, is_unknown_in, AreCellsThen, IsCellThen, HasFoundSides}
use Rattle.sym_rows.proofs.Each.{going_init, going_step, going_err, going_end}
use Rattle.sym_rows.proofs.Hypos.{AreCellsOf, CellsSo, cell_kept, cell_same, cells_step, cells_end, found_sides}
use Rattle.sym_rows.proofs.hypo.cells_of.Goals as goal

pub loop-place-init : goal.loop-place-init
loop-place-init c =
    going_init (λ place value. cell_by (is_unknown_in c.args.columns.now place) value (column_of place c.args.first c.args.chosen.now)) c.args.base.now IsCellOf (CellsSo c.args.columns.now c.args.first c.args.chosen.now c.args.base.now) c.args.fold.now c.new-made.result c.new-made.ensures
    (λ h world later there. refl)

pub loop-place-preserved : goal.loop-place-preserved
loop-place-preserved c =
    let e = c.as_slice-value-items.ensures in
    let i = c.loop-place.place in
    let lt : c.loop-place.place < length c.args.base.now = subst (λ (l : List Value). c.loop-place.place < length l) e c.loop-place-test.true in
    let is : c.value-item.result ≡ get_or c.args.base.now c.loop-place.place c.value-item.result = subst (λ (l : List Value). c.value-item.result ≡ get_or l c.loop-place.place c.value-item.result) e c.value-item.is in
    going_step (λ place value. cell_by (is_unknown_in c.args.columns.now place) value (column_of place c.args.first c.args.chosen.now)) c.args.base.now IsCellOf (CellsSo c.args.columns.now c.args.first c.args.chosen.now c.args.base.now) c.args.fold.now
    i c.value-item.result c.in_ok-cell_by.field-0 c.loop-place.made c.push.new.self c.loop-place.fold c.cell_by.new.fold
    (IsCellThen (is_unknown_in c.args.columns.now c.loop-place.place) c.value-item.result (column_of c.loop-place.place c.args.first c.args.chosen.now)) lt is c.in_ok-push.ensures.ok
    (λ cell kept good. cell_kept c.loop-place.fold c.cell_by.new.fold cell kept good)
    (λ h world later so one. cells_step c.args.columns.now c.args.first c.args.chosen.now c.args.base.now c.loop-place.place c.value-item.result c.loop-place.made c.in_ok-cell_by.field-0 world _ lt is so one)
    (cell_same _ _ c.value-item.result _ _ c.loop-place.fold c.cell_by.new.fold _ c.is_unknown_in-unknown.ensures c.column_of-found.ensures c.in_ok-cell_by.ensures)
    c.loop-place.invariant

pub cell_by-requires : goal.cell_by-requires
cell_by-requires c = subst HasFoundSides (sym c.column_of-found.ensures) (found_sides c.loop-place.place c.args.first c.args.chosen.now c.requires.sides)

pub returns-in_err-cell_by : goal.returns-in_err-cell_by
unfolding cells_of
returns-in_err-cell_by c =
    let e = c.as_slice-value-items.ensures in
    let lt : c.loop-place.place < length c.args.base.now = subst (λ (l : List Value). c.loop-place.place < length l) e c.loop-place-test.true in
    let is : c.value-item.result ≡ get_or c.args.base.now c.loop-place.place c.value-item.result = subst (λ (l : List Value). c.value-item.result ≡ get_or l c.loop-place.place c.value-item.result) e c.value-item.is in
    search (
      rules,
      going_err (λ place value. cell_by (is_unknown_in c.args.columns.now place) value (column_of place c.args.first c.args.chosen.now)) c.args.base.now IsCellOf (CellsSo c.args.columns.now c.args.first c.args.chosen.now c.args.base.now) c.args.fold.now
          c.loop-place.place c.value-item.result c.loop-place.made c.loop-place.fold c.cell_by.new.fold (IsCellThen (is_unknown_in c.args.columns.now c.loop-place.place) c.value-item.result (column_of c.loop-place.place c.args.first c.args.chosen.now)) AreCellsOf
          (AreCellsThen c.args.columns.now c.args.first c.args.chosen.now c.args.base.now) c.in_err-cell_by.field-0.0 lt is
          (cell_same _ _ c.value-item.result _ _ c.loop-place.fold c.cell_by.new.fold _ c.is_unknown_in-unknown.ensures c.column_of-found.ensures c.in_err-cell_by.ensures) c.loop-place.invariant,
    )

pub returns : goal.returns
unfolding cells_of
returns c =
    going_end (λ place value. cell_by (is_unknown_in c.args.columns.now place) value (column_of place c.args.first c.args.chosen.now)) c.args.base.now IsCellOf (CellsSo c.args.columns.now c.args.first c.args.chosen.now c.args.base.now) c.args.fold.now c.loop-place.place c.loop-place.made c.loop-place.fold
    (AreCellsThen c.args.columns.now c.args.first c.args.chosen.now c.args.base.now) (subst (λ (l : List Value). length l ≤ c.loop-place.place) c.as_slice-value-items.ensures c.loop-place-test.false)
    (λ h world later so. cells_end c.args.columns.now c.args.first c.args.chosen.now c.args.base.now c.loop-place.place c.loop-place.made world _ (subst (λ (l : List Value). length l ≤ c.loop-place.place) c.as_slice-value-items.ensures c.loop-place-test.false) so) c.loop-place.invariant
