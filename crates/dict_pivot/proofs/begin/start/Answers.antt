use Rattle.std.proofs.Common.{◌≤◌, List, length, sym, ◌∙◌, ap, subst, arith}
use Rattle.std.proofs.lemmas.List.{length-replicate}
use Rattle.ip_rows.specs.declared.Bounds.{Bounds}
use Rattle.ip_rows.specs.declared.rows.Coef.{Coef}
use Rattle.ip_rows.specs.Rows.{AreTerms}
use Rattle.dict_pivot.specs.First.{AreStarts}
use Rattle.dict_pivot.proofs.Kept.{stored}
use Rattle.dict_pivot.proofs.StartRows.{zeros_number}
use Rattle.dict_pivot.proofs.StartTable.{starts_are, made_start, made_dictionary, made_least, cells_fit}
use Rattle.dict_pivot.proofs.begin.start.Goals as goal

pub overflow_add-width : goal.overflow_add-width
overflow_add-width c = omega (arith, c.requires.columns, ap length c.as_slice-sides.ensures)

pub overflow_mul-height : goal.overflow_mul-height
overflow_mul-height c = omega (arith, c.requires.columns, ap length c.as_slice-sides.ensures)

pub overflow_add-height : goal.overflow_add-height
overflow_add-height c = omega (arith, c.requires.columns, ap length c.as_slice-sides.ensures)

pub overflow_add-height-2 : goal.overflow_add-height-2
overflow_add-height-2 c = omega (arith, c.requires.columns, c.requires.rows, ap length c.as_slice-sides.ensures, c.len.ensures)

pub overflow_mul-height-2 : goal.overflow_mul-height-2
overflow_mul-height-2 c =
    let k = cells_fit (length c.as_slice-sides.result.now) c.len.result (subst (λ n. n ≤ 1024) (sym (ap length c.as_slice-sides.ensures)) c.requires.columns) (subst (λ n. n ≤ 4096) (sym c.len.ensures) c.requires.rows) in
    omega (arith, k)

pub upper_starts-requires : goal.upper_starts-requires
upper_starts-requires c = subst (λ (ts : List Coef). AreTerms (length c.as_slice-sides.result.now) ts) (sym c.as_slice.ensures) (subst (λ (s : List Bounds). AreTerms (length s) c.args.lp.now.aim) (sym c.as_slice-sides.ensures) c.requires.formed.aim)

pub write_start-requires-clause-up : goal.write_start-requires-clause-up
write_start-requires-clause-up c = subst (AreStarts c.args.lp.now) (sym c.as_slice-2.ensures.value) (starts_are c.args.lp.now c.in_ok-up.up.items c.as_slice-sides.result.now c.as_slice.result.now c.as_slice-sides.ensures c.as_slice.ensures c.in_ok-up.ensures.size c.in_ok-up.ensures.each)

pub write_start-requires-clause-width : goal.write_start-requires-clause-width
write_start-requires-clause-width c = omega (arith, ap length c.as_slice-sides.ensures)

pub write_start-requires-clause-height : goal.write_start-requires-clause-height
write_start-requires-clause-height c = omega (arith, ap length c.as_slice-sides.ensures, c.len.ensures)

pub write_start-requires-clause-size : goal.write_start-requires-clause-size
write_start-requires-clause-size c = ap length c.as_mut_slice.ensures.value ∙ ap length c.in_ok-cells.ensures ∙ length-replicate _ _

pub write_start-requires-clause-zeros : goal.write_start-requires-clause-zeros
write_start-requires-clause-zeros c = zeros_number c.as_mut_slice.result.now _ (c.as_mut_slice.ensures.value ∙ c.in_ok-cells.ensures)

pub first_free-requires : goal.first_free-requires
first_free-requires c = omega (arith, c.requires.columns, ap length c.as_slice-sides.ensures, c.in_ok-up.ensures.size, ap length c.as_slice-3.ensures.value)

pub invariant_of-result : goal.invariant_of-result
invariant_of-result c = record {
  dictionary = made_dictionary c.args.lp.now c.requires.formed c.requires.columns c.requires.rows c.as_slice-sides.result.now c.as_slice-sides.ensures c.as_slice-2.result.now c.as_slice-3.result.now (c.as_slice-3.ensures.value ∙ sym c.as_slice-2.ensures.value) (subst (AreStarts c.args.lp.now) (sym c.as_slice-2.ensures.value) (starts_are c.args.lp.now c.in_ok-up.up.items c.as_slice-sides.result.now c.as_slice.result.now c.as_slice-sides.ensures c.as_slice.ensures c.in_ok-up.ensures.size c.in_ok-up.ensures.each)) c.len.result c.len.ensures _ c.write_start.new.cells (stored c.in_ok-cells.cells.len c.write_start.new.cells c.in_ok-cells.cells.items (c.write_start.auto.cells ∙ c.as_mut_slice.ensures.len)) (c.write_start.auto.cells ∙ ap length c.as_mut_slice.ensures.value ∙ ap length c.in_ok-cells.ensures ∙ length-replicate _ _) c.write_start.ensures c.in_ok-free.free.items c.in_ok-free.ensures.size c.in_ok-free.ensures.each c.in_ok-low.low.items c.in_ok-low.ensures;
  shares_room = ap length c.in_ok-shares.ensures ∙ length-replicate _ _;
  active_room = ap length (c.in_ok-active.ensures.items_if_clones_equal (λ y e. e)) ∙ length-replicate _ _;
}

pub returns-clause-start : goal.returns-clause-start
returns-clause-start c = made_start c.args.lp.now c.requires.formed c.requires.columns c.requires.rows c.as_slice-sides.result.now c.as_slice-sides.ensures c.as_slice-2.result.now c.as_slice-3.result.now (c.as_slice-3.ensures.value ∙ sym c.as_slice-2.ensures.value) (subst (AreStarts c.args.lp.now) (sym c.as_slice-2.ensures.value) (starts_are c.args.lp.now c.in_ok-up.up.items c.as_slice-sides.result.now c.as_slice.result.now c.as_slice-sides.ensures c.as_slice.ensures c.in_ok-up.ensures.size c.in_ok-up.ensures.each)) c.len.result c.len.ensures _ c.write_start.new.cells (stored c.in_ok-cells.cells.len c.write_start.new.cells c.in_ok-cells.cells.items (c.write_start.auto.cells ∙ c.as_mut_slice.ensures.len)) (c.write_start.auto.cells ∙ ap length c.as_mut_slice.ensures.value ∙ ap length c.in_ok-cells.ensures ∙ length-replicate _ _) c.write_start.ensures c.in_ok-free.free.items c.in_ok-free.ensures.size c.in_ok-free.ensures.each c.in_ok-low.low.items c.in_ok-low.ensures

pub returns-clause-least : goal.returns-clause-least
returns-clause-least c = made_least c.args.lp.now c.requires.formed c.requires.columns c.requires.rows c.as_slice-sides.result.now c.as_slice-sides.ensures c.as_slice-2.result.now c.as_slice-3.result.now (c.as_slice-3.ensures.value ∙ sym c.as_slice-2.ensures.value) (subst (AreStarts c.args.lp.now) (sym c.as_slice-2.ensures.value) (starts_are c.args.lp.now c.in_ok-up.up.items c.as_slice-sides.result.now c.as_slice.result.now c.as_slice-sides.ensures c.as_slice.ensures c.in_ok-up.ensures.size c.in_ok-up.ensures.each)) c.len.result c.len.ensures _ c.write_start.new.cells (stored c.in_ok-cells.cells.len c.write_start.new.cells c.in_ok-cells.cells.items (c.write_start.auto.cells ∙ c.as_mut_slice.ensures.len)) (c.write_start.auto.cells ∙ ap length c.as_mut_slice.ensures.value ∙ ap length c.in_ok-cells.ensures ∙ length-replicate _ _) c.write_start.ensures c.in_ok-free.free.items c.in_ok-free.ensures.size c.in_ok-free.ensures.each c.in_ok-low.low.items c.in_ok-low.ensures

pub returns-clause-dictionary : goal.returns-clause-dictionary
returns-clause-dictionary c = made_dictionary c.args.lp.now c.requires.formed c.requires.columns c.requires.rows c.as_slice-sides.result.now c.as_slice-sides.ensures c.as_slice-2.result.now c.as_slice-3.result.now (c.as_slice-3.ensures.value ∙ sym c.as_slice-2.ensures.value) (subst (AreStarts c.args.lp.now) (sym c.as_slice-2.ensures.value) (starts_are c.args.lp.now c.in_ok-up.up.items c.as_slice-sides.result.now c.as_slice.result.now c.as_slice-sides.ensures c.as_slice.ensures c.in_ok-up.ensures.size c.in_ok-up.ensures.each)) c.len.result c.len.ensures _ c.write_start.new.cells (stored c.in_ok-cells.cells.len c.write_start.new.cells c.in_ok-cells.cells.items (c.write_start.auto.cells ∙ c.as_mut_slice.ensures.len)) (c.write_start.auto.cells ∙ ap length c.as_mut_slice.ensures.value ∙ ap length c.in_ok-cells.ensures ∙ length-replicate _ _) c.write_start.ensures c.in_ok-free.free.items c.in_ok-free.ensures.size c.in_ok-free.ensures.each c.in_ok-low.low.items c.in_ok-low.ensures
