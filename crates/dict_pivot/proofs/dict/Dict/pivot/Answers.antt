use Rattle.std.proofs.Common.{◌≢◌, ◌++◌, ◌<◌, length, take, drop, pos, sym, ◌∙◌, ap, subst, List, ℤ}
use Rattle.std.specs.Prelude.{OnOk, IfErr}
use Rattle.rat128.specs.Operations.{IsNarrow}
use Rattle.rat128.proofs.Rationals.{value_zero}
use Rattle.dict_pivot.specs.declared.pivot.WideCell.{WideCell}
use Rattle.dict_pivot.specs.Dictionaries.{Dictionary, number, line, least_number, seen, IsDictionary, IsPivoted, IsFirstWide}
use Rattle.dict_pivot.proofs.Kept.{stored, seen_same, on_err, pivot_after, solutions_after, dictionary_after}
use Rattle.dict_pivot.proofs.dict.Dict.pivot.Goals as goal

pub pivot_parts-requires-clause-dictionary : goal.pivot_parts-requires-clause-dictionary
pivot_parts-requires-clause-dictionary c = subst IsDictionary (sym (seen_same c.self.inside.height c.self.inside.width _ _ _ _ _ _ c.as_mut_slice.ensures.value c.as_mut_slice-2.ensures.value c.as_slice.ensures.value)) c.self.invariant.dictionary

pub pivot_parts-requires-clause-shares : goal.pivot_parts-requires-clause-shares
pivot_parts-requires-clause-shares c = ap length c.as_mut_slice-3.ensures.value ∙ c.self.invariant.shares_room

pub pivot_parts-requires-clause-active : goal.pivot_parts-requires-clause-active
pivot_parts-requires-clause-active c = ap length c.as_mut_slice-4.ensures.value ∙ c.self.invariant.active_room

pub pivot_parts-requires-clause-row : goal.pivot_parts-requires-clause-row
pivot_parts-requires-clause-row c = (c.requires.some_row, subst (λ (d : Dictionary). c.args.row < d.height) (sym c.self.view_is) c.requires.row)

pub pivot_parts-requires-clause-column : goal.pivot_parts-requires-clause-column
pivot_parts-requires-clause-column c = (c.requires.some_column, subst (λ (d : Dictionary). c.args.column < d.width) (sym c.self.view_is) c.requires.column)

pub pivot_parts-requires-clause-cell : goal.pivot_parts-requires-clause-cell
pivot_parts-requires-clause-cell c = subst (λ (d : Dictionary). (number (line d.cells d.width c.args.row) c.args.column).num ≢ pos 0) (sym (seen_same c.self.inside.height c.self.inside.width _ _ _ _ _ _ c.as_mut_slice.ensures.value c.as_mut_slice-2.ensures.value c.as_slice.ensures.value ∙ c.self.view_is)) (λ z. c.requires.cell (value_zero _ z))

pub invariant_of-self : goal.invariant_of-self
invariant_of-self c = record {
  dictionary = dictionary_after c.pivot_parts.result c.args.self.now (seen c.self.inside.height c.self.inside.width (take c.self.inside.cells.len (c.pivot_parts.new.cells ++ drop (length c.pivot_parts.new.cells) c.self.inside.cells.items)) (take c.self.inside.free.len (c.pivot_parts.new.free ++ drop (length c.pivot_parts.new.free) c.self.inside.free.items)) c.self.inside.low.items) c.args.row c.args.column (subst IsDictionary c.self.view_is c.self.invariant.dictionary) c.requires.row c.requires.some_column c.requires.column (λ z. c.requires.cell (value_zero _ z)) (subst (λ (d : Dictionary). OnOk c.pivot_parts.result (IsPivoted d c.args.row c.args.column (seen c.self.inside.height c.self.inside.width (take c.self.inside.cells.len (c.pivot_parts.new.cells ++ drop (length c.pivot_parts.new.cells) c.self.inside.cells.items)) (take c.self.inside.free.len (c.pivot_parts.new.free ++ drop (length c.pivot_parts.new.free) c.self.inside.free.items)) c.self.inside.low.items))) (seen_same c.self.inside.height c.self.inside.width _ _ _ _ _ _ c.as_mut_slice.ensures.value c.as_mut_slice-2.ensures.value c.as_slice.ensures.value ∙ c.self.view_is) (subst (λ (d : Dictionary). OnOk c.pivot_parts.result (IsPivoted (seen c.self.inside.height c.self.inside.width c.as_mut_slice.result.now c.as_mut_slice-2.result.now c.as_slice.result.now) c.args.row c.args.column d)) (sym (seen_same c.self.inside.height c.self.inside.width _ c.pivot_parts.new.cells _ c.pivot_parts.new.free c.self.inside.low.items c.as_slice.result.now (stored c.self.inside.cells.len c.pivot_parts.new.cells c.self.inside.cells.items (c.pivot_parts.auto.cells ∙ c.as_mut_slice.ensures.len)) (stored c.self.inside.free.len c.pivot_parts.new.free c.self.inside.free.items (c.pivot_parts.auto.free ∙ c.as_mut_slice-2.ensures.len)) (sym c.as_slice.ensures.value))) c.pivot_parts.ensures.done)) (on_err c.pivot_parts.result (λ e f. (seen_same c.self.inside.height c.self.inside.width _ c.pivot_parts.new.cells _ c.pivot_parts.new.free c.self.inside.low.items c.as_slice.result.now (stored c.self.inside.cells.len c.pivot_parts.new.cells c.self.inside.cells.items (c.pivot_parts.auto.cells ∙ c.as_mut_slice.ensures.len)) (stored c.self.inside.free.len c.pivot_parts.new.free c.self.inside.free.items (c.pivot_parts.auto.free ∙ c.as_mut_slice-2.ensures.len)) (sym c.as_slice.ensures.value)) ∙ seen_same c.self.inside.height c.self.inside.width _ _ _ _ _ _ e f (λ i. c.as_slice.result.now) ∙ seen_same c.self.inside.height c.self.inside.width _ _ _ _ _ _ c.as_mut_slice.ensures.value c.as_mut_slice-2.ensures.value c.as_slice.ensures.value ∙ c.self.view_is) c.pivot_parts.ensures.cells_stay c.pivot_parts.ensures.free_stays) (ap length (stored c.self.inside.cells.len c.pivot_parts.new.cells c.self.inside.cells.items (c.pivot_parts.auto.cells ∙ c.as_mut_slice.ensures.len)) ∙ c.pivot_parts.auto.cells ∙ ap length c.as_mut_slice.ensures.value ∙ ap (λ (d : Dictionary). length d.cells) c.self.view_is) (ap length (stored c.self.inside.free.len c.pivot_parts.new.free c.self.inside.free.items (c.pivot_parts.auto.free ∙ c.as_mut_slice-2.ensures.len)) ∙ c.pivot_parts.auto.free ∙ ap length c.as_mut_slice-2.ensures.value ∙ ap (λ (d : Dictionary). length d.free) c.self.view_is) (subst (λ (ls : List ℤ). IsNarrow (least_number ls c.args.row)) (c.as_slice.ensures.value ∙ ap (λ (d : Dictionary). d.low) c.self.view_is) c.pivot_parts.ensures.least);
  shares_room = ap length (stored c.self.inside.shares.len c.pivot_parts.new.shares c.self.inside.shares.items (c.pivot_parts.auto.shares ∙ c.as_mut_slice-3.ensures.len)) ∙ c.pivot_parts.auto.shares ∙ ap length c.as_mut_slice-3.ensures.value ∙ c.self.invariant.shares_room;
  active_room = ap length (stored c.self.inside.active.len c.pivot_parts.new.active c.self.inside.active.items (c.pivot_parts.auto.active ∙ c.as_mut_slice-4.ensures.len)) ∙ c.pivot_parts.auto.active ∙ ap length c.as_mut_slice-4.ensures.value ∙ c.self.invariant.active_room;
}

pub returns-clause-done : goal.returns-clause-done
returns-clause-done c = subst (λ (d : Dictionary). OnOk c.pivot_parts.result (IsPivoted d c.args.row c.args.column (seen c.self.inside.height c.self.inside.width (take c.self.inside.cells.len (c.pivot_parts.new.cells ++ drop (length c.pivot_parts.new.cells) c.self.inside.cells.items)) (take c.self.inside.free.len (c.pivot_parts.new.free ++ drop (length c.pivot_parts.new.free) c.self.inside.free.items)) c.self.inside.low.items))) (seen_same c.self.inside.height c.self.inside.width _ _ _ _ _ _ c.as_mut_slice.ensures.value c.as_mut_slice-2.ensures.value c.as_slice.ensures.value ∙ c.self.view_is) (subst (λ (d : Dictionary). OnOk c.pivot_parts.result (IsPivoted (seen c.self.inside.height c.self.inside.width c.as_mut_slice.result.now c.as_mut_slice-2.result.now c.as_slice.result.now) c.args.row c.args.column d)) (sym (seen_same c.self.inside.height c.self.inside.width _ c.pivot_parts.new.cells _ c.pivot_parts.new.free c.self.inside.low.items c.as_slice.result.now (stored c.self.inside.cells.len c.pivot_parts.new.cells c.self.inside.cells.items (c.pivot_parts.auto.cells ∙ c.as_mut_slice.ensures.len)) (stored c.self.inside.free.len c.pivot_parts.new.free c.self.inside.free.items (c.pivot_parts.auto.free ∙ c.as_mut_slice-2.ensures.len)) (sym c.as_slice.ensures.value))) c.pivot_parts.ensures.done)

pub returns-clause-pivot : goal.returns-clause-pivot
returns-clause-pivot c = pivot_after c.pivot_parts.result c.args.self.now (seen c.self.inside.height c.self.inside.width (take c.self.inside.cells.len (c.pivot_parts.new.cells ++ drop (length c.pivot_parts.new.cells) c.self.inside.cells.items)) (take c.self.inside.free.len (c.pivot_parts.new.free ++ drop (length c.pivot_parts.new.free) c.self.inside.free.items)) c.self.inside.low.items) c.args.row c.args.column (subst IsDictionary c.self.view_is c.self.invariant.dictionary) c.requires.row c.requires.some_column c.requires.column (λ z. c.requires.cell (value_zero _ z)) (subst (λ (d : Dictionary). OnOk c.pivot_parts.result (IsPivoted d c.args.row c.args.column (seen c.self.inside.height c.self.inside.width (take c.self.inside.cells.len (c.pivot_parts.new.cells ++ drop (length c.pivot_parts.new.cells) c.self.inside.cells.items)) (take c.self.inside.free.len (c.pivot_parts.new.free ++ drop (length c.pivot_parts.new.free) c.self.inside.free.items)) c.self.inside.low.items))) (seen_same c.self.inside.height c.self.inside.width _ _ _ _ _ _ c.as_mut_slice.ensures.value c.as_mut_slice-2.ensures.value c.as_slice.ensures.value ∙ c.self.view_is) (subst (λ (d : Dictionary). OnOk c.pivot_parts.result (IsPivoted (seen c.self.inside.height c.self.inside.width c.as_mut_slice.result.now c.as_mut_slice-2.result.now c.as_slice.result.now) c.args.row c.args.column d)) (sym (seen_same c.self.inside.height c.self.inside.width _ c.pivot_parts.new.cells _ c.pivot_parts.new.free c.self.inside.low.items c.as_slice.result.now (stored c.self.inside.cells.len c.pivot_parts.new.cells c.self.inside.cells.items (c.pivot_parts.auto.cells ∙ c.as_mut_slice.ensures.len)) (stored c.self.inside.free.len c.pivot_parts.new.free c.self.inside.free.items (c.pivot_parts.auto.free ∙ c.as_mut_slice-2.ensures.len)) (sym c.as_slice.ensures.value))) c.pivot_parts.ensures.done))

pub returns-clause-solutions : goal.returns-clause-solutions
returns-clause-solutions c = solutions_after c.pivot_parts.result c.args.self.now (seen c.self.inside.height c.self.inside.width (take c.self.inside.cells.len (c.pivot_parts.new.cells ++ drop (length c.pivot_parts.new.cells) c.self.inside.cells.items)) (take c.self.inside.free.len (c.pivot_parts.new.free ++ drop (length c.pivot_parts.new.free) c.self.inside.free.items)) c.self.inside.low.items) c.args.row c.args.column (subst IsDictionary c.self.view_is c.self.invariant.dictionary) c.requires.row c.requires.some_column c.requires.column (λ z. c.requires.cell (value_zero _ z)) (subst (λ (d : Dictionary). OnOk c.pivot_parts.result (IsPivoted d c.args.row c.args.column (seen c.self.inside.height c.self.inside.width (take c.self.inside.cells.len (c.pivot_parts.new.cells ++ drop (length c.pivot_parts.new.cells) c.self.inside.cells.items)) (take c.self.inside.free.len (c.pivot_parts.new.free ++ drop (length c.pivot_parts.new.free) c.self.inside.free.items)) c.self.inside.low.items))) (seen_same c.self.inside.height c.self.inside.width _ _ _ _ _ _ c.as_mut_slice.ensures.value c.as_mut_slice-2.ensures.value c.as_slice.ensures.value ∙ c.self.view_is) (subst (λ (d : Dictionary). OnOk c.pivot_parts.result (IsPivoted (seen c.self.inside.height c.self.inside.width c.as_mut_slice.result.now c.as_mut_slice-2.result.now c.as_slice.result.now) c.args.row c.args.column d)) (sym (seen_same c.self.inside.height c.self.inside.width _ c.pivot_parts.new.cells _ c.pivot_parts.new.free c.self.inside.low.items c.as_slice.result.now (stored c.self.inside.cells.len c.pivot_parts.new.cells c.self.inside.cells.items (c.pivot_parts.auto.cells ∙ c.as_mut_slice.ensures.len)) (stored c.self.inside.free.len c.pivot_parts.new.free c.self.inside.free.items (c.pivot_parts.auto.free ∙ c.as_mut_slice-2.ensures.len)) (sym c.as_slice.ensures.value))) c.pivot_parts.ensures.done))

pub returns-clause-wide : goal.returns-clause-wide
returns-clause-wide c = subst (λ (d : Dictionary). IfErr c.pivot_parts.result (λ (w : WideCell). IsFirstWide d c.args.row c.args.column w.row w.column)) (seen_same c.self.inside.height c.self.inside.width _ _ _ _ _ _ c.as_mut_slice.ensures.value c.as_mut_slice-2.ensures.value c.as_slice.ensures.value ∙ c.self.view_is) c.pivot_parts.ensures.wide

pub returns-clause-unchanged : goal.returns-clause-unchanged
returns-clause-unchanged c = on_err c.pivot_parts.result (λ e f. (seen_same c.self.inside.height c.self.inside.width _ c.pivot_parts.new.cells _ c.pivot_parts.new.free c.self.inside.low.items c.as_slice.result.now (stored c.self.inside.cells.len c.pivot_parts.new.cells c.self.inside.cells.items (c.pivot_parts.auto.cells ∙ c.as_mut_slice.ensures.len)) (stored c.self.inside.free.len c.pivot_parts.new.free c.self.inside.free.items (c.pivot_parts.auto.free ∙ c.as_mut_slice-2.ensures.len)) (sym c.as_slice.ensures.value)) ∙ seen_same c.self.inside.height c.self.inside.width _ _ _ _ _ _ e f (λ i. c.as_slice.result.now) ∙ seen_same c.self.inside.height c.self.inside.width _ _ _ _ _ _ c.as_mut_slice.ensures.value c.as_mut_slice-2.ensures.value c.as_slice.ensures.value ∙ c.self.view_is) c.pivot_parts.ensures.cells_stay c.pivot_parts.ensures.free_stays

pub returns-clause-dictionary : goal.returns-clause-dictionary
returns-clause-dictionary c = dictionary_after c.pivot_parts.result c.args.self.now (seen c.self.inside.height c.self.inside.width (take c.self.inside.cells.len (c.pivot_parts.new.cells ++ drop (length c.pivot_parts.new.cells) c.self.inside.cells.items)) (take c.self.inside.free.len (c.pivot_parts.new.free ++ drop (length c.pivot_parts.new.free) c.self.inside.free.items)) c.self.inside.low.items) c.args.row c.args.column (subst IsDictionary c.self.view_is c.self.invariant.dictionary) c.requires.row c.requires.some_column c.requires.column (λ z. c.requires.cell (value_zero _ z)) (subst (λ (d : Dictionary). OnOk c.pivot_parts.result (IsPivoted d c.args.row c.args.column (seen c.self.inside.height c.self.inside.width (take c.self.inside.cells.len (c.pivot_parts.new.cells ++ drop (length c.pivot_parts.new.cells) c.self.inside.cells.items)) (take c.self.inside.free.len (c.pivot_parts.new.free ++ drop (length c.pivot_parts.new.free) c.self.inside.free.items)) c.self.inside.low.items))) (seen_same c.self.inside.height c.self.inside.width _ _ _ _ _ _ c.as_mut_slice.ensures.value c.as_mut_slice-2.ensures.value c.as_slice.ensures.value ∙ c.self.view_is) (subst (λ (d : Dictionary). OnOk c.pivot_parts.result (IsPivoted (seen c.self.inside.height c.self.inside.width c.as_mut_slice.result.now c.as_mut_slice-2.result.now c.as_slice.result.now) c.args.row c.args.column d)) (sym (seen_same c.self.inside.height c.self.inside.width _ c.pivot_parts.new.cells _ c.pivot_parts.new.free c.self.inside.low.items c.as_slice.result.now (stored c.self.inside.cells.len c.pivot_parts.new.cells c.self.inside.cells.items (c.pivot_parts.auto.cells ∙ c.as_mut_slice.ensures.len)) (stored c.self.inside.free.len c.pivot_parts.new.free c.self.inside.free.items (c.pivot_parts.auto.free ∙ c.as_mut_slice-2.ensures.len)) (sym c.as_slice.ensures.value))) c.pivot_parts.ensures.done)) (on_err c.pivot_parts.result (λ e f. (seen_same c.self.inside.height c.self.inside.width _ c.pivot_parts.new.cells _ c.pivot_parts.new.free c.self.inside.low.items c.as_slice.result.now (stored c.self.inside.cells.len c.pivot_parts.new.cells c.self.inside.cells.items (c.pivot_parts.auto.cells ∙ c.as_mut_slice.ensures.len)) (stored c.self.inside.free.len c.pivot_parts.new.free c.self.inside.free.items (c.pivot_parts.auto.free ∙ c.as_mut_slice-2.ensures.len)) (sym c.as_slice.ensures.value)) ∙ seen_same c.self.inside.height c.self.inside.width _ _ _ _ _ _ e f (λ i. c.as_slice.result.now) ∙ seen_same c.self.inside.height c.self.inside.width _ _ _ _ _ _ c.as_mut_slice.ensures.value c.as_mut_slice-2.ensures.value c.as_slice.ensures.value ∙ c.self.view_is) c.pivot_parts.ensures.cells_stay c.pivot_parts.ensures.free_stays) (ap length (stored c.self.inside.cells.len c.pivot_parts.new.cells c.self.inside.cells.items (c.pivot_parts.auto.cells ∙ c.as_mut_slice.ensures.len)) ∙ c.pivot_parts.auto.cells ∙ ap length c.as_mut_slice.ensures.value ∙ ap (λ (d : Dictionary). length d.cells) c.self.view_is) (ap length (stored c.self.inside.free.len c.pivot_parts.new.free c.self.inside.free.items (c.pivot_parts.auto.free ∙ c.as_mut_slice-2.ensures.len)) ∙ c.pivot_parts.auto.free ∙ ap length c.as_mut_slice-2.ensures.value ∙ ap (λ (d : Dictionary). length d.free) c.self.view_is) (subst (λ (ls : List ℤ). IsNarrow (least_number ls c.args.row)) (c.as_slice.ensures.value ∙ ap (λ (d : Dictionary). d.low) c.self.view_is) c.pivot_parts.ensures.least)
