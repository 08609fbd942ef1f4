use Rattle.std.proofs.Common.{◌∙◌, ℕ, false, List, arith, sym, subst}
use Rattle.ip_partition.specs.Spreading.{AreLabels}
use Rattle.ip_partition.proofs.ColumnLemmas.{room_same}
use Rattle.ip_partition.proofs.LabelLemmas.{equal_length, all_equal, all_within, written_back}
use Rattle.ip_partition.proofs.labels.label_columns.Goals as goal

pub label_all-requires-clause-within : goal.label_all-requires-clause-within
label_all-requires-clause-within c =
    all_within c.as_mut_slice.result.now 0 c.args.columns_end (c.as_mut_slice.ensures.value ∙ c.in_ok-parts.ensures.items_if_clones_equal (λ y e. e)) c.args.columns.now c.requires.within

pub label_all-requires-clause-room : goal.label_all-requires-clause-room
label_all-requires-clause-room c =
    room_same c.args.grid.now c.args.columns_end c.args.rows_end _ _
    (equal_length c.as_mut_slice.result.now 0 c.args.columns_end (c.as_mut_slice.ensures.value ∙ c.in_ok-parts.ensures.items_if_clones_equal (λ y e. e)))
    (equal_length c.as_mut_slice-2.result.now false c.args.rows_end (c.as_mut_slice-2.ensures.value ∙ c.in_ok-seen.ensures.items_if_clones_equal (λ y e. e))) c.requires.room

pub label_all-requires-clause-none : goal.label_all-requires-clause-none
label_all-requires-clause-none c =
    all_equal c.as_mut_slice.result.now 0 c.args.columns_end (c.as_mut_slice.ensures.value ∙ c.in_ok-parts.ensures.items_if_clones_equal (λ y e. e))

pub label_all-requires-clause-unseen : goal.label_all-requires-clause-unseen
label_all-requires-clause-unseen c =
    all_equal c.as_mut_slice-2.result.now false c.args.rows_end (c.as_mut_slice-2.ensures.value ∙ c.in_ok-seen.ensures.items_if_clones_equal (λ y e. e))

pub returns : goal.returns
returns c =
    subst (λ (ls : List ℕ). AreLabels c.args.grid.now c.args.columns.now c.in_ok-count.count ls)
    (sym (written_back _ c.label_all.new.labels c.in_ok-parts.parts.items (omega (arith, c.label_all.auto.labels, c.as_mut_slice.ensures.len, c.in_ok-parts.parts.ok.0)))) c.in_ok-count.ensures
