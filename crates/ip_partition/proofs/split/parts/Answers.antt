use Rattle.std.proofs.Common.{◌≡◌, ◌∙◌, arith}
use Rattle.ip_partition.proofs.Among.{at_place}
use Rattle.ip_partition.proofs.PartLemmas.{parts_are, labels_within, ends_have_room, labels_are, columns_labelled, live_labelled}
use Rattle.ip_partition.proofs.LabelLemmas.{written_back}
use Rattle.ip_partition.proofs.split.parts.Goals as goal

pub label_columns-requires-clause-within : goal.label_columns-requires-clause-within
label_columns-requires-clause-within c = λ k d lt. c.columns_end.ensures.beyond _ (at_place c.as_slice-columns.result.now k d lt)

pub label_columns-requires-clause-room : goal.label_columns-requires-clause-room
label_columns-requires-clause-room c =
    ends_have_room c.args.grid.now c.args.columns.now c.as_slice-columns.result.now c.as_slice-columns.ensures c.requires.live c.columns_end.result c.rows_end-rows_end.result c.requires.within
    c.columns_end.ensures.beyond c.columns_end.ensures.within c.rows_end-rows_end.ensures.beyond c.rows_end-rows_end.ensures.within

pub add_columns-requires-clause-within : goal.add_columns-requires-clause-within
add_columns-requires-clause-within c =
    columns_labelled c.args.grid.now c.args.columns.now c.as_slice-columns.result.now c.as_slice-columns.ensures c.requires.live c.in_ok-labels.labels.count c.in_ok-labels.labels.parts.items c.as_slice.result.now c.as_slice.ensures.value c.in_ok-labels.ensures

pub add_columns-requires-clause-labelled : goal.add_columns-requires-clause-labelled
add_columns-requires-clause-labelled c = λ k d lt.
    labels_within c.args.grid.now c.as_slice-columns.result.now c.as_slice.result.now c.in_ok-labels.labels.count
    (labels_are c.args.grid.now c.args.columns.now c.as_slice-columns.result.now c.as_slice-columns.ensures c.requires.live c.in_ok-labels.labels.count c.in_ok-labels.labels.parts.items c.as_slice.result.now c.as_slice.ensures.value c.in_ok-labels.ensures)
    c.as_mut_slice.result.now (c.as_mut_slice.ensures.value ∙ c.in_ok-parts.ensures) k d lt

pub add_rows-requires-clause-room : goal.add_rows-requires-clause-room
add_rows-requires-clause-room c =
    live_labelled c.args.grid.now c.args.columns.now c.as_slice-columns.result.now c.as_slice-columns.ensures c.requires.live c.in_ok-labels.labels.count c.in_ok-labels.labels.parts.items c.as_slice-2.result.now c.as_slice-2.ensures.value c.in_ok-labels.ensures

pub returns : goal.returns
returns c =
    let size = c.in_ok-parts.parts.len in
    let filled = c.add_columns.new.parts in
    let lent_is : c.as_mut_slice-2.result.now ≡ c.add_columns.new.parts =
    c.as_mut_slice-2.ensures.value ∙ written_back size filled c.in_ok-parts.parts.items (omega (arith, c.add_columns.auto.parts, c.as_mut_slice.ensures.len, c.in_ok-parts.parts.ok.0)) in
    let parts_is : c.from_vec.result ≡ c.add_rows.new.parts =
    c.from_vec.ensures ∙ written_back size c.add_rows.new.parts _ (omega (arith, c.add_rows.auto.parts, c.as_mut_slice-2.ensures.len)) in
    parts_are c.args.grid.now c.args.columns.now c.as_slice-columns.result.now c.in_ok-labels.labels.parts.items c.as_slice.result.now c.as_slice-2.result.now c.in_ok-labels.labels.count c.rows_end-rows_end.result
    c.as_mut_slice.result.now filled c.as_mut_slice-2.result.now c.add_rows.new.parts c.from_vec.result c.as_slice-columns.ensures c.requires.rising c.requires.live c.rows_end-rows_end.ensures.beyond
    c.in_ok-labels.ensures c.as_slice.ensures.value c.as_slice-2.ensures.value (c.as_mut_slice.ensures.value ∙ c.in_ok-parts.ensures) c.in_ok-add_columns.ensures lent_is c.in_ok-add_rows.ensures parts_is
