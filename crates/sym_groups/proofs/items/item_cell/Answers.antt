use Rattle.std.proofs.Common.{ℕ, All, ap, map, subst, sym, ◌∙◌, rules}
use Rattle.prov_fold.specs.Graphs.{HasTruth, HasPair}
use Rattle.prov_fold.proofs.StandLemmas.{keeps_same}
use Rattle.sym_rows.specs.Cells.{IsCellOf}
use Rattle.sym_rows.proofs.Makes.{makes_memory}
use Rattle.sym_groups.specs.Aggregates.{item_cell, group_value}
use Rattle.sym_groups.specs.Meanings.{IsItemThen}
use Rattle.sym_groups.proofs.ItemCells.{have_pairs, have_truths, of_item, plain_ok, sum_cell, sum_cell_err, count_cell, count_cell_err, least_cell, least_cell_err, greatest_cell, greatest_cell_err}
use Rattle.sym_groups.proofs.items.item_cell.Goals as goal

pub sum_of-requires : goal.sum_of-requires
sum_of-requires c = subst (All (HasPair c.args.fold.now)) (sym (c.as_slice.ensures.value ∙ c.in_ok-pairs-in-Sum.ensures)) (have_pairs c.args.fold.now c.args.place (map (λ row. row.now) c.args.group.now) c.requires)

pub returns-in_ok-sum_of-in-Sum : goal.returns-in_ok-sum_of-in-Sum
returns-in_ok-sum_of-in-Sum c = of_item c.args.unknown c.args.keys.now c.args.place (map (λ row. row.now) c.args.group.now) c.args.fold.now c.sum_of.new.fold c.args.item.now _ _ c.in-Sum.is (sum_cell c.args.unknown c.args.keys.now c.args.place (map (λ row. row.now) c.args.group.now) c.args.fold.now c.sum_of.new.fold _ c.as_slice.result.now (c.as_slice.ensures.value ∙ c.in_ok-pairs-in-Sum.ensures) c.in_ok-sum_of-in-Sum.field-0 c.in_ok-sum_of-in-Sum.ensures)

pub returns-in_err-sum_of-in-Sum : goal.returns-in_err-sum_of-in-Sum
returns-in_err-sum_of-in-Sum c = search (rules, of_item c.args.unknown c.args.keys.now c.args.place (map (λ row. row.now) c.args.group.now) c.args.fold.now c.sum_of.new.fold c.args.item.now _ _ c.in-Sum.is (sum_cell_err c.args.unknown c.args.keys.now c.args.place (map (λ row. row.now) c.args.group.now) c.args.fold.now c.sum_of.new.fold _ c.as_slice.result.now (c.as_slice.ensures.value ∙ c.in_ok-pairs-in-Sum.ensures) c.in_err-sum_of-in-Sum.field-0.0 c.in_err-sum_of-in-Sum.ensures))

pub least_of-requires : goal.least_of-requires
least_of-requires c = subst (All (HasPair c.args.fold.now)) (sym (c.as_slice-in-Min.ensures.value ∙ c.in_ok-pairs-in-Min.ensures)) (have_pairs c.args.fold.now c.args.place (map (λ row. row.now) c.args.group.now) c.requires)

pub returns-in_ok-least_of-in-Min : goal.returns-in_ok-least_of-in-Min
returns-in_ok-least_of-in-Min c = of_item c.args.unknown c.args.keys.now c.args.place (map (λ row. row.now) c.args.group.now) c.args.fold.now c.least_of.new.fold c.args.item.now _ _ c.in-Min.is (least_cell c.args.unknown c.args.keys.now c.args.place (map (λ row. row.now) c.args.group.now) c.args.fold.now c.least_of.new.fold _ c.as_slice-in-Min.result.now (c.as_slice-in-Min.ensures.value ∙ c.in_ok-pairs-in-Min.ensures) c.in_ok-least_of-in-Min.field-0 c.in_ok-least_of-in-Min.ensures)

pub returns-in_err-least_of-in-Min : goal.returns-in_err-least_of-in-Min
returns-in_err-least_of-in-Min c = search (rules, of_item c.args.unknown c.args.keys.now c.args.place (map (λ row. row.now) c.args.group.now) c.args.fold.now c.least_of.new.fold c.args.item.now _ _ c.in-Min.is (least_cell_err c.args.unknown c.args.keys.now c.args.place (map (λ row. row.now) c.args.group.now) c.args.fold.now c.least_of.new.fold _ c.as_slice-in-Min.result.now (c.as_slice-in-Min.ensures.value ∙ c.in_ok-pairs-in-Min.ensures) c.in_err-least_of-in-Min.field-0.0 c.in_err-least_of-in-Min.ensures))

pub greatest_of-requires : goal.greatest_of-requires
greatest_of-requires c = subst (All (HasPair c.args.fold.now)) (sym (c.as_slice-in-Max.ensures.value ∙ c.in_ok-pairs-in-Max.ensures)) (have_pairs c.args.fold.now c.args.place (map (λ row. row.now) c.args.group.now) c.requires)

pub returns-in_ok-greatest_of-in-Max : goal.returns-in_ok-greatest_of-in-Max
returns-in_ok-greatest_of-in-Max c = of_item c.args.unknown c.args.keys.now c.args.place (map (λ row. row.now) c.args.group.now) c.args.fold.now c.greatest_of.new.fold c.args.item.now _ _ c.in-Max.is (greatest_cell c.args.unknown c.args.keys.now c.args.place (map (λ row. row.now) c.args.group.now) c.args.fold.now c.greatest_of.new.fold _ c.as_slice-in-Max.result.now (c.as_slice-in-Max.ensures.value ∙ c.in_ok-pairs-in-Max.ensures) c.in_ok-greatest_of-in-Max.field-0 c.in_ok-greatest_of-in-Max.ensures)

pub returns-in_err-greatest_of-in-Max : goal.returns-in_err-greatest_of-in-Max
returns-in_err-greatest_of-in-Max c = search (rules, of_item c.args.unknown c.args.keys.now c.args.place (map (λ row. row.now) c.args.group.now) c.args.fold.now c.greatest_of.new.fold c.args.item.now _ _ c.in-Max.is (greatest_cell_err c.args.unknown c.args.keys.now c.args.place (map (λ row. row.now) c.args.group.now) c.args.fold.now c.greatest_of.new.fold _ c.as_slice-in-Max.result.now (c.as_slice-in-Max.ensures.value ∙ c.in_ok-pairs-in-Max.ensures) c.in_err-greatest_of-in-Max.field-0.0 c.in_err-greatest_of-in-Max.ensures))

pub count_of-requires : goal.count_of-requires
count_of-requires c = subst (All (HasTruth c.args.fold.now)) (sym (c.as_slice-in-Count.ensures.value ∙ c.in_ok-truths-in-Count.ensures)) (have_truths c.args.fold.now (map (λ row. row.now) c.args.group.now) c.requires)

pub returns-in_ok-count_of-in-Count : goal.returns-in_ok-count_of-in-Count
returns-in_ok-count_of-in-Count c = of_item c.args.unknown c.args.keys.now c.args.place (map (λ row. row.now) c.args.group.now) c.args.fold.now c.count_of.new.fold c.args.item.now _ _ c.in-Count.is (count_cell c.args.unknown c.args.keys.now c.args.place (map (λ row. row.now) c.args.group.now) c.args.fold.now c.count_of.new.fold c.as_slice-in-Count.result.now (c.as_slice-in-Count.ensures.value ∙ c.in_ok-truths-in-Count.ensures) c.in_ok-count_of-in-Count.field-0 c.in_ok-count_of-in-Count.ensures)

pub returns-in_err-count_of-in-Count : goal.returns-in_err-count_of-in-Count
returns-in_err-count_of-in-Count c = search (rules, of_item c.args.unknown c.args.keys.now c.args.place (map (λ row. row.now) c.args.group.now) c.args.fold.now c.count_of.new.fold c.args.item.now _ _ c.in-Count.is (count_cell_err c.args.unknown c.args.keys.now c.args.place (map (λ row. row.now) c.args.group.now) c.args.fold.now c.count_of.new.fold c.as_slice-in-Count.result.now (c.as_slice-in-Count.ensures.value ∙ c.in_ok-truths-in-Count.ensures) c.in_err-count_of-in-Count.field-0.0 c.in_err-count_of-in-Count.ensures))

pub returns-in_ok-value-in-Plain : goal.returns-in_ok-value-in-Plain
returns-in_ok-value-in-Plain c =
    let group = map (λ row. row.now) c.args.group.now in
    of_item c.args.unknown c.args.keys.now c.args.place group c.args.fold.now c.settled.new.fold c.args.item.now _ _ c.in-Plain.is
    (plain_ok c.args.unknown c.args.keys.now c.args.place group c.args.fold.now c.settled.new.fold c.in-Plain.part c.in_ok-value-in-Plain.value c.settled.result (c.in_ok-value-in-Plain.ensures ∙ ap (λ (n : ℕ). group_value n group) c.key_place.ensures) c.settled.ensures)

pub returns-in_err-value-in-Plain : goal.returns-in_err-value-in-Plain
returns-in_err-value-in-Plain c = search (rules, makes_memory IsCellOf (IsItemThen c.args.unknown c.args.keys.now c.args.place (map (λ row. row.now) c.args.group.now) c.args.item.now) (item_cell c.args.unknown c.args.keys.now c.args.place (map (λ row. row.now) c.args.group.now) c.args.item.now c.args.fold.now) c.args.fold.now c.args.fold.now (keeps_same c.args.fold.now))

pub returns-in_err-pairs-in-Sum : goal.returns-in_err-pairs-in-Sum
returns-in_err-pairs-in-Sum c = search (rules, makes_memory IsCellOf (IsItemThen c.args.unknown c.args.keys.now c.args.place (map (λ row. row.now) c.args.group.now) c.args.item.now) (item_cell c.args.unknown c.args.keys.now c.args.place (map (λ row. row.now) c.args.group.now) c.args.item.now c.args.fold.now) c.args.fold.now c.args.fold.now (keeps_same c.args.fold.now))

pub returns-in_err-truths-in-Count : goal.returns-in_err-truths-in-Count
returns-in_err-truths-in-Count c = search (rules, makes_memory IsCellOf (IsItemThen c.args.unknown c.args.keys.now c.args.place (map (λ row. row.now) c.args.group.now) c.args.item.now) (item_cell c.args.unknown c.args.keys.now c.args.place (map (λ row. row.now) c.args.group.now) c.args.item.now c.args.fold.now) c.args.fold.now c.args.fold.now (keeps_same c.args.fold.now))

pub returns-in_err-pairs-in-Min : goal.returns-in_err-pairs-in-Min
returns-in_err-pairs-in-Min c = search (rules, makes_memory IsCellOf (IsItemThen c.args.unknown c.args.keys.now c.args.place (map (λ row. row.now) c.args.group.now) c.args.item.now) (item_cell c.args.unknown c.args.keys.now c.args.place (map (λ row. row.now) c.args.group.now) c.args.item.now c.args.fold.now) c.args.fold.now c.args.fold.now (keeps_same c.args.fold.now))

pub returns-in_err-pairs-in-Max : goal.returns-in_err-pairs-in-Max
returns-in_err-pairs-in-Max c = search (rules, makes_memory IsCellOf (IsItemThen c.args.unknown c.args.keys.now c.args.place (map (λ row. row.now) c.args.group.now) c.args.item.now) (item_cell c.args.unknown c.args.keys.now c.args.place (map (λ row. row.now) c.args.group.now) c.args.item.now c.args.fold.now) c.args.fold.now c.args.fold.now (keeps_same c.args.fold.now))
