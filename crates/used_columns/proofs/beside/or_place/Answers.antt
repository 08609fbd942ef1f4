use Rattle.std.proofs.Common.{◌≡◌, ◌∙◌, sym, ap, subst, ◌<◌, ◌==◌, false, All}
use Rattle.std.specs.List.{list_any}
use Rattle.prov_fold.specs.Graphs.{size}
use Rattle.prov_fold.specs.Rules.{left}
use Rattle.prov_fold.proofs.ListLemmas.{All-left}
use Rattle.used_columns.proofs.OrLemmas.{or_rest, or_true}
use Rattle.used_columns.proofs.beside.or_place.Goals as goal

pub returns-then-has : goal.returns-then-has
returns-then-has c = λ place e.
    or_true c.args.truths.now c.in_ok-all.all.items c.args.fold.now place c.in_ok-all.ensures.kids e (ap (list_any (λ k. k == 1)) (sym c.as_slice.ensures.value) ∙ sym c.has.ensures ∙ c.if-has.true)

pub or_found-requires : goal.or_found-requires
or_found-requires c =
    let some : c.as_slice-3.result.now ≡ left 0 c.in_ok-all.all.items = c.as_slice-3.ensures.value ∙ c.in_ok-some.ensures ∙ ap (left 0) c.as_slice-2.ensures.value in
    subst (All (λ k. k < size c.args.fold.now)) (sym some) (All-left (λ k. k < size c.args.fold.now) 0 c.in_ok-all.all.items c.in_ok-all.ensures.there)

pub returns : goal.returns
returns c = λ place e.
    let some : c.as_slice-3.result.now ≡ left 0 c.in_ok-all.all.items = c.as_slice-3.ensures.value ∙ c.in_ok-some.ensures ∙ ap (left 0) c.as_slice-2.ensures.value in
    let missed : list_any (λ k. k == 1) c.in_ok-all.all.items ≡ false = ap (list_any (λ k. k == 1)) (sym c.as_slice.ensures.value) ∙ sym c.has.ensures ∙ c.if-has.false in
    c.or_found.ensures ∙ or_rest c.args.truths.now c.in_ok-all.all.items c.args.fold.now place c.in_ok-all.ensures.kids e c.as_slice-3.result.now missed some
