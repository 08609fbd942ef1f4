use Rattle.std.proofs.Common.{◌≡◌, ◌∙◌, ◌<◌, ◌^◌, sym, ap, subst, pos, length, List, All}
use Rattle.std.proofs.lemmas.List.{length-replicate}
use Rattle.prov_arena.specs.declared.part.Term.{Term}
use Rattle.prov_fold.specs.Graphs.{size}
use Rattle.used_columns.specs.Seeds.{form_terms}
use Rattle.used_columns.proofs.SeedLemmas.{bulk_each, form_there}
use Rattle.used_columns.proofs.rows.seeds.Goals as goal

pub spread-requires-clause-small : goal.spread-requires-clause-small
spread-requires-clause-small c = bulk_each (2 ^ 63) (form_terms c.args.fold.now c.args.pieces.now) c.requires.light

pub add_all-requires-clause-there : goal.add_all-requires-clause-there
add_all-requires-clause-there c =
    let g = c.args.fold.now in
    let all = form_terms g c.args.pieces.now in
    let long : length c.args.totals.now ≡ size g = ap (λ m. length m) c.requires.totals ∙ length-replicate (size g) (pos 0) in
    subst (λ n. All (λ (t : Term). t.node < n) c.as_slice.result.now) (sym long) (subst (λ (ts : List Term). All (λ (t : Term). t.node < size g) ts) (sym (c.as_slice.ensures.value ∙ c.in_ok-terms.ensures)) (form_there g c.known.ensures c.args.pieces.now c.requires.there))

pub take_all-requires-clause-there : goal.take_all-requires-clause-there
take_all-requires-clause-there c =
    let g = c.args.fold.now in
    let long : length c.add_all.new.totals ≡ size g = c.add_all.ensures.count ∙ ap (λ m. length m) c.requires.totals ∙ length-replicate (size g) (pos 0) in
    subst (λ n. All (λ (t : Term). t.node < n) c.as_slice-2.result.now) (sym long) (subst (λ (ts : List Term). All (λ (t : Term). t.node < size g) ts) (sym (c.as_slice-2.ensures.value ∙ c.in_ok-terms.ensures)) (form_there g c.known.ensures c.args.pieces.now c.requires.there))
