use Rattle.std.proofs.Common.{◌≡◌, ◌∙◌, ap}
use Rattle.prov_arena.specs.Formulas.{AbsNode, MinNode}
use Rattle.prov_arena.specs.Graphs.{at}
use Rattle.cmp_encode.specs.Tables.{aid_of}
use Rattle.prov_fold.specs.Graphs.{node}
use Rattle.used_columns.proofs.OrLemmas.{if_ok, min_aid, truths_in}
use Rattle.used_columns.proofs.NameLemmas.{aid_less}
use Rattle.used_columns.proofs.beside.aid.Goals as goal

pub or_place-requires : goal.or_place-requires
or_place-requires c = truths_in c.args.fold.now c.args.id c.in-Min.pairs.now c.as_slice.result.now c.requires (c.as_slice.ensures.value ∙ c.in_ok-truths-in-Min.ensures) c.in-Min.ensures.kids

pub returns-in-Abs-clause-there : goal.returns-in-Abs-clause-there
returns-in-Abs-clause-there c =
    let g = c.args.fold.now in
    let is : AbsNode c.in-Abs.number ≡ node g c.args.id = c.in-Abs.ensures.part ∙ ap (λ parts. at parts c.args.id) c.prov.ensures in
    aid_less g c.known.ensures c.args.id c.place.result c.requires (c.place.ensures ∙ ap (aid_of g) is)

pub returns-in_ok-truths-in-Min-clause-aid : goal.returns-in_ok-truths-in-Min-clause-aid
returns-in_ok-truths-in-Min-clause-aid c =
    let g = c.args.fold.now in
    let is : MinNode c.in-Min.pairs.now ≡ node g c.args.id = c.in-Min.ensures.part ∙ ap (λ parts. at parts c.args.id) c.prov.ensures in
    min_aid g c.args.id c.in-Min.pairs.now c.as_slice.result.now c.or_place.result c.known.ensures c.requires is (c.as_slice.ensures.value ∙ c.in_ok-truths-in-Min.ensures) c.or_place.ensures

pub returns-in_ok-truths-in-Min-clause-there : goal.returns-in_ok-truths-in-Min-clause-there
returns-in_ok-truths-in-Min-clause-there c = if_ok c.or_place.result (λ id is. aid_less c.args.fold.now c.known.ensures c.args.id id c.requires is) (returns-in_ok-truths-in-Min-clause-aid c)
