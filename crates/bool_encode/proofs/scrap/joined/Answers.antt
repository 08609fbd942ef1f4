use Rattle.std.proofs.Common.{◌∙◌, sym, ap, subst, ◌<◌, ◌^◌, unsigned_abs, List, All}
use Rattle.prov_fold.specs.Sums.{added_by}
use Rattle.bool_encode.specs.declared.scrap.Scrap.{Scrap}
use Rattle.bool_encode.specs.Scraps.{joins}
use Rattle.bool_encode.proofs.LightLemmas.{sorted_light, joins_light}
use Rattle.bool_encode.proofs.scrap.joined.Goals as goal

pub join-requires : goal.join-requires
join-requires c =
    subst (λ (ss : List Scrap). added_by (λ (s : Scrap). unsigned_abs s.factor) ss < 2 ^ 63) (sym c.as_slice.ensures.value) (sorted_light c.args.scraps.items c.sort.new.scraps.items c.in_ok-sort.ensures.permutation c.requires)

pub narrowed-requires : goal.narrowed-requires
narrowed-requires c =
    subst (λ (ss : List Scrap). All (λ (s : Scrap). unsigned_abs s.factor < 2 ^ 63) ss) (sym (c.as_slice-2.ensures.value ∙ c.in_ok-all.ensures ∙ ap joins c.as_slice.ensures.value))
    (joins_light c.sort.new.scraps.items (sorted_light c.args.scraps.items c.sort.new.scraps.items c.in_ok-sort.ensures.permutation c.requires))
