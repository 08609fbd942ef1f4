use Rattle.std.proofs.Common.{◌∙◌, sym, subst, ◌<◌, ◌==◌, List, All}
use Rattle.std.proofs.lemmas.List.Elements.{All-filter}
use Rattle.prov_arena.specs.declared.part.Pair.{Pair}
use Rattle.prov_fold.specs.Graphs.{size}
use Rattle.least_encode.proofs.narrow.narrow_span.Goals as goal

pub highs-requires-2 : goal.highs-requires-2
highs-requires-2 c =
    subst (λ (ps : List Pair). All (λ (p : Pair). p.number < size c.args.fold.now) ps) (sym (c.as_slice-2.ensures.value ∙ c.in_ok-sure.ensures)) (All-filter (λ (p : Pair). p.truth == 1) (λ (p : Pair). p.number < size c.args.fold.now) c.args.pairs.now c.requires)
