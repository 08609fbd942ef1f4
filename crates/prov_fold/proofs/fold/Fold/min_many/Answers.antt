use Rattle.std.proofs.Common.{◌∙◌, sym, ap, subst, All, List, ℕ, ◌<◌, map}
use Rattle.std.proofs.lemmas.List.Elements.{All-map}
use Rattle.prov_arena.specs.declared.part.Pair.{Pair}
use Rattle.prov_fold.specs.Graphs.{size, HasTruth}
use Rattle.prov_fold.specs.Rules.{or_of, least_of}
use Rattle.prov_fold.proofs.NumberLemmas.{then_ok}
use Rattle.prov_fold.proofs.AidLemmas.{or_stands}
use Rattle.prov_fold.proofs.MinLemmas.{min_by_many, truths_there, pairs_kept}
use Rattle.prov_fold.proofs.fold.Fold.min_many.Goals as goal

pub or-requires : goal.or-requires
or-requires c =
    subst (All (HasTruth c.args.self.now)) (sym (c.as_slice.ensures.value ∙ c.in_ok-truths.ensures)) (truths_there c.args.self.now c.args.pairs.now c.requires.pairs)

pub least-requires-clause-pairs : goal.least-requires-clause-pairs
least-requires-clause-pairs c =
    pairs_kept c.args.self.now c.or.new.self c.args.pairs.now c.or.ensures.kept c.requires.pairs

pub returns-clause-made : goal.returns-clause-made
returns-clause-made c = λ other.
    let truths = c.as_slice.ensures.value ∙ c.in_ok-truths.ensures in
    then_ok (or_of (map (λ (p : Pair). p.truth) c.args.pairs.now) c.args.self.now) (λ _. least_of c.args.pairs.now) c.in_ok-or.field-0 c.or.new.self _ (c.in_ok-or.ensures.made (λ e. cc) ∙ ap (λ (ts : List ℕ). or_of ts c.args.self.now) truths) (c.least.ensures.made other)
    ∙ min_by_many c.args.pairs.now c.args.self.now c.requires.many

pub least-requires-clause-or : goal.least-requires-clause-or
least-requires-clause-or c =
    let truths = c.as_slice.ensures.value ∙ c.in_ok-truths.ensures in
    let kids : List ℕ = map (λ (p : Pair). p.truth) c.args.pairs.now in
    or_stands kids c.args.self.now c.alloc.ensures.count (All-map (λ k. k < size c.args.self.now) (λ (p : Pair). p.truth) c.args.pairs.now (λ j d lt. (c.requires.pairs j d lt).truth.below))
    c.in_ok-or.field-0 c.or.new.self (c.in_ok-or.ensures.made (λ e. cc) ∙ ap (λ (ts : List ℕ). or_of ts c.args.self.now) truths) c.in_ok-or.ensures.truth
