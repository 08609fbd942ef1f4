use Rattle.std.proofs.Common.{rules, ◌≡◌, ◌∙◌, sym, ap, subst, ℤ, pos, ◌+ℤ◌, ◌<◌, ◌≤◌, ◌^◌, List, map, All, to_z, of_z, FitsSigned, w64}
use Rattle.std.proofs.Math.Facts.{to_z-of_z}
use Rattle.std.specs.List.Sorted.{IsStrictlyIncreasing}
use mir.Syntax.{w128}
use Rattle.prov_arena.specs.declared.part.Term.{Term}
use Rattle.prov_fold.specs.declared.sums.Scrap.{Scrap}
use Rattle.prov_fold.specs.Sums.{added_by, total_by}
use Rattle.prov_fold.specs.Spans.{lin_low, lin_high}
use Rattle.prov_fold.specs.Graphs.{size, range}
use Rattle.prov_fold.specs.Scraps.{IsGood, joins, kept, told, weight_of, fall_of, rise_of, base_of}
use Rattle.prov_fold.specs.Rules.{judged, sum, constant_of}
use Rattle.prov_fold.proofs.WholeLemmas.{below_joined, weight_joined, low_is, high_is, apart_is, good_joined, from_joined, terms_are}
use Rattle.prov_fold.proofs.FinishLemmas.{increasing}
use Rattle.prov_fold.proofs.MeantLemmas.{said, IsWorth}
use Rattle.prov_fold.proofs.NumberMeanings.{SumOf, sum_means}
use Rattle.prov_fold.proofs.fold.Fold.sum.Goals as goal

pub ends-ends-requires : goal.ends-ends-requires
ends-ends-requires c =
    let comes = c.in_ok-joined.ensures.comes in
    let all : c.as_slice.result.now ≡ joins comes.sorted = c.as_slice.ensures.value ∙ comes.joined in
    let fits_b : FitsSigned w128 c.base-base.result = search rules in
    let b : to_z w128 (of_z w128 c.base-base.result) ≡ c.base-base.result = to_z-of_z fits_b in
    record {
      below = subst (All (λ (s : Scrap). s.node < size c.args.self.now)) (sym all) (below_joined c.args.self.now c.args.constant c.args.parts.now c.in_ok-joined.ensures.fold c.requires.parts c.requires.factors comes.scraps comes.sorted comes.spread_out comes.permutation);
      weight = subst (λ (ss : List Scrap). added_by (λ (s : Scrap). weight_of c.args.self.now (told s)) ss ≤ 10 ^ 36) (sym all) (weight_joined c.args.self.now c.args.constant c.args.parts.now c.in_ok-joined.ensures.fold c.requires.parts c.requires.factors comes.scraps comes.sorted comes.spread_out comes.permutation);
      small = rw b c.base-base.ensures.small;
    }

pub judge-requires : goal.judge-requires
judge-requires c =
    let comes = c.in_ok-joined.ensures.comes in
    let all : c.as_slice.result.now ≡ joins comes.sorted = c.as_slice.ensures.value ∙ comes.joined in
    let all2 : c.as_slice-2.result.now ≡ joins comes.sorted = c.as_slice-2.ensures.value ∙ comes.joined in
    let k : to_z w64 (of_z w64 c.args.constant) ≡ c.args.constant = to_z-of_z c.ranges.constant in
    let fits_b : FitsSigned w128 c.base-base.result = search rules in
    let b : to_z w128 (of_z w128 c.base-base.result) ≡ c.base-base.result = to_z-of_z fits_b in
    let fits_t : FitsSigned w128 c.total-total.result = search rules in
    let t : to_z w128 (of_z w128 c.total-total.result) ≡ constant_of c.args.self.now c.args.constant c.args.parts.now = to_z-of_z fits_t ∙ c.total-total.ensures ∙ ap (λ (z : ℤ). constant_of c.args.self.now z c.args.parts.now) k in
    let base : c.base-base.result ≡ base_of c.args.self.now c.args.constant c.args.parts.now = c.base-base.ensures.value ∙ ap (λ (z : ℤ). base_of c.args.self.now z c.args.parts.now) k in
    let lo : c.ends-ends.result.0 ≡ c.base-base.result +ℤ total_by (λ (s : Scrap). fall_of c.args.self.now (told s)) (joins comes.sorted) = c.ends-ends.ensures.lo ∙ (λ i. b i +ℤ total_by (λ (s : Scrap). fall_of c.args.self.now (told s)) (all i)) in
    let hi : c.ends-ends.result.1 ≡ c.base-base.result +ℤ total_by (λ (s : Scrap). rise_of c.args.self.now (told s)) (joins comes.sorted) = c.ends-ends.ensures.hi ∙ (λ i. b i +ℤ total_by (λ (s : Scrap). rise_of c.args.self.now (told s)) (all i)) in
    let low = low_is c.args.self.now c.args.constant c.args.parts.now c.in_ok-joined.ensures.fold c.requires.parts c.requires.factors comes.scraps comes.sorted comes.spread_out comes.permutation c.base-base.result c.ends-ends.result.0 base lo in
    let high = high_is c.args.self.now c.args.constant c.args.parts.now c.in_ok-joined.ensures.fold c.requires.parts c.requires.factors comes.scraps comes.sorted comes.spread_out comes.permutation c.base-base.result c.ends-ends.result.1 base hi in
    record {
      low = low ∙ sym (λ i. lin_low (range c.args.self.now) (t i) (kept (all2 i)));
      high = high ∙ sym (λ i. lin_high (range c.args.self.now) (t i) (kept (all2 i)));
      apart = apart_is c.args.self.now c.args.constant c.args.parts.now c.in_ok-joined.ensures.fold c.requires.parts c.requires.factors comes.scraps comes.sorted comes.spread_out comes.permutation (constant_of c.args.self.now c.args.constant c.args.parts.now) c.ends-ends.result.0 c.ends-ends.result.1 low high
          ∙ sym (ap (λ (ss : List Scrap). c.ends-ends.result.0 +ℤ pos (added_by (λ (s : Scrap). weight_of c.args.self.now (told s)) ss)) all2);
      good = subst (All (λ (s : Scrap). IsGood c.args.self.now s.node)) (sym all2) (good_joined c.args.self.now c.args.constant c.args.parts.now c.in_ok-joined.ensures.fold c.requires.parts c.requires.factors comes.scraps comes.sorted comes.spread_out comes.permutation);
      rising = subst (λ (ss : List Scrap). IsStrictlyIncreasing (map (λ (t : Term). t.node) (kept ss))) (sym all2) (increasing 0 (kept (joins comes.sorted)) (from_joined c.args.self.now c.args.constant c.args.parts.now c.in_ok-joined.ensures.fold c.requires.parts c.requires.factors comes.scraps comes.sorted comes.spread_out comes.permutation comes.rising));
    }

pub returns-clause-made : goal.returns-clause-made
unfolding sum
returns-clause-made c =
    let comes = c.in_ok-joined.ensures.comes in
    let all : c.as_slice.result.now ≡ joins comes.sorted = c.as_slice.ensures.value ∙ comes.joined in
    let all2 : c.as_slice-2.result.now ≡ joins comes.sorted = c.as_slice-2.ensures.value ∙ comes.joined in
    let k : to_z w64 (of_z w64 c.args.constant) ≡ c.args.constant = to_z-of_z c.ranges.constant in
    let fits_b : FitsSigned w128 c.base-base.result = search rules in
    let b : to_z w128 (of_z w128 c.base-base.result) ≡ c.base-base.result = to_z-of_z fits_b in
    let fits_t : FitsSigned w128 c.total-total.result = search rules in
    let t : to_z w128 (of_z w128 c.total-total.result) ≡ constant_of c.args.self.now c.args.constant c.args.parts.now = to_z-of_z fits_t ∙ c.total-total.ensures ∙ ap (λ (z : ℤ). constant_of c.args.self.now z c.args.parts.now) k in
    let base : c.base-base.result ≡ base_of c.args.self.now c.args.constant c.args.parts.now = c.base-base.ensures.value ∙ ap (λ (z : ℤ). base_of c.args.self.now z c.args.parts.now) k in
    λ other. c.judge.ensures.made other ∙ (λ i. judged (t i) (kept (all2 i)) c.args.self.now) ∙ ap (λ (ts : List Term). judged (constant_of c.args.self.now c.args.constant c.args.parts.now) ts c.args.self.now) (terms_are c.args.self.now c.args.constant c.args.parts.now c.in_ok-joined.ensures.fold c.requires.parts c.requires.factors comes.scraps comes.sorted comes.spread_out comes.permutation comes.rising)

pub returns-clause-means : goal.returns-clause-means
returns-clause-means c =
    said (sum c.args.constant c.args.parts.now) c.args.self.now c.judge.new.self c.judge.result (IsWorth (SumOf c.args.constant c.args.parts.now)) (sum_means c.args.constant c.args.parts.now c.args.self.now c.in_ok-joined.ensures.fold (λ j d lt. (c.requires.parts j d lt).below)) (returns-clause-made c)
