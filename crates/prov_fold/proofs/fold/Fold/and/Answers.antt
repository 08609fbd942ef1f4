use Rattle.std.proofs.Common.{◌≡◌, ◌∙◌, sym, ap, subst, ℕ, List, All, Ok, ◌==◌, true, false}
use Rattle.std.specs.List.{list_any}
use Rattle.prov_arena.specs.Formulas.{AndNode}
use Rattle.prov_fold.specs.Graphs.{HasTruth}
use Rattle.prov_fold.specs.Rules.{left, list_of, and_of}
use Rattle.prov_fold.proofs.ListLemmas.{decided, undecided, All-left}
use Rattle.prov_fold.proofs.MeantLemmas.{said}
use Rattle.prov_fold.proofs.ListMeanings.{AndOf, and_means}
use Rattle.prov_fold.proofs.fold.Fold.and.Goals as goal

pub returns-then-has-clause-made : goal.returns-then-has-clause-made
unfolding and_of
returns-then-has-clause-made c = λ _.
    let place : c.fixed.result ≡ 0 = c.fixed.ensures.place in
    let found : list_any (λ k. k == 0) c.in_ok-all.all.items ≡ true = ap (list_any (λ k. k == 0)) (sym c.as_slice.ensures.value) ∙ sym c.has.ensures ∙ c.if-has.true in
    (λ i. record { gives = Ok (place i); list = c.args.self.now }) ∙ decided 1 0 (λ ks. AndNode ks) c.in_ok-all.all.items c.args.self.now found ∙ ap (λ (ks : List ℕ). list_of 1 0 (λ ks. AndNode ks) ks c.args.self.now) c.in_ok-all.ensures.kids

pub and_of-requires : goal.and_of-requires
and_of-requires c =
    let some : c.as_slice-3.result.now ≡ left 1 c.in_ok-all.all.items = c.as_slice-3.ensures.value ∙ c.in_ok-some.ensures ∙ ap (left 1) c.as_slice-2.ensures.value in
    subst (All (HasTruth c.args.self.now)) (sym some) (All-left (HasTruth c.args.self.now) 1 c.in_ok-all.all.items c.in_ok-all.ensures.truths)

pub returns-clause-made : goal.returns-clause-made
unfolding and_of
returns-clause-made c = λ other.
    let some : c.as_slice-3.result.now ≡ left 1 c.in_ok-all.all.items = c.as_slice-3.ensures.value ∙ c.in_ok-some.ensures ∙ ap (left 1) c.as_slice-2.ensures.value in
    let missed : list_any (λ k. k == 0) c.in_ok-all.all.items ≡ false = ap (list_any (λ k. k == 0)) (sym c.as_slice.ensures.value) ∙ sym c.has.ensures ∙ c.if-has.false in
    undecided 1 0 (λ ks. AndNode ks) c.in_ok-all.all.items c.as_slice-3.result.now c.args.self.now _ missed some (c.and_of.ensures.made other) ∙ ap (λ (ks : List ℕ). list_of 1 0 (λ ks. AndNode ks) ks c.args.self.now) c.in_ok-all.ensures.kids

pub returns-then-has-clause-means : goal.returns-then-has-clause-means
returns-then-has-clause-means c =
    said (and_of c.args.kids.now) c.args.self.now c.args.self.now (Ok c.fixed.result) (AndOf c.args.kids.now) (and_means c.args.kids.now c.args.self.now c.fixed.ensures.fold (λ j d lt. (c.requires j d lt).below)) (returns-then-has-clause-made c)

pub returns-clause-means : goal.returns-clause-means
returns-clause-means c =
    said (and_of c.args.kids.now) c.args.self.now c.and_of.new.self c.and_of.result (AndOf c.args.kids.now) (and_means c.args.kids.now c.args.self.now c.alloc.ensures (λ j d lt. (c.requires j d lt).below)) (returns-clause-made c)
