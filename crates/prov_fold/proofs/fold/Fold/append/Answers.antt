use Rattle.std.proofs.Common.{◌≡◌, ◌∙◌, sym, subst, arith, [], ◌∷◌, ◌++◌, length, take, Ok}
use Rattle.prov_arena.specs.Formulas.{formula}
use Rattle.prov_fold.specs.Graphs.{Graph, size, Fits, Keeps}
use Rattle.prov_fold.specs.Folds.{HasAid}
use Rattle.prov_fold.specs.Rules.{Made}
use Rattle.prov_fold.specs.Rules as rule
use Rattle.prov_fold.proofs.AppendLemmas.{made, full, fold_after, keeps_after}
use Rattle.prov_fold.proofs.fold.Fold.append.Goals as goal

pub returns-then-len-eq-MOST_PARTS-clause-made : goal.returns-then-len-eq-MOST_PARTS-clause-made
returns-then-len-eq-MOST_PARTS-clause-made c =
    let g : Graph = record { parts = c.self.inside.prov; ranges = c.self.inside.ranges.items } in
    λ _. subst (λ (g : Graph). record { gives = c.ok_or.result; list = g } ≡ rule.interned c.args.span (formula c.args.part) g) c.self.view_is
    (full g c.args.span (formula c.args.part) c.find.result c.ok_or.result (sym c.len.ensures.len ∙ c.if-len-eq-MOST_PARTS.true) c.find.ensures.place c.ok_or.ensures.value)

pub invariant_of-self-2 : goal.invariant_of-self-2
invariant_of-self-2 c =
    let g : Graph = record { parts = c.self.inside.prov; ranges = c.self.inside.ranges.items } in
    let len : c.len-2.result ≡ length c.intern-made.new.self = c.len-2.ensures.len in
    let pushed : c.push.new.self.items ≡ c.self.inside.ranges.items ++ c.args.span ∷ [] = c.in_ok-push.ensures.items in
    let cut : c.truncate.new.self.items ≡ take c.len-2.result c.push.new.self.items = c.truncate.ensures.items in
    fold_after g c.args.span (formula c.args.part) c.in_ok-made.field-0 c.intern-made.new.self c.truncate.new.self.items c.self.invariant (subst (λ (g : Graph). Fits g c.args.span (formula c.args.part)) (sym c.self.view_is) c.requires.fits) (subst (λ (g : Graph). HasAid g (size g) (formula c.args.part)) (sym c.self.view_is) c.requires.aid) (omega (arith, c.self.invariant.few, c.len.ensures.len, c.if-len-eq-MOST_PARTS.false)) c.len-2.ensures.graph c.in_ok-made.ensures.interned (cut ∙ (λ i. take (len i) (pushed i)))

pub returns-clause-made : goal.returns-clause-made
returns-clause-made c =
    let g : Graph = record { parts = c.self.inside.prov; ranges = c.self.inside.ranges.items } in
    let len : c.len-2.result ≡ length c.intern-made.new.self = c.len-2.ensures.len in
    let pushed : c.push.new.self.items ≡ c.self.inside.ranges.items ++ c.args.span ∷ [] = c.in_ok-push.ensures.items in
    let cut : c.truncate.new.self.items ≡ take c.len-2.result c.push.new.self.items = c.truncate.ensures.items in
    λ _. subst (λ (g : Graph). record { gives = Ok c.in_ok-made.field-0; list = record { parts = c.intern-made.new.self; ranges = c.truncate.new.self.items } } ≡ rule.interned c.args.span (formula c.args.part) g) c.self.view_is
    (made g c.args.span (formula c.args.part) c.in_ok-made.field-0 c.intern-made.new.self c.truncate.new.self.items c.self.invariant.count (omega (arith, c.self.invariant.few, c.len.ensures.len, c.if-len-eq-MOST_PARTS.false)) c.in_ok-made.ensures.interned (cut ∙ (λ i. take (len i) (pushed i))))

pub returns-clause-kept : goal.returns-clause-kept
returns-clause-kept c =
    let g : Graph = record { parts = c.self.inside.prov; ranges = c.self.inside.ranges.items } in
    let len : c.len-2.result ≡ length c.intern-made.new.self = c.len-2.ensures.len in
    let pushed : c.push.new.self.items ≡ c.self.inside.ranges.items ++ c.args.span ∷ [] = c.in_ok-push.ensures.items in
    let cut : c.truncate.new.self.items ≡ take c.len-2.result c.push.new.self.items = c.truncate.ensures.items in
    subst (λ (g : Graph). Keeps g (record { parts = c.intern-made.new.self; ranges = c.truncate.new.self.items })) c.self.view_is
    (keeps_after g c.args.span (formula c.args.part) c.in_ok-made.field-0 c.intern-made.new.self c.truncate.new.self.items c.self.invariant.count c.in_ok-made.ensures.interned (cut ∙ (λ i. take (len i) (pushed i))))
