use Rattle.std.proofs.Common.{rules, ◌∙◌, sym, ap, subst, arith, List, All, map, length, FitsSigned, w64, ◌<◌, vec_len}
use Rattle.std.proofs.Math.Facts.{to_z-of_z}
use Rattle.std.proofs.lemmas.Bool.Decides.{Decides-eqb}
use Rattle.prov_arena.specs.declared.part.Pair.{Pair}
use Rattle.prov_fold.specs.Spans.{least, greatest, widened, sure, IsLeastSpan}
use Rattle.prov_fold.specs.Graphs.{range, HasPair}
use Rattle.prov_fold.proofs.LeastLemmas.{not_none, span_sure, span_open, sure_span, open_span, sure_has}
use Rattle.prov_fold.proofs.fold.Fold.least_span.Goals as goal

pub returns-then-is_empty-clause-span : goal.returns-then-is_empty-clause-span
returns-then-is_empty-clause-span c =
    let fits_l : FitsSigned w64 c.least_of-lo.result = search rules in
    let fits_h : FitsSigned w64 c.greatest_of-hi.result = search rules in
    let lo = to_z-of_z fits_l ∙ c.least_of-lo.ensures ∙ ap least (c.as_slice.ensures.value ∙ c.in_ok-lows.ensures) in
    let hi = to_z-of_z fits_h ∙ c.greatest_of-hi.ensures ∙ ap greatest (c.as_slice-then-is_empty.ensures.value ∙ c.in_ok-highs.ensures) in
    let none = (Decides-eqb _ 0).0 (sym c.is_empty.ensures ∙ c.if-is_empty.true) in
    c.widened.ensures ∙ (λ i. widened (record { lo = lo i; hi = hi i })) ∙ span_open (range c.args.self.now) c.args.pairs.now c.in_ok-sure.sure.items c.in_ok-sure.ensures (omega (arith, none, c.in_ok-sure.sure.ok.0))

pub returns-then-is_empty-clause-fits : goal.returns-then-is_empty-clause-fits
returns-then-is_empty-clause-fits c =
    let fits_l : FitsSigned w64 c.least_of-lo.result = search rules in
    let fits_h : FitsSigned w64 c.greatest_of-hi.result = search rules in
    let lo = to_z-of_z fits_l ∙ c.least_of-lo.ensures ∙ ap least (c.as_slice.ensures.value ∙ c.in_ok-lows.ensures) in
    let hi = to_z-of_z fits_h ∙ c.greatest_of-hi.ensures ∙ ap greatest (c.as_slice-then-is_empty.ensures.value ∙ c.in_ok-highs.ensures) in
    subst IsLeastSpan (sym (c.widened.ensures ∙ (λ i. widened (record { lo = lo i; hi = hi i })))) (open_span c.args.self.now c.alloc.ensures c.args.pairs.now c.requires.pairs c.requires.some)

pub highs-requires-2 : goal.highs-requires-2
highs-requires-2 c =
    subst (All (HasPair c.args.self.now)) (sym (c.as_slice-2.ensures.value ∙ c.in_ok-sure.ensures)) (sure_has c.args.self.now c.alloc.ensures c.args.pairs.now c.requires.pairs)

pub returns-clause-span : goal.returns-clause-span
returns-clause-span c =
    let fits_l : FitsSigned w64 c.least_of-lo.result = search rules in
    let fits_h : FitsSigned w64 c.least_of-hi.result = search rules in
    let lo = to_z-of_z fits_l ∙ c.least_of-lo.ensures ∙ ap least (c.as_slice.ensures.value ∙ c.in_ok-lows.ensures) in
    let hi = to_z-of_z fits_h ∙ c.least_of-hi.ensures ∙ ap least (c.as_slice-3.ensures.value ∙ c.in_ok-highs-2.ensures ∙ ap (map (λ (p : Pair). (range c.args.self.now p.number).hi)) c.as_slice-2.ensures.value) in
    let some : 0 < length c.in_ok-sure.sure.items = not_none (length c.in_ok-sure.sure.items) (vec_len c.in_ok-sure.sure) (omega (arith, c.in_ok-sure.sure.ok.0)) (sym c.is_empty.ensures ∙ c.if-is_empty.false) in
    (λ i. record { lo = lo i; hi = hi i }) ∙ span_sure (range c.args.self.now) c.args.pairs.now c.in_ok-sure.sure.items c.in_ok-sure.ensures some

pub returns-clause-fits : goal.returns-clause-fits
returns-clause-fits c =
    let fits_l : FitsSigned w64 c.least_of-lo.result = search rules in
    let fits_h : FitsSigned w64 c.least_of-hi.result = search rules in
    let lo = to_z-of_z fits_l ∙ c.least_of-lo.ensures ∙ ap least (c.as_slice.ensures.value ∙ c.in_ok-lows.ensures) in
    let hi = to_z-of_z fits_h ∙ c.least_of-hi.ensures ∙ ap least (c.as_slice-3.ensures.value ∙ c.in_ok-highs-2.ensures ∙ ap (map (λ (p : Pair). (range c.args.self.now p.number).hi)) (c.as_slice-2.ensures.value ∙ c.in_ok-sure.ensures)) in
    let some : 0 < length (sure c.args.pairs.now) = subst (λ (ps : List Pair). 0 < length ps) c.in_ok-sure.ensures (not_none (length c.in_ok-sure.sure.items) (vec_len c.in_ok-sure.sure) (omega (arith, c.in_ok-sure.sure.ok.0)) (sym c.is_empty.ensures ∙ c.if-is_empty.false)) in
    subst IsLeastSpan (sym (λ i. record { lo = lo i; hi = hi i })) (sure_span c.args.self.now c.alloc.ensures c.args.pairs.now c.requires.pairs some)
