use Rattle.std.proofs.Common.{◌≢◌, ◌∙◌, ap, subst, unsigned_abs, to_z-of_z}
use Rattle.std.specs.Int.{w128}
use Rattle.std.proofs.lemmas.Int.{fits_signed_from_abs}
use Rattle.rat128.specs.Divisors.{gcd}
use Rattle.rat128.specs.Steps.{seen}
use Rattle.rat128.proofs.Texts.{small_den_none, common_none, both_texts, match_weaker}
use Rattle.rat128.proofs.text.read_both.Goals as goal

pub returns-then-den-lt2 : goal.returns-then-den-lt2
returns-then-den-lt2 c =
    small_den_none c.args.num.now c.args.den.now c.in_ok-den.den c.in_ok-den.ensures.0 c.in_ok-den.ensures.1 c.if-den-lt2.true

pub returns-else-den-lt2 : goal.returns-else-den-lt2
returns-else-den-lt2 c =
    let top = c.in_ok-num.ensures in
    let bottom = c.in_ok-den.ensures in
    let there = to_z-of_z (fits_signed_from_abs w128 c.in_ok-num.num top.0) in
    match_weaker c.in_lowest_terms.result (λ common. common_none c.args.num.now c.args.den.now c.in_ok-num.num c.in_ok-den.den top.0 bottom.0 top.1 bottom.1 (subst (λ z. gcd (unsigned_abs z) c.in_ok-den.den ≢ 1) there common)) (λ r is. both_texts c.args.num.now c.args.den.now c.in_ok-num.num c.in_ok-den.den r top.1 bottom.1 c.if-den-lt2.false (is ∙ ap (λ z. seen z c.in_ok-den.den) there)) c.in_lowest_terms.ensures
