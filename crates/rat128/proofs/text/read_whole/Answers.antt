use Rattle.std.proofs.Common.{◌≡◌, ◌≢◌, ◌∙◌, ℕ, ◌<◌, ◌^◌, decimal, drop, get_or, subst, arith}
use Rattle.rat128.proofs.Texts.{after_minus_none, after_minus_zero, after_minus_some, match_weaker, rest_is}
use Rattle.rat128.proofs.text.read_whole.Goals as goal

pub returns-in_err-read_natural-in-45 : goal.returns-in_err-read_natural-in-45
returns-in_err-read_natural-in-45 c =
    rw c.from_residual.ensures (after_minus_none c.args.bytes.now (omega arith) (subst (λ ds. (n : ℕ) → n < 2 ^ 127 → decimal n ≢ ds) (rest_is 1 c.args.bytes.now) c.in_err-read_natural-in-45.ensures))

pub returns-in_ok-read_natural-in-45 : goal.returns-in_ok-read_natural-in-45
returns-in_ok-read_natural-in-45 c =
    let first : get_or c.args.bytes.now 0 0 ≡ 45 = omega arith in
    let m = c.in_ok-read_natural-in-45.field-0 in
    let small = c.in_ok-read_natural-in-45.ensures.0 in
    let digits : decimal m ≡ drop 1 c.args.bytes.now = c.in_ok-read_natural-in-45.ensures.1 ∙ rest_is 1 c.args.bytes.now in
    match_weaker c.negative.result (after_minus_zero c.args.bytes.now m first digits) (λ z made. after_minus_some c.args.bytes.now m z (omega arith) first digits small made.0 made.1) c.negative.ensures
