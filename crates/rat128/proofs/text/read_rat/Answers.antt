use Rattle.std.proofs.Common.{◌+◌, ◌<◌, take, drop, length, MatchOption, subst, arith}
use Rattle.rat128.specs.Fractions.{Fraction}
use Rattle.rat128.specs.Operations.{IsNarrow}
use Rattle.rat128.specs.Steps.{AreTexts}
use Rattle.rat128.proofs.Texts.{alone_none, both_none, both_some, if_none, if_some_match, rest_is}
use Rattle.rat128.proofs.text.read_rat.Goals as goal

pub returns-then-slash-bytes-clause-none : goal.returns-then-slash-bytes-clause-none
returns-then-slash-bytes-clause-none c =
    if_none _ c.read_alone.result (alone_none c.args.bytes.now (λ k lt. c.slash_at-slash.ensures.before k (omega arith))) c.read_alone.ensures

-- what was read on both sides of the slash
read : (c : goal.After-read_both) → let bytes = c.args.bytes.now in let at = c.slash_at-slash.result in MatchOption c.read_both.result ((r : Fraction) → IsNarrow r → 0 < r.less_one → AreTexts r (take at bytes) (drop (at + 1) bytes) → ⊥) (λ r. (0 < r.less_one) × AreTexts r (take at bytes) (drop (at + 1) bytes))
read c =
    let bytes = c.args.bytes.now in
    let at = c.slash_at-slash.result in
    subst (λ den. MatchOption c.read_both.result ((r : Fraction) → IsNarrow r → 0 < r.less_one → AreTexts r (take at bytes) den → ⊥) (λ r. (0 < r.less_one) × AreTexts r (take at bytes) den)) (rest_is (at + 1) bytes) c.read_both.ensures

pub returns-else-slash-bytes-clause-none : goal.returns-else-slash-bytes-clause-none
returns-else-slash-bytes-clause-none c =
    let lt : c.slash_at-slash.result < length c.args.bytes.now = omega arith in
    if_none _ c.read_both.result (both_none c.args.bytes.now c.slash_at-slash.result c.slash_at-slash.ensures.before lt (c.slash_at-slash.ensures.found lt)) (read c)

pub returns-else-slash-bytes-clause-some : goal.returns-else-slash-bytes-clause-some
returns-else-slash-bytes-clause-some c =
    let lt : c.slash_at-slash.result < length c.args.bytes.now = omega arith in
    if_some_match _ c.read_both.result (λ r p. both_some r c.args.bytes.now c.slash_at-slash.result lt (c.slash_at-slash.ensures.found lt) p.0 p.1) (read c)
