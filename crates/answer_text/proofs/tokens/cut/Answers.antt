use Rattle.std.proofs.Common.{◌∙◌, ap, List, ℕ, Bor}
use Rattle.std.specs.Option.{option_map}
use Rattle.answer_text.proofs.Words.{cut_at, cut_nowhere}
use Rattle.answer_text.proofs.tokens.cut.Goals as goal

pub returns-in_err-at : goal.returns-in_err-at
returns-in_err-at c =
    ap (option_map (λ (x : Bor (List ℕ) × Bor (List ℕ)). (x.0.now, x.1.now))) c.from_residual.ensures ∙ cut_nowhere c.args.mark c.args.bytes.now c.in_err-at.ensures.place

pub returns : goal.returns
returns c = cut_at _ _ _ c.in_ok-at.ensures.place
