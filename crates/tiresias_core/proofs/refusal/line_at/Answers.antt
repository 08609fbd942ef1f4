use Rattle.std.proofs.Common.{◌≡◌, IfOk, List, ℕ, [], ◌∷◌, ◌++◌, subst, ◌∙◌}
use Rattle.std.specs.Prelude.{codes, decimal}
use Rattle.tiresias_core.proofs.Joined.{joined_six}
use Rattle.tiresias_core.proofs.refusal.line_at.Goals as goal

pub returns : goal.returns
returns c =
    let text : c.as_str.result.now ≡ codes "refused: " ++ c.args.words.now ++ codes " " ++ decimal c.args.place.line ++ codes ":" ++ decimal c.args.place.column = c.as_str.ensures.value ∙ c.in_ok-text.ensures.ok ∙ joined_six (codes "refused: ") c.args.words.now (codes " ") (decimal c.args.place.line) (codes ":") (decimal c.args.place.column) in
    subst (λ (l : List ℕ). IfOk c.line_of.result (λ line. line ≡ l ++ 10 ∷ [])) text c.line_of.ensures
