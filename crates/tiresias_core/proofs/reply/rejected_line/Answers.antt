use Rattle.std.proofs.Common.{◌≡◌, IfOk, List, ℕ, [], ◌∷◌, ◌++◌, subst, ◌∙◌, ap}
use Rattle.std.specs.Prelude.{codes, decimal}
use Rattle.tiresias_core.specs.Replies.{reason_words}
use Rattle.tiresias_core.proofs.Joined.{joined_six}
use Rattle.tiresias_core.proofs.reply.rejected_line.Goals as goal

pub returns : goal.returns
returns c =
    let text : c.as_str.result.now ≡ codes "rejected: " ++ reason_words c.args.reason ++ codes " " ++ decimal c.args.part ++ codes " " ++ decimal c.args.node =
    c.as_str.ensures.value ∙ c.in_ok-text.ensures.ok ∙ joined_six (codes "rejected: ") c.reason_words-words.result.now (codes " ") (decimal c.args.part) (codes " ") (decimal c.args.node) ∙ ap (λ (w : List ℕ). codes "rejected: " ++ w ++ codes " " ++ decimal c.args.part ++ codes " " ++ decimal c.args.node) c.reason_words-words.ensures in
    subst (λ (l : List ℕ). IfOk c.line_of.result (λ line. line ≡ l ++ 10 ∷ [])) text c.line_of.ensures
