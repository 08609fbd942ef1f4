use Rattle.std.proofs.Common.{◌≡◌, IfOk, List, ℕ, [], ◌∷◌, ◌++◌, subst, ◌∙◌}
use Rattle.std.specs.Prelude.{codes, decimal}
use Rattle.tiresias_core.proofs.Joined.{joined_four}
use Rattle.tiresias_core.proofs.refusal.cell_line.Goals as goal

pub returns : goal.returns
returns c =
    let text : c.as_str.result.now ≡ codes " " ++ decimal c.args.one ++ codes " " ++ decimal c.args.other = c.as_str.ensures.value ∙ c.in_ok-behind.ensures.ok ∙ joined_four (codes " ") (decimal c.args.one) (codes " ") (decimal c.args.other) in
    subst (λ (l : List ℕ). IfOk c.named_line.result (λ line. line ≡ c.args.words.now ++ c.args.table.now ++ l ++ 10 ∷ [])) text c.named_line.ensures
