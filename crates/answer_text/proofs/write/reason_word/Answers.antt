use Rattle.std.proofs.Common.{◌≡◌, refl, codes}
use Rattle.answer_text.specs.Text.{reason_word}
use Rattle.branch_tree.specs.declared.node.Reason.{Reason}
use Rattle.branch_tree.specs.declared.node.Reason.TheVariants as reason
use Rattle.answer_text.proofs.write.reason_word.Goals as goal

word_is : (r : Reason) → codes "plain" ≡ reason_word r
word_is reason.Plain = refl

pub returns : goal.returns
returns c = word_is c.args.reason
