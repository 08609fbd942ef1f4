use Rattle.std.proofs.lemmas.Bool.Decides.{Decides-eqb}
use Rattle.std.proofs.lemmas.Slice.Eq.{strip_prefix_is}
use Rattle.answer_text.proofs.Words.{strip_is}
use Rattle.answer_text.proofs.tokens.strip.Goals as goal

pub returns : goal.returns
returns c = strip_is _ _ _ (strip_prefix_is Decides-eqb _ _ _ c.strip_prefix.ensures.cases)
