use Rattle.walk_choices.proofs.QueryChoices.{walk_choices}
use Rattle.walk_choices.proofs.walks_over_choices.Goals as goal

pub returns : goal.returns
returns c = walk_choices
