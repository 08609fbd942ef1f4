use Rattle.std.proofs.Common.{sym, ◌∙◌, ap}
use Rattle.std.proofs.lemmas.Option.{none-some}
use Rattle.rat128.specs.Operations.{div_of}
use Rattle.dict_pivot.specs.Dictionaries.{inverse_of}
use Rattle.dict_pivot.proofs.Narrow.{inverse_some}
use Rattle.dict_pivot.proofs.shares.inverse.Goals as goal

pub returns-in-Some : goal.returns-in-Some
unfolding inverse_of
returns-in-Some c = ap (λ p. div_of p c.args.cell.now) (sym c.from.ensures) ∙ sym c.div.ensures.gives ∙ c.in-Some.is

pub returns-in-None : goal.returns-in-None
unfolding inverse_of
returns-in-None c = absurd (none-some _ (sym c.in-None.is ∙ c.div.ensures.gives ∙ ap (λ p. div_of p c.args.cell.now) c.from.ensures ∙ inverse_some c.args.cell.now c.num-cell.ensures.narrow c.requires))
