use Rattle.std.proofs.Common.{sym, ◌∙◌, ap, pos}
use Rattle.std.proofs.Math.Facts.{to_z-of_z}
use Rattle.std.proofs.lemmas.Option.{none-some}
use Rattle.rat128.specs.Fractions.{whole_fraction}
use Rattle.rat128.specs.Operations.{new_of}
use Rattle.dict_pivot.proofs.StartRows.{new_whole, same_fraction}
use Rattle.dict_pivot.proofs.begin.whole.Goals as goal

pub returns-in-Some-clause-value : goal.returns-in-Some-clause-value
returns-in-Some-clause-value c =
    c.fitting.ensures.same ∙ same_fraction c.in-Some.whole (whole_fraction c.args.number) (sym c.in-Some.is ∙ c.new.ensures.gives ∙ ap (λ z. new_of z (pos 1)) (to_z-of_z c.ranges.number) ∙ new_whole c.args.number c.requires)

pub returns-in-None-clause-value : goal.returns-in-None-clause-value
returns-in-None-clause-value c = absurd (none-some _ (sym c.in-None.is ∙ c.new.ensures.gives ∙ ap (λ z. new_of z (pos 1)) (to_z-of_z c.ranges.number) ∙ new_whole c.args.number c.requires))
