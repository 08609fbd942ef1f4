use Rattle.std.proofs.Common.{◌∙◌, sym, ap, length}
use Rattle.prov_arena.specs.Formulas.{formula}
use Rattle.used_columns.specs.Columns.{own_stands}
use Rattle.used_columns.proofs.CountLemmas.{min_count}
use Rattle.used_columns.proofs.layout.own_count.Goals as goal

pub returns-in-Min : goal.returns-in-Min
returns-in-Min c = λ z. sym (ap (λ p. length (own_stands z (formula p))) c.in-Min.is ∙ min_count z c.in-Min.pairs.now)
