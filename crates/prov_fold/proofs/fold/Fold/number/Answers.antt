use Rattle.std.proofs.Common.{◌∙◌, sym, ap, pos, [], ◌∷◌}
use Rattle.prov_arena.specs.Formulas.{LinNode}
use Rattle.prov_fold.specs.declared.span.Span.{Span}
use Rattle.prov_fold.specs.Kinds.{is_term}
use Rattle.prov_fold.specs.Rules as rule
use Rattle.prov_fold.proofs.NumberLemmas.{once_fits, one_atom, then_ok}
use Rattle.prov_fold.proofs.fold.Fold.number.Goals as goal

pub append-requires-2-clause-fits : goal.append-requires-2-clause-fits
append-requires-2-clause-fits c =
    once_fits c.append.new.self c.in_ok-atom.atom c.range-span.result c.in_ok-atom.ensures.place.0 (ap is_term c.in_ok-atom.ensures.place.1 ∙ c.requires.term) c.range-span.ensures.range c.range-span.ensures.fits

pub returns-clause-made : goal.returns-clause-made
returns-clause-made c = λ other.
    then_ok _ _ c.in_ok-atom.atom c.append.new.self _ (c.in_ok-atom.ensures.made (λ e. cc)) (c.append-2.ensures.made other ∙ ap (λ (s : Span). rule.interned s (LinNode (pos 0) (record { factor = pos 1; node = c.in_ok-atom.atom } ∷ [])) c.append.new.self) (c.range-span.ensures.range ∙ sym (one_atom c.append.new.self c.in_ok-atom.atom)))
