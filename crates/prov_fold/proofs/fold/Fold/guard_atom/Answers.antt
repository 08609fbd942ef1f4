use Rattle.std.proofs.Common.{◌∙◌, ap, subst}
use Rattle.prov_fold.specs.declared.span.Span.{Span}
use Rattle.prov_fold.specs.Spans.{widened}
use Rattle.prov_fold.specs.Graphs.{Fits, node}
use Rattle.prov_fold.proofs.AtomLemmas.{guard_fits}
use Rattle.prov_fold.proofs.fold.Fold.guard_atom.Goals as goal

pub number-requires-clause-fits : goal.number-requires-clause-fits
number-requires-clause-fits c =
    let is = c.range.ensures.range in
    guard_fits c.args.self.now c.widened-span.result c.args.truth c.args.number c.range.ensures.fold c.requires.truth c.requires.number c.requires.terms (subst (λ (s : Span). Fits c.args.self.now s (node c.args.self.now c.args.number)) is c.range.ensures.fits) (c.widened-span.ensures ∙ ap widened is)
