use Rattle.std.proofs.Common.{◌∙◌, sym, subst, ap, arith, All, ◌<◌, length}
use Rattle.std.proofs.lemmas.List.{length-map, get_or_read}
use Rattle.prov_arena.specs.declared.chains.Node.{Node}
use Rattle.prov_arena.specs.Formulas.{Formula, formula, kids_of}
use Rattle.prov_arena.proofs.Blanks.{blank, formula_at}
use Rattle.prov_arena.proofs.prov.Prov.node.Goals as goal

pub returns-clause-kids : goal.returns-clause-kids
returns-clause-kids c =
    let nodes = c.self.inside.nodes.items in
    let lt : c.args.id < length c.self.inside.nodes.items = omega (arith, ap length c.self.view_is, length-map nodes (λ (n : Node). formula n.part)) in
    let read = get_or_read nodes c.args.id c.index.result.now lt c.index.ensures blank in
    subst (λ (f : Formula). All (λ kid. kid < c.args.id) (kids_of f)) (formula_at nodes c.args.id ∙ ap (λ (n : Node). formula n.part) (sym read)) (c.self.invariant.graph.below c.args.id (omega (arith, ap length c.self.view_is)))
