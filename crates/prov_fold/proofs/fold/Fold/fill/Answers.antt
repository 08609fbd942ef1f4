use Rattle.std.proofs.Common.{rules, ◌∙◌, ap, to_z, of_z, take, ◌<◌, FitsSigned, w64}
use Rattle.std.proofs.Math.Facts.{to_z-of_z}
use Rattle.prov_arena.specs.Formulas.{formula}
use Rattle.prov_fold.specs.Graphs.{size}
use Rattle.prov_fold.specs.Values.{number_at, value_of}
use Rattle.prov_fold.proofs.FillLemmas.{can_fill, fill_step, fill_start}
use Rattle.prov_fold.proofs.fold.Fold.fill.Goals as goal

pub nodes-init : goal.nodes-init
nodes-init c = fill_start c.args.self.now c.args.world.now c.args.out.now c.requires.room

pub value-value-requires : goal.value-value-requires
value-value-requires c =
    let lt : c.nodes.id < size c.args.self.now = search rules in
    can_fill c.args.self.now c.args.world.now c.nodes.id c.nodes.out c.node.ensures.fold c.requires.world lt c.nodes.invariant (formula c.node.result) c.node.ensures.part

pub nodes-preserved : goal.nodes-preserved
nodes-preserved c =
    let lt : c.nodes.id < size c.args.self.now = search rules in
    let fits : FitsSigned w64 c.value-value.result = search rules in
    fill_step c.args.self.now c.args.world.now c.nodes.id c.nodes.out c.node.ensures.fold c.requires.world lt c.nodes.invariant (to_z w64 (of_z w64 c.value-value.result))
    (to_z-of_z fits ∙ c.value-value.ensures ∙ ap (value_of c.args.world.now (number_at (take c.nodes.id c.nodes.out))) c.node.ensures.part)
