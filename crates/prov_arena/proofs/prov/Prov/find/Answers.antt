use Rattle.std.proofs.Common.{sym, subst, arith, ◌-◌}
use Rattle.prov_arena.specs.Formulas.{formula}
use Rattle.prov_arena.specs.Graphs.{IsGraph}
use Rattle.prov_arena.proofs.GraphLemmas.{place_absent, place_is, sought_in}
use Rattle.prov_arena.proofs.prov.Prov.find.Goals as goal

pub returns-then-link-eq0-clause-place : goal.returns-then-link-eq0-clause-place
returns-then-link-eq0-clause-place c =
    let s = sought_in _ _ _ (formula c.args.part) c.seek-link.result c.as_slice.ensures.value c.self.view_is c.seek-link.ensures in
    sym (place_absent c.args.self.now (formula c.args.part) (s.absent (omega arith)))

pub returns-else-link-eq0-clause-place : goal.returns-else-link-eq0-clause-place
returns-else-link-eq0-clause-place c =
    let s = sought_in _ _ _ (formula c.args.part) c.seek-link.result c.as_slice.ensures.value c.self.view_is c.seek-link.ensures in
    let graph = subst IsGraph c.self.view_is c.self.invariant.graph in
    sym (place_is c.args.self.now (formula c.args.part) (c.seek-link.result - 1) graph (omega (arith, s.within)) (s.found (omega arith)))
