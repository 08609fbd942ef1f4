use Rattle.std.proofs.Common.{arith, sym, ◌∙◌, ap, length}
use Rattle.cross_links.proofs.WalkLemmas.{walk_step}
use Rattle.cross_links.proofs.walk.GridWalkIterator.next.Goals as goal

pub returns-clause-steps : goal.returns-clause-steps
returns-clause-steps c =
    sym c.self.view_is
    ∙ walk_step c.self.inside.grid.now c.self.inside.line _ _ _ _ c.self.invariant c.in_ok-entry.ensures.entry.0 c.in_ok-entry.ensures.entry.1 c.number.ensures c.after-self-inside.ensures.rest

pub returns-clause-goes : goal.returns-clause-goes
returns-clause-goes c =
    let step = sym c.self.view_is ∙ walk_step c.self.inside.grid.now c.self.inside.line _ _ _ _ c.self.invariant c.in_ok-entry.ensures.entry.0 c.in_ok-entry.ensures.entry.1 c.number.ensures c.after-self-inside.ensures.rest in
    record {
      on = λ _. (tt, tt, omega (arith, ap length step));
      keeps = tt;
      rests = λ _. tt;
    }
