use Rattle.std.proofs.Common.{arith, subst}
use Rattle.cross_links.specs.Rings.{PutsBack}
use Rattle.cross_links.proofs.RunLemmas.{PutsBack-none, put_more}
use Rattle.cross_links.proofs.links.put_back_run.Goals as goal

pub loop-x-init : goal.loop-x-init
loop-x-init c = record {
  order = c.requires.order;
  links = (c.requires.closed, PutsBack-none _ _ _);
}

pub loop-x-preserved : goal.loop-x-preserved
loop-x-preserved c = record {
  order = omega arith;
  links = put_more c.loop-x.x _ _ _ _ _ _ _ _ (omega arith) (omega arith) (omega arith) (omega arith) c.loop-x.invariant.links c.put_back.ensures.next c.put_back.ensures.back;
}

pub returns-clause-put : goal.returns-clause-put
returns-clause-put c =
    subst (λ x. PutsBack x c.args.to c.args.next.now c.args.back.now c.loop-x.next c.loop-x.back) (omega arith) c.loop-x.invariant.links.1
