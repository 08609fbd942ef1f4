use Rattle.cross_links.proofs.StartLemmas.{next_start}
use Rattle.cross_links.proofs.starts.row_end.Goals as goal

pub returns-else-entries-end : goal.returns-else-entries-end
returns-else-entries-end c =
    next_start _ _ c.args.start _ c.requires.rising c.requires.start c.loop-end.invariant.order c.loop-end.invariant.within c.loop-end.invariant.here (λ _. c.if-entries-end.false)
