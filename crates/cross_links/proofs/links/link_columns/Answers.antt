use Rattle.std.proofs.Common.{◌+◌, ◌<◌, length, arith}
use Rattle.std.proofs.lemmas.List.Elements.{All-get_or}
use Rattle.cross_links.specs.declared.entry.Entry.{Entry}
use Rattle.cross_links.proofs.LinkageLemmas.{column_head-entry, column_heads, link_none, link_step, link_all, alone_length}
use Rattle.cross_links.proofs.links.link_columns.Goals as goal

pub loop-i-init : goal.loop-i-init
loop-i-init c = record {
  places = alone_length _ _ c.requires.nexts;
  links = link_none c.args.first (length c.args.entries.now) _ _ _ (column_heads _ _ _ c.requires.within) c.requires.nexts c.requires.backs;
}

pub link_last-requires-clause-head : goal.link_last-requires-clause-head
link_last-requires-clause-head c =
    omega (arith, c.loop-i.invariant.places, All-get_or (λ (entry : Entry). c.args.rows + entry.column < c.args.first) c.args.entries.now c.loop-i.i (record { row = 0; column = 0 }) (omega arith) c.requires.within)

pub loop-i-preserved : goal.loop-i-preserved
loop-i-preserved c = record {
  places = omega arith;
  links = link_step c.args.first (length c.args.entries.now) c.loop-i.i _ _ _ _ _ _ (column_heads _ _ _ c.requires.within) (omega arith) (omega arith)
      (column_head-entry c.args.rows c.args.first c.args.entries.now c.loop-i.i) c.loop-i.invariant.links c.link_last.ensures.next c.link_last.ensures.back;
}

pub returns-clause-linked : goal.returns-clause-linked
returns-clause-linked c = link_all c.args.first (length c.args.entries.now) c.loop-i.i _ _ _ (omega arith) c.loop-i.invariant.links.1
