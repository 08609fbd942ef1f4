use Rattle.std.proofs.Common.{get_or}
use Rattle.std.proofs.lemmas.List.{get_or_default}
use Rattle.prov_arena.specs.declared.part.Pair.{Pair}
use Rattle.prov_arena.specs.Formulas.{MinNode, kids_of}
use Rattle.prov_fold.specs.Graphs.{node, size}
use Rattle.used_columns.specs.Used.{made_of, all_made_of}
use Rattle.used_columns.specs.Marks.{marked}
use Rattle.used_columns.proofs.MarkLemmas.{pairs_more, length_after}
use Rattle.used_columns.proofs.NameLemmas.{pair_there}
use Rattle.used_columns.proofs.walk.mark_pairs.Goals as goal

pub mark-requires-clause-there : goal.mark-requires-clause-there
mark-requires-clause-there c = (pair_there (size c.args.fold.now) c.args.pairs.now c.loop-pair.pair-index (record { truth = 0; number = 0 }) c.loop-pair-test.true c.requires.there).0

pub mark-requires-in-loop-pair-clause-there : goal.mark-requires-in-loop-pair-clause-there
mark-requires-in-loop-pair-clause-there c = (pair_there (size c.args.fold.now) c.args.pairs.now c.loop-pair.pair-index (record { truth = 0; number = 0 }) c.loop-pair-test.true c.requires.there).1

pub loop-pair-preserved : goal.loop-pair-preserved
loop-pair-preserved c =
    let g = c.args.fold.now in
    let p : Pair = get_or c.args.pairs.now c.loop-pair.pair-index (record { truth = 0; number = 0 }) in
    record {
      count =
          length_after c.mark.new.marks c.mark-in-loop-pair.new.marks (made_of p.number (node g p.number)) (size g) c.mark-in-loop-pair.ensures
          (length_after c.loop-pair.marks c.mark.new.marks (made_of p.truth (node g p.truth)) (size g) c.mark.ensures c.loop-pair.invariant.count);
      rest =
          pairs_more g c.loop-pair.marks c.mark.new.marks c.mark-in-loop-pair.new.marks c.args.pairs.now c.loop-pair.pair-index p (marked c.args.marks.now (all_made_of g (kids_of (MinNode c.args.pairs.now)))) c.loop-pair-test.true
          (get_or_default c.args.pairs.now c.loop-pair.pair-index (record { truth = 0; number = 0 }) p c.loop-pair-test.true) c.mark.ensures c.mark-in-loop-pair.ensures c.loop-pair.invariant.rest;
    }
