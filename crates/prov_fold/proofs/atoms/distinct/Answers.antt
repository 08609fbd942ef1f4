use Rattle.std.proofs.Common.{◌∙◌, sym, ap, get_or}
use Rattle.std.specs.HashSet.{contains}
use Rattle.std.specs.List.{list_any}
use Rattle.prov_arena.specs.declared.part.Pair.{Pair}
use Rattle.prov_fold.specs.Rules.{first_pairs, is_same_key, is_same_pair}
use Rattle.prov_fold.proofs.PairLemmas.{skipped, held_firsts, held_any}
use Rattle.prov_fold.proofs.atoms.distinct.Goals as goal
use Rattle.prov_fold.proofs.atoms.distinct.Goals.{then-pair-ne-FALSE+in_ok-add_first, else-pair-ne-FALSE}

pub loop-pair-preserved : goal.loop-pair-preserved
loop-pair-preserved c = elim c.if-pair-ne-FALSE.branch [
  | then-pair-ne-FALSE+in_ok-add_first w ↦
      let pairs = c.args.pairs.now in
      let i = c.loop-pair.pair-index in
      let x : Pair = get_or c.args.pairs.now c.loop-pair.pair-index (record { truth = 0; number = 0 }) in
      record {
        listed = ap (λ v. v.items) w.some-is ∙ held_firsts pairs i c.loop-pair-test.true c.loop-pair.some.items w.add_first.new.some.items (contains is_same_key c.loop-pair.seen (x.truth, x.number)) w.if-pair-ne-FALSE.true c.loop-pair.invariant.listed (c.loop-pair.invariant.known x) w.in_ok-add_first.ensures.some;
        known = λ q. ap (λ s. contains is_same_key s (q.truth, q.number)) w.seen-is ∙ w.in_ok-add_first.ensures.seen (q.truth, q.number) ∙ held_any pairs i c.loop-pair-test.true q (contains is_same_key c.loop-pair.seen (q.truth, q.number)) w.if-pair-ne-FALSE.true (c.loop-pair.invariant.known q);
      }
  | else-pair-ne-FALSE w ↦
      let same = skipped c.args.pairs.now c.loop-pair.pair-index c.loop-pair-test.true w.if-pair-ne-FALSE.false in
      record {
        listed = ap (λ v. v.items) w.some-is ∙ c.loop-pair.invariant.listed ∙ ap first_pairs (sym same);
        known = λ q. ap (λ s. contains is_same_key s (q.truth, q.number)) w.seen-is ∙ c.loop-pair.invariant.known q ∙ ap (list_any (is_same_pair q)) (sym same);
      }
]
