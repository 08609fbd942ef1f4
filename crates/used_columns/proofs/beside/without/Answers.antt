use Rattle.std.proofs.Common.{◌∙◌, sym, ap, get_or, nat_eq}
use Rattle.std.specs.HashSet.{contains}
use Rattle.prov_fold.proofs.ListLemmas.{skipped, held_firsts, held_any}
use Rattle.prov_fold.specs.Rules.{firsts}
use Rattle.std.specs.List.{list_any}
use Rattle.used_columns.proofs.beside.without.Goals as goal
use Rattle.used_columns.proofs.beside.without.Goals.{then-kid-unit+in_ok-add_first, else-kid-unit}

pub loop-kid-preserved : goal.loop-kid-preserved
loop-kid-preserved c = elim c.if-kid-unit.branch [
  | then-kid-unit+in_ok-add_first w ↦
      let kids = c.args.kids.now in
      let i = c.loop-kid.kid-index in
      record {
        kept = ap (λ v. v.items) w.some-is ∙ held_firsts c.args.unit kids i c.loop-kid-test.true c.loop-kid.some.items w.add_first.new.some.items (contains nat_eq c.loop-kid.seen (get_or kids i 0)) w.if-kid-unit.true c.loop-kid.invariant.kept (c.loop-kid.invariant.known (get_or kids i 0)) w.in_ok-add_first.ensures.some;
        known = λ q. ap (λ s. contains nat_eq s q) w.seen-is ∙ w.in_ok-add_first.ensures.seen q ∙ held_any c.args.unit kids i c.loop-kid-test.true q (contains nat_eq c.loop-kid.seen q) w.if-kid-unit.true (c.loop-kid.invariant.known q);
      }
  | else-kid-unit w ↦
      let same = skipped c.args.unit c.args.kids.now c.loop-kid.kid-index c.loop-kid-test.true w.if-kid-unit.false in
      record {
        kept = ap (λ v. v.items) w.some-is ∙ c.loop-kid.invariant.kept ∙ ap firsts (sym same);
        known = λ q. ap (λ s. contains nat_eq s q) w.seen-is ∙ c.loop-kid.invariant.known q ∙ ap (list_any (nat_eq q)) (sym same);
      }
]
