use Rattle.std.proofs.Common.{◌∙◌, sym, ap, subst, ◌≤◌, ◌^◌, pos, unsigned_abs, List}
use Rattle.prov_fold.specs.declared.sums.Scrap.{Scrap}
use Rattle.prov_fold.specs.Sums.{added_by}
use Rattle.prov_fold.specs.Scraps.{joins}
use Rattle.prov_fold.proofs.WholeLemmas.{size_sorted}
use Rattle.prov_fold.proofs.fold.Fold.joined.Goals as goal

pub join-requires : goal.join-requires
join-requires c =
    subst (λ (ss : List Scrap). added_by (λ (s : Scrap). unsigned_abs s.factor) ss ≤ 10 ^ 36) (sym c.as_slice.ensures.value)
    (size_sorted c.args.self.now (pos 0) c.args.parts.now c.alloc-alloc.ensures c.requires.parts c.requires.factors c.in_ok-scraps.scraps.items c.sort.new.scraps.items c.in_ok-scraps.ensures c.in_ok-sort.ensures.permutation)

pub returns-clause-comes : goal.returns-clause-comes
returns-clause-comes c = record {
  scraps = c.in_ok-scraps.scraps.items;
  sorted = c.sort.new.scraps.items;
  spread_out = c.in_ok-scraps.ensures;
  permutation = c.in_ok-sort.ensures.permutation;
  rising = c.in_ok-sort.ensures.sorted;
  joined = c.in_ok-all.ensures ∙ ap joins c.as_slice.ensures.value;
}
