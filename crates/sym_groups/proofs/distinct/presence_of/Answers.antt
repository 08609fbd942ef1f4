use Rattle.std.proofs.Common.{All, map, subst, sym, ◌∙◌}
use Rattle.prov_fold.specs.Graphs.{HasTruth}
use Rattle.sym_groups.proofs.ItemCells.{have_truths}
use Rattle.sym_groups.proofs.Listed.{presence_ok}
use Rattle.sym_groups.proofs.distinct.presence_of.Goals as goal

pub or-requires : goal.or-requires
or-requires c = subst (All (HasTruth c.args.fold.now)) (sym (c.as_slice.ensures.value ∙ c.in_ok-truths.ensures)) (have_truths c.args.fold.now (map (λ row. row.now) c.args.group.now) c.requires)

pub returns : goal.returns
returns c = presence_ok (map (λ row. row.now) c.args.group.now) c.as_slice.result.now c.args.fold.now c.or.new.fold c.or.result (c.as_slice.ensures.value ∙ c.in_ok-truths.ensures) c.or.ensures
