use Rattle.std.proofs.Common.{◌∙◌, ◌+◌, ◌<◌, List, ℕ, sym, subst, rules}
use Rattle.std.specs.List.{All}
use Rattle.ip_partition.proofs.SizeLemmas.{IsBeyond, greater_is, beyond_begins, beyond_more, beyond_all}
use Rattle.ip_partition.proofs.sizes.rows_end_of.Goals as goal

pub loop-row-init : goal.loop-row-init
loop-row-init c =
    beyond_begins c.args.grid.now c.args.column _ (c.into_iter-row-iterator.ensures.into_iter_gives ∙ c.column-row-items.ensures.numbers)
    (subst (λ (xs : List ℕ). All (λ row. row < c.args.grid.now.rows) xs) (sym c.into_iter-row-iterator.ensures.into_iter_gives) c.column-row-items.ensures.within)

pub loop-row-preserved : goal.loop-row-preserved
loop-row-preserved c =
    subst (λ n. IsBeyond c.args.grid.now c.args.column n c.next.new.self) (sym (c.max-end.ensures ∙ greater_is c.loop-row.end (c.in-Some.row + 1)))
    (beyond_more c.args.grid.now c.args.column c.loop-row.end c.in-Some.row c.loop-row.row-iterator c.next.new.self c.in-Some.ensures.steps (search rules) c.loop-row.invariant)

pub returns-clause-beyond : goal.returns-clause-beyond
returns-clause-beyond c = beyond_all c.args.grid.now c.args.column c.loop-row.end c.loop-row.row-iterator c.in-None.ensures.steps.0 c.loop-row.invariant
