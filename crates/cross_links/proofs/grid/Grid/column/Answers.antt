use Rattle.std.proofs.Common.{subst, sym, All, ◌<◌}
use Rattle.std.specs.List.Sorted.{IsStrictlyIncreasing}
use Rattle.cross_links.specs.Layout.{Layout, live_rows}
use Rattle.cross_links.proofs.RisingLemmas.{rows_rise, rows_within}
use Rattle.cross_links.proofs.grid.Grid.column.Goals as goal

pub returns-clause-within : goal.returns-clause-within
returns-clause-within c =
    subst (All (λ n. n < c.args.self.now.rows)) (sym c.new.ensures)
    (subst (λ (grid : Layout). All (λ n. n < grid.rows) (live_rows grid c.args.column)) c.self.view_is
    (rows_within _ c.self.inside.entries.items c.self.inside.rows c.self.inside.columns c.self.invariant.fitting.within c.args.column))

pub returns-clause-rising : goal.returns-clause-rising
returns-clause-rising c =
    subst IsStrictlyIncreasing (sym c.new.ensures)
    (subst (λ (grid : Layout). IsStrictlyIncreasing (live_rows grid c.args.column)) c.self.view_is (rows_rise _ _ c.args.column c.self.invariant.fitting.rising))
