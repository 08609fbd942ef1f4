use Rattle.std.proofs.Common.{subst, sym, All, ◌<◌}
use Rattle.std.specs.List.Sorted.{IsStrictlyIncreasing}
use Rattle.cross_links.specs.Layout.{Layout, live_columns}
use Rattle.cross_links.proofs.RisingLemmas.{columns_rise, columns_within}
use Rattle.cross_links.proofs.grid.Grid.row.Goals as goal

pub returns-clause-within : goal.returns-clause-within
returns-clause-within c =
    subst (All (λ n. n < c.args.self.now.columns)) (sym c.new.ensures)
    (subst (λ (grid : Layout). All (λ n. n < grid.columns) (live_columns grid c.args.row)) c.self.view_is
    (columns_within _ c.self.inside.entries.items c.self.inside.rows c.self.inside.columns c.self.invariant.fitting.within c.args.row))

pub returns-clause-rising : goal.returns-clause-rising
returns-clause-rising c =
    subst IsStrictlyIncreasing (sym c.new.ensures)
    (subst (λ (grid : Layout). IsStrictlyIncreasing (live_columns grid c.args.row)) c.self.view_is (columns_rise _ _ c.args.row c.self.invariant.fitting.rising))
