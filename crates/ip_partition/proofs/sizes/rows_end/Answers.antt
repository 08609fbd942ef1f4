use Rattle.std.proofs.Common.{◌≡◌, ◌+◌, ◌∙◌, max, arith, sym, subst}
use Rattle.ip_partition.proofs.SizeLemmas.{AreBeyond, greater_is, ends_more, ends_all}
use Rattle.ip_partition.proofs.sizes.rows_end.Goals as goal

pub loop-column-preserved : goal.loop-column-preserved
loop-column-preserved c =
    let most : c.max-end.result ≡ max c.loop-column.end c.rows_end_of.result = c.max-end.ensures ∙ greater_is c.loop-column.end c.rows_end_of.result in
    record {
      beyond = subst (λ n. AreBeyond c.args.grid.now c.args.columns.now (c.loop-column.column-index + 1) n) (sym most) (ends_more c.args.grid.now c.args.columns.now c.loop-column.column-index c.loop-column.end c.rows_end_of.result c.loop-column.invariant.beyond c.rows_end_of.ensures.beyond);
      within = omega (arith, most, c.loop-column.invariant.within, c.rows_end_of.ensures.within);
      small = omega (arith, most, c.loop-column.invariant.small, c.rows_end_of.ensures.small);
    }

pub returns-clause-beyond : goal.returns-clause-beyond
returns-clause-beyond c = ends_all c.args.grid.now c.args.columns.now c.loop-column.column-index c.loop-column.end c.loop-column-test.false c.loop-column.invariant.beyond
