use Rattle.std.proofs.Common.{arith}
use Rattle.world_def.proofs.Walks.{fits_step, fits_not, fits_end, fits_long}
use Rattle.world_def.proofs.worlds.fits_row.Goals as goal

pub returns-then-base-row : goal.returns-then-base-row
returns-then-base-row c = fits_long _ _ _ _ c.if-base-row.true

pub returns-then-not-fits_cell : goal.returns-then-not-fits_cell
returns-then-not-fits_cell c = fits_not c.args.columns.now c.args.base.now c.args.row.now c.loop-place.place _ _ _ _ _ (omega arith) c.if-base-row.false c.index-base-place.is c.index-row-place.is c.column_at.ensures c.fits_cell.ensures c.if-not-fits_cell.true c.loop-place.invariant

pub loop-place-preserved : goal.loop-place-preserved
loop-place-preserved c = fits_step c.args.columns.now c.args.base.now c.args.row.now c.loop-place.place _ _ _ _ _ (omega arith) c.if-base-row.false c.index-base-place.is c.index-row-place.is c.column_at.ensures c.fits_cell.ensures c.if-not-fits_cell.false c.loop-place.invariant

pub returns : goal.returns
returns c = fits_end c.args.columns.now c.args.base.now c.args.row.now c.loop-place.place _ (omega arith) c.if-base-row.false c.loop-place.invariant
