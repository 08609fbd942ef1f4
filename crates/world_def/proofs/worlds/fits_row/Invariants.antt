use Rattle.std.proofs.Common.{◌≡◌, drop}
use Rattle.world_def.specs.Worlds.{row_fits}
use Rattle.world_def.proofs.worlds.fits_row.Given as goal

abbrev pub invariant-loop-place : goal.invariant-loop-place
invariant-loop-place l = row_fits l.columns l.place (drop l.place l.base) (drop l.place l.row) ≡ row_fits l.columns 0 l.base l.row
