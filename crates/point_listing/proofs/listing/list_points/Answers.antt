use Rattle.point_listing.proofs.Solves.{finished_by}
use Rattle.point_listing.proofs.listing.list_points.Goals as goal

pub returns-clause-enough : goal.returns-clause-enough
returns-clause-enough c = finished_by c.args.program.now c.args.fold.now c.args.map.now.stands c.args.budget c.in_ok-solve.field-0 c.in_ok-solve.ensures
