use Rattle.std.specs.Int.{w64}
use Rattle.rat128.proofs.Halving.{odd_part_is_odd, odd_part_is_part}
use Rattle.rat128.proofs.divisor.odd_part_u64.Goals as goal

pub returns-clause-odd : goal.returns-clause-odd
returns-clause-odd c = odd_part_is_odd w64 c.args.n c.requires c.ranges.n.fits

pub returns-clause-part : goal.returns-clause-part
returns-clause-part c = odd_part_is_part w64 c.args.n c.requires c.ranges.n.fits
