use Rattle.std.proofs.Common.{◌∙◌, sym}
use Rattle.program_leaves.specs.Leaves.{part_columns}
use Rattle.point_listing.proofs.Solves.{some_columns, tells_only}
use Rattle.point_listing.proofs.listing.solve.Goals as goal

pub returns-then-is_empty : goal.returns-then-is_empty
returns-then-is_empty c =
    tells_only c.args.program.now c.args.fold.now c.args.map.now.stands c.args.budget c.known.ensures c.requires.formed c.requires.measured c.requires.matched
    (sym c.requires.columns ∙ c.is_empty.ensures.0 c.if-is_empty.true) c.in_default.ensures c.in_ok-point.point c.new.result c.in_ok-point.ensures c.new.ensures

pub list_part-requires-clause-several : goal.list_part-requires-clause-several
list_part-requires-clause-several c = some_columns c.args.columns (part_columns c.args.program.now) c.is_empty.result c.requires.columns c.if-is_empty.false c.is_empty.ensures.1
