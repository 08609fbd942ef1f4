use Rattle.std.proofs.Common.{sym, ap, subst, length, List, arith}
use Rattle.ip_rows.specs.declared.Bounds.{Bounds}
use Rattle.branch_tree.specs.Listing.{AreSides}
use Rattle.world_points.proofs.Ordered.{sides_there}
use Rattle.world_listing.proofs.Sizes.{columns_few}
use Rattle.world_listing.proofs.Tells.{root_long}
use Rattle.world_listing.proofs.answer.list_worlds.Goals as goal

pub list_points-requires-clause-sides : goal.list_points-requires-clause-sides
list_points-requires-clause-sides c = subst AreSides (sym c.requires.root) (sides_there c.args.judge.now.query.now c.args.judge.now.tables.now c.args.judge.now.columns.now c.requires.asked.made)

pub unfixed-requires : goal.unfixed-requires
unfixed-requires c = omega (arith, ap (λ (l : List Bounds). length l) c.requires.root, root_long c.args.judge.now.columns.now, columns_few c.args.judge.now.query.now c.args.judge.now.tables.now c.args.judge.now.columns.now c.requires.asked.made)
