use Rattle.std.proofs.Common.{pos, negsuc, ◌∷◌}
use Rattle.bool_encode.specs.Forms.{form}
use Rattle.bool_encode.specs.Tables.{times}
use Rattle.cmp_encode.specs.Tables.{selectors}
use Rattle.least_encode.proofs.Loops.{appends_two_if}
use Rattle.least_encode.proofs.groups.sum_rows.Goals as goal

pub returns : goal.returns
returns c =
    appends_two_if c.args.fold.now c.args.map.now.stands c.two.result (form (pos 0) (times (negsuc 0) c.args.some_pair ∷ selectors (pos 1) c.args.id 0 c.args.pairs.now)) (form (pos 0) (times (pos 1) c.args.some_pair ∷ selectors (negsuc 0) c.args.id 0 c.args.pairs.now)) c.in_ok-least.least c.in_ok-most.most c.args.rows.now c.two.new.rows
    c.in_ok-least.ensures c.in_ok-most.ensures c.two.ensures
