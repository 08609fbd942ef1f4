use Rattle.std.proofs.Common.{true}
use Rattle.root_encode.specs.Roots.{root_forms}
use Rattle.root_encode.proofs.Telling.{root_tells, adds_all}
use Rattle.root_encode.proofs.rows.root_rows.Goals as goal

pub returns-clause-tells : goal.returns-clause-tells
returns-clause-tells c =
    root_tells c.args.fold.now c.args.map.now.stands c.args.root c.ask.new.rows c.range-range.ensures.fold c.requires.root
    (adds_all c.args.fold.now c.args.map.now.stands (root_forms c.args.fold.now true c.args.root) c.new-rows.result c.ask.new.rows c.new-rows.ensures c.in_ok-ask.ensures)
