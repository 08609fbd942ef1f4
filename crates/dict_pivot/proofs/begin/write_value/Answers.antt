use Rattle.std.proofs.Common.{◌≡◌, ◌+◌, ◌∙◌, ap, pos, length, get_or, set, refl, false, to_z, of_z}
use Rattle.std.specs.Int.{w64, w128}
use Rattle.std.proofs.lemmas.Int.{to_z-of_z}
use Rattle.rat128.specs.Fractions.{whole_fraction}
use Rattle.dict_pivot.specs.First.{side_from}
use Rattle.dict_pivot.proofs.StartRows.{unit_written, length-set, unit_turned}
use Rattle.dict_pivot.proofs.begin.write_value.Goals as goal

pub returns : goal.returns
returns c =
    let k : to_z w128 (of_z w128 c.from.result) ≡ side_from c.args.sides.now c.args.up.now c.args.column = to_z-of_z w128 c.from.result (record { sfits = c.from.type_inv }) ∙ c.from.ensures ∙ to_z-of_z w64 c.first_side.result (record { sfits = c.first_side.type_inv }) ∙ c.first_side.ensures in
    unit_written c.args.up.now (length c.args.sides.now) c.args.column (side_from c.args.sides.now c.args.up.now c.args.column) (pos 1) c.args.row.now (set c.args.row.now 0 c.whole.result) (set (set c.args.row.now 0 c.whole.result) (c.args.column + 1) c.unit.result) c.whole.result c.unit.result c.requires.column c.requires.size c.requires.zeros refl refl (length-set c.args.row.now 0 c.whole.result ∙ c.requires.size) (c.whole.ensures.value ∙ ap whole_fraction k) c.whole.ensures.narrow (c.unit.ensures.value ∙ ap whole_fraction (unit_turned (get_or c.args.up.now c.args.column false))) c.unit.ensures.narrow
