use Rattle.std.proofs.Common.{◌≡◌, ◌+◌, ◌∙◌, ap, negsuc, ◌-ℤ◌, length, get_or, set, refl, false, to_z, of_z}
use Rattle.std.specs.Int.{w128}
use Rattle.std.proofs.lemmas.Int.{to_z-of_z}
use Rattle.rat128.specs.Fractions.{whole_fraction}
use Rattle.ip_rows.specs.Rows.{side_at}
use Rattle.dict_pivot.specs.First.{side_from}
use Rattle.dict_pivot.proofs.StartRows.{unit_written, length-set, unit_turned_back}
use Rattle.dict_pivot.proofs.begin.write_distance.Goals as goal

pub returns : goal.returns
returns c =
    let side = side_from c.args.sides.now c.args.up.now c.args.column in
    let k : to_z w128 (of_z w128 c.room_above.result) ≡ (side_at c.args.sides.now c.args.column).hi -ℤ side = to_z-of_z w128 c.room_above.result (record { sfits = c.room_above.type_inv }) ∙ c.room_above.ensures.value in
    unit_written c.args.up.now (length c.args.sides.now) c.args.column ((side_at c.args.sides.now c.args.column).hi -ℤ side) (negsuc 0) c.args.row.now (set c.args.row.now 0 c.whole.result) (set (set c.args.row.now 0 c.whole.result) (c.args.column + 1) c.unit.result) c.whole.result c.unit.result c.requires.column c.requires.size c.requires.zeros refl refl (length-set c.args.row.now 0 c.whole.result ∙ c.requires.size) (c.whole.ensures.value ∙ ap whole_fraction k) c.whole.ensures.narrow (c.unit.ensures.value ∙ ap whole_fraction (unit_turned_back (get_or c.args.up.now c.args.column false))) c.unit.ensures.narrow
