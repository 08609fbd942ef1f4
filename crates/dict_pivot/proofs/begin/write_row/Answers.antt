use Rattle.std.proofs.Common.{rules, ◌-◌, ◌*◌, ◌<◌, List, length, get_or, ◌∙◌, ap, arith, FitsSigned, to_z, of_z}
use Rattle.std.specs.Int.{w64}
use Rattle.std.proofs.lemmas.Int.{to_z-of_z}
use Rattle.ip_rows.specs.declared.rows.IpRow.{IpRow}
use Rattle.dict_pivot.proofs.StartRows.{objective_row, value_row, distance_row, surplus_row, weighs_same, row_terms, row_measured}
use Rattle.dict_pivot.proofs.begin.write_row.Goals as goal

pub write_terms-requires-clause-measured : goal.write_terms-requires-clause-measured
write_terms-requires-clause-measured c = weighs_same c.as_slice-sides.result.now c.args.lp.now.sides c.as_slice.result.now c.args.lp.now.aim c.as_slice-sides.ensures c.as_slice.ensures c.requires.measured.aim

pub bounds-as_slice-i : goal.bounds-as_slice-i
bounds-as_slice-i c = omega (arith, c.requires.i, ap length c.as_slice-sides.ensures, ap length c.as_slice-else-i-columns-2.ensures, c.if-i-columns-2.false)

pub write_terms-requires-else-i-columns-2-clause-terms : goal.write_terms-requires-else-i-columns-2-clause-terms
write_terms-requires-else-i-columns-2-clause-terms c =
    let k = c.args.i - 1 - 2 * length c.as_slice-sides.result.now in
    let within : k < length c.args.lp.now.rows = omega (arith, c.requires.i, ap length c.as_slice-sides.ensures, c.if-i-columns-2.false) in
    row_terms c.args.lp.now c.as_slice-sides.result.now c.as_slice-else-i-columns-2-2.result.now c.index-as_slice-i.result k c.requires.formed within (c.index-as_slice-i.is ∙ ap (λ (rs : List IpRow). get_or rs k c.index-as_slice-i.result) c.as_slice-else-i-columns-2.ensures) c.as_slice-sides.ensures c.as_slice-else-i-columns-2-2.ensures

pub write_terms-requires-else-i-columns-2-clause-measured : goal.write_terms-requires-else-i-columns-2-clause-measured
write_terms-requires-else-i-columns-2-clause-measured c =
    let k = c.args.i - 1 - 2 * length c.as_slice-sides.result.now in
    let within : k < length c.args.lp.now.rows = omega (arith, c.requires.i, ap length c.as_slice-sides.ensures, c.if-i-columns-2.false) in
    let fits : FitsSigned w64 c.index-as_slice-i.result.least = search rules in
    row_measured c.args.lp.now c.as_slice-sides.result.now c.as_slice-else-i-columns-2-2.result.now c.index-as_slice-i.result k _ c.requires.measured within (c.index-as_slice-i.is ∙ ap (λ (rs : List IpRow). get_or rs k c.index-as_slice-i.result) c.as_slice-else-i-columns-2.ensures) c.as_slice-sides.ensures c.as_slice-else-i-columns-2-2.ensures (to_z-of_z w64 c.index-as_slice-i.result.least fits)

pub returns-then-i-eq0 : goal.returns-then-i-eq0
returns-then-i-eq0 c = objective_row c.args.lp.now c.args.up.now c.args.i c.as_slice-sides.result.now c.write_terms.new.row c.as_slice-sides.ensures c.as_slice.result.now c.if-i-eq0.true c.as_slice.ensures c.write_terms.ensures

pub returns-then-i-columns : goal.returns-then-i-columns
returns-then-i-columns c = value_row c.args.lp.now c.args.up.now c.args.i c.as_slice-sides.result.now c.write_value.new.row c.as_slice-sides.ensures c.if-i-eq0.false c.if-i-columns.true c.write_value.ensures

pub returns-then-i-columns-2 : goal.returns-then-i-columns-2
returns-then-i-columns-2 c = distance_row c.args.lp.now c.args.up.now c.args.i c.as_slice-sides.result.now c.write_distance.new.row c.as_slice-sides.ensures c.if-i-columns.false c.if-i-columns-2.true c.write_distance.ensures

pub returns-else-i-columns-2 : goal.returns-else-i-columns-2
returns-else-i-columns-2 c =
    let k = c.args.i - 1 - 2 * length c.as_slice-sides.result.now in
    let within : k < length c.args.lp.now.rows = omega (arith, c.requires.i, ap length c.as_slice-sides.ensures, c.if-i-columns-2.false) in
    let fits : FitsSigned w64 c.index-as_slice-i.result.least = search rules in
    surplus_row c.args.lp.now c.args.up.now c.args.i c.as_slice-sides.result.now c.write_terms-else-i-columns-2.new.row c.as_slice-sides.ensures c.index-as_slice-i.result c.as_slice-else-i-columns-2-2.result.now (to_z w64 (of_z w64 c.index-as_slice-i.result.least)) c.if-i-columns-2.false within (c.index-as_slice-i.is ∙ ap (λ (rs : List IpRow). get_or rs k c.index-as_slice-i.result) c.as_slice-else-i-columns-2.ensures) c.as_slice-else-i-columns-2-2.ensures (to_z-of_z w64 c.index-as_slice-i.result.least fits) c.write_terms-else-i-columns-2.ensures
