use Rattle.std.proofs.Common.{◌≡◌, ◌+◌, ◌∙◌, ap, suc, ◌-ℤ◌, neg_ℤ, pos, ℤ, length, get_or, set, arith, refl, FitsSigned, to_z, of_z}
use Rattle.std.specs.Int.{w64, w128}
use Rattle.std.proofs.lemmas.Int.{to_z-of_z}
use Rattle.std.proofs.lemmas.List.{get_or_default}
use Rattle.rat128.specs.Fractions.{whole_fraction}
use Rattle.ip_rows.specs.declared.rows.Coef.{Coef}
use Rattle.ip_rows.specs.Rows.{factor_at}
use Rattle.dict_pivot.specs.First.{corner_sum}
use Rattle.dict_pivot.proofs.StartLaws.{apart}
use Rattle.dict_pivot.proofs.StartRows.{sum_first, size_first, sum_fits, sum_next, size_next, sum_done, factors_done, later_more, narrow_more, zeros_later, zeros_narrow, row_written}
use Rattle.dict_pivot.proofs.begin.write_terms.Goals as goal

pub loop-term-init : goal.loop-term-init
loop-term-init c =
    let n : to_z w64 (of_z w64 c.args.least) ≡ c.args.least = to_z-of_z w64 c.args.least c.ranges.least in
    let k : to_z w128 (of_z w128 c.opposite-constant.result) ≡ neg_ℤ c.args.least = to_z-of_z w128 c.opposite-constant.result (record { sfits = c.opposite-constant.type_inv }) ∙ c.opposite-constant.ensures ∙ ap neg_ℤ n in
    record {
      sum = sum_first (to_z w128 (of_z w128 c.opposite-constant.result)) c.args.least (to_z w64 (of_z w64 c.args.least)) (corner_sum c.args.sides.now c.args.up.now c.args.terms.now) k n;
      size = size_first (to_z w128 (of_z w128 c.opposite-constant.result)) c.args.least _ k c.requires.measured;
      later = zeros_later c.args.up.now (length c.args.sides.now) c.args.terms.now c.args.row.now c.requires.zeros;
      narrow = zeros_narrow c.args.row.now c.requires.zeros;
    }

pub part-constant-requires-clause-column : goal.part-constant-requires-clause-column
part-constant-requires-clause-column c = c.requires.terms.there c.loop-term.term-index (record { factor = pos 0; column = 0 }) c.loop-term-test.true

pub overflow_add-constant : goal.overflow_add-constant
overflow_add-constant c =
    let i = c.loop-term.term-index in
    let t : Coef = get_or c.args.terms.now i (record { factor = pos 0; column = 0 }) in
    let is : t ≡ get_or c.args.terms.now i t = get_or_default c.args.terms.now i (record { factor = pos 0; column = 0 }) t c.loop-term-test.true in
    sum_fits c.args.sides.now c.args.up.now c.args.terms.now i t (to_z w128 c.loop-term.constant-bits) c.part-constant.result c.loop-term-test.true is c.part-constant.ensures c.loop-term.invariant.size (record { sfits = c.part-constant.type_inv })

pub bounds-up-column : goal.bounds-up-column
bounds-up-column c = let l = c.requires.terms.there c.loop-term.term-index (record { factor = pos 0; column = 0 }) c.loop-term-test.true in omega (arith, l, c.requires.up)

pub bounds-row-column : goal.bounds-row-column
bounds-row-column c = let l = c.requires.terms.there c.loop-term.term-index (record { factor = pos 0; column = 0 }) c.loop-term-test.true in omega (arith, l, c.requires.size, c.loop-term.auto.row)

pub loop-term-preserved : goal.loop-term-preserved
loop-term-preserved c =
    let i = c.loop-term.term-index in
    let t : Coef = get_or c.args.terms.now i (record { factor = pos 0; column = 0 }) in
    let l = c.requires.terms.there i (record { factor = pos 0; column = 0 }) c.loop-term-test.true in
    let is : t ≡ get_or c.args.terms.now i t = get_or_default c.args.terms.now i (record { factor = pos 0; column = 0 }) t c.loop-term-test.true in
    let fits : FitsSigned w128 c.part-constant.result = record { sfits = c.part-constant.type_inv } in
    let k : ℤ = to_z w128 c.loop-term.constant-bits in
    let size : length c.loop-term.row ≡ suc (length c.args.sides.now) = c.loop-term.auto.row ∙ c.requires.size in
    record {
      sum = sum_next c.args.sides.now c.args.up.now c.args.terms.now i t k c.part-constant.result c.loop-term-test.true is c.part-constant.ensures c.loop-term.invariant.size fits _ c.loop-term.invariant.sum;
      size = size_next c.args.sides.now c.args.up.now c.args.terms.now i t k c.part-constant.result c.loop-term-test.true is c.part-constant.ensures c.loop-term.invariant.size fits;
      later = later_more c.args.up.now (length c.args.sides.now) c.args.terms.now i t c.loop-term.row (set c.loop-term.row (t.column + 1) c.turned.result) c.turned.result (apart c.args.terms.now c.requires.terms.rising) c.loop-term-test.true is l size refl c.turned.ensures.value c.loop-term.invariant.later;
      narrow = narrow_more c.loop-term.row (set c.loop-term.row (t.column + 1) c.turned.result) (t.column + 1) c.turned.result (omega (arith, l, size)) refl c.turned.ensures.narrow c.loop-term.invariant.narrow;
    }

pub returns : goal.returns
returns c =
    let n : to_z w64 (of_z w64 c.args.least) ≡ c.args.least = to_z-of_z w64 c.args.least c.ranges.least in
    let s = corner_sum c.args.sides.now c.args.up.now c.args.terms.now in
    let size : length c.loop-term.row ≡ suc (length c.args.sides.now) = c.loop-term.auto.row ∙ c.requires.size in
    row_written c.args.up.now (length c.args.sides.now) (s -ℤ c.args.least) (λ j. factor_at c.args.terms.now j) c.loop-term.row (set c.loop-term.row 0 c.whole.result) c.whole.result size refl (c.whole.ensures.value ∙ ap whole_fraction (sum_done c.args.sides.now c.args.up.now c.args.terms.now c.loop-term.term-index (to_z w128 c.loop-term.constant-bits) (s -ℤ to_z w64 (of_z w64 c.args.least)) c.loop-term-test.false c.loop-term.invariant.sum ∙ ap (λ z. s -ℤ z) n)) c.whole.ensures.narrow (factors_done c.args.up.now (length c.args.sides.now) c.args.terms.now c.loop-term.term-index c.loop-term.row c.loop-term-test.false c.loop-term.invariant.later) c.loop-term.invariant.narrow
