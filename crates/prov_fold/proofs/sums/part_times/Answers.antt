use Rattle.std.proofs.Common.{rules, ◌≡◌, ◌∙◌, ap, arith, ◌*◌, ◌≤◌, unsigned_abs, to_z, of_z, FitsSigned, w64, mul-le-mul_left}
use Rattle.std.proofs.Math.Facts.{to_z-of_z}
use mir.Syntax.{w128}
use Rattle.prov_fold.proofs.sums.part_times.Goals as goal

pub returns-clause-small : goal.returns-clause-small
returns-clause-small c =
    let v : to_z w64 (of_z w64 c.args.factor) ≡ c.args.factor = to_z-of_z c.ranges.factor in
    let n : to_z w128 (of_z w128 c.args.number) ≡ c.args.number = to_z-of_z c.ranges.number in
    let fits_f : FitsSigned w128 c.from.result = search rules in
    let f : to_z w128 (of_z w128 c.from.result) ≡ c.args.factor = to_z-of_z fits_f ∙ c.from.ensures ∙ v in
    let size : unsigned_abs c.times.result ≡ unsigned_abs c.args.factor * unsigned_abs c.args.number = c.times.ensures.small ∙ (λ i. unsigned_abs (f i) * unsigned_abs (n i)) in
    let bound : unsigned_abs c.args.factor * unsigned_abs c.args.number ≤ unsigned_abs c.args.factor * 300000000000000000 = mul-le-mul_left (unsigned_abs c.args.factor) c.requires.number in
    let fits_r : FitsSigned w128 c.times.result = search rules in
    let r : to_z w128 (of_z w128 c.times.result) ≡ c.times.result = to_z-of_z fits_r in
    rw r (omega (arith, size, bound, ap unsigned_abs v))
