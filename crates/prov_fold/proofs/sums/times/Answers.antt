use Rattle.std.proofs.Common.{◌≡◌, arith, to_z, of_z}
use Rattle.std.proofs.Math.Facts.{to_z-of_z}
use Rattle.std.proofs.lemmas.Int.{ints, unsigned_abs-mul}
use mir.Syntax.{w128}
use Rattle.prov_fold.proofs.sums.times.Goals as goal

pub overflow_mul-result : goal.overflow_mul-result
overflow_mul-result c =
    let va : to_z w128 (of_z w128 c.args.a) ≡ c.args.a = to_z-of_z c.ranges.a in
    let vb : to_z w128 (of_z w128 c.args.b) ≡ c.args.b = to_z-of_z c.ranges.b in
    rw (va, vb) (omega (arith, ints, unsigned_abs-mul c.args.a c.args.b, c.requires))
