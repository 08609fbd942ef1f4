use Rattle.std.proofs.Common.{◌≡◌, ◌∙◌, sym, ap, ap₂, subst, ◌<◌, ◌^◌, ℤ, to_z, of_z, w64, map, length, arith}
use Rattle.std.proofs.Math.Facts.{to_z-of_z}
use Rattle.bool_encode.specs.Forms.{form}
use Rattle.bool_encode.specs.Tables.{times}
use Rattle.bool_encode.proofs.LightLemmas.{pieces_end}
use Rattle.program_rows.specs.Fair.{IsFair}
use Rattle.program_rows.proofs.Fairness.{sum_fair}
use Rattle.program_rows.proofs.linear.sum_form.Goals as goal

pub returns-clause-form : goal.returns-clause-form
returns-clause-form c =
    ap₂ form (to_z-of_z c.ranges.constant)
    (pieces_end (times (to_z w64 (of_z w64 c.args.sign))) c.args.kids.now c.loop-kid.kid-index c.loop-kid.pieces (map (times (to_z w64 (of_z w64 c.args.sign))) c.args.kids.now) c.loop-kid-test.false c.loop-kid.invariant
    ∙ ap (λ (s : ℤ). map (times s) c.args.kids.now) (to_z-of_z c.ranges.sign))

pub returns-clause-fair : goal.returns-clause-fair
returns-clause-fair c =
    let few : length c.args.kids.now < 2 ^ 61 = omega arith in
    let pieces : c.loop-kid.pieces ≡ map (times c.args.sign) c.args.kids.now =
    pieces_end (times (to_z w64 (of_z w64 c.args.sign))) c.args.kids.now c.loop-kid.kid-index c.loop-kid.pieces (map (times (to_z w64 (of_z w64 c.args.sign))) c.args.kids.now) c.loop-kid-test.false c.loop-kid.invariant
    ∙ ap (λ (s : ℤ). map (times s) c.args.kids.now) (to_z-of_z c.ranges.sign) in
    subst (IsFair c.args.fold.now) (sym (ap₂ form (to_z-of_z c.ranges.constant) pieces)) (sum_fair c.args.fold.now c.args.constant c.args.sign c.args.kids.now c.requires.kids c.requires.sign c.requires.constant few)
