use Rattle.std.proofs.Common.{subst, ℤ, pos, negsuc, neg_ℤ, [], ◌∷◌, arith}
use Rattle.bool_encode.specs.Forms.{form}
use Rattle.bool_encode.specs.Rows.{IsRowOf}
use Rattle.bool_encode.specs.Tables.{times}
use Rattle.least_encode.proofs.Loops.{appends_two_if}
use Rattle.least_encode.proofs.Weights.{small_same}
use Rattle.least_encode.proofs.groups.end_rows.Goals as goal

pub returns : goal.returns
returns c =
    appends_two_if c.args.fold.now c.args.map.now.stands c.two.result (form (pos 0) (times (pos 1) c.args.id ∷ times (neg_ℤ c.args.narrow.lo) c.args.some_pair ∷ [])) (form (pos 0) (times c.args.narrow.hi c.args.some_pair ∷ times (negsuc 0) c.args.id ∷ [])) c.in_ok-low.low c.in_ok-high.high
    c.args.rows.now c.two.new.rows
    (subst (λ (n : ℤ). IsRowOf c.args.fold.now c.args.map.now.stands (form (pos 0) (times (pos 1) c.args.id ∷ times (neg_ℤ n) c.args.some_pair ∷ [])) c.in_ok-low.low) (small_same c.args.narrow.lo (omega (arith, c.requires.small_lo))) c.in_ok-low.ensures)
    (subst (λ (n : ℤ). IsRowOf c.args.fold.now c.args.map.now.stands (form (pos 0) (times n c.args.some_pair ∷ times (negsuc 0) c.args.id ∷ [])) c.in_ok-high.high) (small_same c.args.narrow.hi (omega (arith, c.requires.small_hi))) c.in_ok-high.ensures) c.two.ensures
