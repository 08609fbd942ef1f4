-- The worked program is well formed and measured.
use Rattle.std.proofs.Common.{◌≡◌, ◌+◌, ◌≤◌, ◌<◌, ◌^◌, ℤ, pos, ◌-ℤ◌, ◌≤ℤ◌, unsigned_abs, FitsSigned, w64, Bool, true, false, nat_lt, nat_le, List, [], length, refl, arith}
use Rattle.std.specs.Prelude.{int_lt, not}
use Rattle.std.proofs.lemmas.Bool.{ltb-true, leb-true}
use Rattle.std.proofs.lemmas.Int.{ints, fits_signed_from_abs}
use Rattle.ip_rows.specs.declared.Bounds.{Bounds}
use Rattle.ip_rows.specs.declared.rows.IpRow.{IpRow}
use Rattle.ip_rows.specs.Rows.{weight, IsMeasuredRow}
use Rattle.ip_rows.specs.Programs.{IsWellFormed, IsMeasured, sides_of, fixed_sum}
use Rattle.number_tests.proofs.Programs.{all_from, terms_from, rows_from}
use Rattle.reduce_tests.specs.Worked.{worked}

pub worked_formed : IsWellFormed worked
worked_formed = record { aim = terms_from 7 [] refl; rows = rows_from 7 worked.rows refl }

abbrev sides : List Bounds
sides = sides_of worked.columns

in_order : (lo hi : ℤ) (b : Bool) → int_lt hi lo ≡ b → not b ≡ true → lo ≤ℤ hi
in_order lo hi true e h = cc
in_order lo hi false e h = omega (arith, ints, e)

pub worked_measured : IsMeasured worked
worked_measured = record {
  aim = omega arith;
  rows = all_from (IsMeasuredRow sides) (λ (row : IpRow). nat_le (weight sides row.terms + unsigned_abs row.least) (2 ^ 120)) (λ row h. leb-true (weight sides row.terms + unsigned_abs row.least) (2 ^ 120) h) worked.rows refl;
  sides = all_from (λ (side : Bounds). side.lo ≤ℤ side.hi) (λ (side : Bounds). not (int_lt side.hi side.lo)) (λ side h. in_order side.lo side.hi (int_lt side.hi side.lo) refl h) sides refl;
  constant = fits_signed_from_abs w64 (pos 0) (omega arith);
  leasts = all_from (λ (row : IpRow). FitsSigned w64 (row.least -ℤ fixed_sum sides row.terms)) (λ (row : IpRow). nat_lt (unsigned_abs (row.least -ℤ fixed_sum sides row.terms)) (2 ^ 63))
      (λ row h. fits_signed_from_abs w64 (row.least -ℤ fixed_sum sides row.terms) (ltb-true (unsigned_abs (row.least -ℤ fixed_sum sides row.terms)) (2 ^ 63) h)) worked.rows refl;
  columns = omega arith;
  size = omega arith;
}
