-- What the test of a part shows.
use Rattle.std.proofs.Common.{◌≡◌, ◌+◌, ◌≤◌, ◌<◌, ◌^◌, ℕ, ℤ, pos, ◌≤ℤ◌, unsigned_abs, Bool, true, false, ◌&&◌, nat_le, Option, Some, None, length, refl, arith}
use Rattle.std.specs.Prelude.{int_lt, not}
use Rattle.std.specs.List.{list_all}
use Rattle.std.proofs.lemmas.Bool.{leb-true}
use Rattle.std.proofs.lemmas.Int.{ints}
use Rattle.ip_rows.specs.declared.Bounds.{Bounds}
use Rattle.ip_rows.specs.declared.rows.IpRow.{IpRow}
use Rattle.ip_rows.specs.declared.lp.Lp.{Lp}
use Rattle.ip_rows.specs.Rows.{weight, side_at, IsMeasuredRow}
use Rattle.ip_rows.specs.Lps.{IsWellFormedLp, IsMeasuredLp}
use Rattle.number_tests.specs.Programs.{are_terms}
use Rattle.number_tests.proofs.Programs.{all_from, terms_from, rows_from}
use Rattle.simplex_tests.specs.declared.asked.Asked.{Asked}
use Rattle.simplex_tests.specs.Parts.{rows_of, is_measured_row, is_formed, is_measured, is_open, is_part}

-- what holds together holds each
both : (a b : Bool) → (a && b) ≡ true → (a ≡ true) × (b ≡ true)
both true b e = (refl, e)
both false b e = cc

-- a side that is not turned is not empty
in_order : (lo hi : ℤ) (b : Bool) → int_lt hi lo ≡ b → not b ≡ true → lo ≤ℤ hi
in_order lo hi true e h = cc
in_order lo hi false e h = omega (arith, ints, e)

module _ (lp : Lp) (e : is_part lp ≡ true) where
  -- it is well formed
  pub part_formed : IsWellFormedLp lp
  part_formed =
      let b = both (are_terms (length lp.sides) lp.aim) (list_all (λ (row : IpRow). are_terms (length lp.sides) row.terms) lp.rows) (both (is_formed lp) (is_measured lp && is_open lp) e).0 in
      record {
        aim = terms_from (length lp.sides) lp.aim b.0;
        rows = rows_from (length lp.sides) lp.rows b.1;
      }

  -- it is measured, and no side is empty
  limits : (is_measured lp ≡ true) × (is_open lp ≡ true)
  limits = both (is_measured lp) (is_open lp) (both (is_formed lp) (is_measured lp && is_open lp) e).1

  pub part_measured : IsMeasuredLp lp
  part_measured =
      let b = both (nat_le (weight lp.sides lp.aim) (2 ^ 120)) (list_all (is_measured_row lp.sides) lp.rows) limits.0 in
      record {
        aim = leb-true (weight lp.sides lp.aim) (2 ^ 120) b.0;
        rows = all_from (IsMeasuredRow lp.sides) (is_measured_row lp.sides) (λ row h. leb-true (weight lp.sides row.terms + unsigned_abs row.least) (2 ^ 120) h) lp.rows b.1;
      }

  pub part_open : (j : ℕ) → j < length lp.sides → (side_at lp.sides j).lo ≤ℤ (side_at lp.sides j).hi
  part_open = λ j l. all_from (λ (side : Bounds). side.lo ≤ℤ side.hi) (λ (side : Bounds). not (int_lt side.hi side.lo)) (λ side h. in_order side.lo side.hi (int_lt side.hi side.lo) refl h) lp.sides limits.1 j (record { lo = pos 0; hi = pos 0 }) l

-- there is a row or none
pub few_rows : (asked : Option Asked) → length (rows_of asked) ≤ 4096
few_rows None = omega arith
few_rows (Some asked) = omega arith
