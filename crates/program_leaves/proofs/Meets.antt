-- Rows that hold at a point, as a test and as a statement.
use Rattle.std.proofs.Common.{◌≡◌, sym, ap₂, refl, ℕ, suc, ℤ, pos, ◌≤ℤ◌, Bool, true, false, not, ◌&&◌, List, [], ◌∷◌, All, Option, Some, None, arith}
use Rattle.std.specs.Prelude.{int_lt, is_some, MatchOption}
use Rattle.std.specs.List.{list_all}
use Rattle.std.proofs.lemmas.Bool.{and_parts}
use Rattle.std.proofs.lemmas.Int.{ints}
use Rattle.ip_rows.specs.declared.Bounds.{Bounds}
use Rattle.ip_rows.specs.declared.rows.IpRow.{IpRow}
use Rattle.ip_rows.specs.declared.program.Program.{Program}
use Rattle.ip_rows.specs.Programs.{Holds, IsFirstBroken, sum_at}
use Rattle.prov_fold.proofs.SameLemmas.{All_cons}
use Rattle.bool_encode.proofs.Each.{All_none}
use Rattle.program_leaves.specs.Leaves.{is_in, is_met, meets_rows, part_value, value_in}

at_least : (a b : ℤ) → b ≤ℤ a → not (int_lt a b) ≡ true
at_least a b le = grind (arith, ints)

least_at : (a b : ℤ) → not (int_lt a b) ≡ true → b ≤ℤ a
least_at a b e = grind (arith, ints)

pub met_of : (point : List ℤ) (row : IpRow) → Holds point row → is_met point row ≡ true
met_of point row holds = at_least (sum_at point row.terms) row.least holds

pub holds_of : (point : List ℤ) (row : IpRow) → is_met point row ≡ true → Holds point row
holds_of point row met = least_at (sum_at point row.terms) row.least met

module _ (point : List ℤ) where
  pub all_met : (rows : List IpRow) → All (Holds point) rows → list_all (is_met point) rows ≡ true
  all_met [] holds = refl
  all_met (row ∷ rows) holds = ap₂ (λ (a b : Bool). a && b) (met_of point row (holds 0 row (omega arith))) (all_met rows (λ k d lt. holds (suc k) d (omega (arith, lt))))

  pub all_hold : (rows : List IpRow) → list_all (is_met point) rows ≡ true → All (Holds point) rows
  all_hold [] met = All_none (Holds point)
  all_hold (row ∷ rows) met =
      let both = and_parts (is_met point row) (list_all (is_met point) rows) met in
      All_cons (Holds point) row rows (holds_of point row both.0) (all_hold rows both.1)

  pub none_broken : (rows : List IpRow) (number : ℕ) → IsFirstBroken point rows number → list_all (is_met point) rows ≡ false
  none_broken rows number first = by_test (list_all (is_met point) rows) refl
    where
      by_test : (b : Bool) → list_all (is_met point) rows ≡ b → list_all (is_met point) rows ≡ false
      by_test true met = absurd (first.broken (all_hold rows met number (record { terms = []; least = pos 0 }) first.there))
      by_test false met = met

-- the first broken row, if there is one, tells whether every row holds
pub meets_by : (program : Program) (point : List ℤ) (found : Option ℕ) (told : Bool) → is_some found ≡ not told → MatchOption found (All (Holds point) program.rows) (IsFirstBroken point program.rows) → told ≡ meets_rows program point
meets_by program point None true is tells = sym (all_met point program.rows tells)
meets_by program point None false is tells = cc
meets_by program point (Some number) true is tells = cc
meets_by program point (Some number) false is tells = sym (none_broken point program.rows number tells)

-- ---- the value of a point in a box

module _ (program : Program) (sides : List Bounds) (point : List ℤ) where
  pub value_both : is_in sides point ≡ true → meets_rows program point ≡ true → value_in program sides point ≡ Some (part_value program point)
  unfolding value_in
  value_both inside met = rw (inside, met) refl

  pub value_outside : is_in sides point ≡ false → value_in program sides point ≡ None
  unfolding value_in
  value_outside inside = rw (inside) refl

  pub value_broken : is_in sides point ≡ true → meets_rows program point ≡ false → value_in program sides point ≡ None
  unfolding value_in
  value_broken inside met = rw (inside, met) refl
