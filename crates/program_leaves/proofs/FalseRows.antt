-- False rows, as a test and as a statement.
use Rattle.std.proofs.Common.{◌≡◌, ◌∙◌, sym, ap, refl, ℕ, suc, ◌<◌, Bool, true, false, not, List, [], ◌∷◌, length, All, arith}
use Rattle.std.specs.Prelude.{nat_lt, ◌↔◌, IsTrue}
use Rattle.std.specs.List.{list_all}
use Rattle.std.proofs.lemmas.Bool.{and_parts, and_from, not-true}
use Rattle.ip_rows.specs.declared.rows.Coef.{Coef}
use Rattle.ip_rows.specs.declared.program.Program.{Program}
use Rattle.ip_rows.specs.Programs.{row_at}
use Rattle.prov_fold.proofs.SameLemmas.{All_cons}
use Rattle.bool_encode.proofs.Each.{All_none}
use Rattle.branch_tree.specs.Listing.{lows}
use Rattle.program_leaves.specs.Leaves.{IsFalseRow, fails_fixed, is_false_row, is_met, is_open, root_of}
use Rattle.program_leaves.proofs.Meets.{holds_of, met_of}

below : (m n : ℕ) → nat_lt m n ≡ true → m < n
below m n e = grind arith

test_below : (m n : ℕ) → m < n → nat_lt m n ≡ true
test_below m n lt = grind arith

true_not_false : true ≡ false → ⊥
true_not_false e = cc

module _ (program : Program) where
  abbrev Fixed : Coef → Bool
  Fixed term = not (is_open program term)

  all_fixed : (terms : List Coef) → list_all Fixed terms ≡ true → All (λ (t : Coef). is_open program t ≡ false) terms
  all_fixed [] e = All_none (λ (t : Coef). is_open program t ≡ false)
  all_fixed (t ∷ terms) e =
      let both = and_parts (Fixed t) (list_all Fixed terms) e in
      All_cons (λ (t : Coef). is_open program t ≡ false) t terms (not-true (is_open program t) both.0) (all_fixed terms both.1)

  fixed_all : (terms : List Coef) → All (λ (t : Coef). is_open program t ≡ false) terms → list_all Fixed terms ≡ true
  fixed_all [] all = refl
  fixed_all (t ∷ terms) all = and_from (Fixed t) (list_all Fixed terms) (ap not (all 0 t (omega arith))) (fixed_all terms (λ k d lt. all (suc k) d (omega (arith, lt))))

  unmet : (b : Bool) → (b ≡ true → ⊥) → not b ≡ true
  unmet b never = by_test b refl
    where
      by_test : (c : Bool) → b ≡ c → not c ≡ true
      by_test true e = absurd (never e)
      by_test false e = refl

  pub false_of : (number : ℕ) → is_false_row program number ≡ true → IsFalseRow program number
  false_of number e =
      let row = row_at program.rows number in
      let outer = and_parts (nat_lt number (length program.rows)) (fails_fixed program row) e in
      let inner = and_parts (list_all Fixed row.terms) (not (is_met (lows (root_of program)) row)) outer.1 in
      record {
        there = below number (length program.rows) outer.0;
        fixed = all_fixed row.terms inner.0;
        fails = λ holds. true_not_false (sym (met_of (lows (root_of program)) row holds) ∙ not-true (is_met (lows (root_of program)) row) inner.1);
      }

  pub of_false : (number : ℕ) → IsFalseRow program number → is_false_row program number ≡ true
  of_false number is =
      let row = row_at program.rows number in
      and_from (nat_lt number (length program.rows)) (fails_fixed program row) (test_below number (length program.rows) is.there)
      (and_from (list_all Fixed row.terms) (not (is_met (lows (root_of program)) row)) (fixed_all row.terms is.fixed) (unmet (is_met (lows (root_of program)) row) (λ met. is.fails (holds_of (lows (root_of program)) row met))))

  -- a test of the row tells whether it is a false one
  pub false_by : (number : ℕ) (told : Bool) → told ≡ is_false_row program number → IsTrue told ↔ IsFalseRow program number
  false_by number told is = ((λ yes_true. false_of number (sym is ∙ yes_true)), (λ is_false. is ∙ of_false number is_false))
