-- Whole points are points over 1, and what the calls give by them.
use Rattle.std.proofs.Common.{◌≡◌, ◌∙◌, sym, subst, ℕ, ◌<◌, ◌≤◌, ℤ, pos, ◌≤ℤ◌, List, length, get_or, take, Result, Ok, Err, IfOk, arith}
use Rattle.std.proofs.lemmas.Int.{ints}
use Rattle.std.proofs.lemmas.List.{get_or-map, get_or-take, length-map, length-take-le}
use Rattle.ip_rows.specs.declared.Bounds.{Bounds}
use Rattle.ip_rows.specs.declared.program.ColumnKind.TheVariants as kind
use Rattle.ip_rows.specs.declared.program.IpColumn.{IpColumn}
use Rattle.ip_rows.specs.declared.program.Program.{Program}
use Rattle.ip_rows.specs.Programs.{IsWellFormed, number_at, sides_of}
use Rattle.ip_rows.specs.Rows.{side_at}
use Rattle.prov_fold.specs.Graphs.{Graph}
use Rattle.prov_fold.specs.Folds.{IsFold}
use Rattle.bool_encode.specs.declared.stand.Stand.{Stand}
use Rattle.bool_encode.specs.Points.{point_of}
use Rattle.bool_encode.proofs.Numbers.{times_one}
use Rattle.whole_points.specs.Matched.{IsMatched, column_at, world_count}
use Rattle.whole_points.specs.Points.{AgreeOver, IsPointOver, IsWholePoint, IsWorldOver, IsWorldWithin}
use Rattle.whole_points.proofs.WorldPoints.{agree, whole}

side_is : (program : Program) (number : ℕ) → number < length program.columns → side_at (sides_of program.columns) number ≡ (column_at program.columns number).sides
side_is program number lt = get_or-map (λ (c : IpColumn). c.sides) program.columns number (record { kind = kind.World; sides = record { lo = pos 0; hi = pos 0 } }) (record { lo = pos 0; hi = pos 0 }) lt

le_once : (a b c : ℤ) → a ≡ b → b ≤ℤ c → a ≤ℤ c
le_once a b c e h = omega (arith, ints, e, h)

le_one : (a b c : ℤ) → b ≡ c → a ≤ℤ c → a ≤ℤ b
le_one a b c e h = omega (arith, ints, e, h)

module _ (program : Program) (point : List ℤ) (point_whole : IsWholePoint program point) where
  sides_long : length (sides_of program.columns) ≡ length program.columns
  sides_long = length-map program.columns (λ (c : IpColumn). c.sides)

  low_at : (number : ℕ) → number < length program.columns → (column_at program.columns number).sides.lo ≤ℤ number_at point number
  low_at number lt = subst (λ (b : Bounds). b.lo ≤ℤ number_at point number) (side_is program number lt) (point_whole.between.low number (let long = sides_long in omega (arith, lt, long)))

  high_at : (number : ℕ) → number < length program.columns → number_at point number ≤ℤ (column_at program.columns number).sides.hi
  high_at number lt = subst (λ (b : Bounds). number_at point number ≤ℤ b.hi) (side_is program number lt) (point_whole.between.high number (let long = sides_long in omega (arith, lt, long)))

  pub over_one : IsPointOver 1 program point
  over_one = record {
    some = omega arith;
    count = point_whole.between.count ∙ sides_long;
    low = λ number lt. le_once _ _ _ (times_one (column_at program.columns number).sides.lo) (low_at number lt);
    high = λ number lt. le_one _ _ _ (times_one (column_at program.columns number).sides.hi) (high_at number lt);
    whole = λ number lt no_value. record { part = number_at point number; is = sym (times_one (number_at point number)) };
    rows = λ k row lt. le_once _ _ _ (times_one (get_or program.rows k row).least) (point_whole.rows k row lt);
  }

  module _ (g : Graph) (stands : List Stand) (matched : IsMatched program g stands) where
    worlds_few : world_count stands ≤ length point
    worlds_few =
        let all = matched.begins.within in
        let count = matched.count in
        let here = point_whole.between.count in
        let long = sides_long in
        omega (arith, all, count, here, long)

    same_at : (number : ℕ) → number < world_count stands → number_at (take (world_count stands) point) number ≡ number_at point number
    same_at number lt = get_or-take (world_count stands) point number (pos 0) lt

    there_at : (number : ℕ) → number < world_count stands → number < length program.columns
    there_at number lt =
        let all = matched.begins.within in
        let count = matched.count in
        omega (arith, lt, all, count)

    -- its first numbers are a world within the sides
    pub world_within : IsWorldWithin program stands (take (world_count stands) point)
    world_within = record {
      count = length-take-le (world_count stands) point worlds_few;
      low = λ number lt. le_one _ _ _ (same_at number lt) (low_at number (there_at number lt));
      high = λ number lt. le_once _ _ _ (same_at number lt) (high_at number (there_at number lt));
    }

    pub world_over : IsWorldOver 1 stands (take (world_count stands) point) point
    world_over = λ number lt. sym (same_at number lt) ∙ sym (times_one (number_at (take (world_count stands) point) number))

-- ---- what the calls give

pub if_ok : {A E : Type 0} (r : Result A E) (P Q : A → Type 0) → ((a : A) → P a → Q a) → IfOk r P → IfOk r Q
if_ok (Ok a) P Q f h = f a h
if_ok (Err e) P Q f h = tt

module _ {E : Type 0} (program : Program) (g : Graph) (stands : List Stand) (world : List ℤ) (r : Result (List ℤ) E) (fold : IsFold g) (matched : IsMatched program g stands) (within : IsWorldWithin program stands world) (made : IfOk r (λ point. point ≡ point_of g stands world)) where
  abbrev pub OnReached : (ℕ → List ℤ → List ℤ → Type 0) → Type 0
  OnReached P = IfOk r (λ point. (d : ℕ) (other : List ℤ) → IsPointOver d program other → IsWorldOver d stands world other → P d other point)

  pub whole_if : IsWellFormed program → OnReached (λ d other point. IsWholePoint program point)
  whole_if formed =
      if_ok r (λ point. point ≡ point_of g stands world) (λ point. (d : ℕ) (other : List ℤ) → IsPointOver d program other → IsWorldOver d stands world other → IsWholePoint program point)
      (λ point e d other over same. subst (IsWholePoint program) (sym e) (whole program g stands world d other fold matched over within.count same formed)) made

  pub agree_if : OnReached (λ d other point. AgreeOver d stands other point)
  agree_if =
      if_ok r (λ point. point ≡ point_of g stands world) (λ point. (d : ℕ) (other : List ℤ) → IsPointOver d program other → IsWorldOver d stands world other → AgreeOver d stands other point)
      (λ point e d other over same. subst (AgreeOver d stands other) (sym e) (agree program g stands world d other fold matched over within.count same)) made

pub point_taken : {E : Type 0} (g : Graph) (stands : List Stand) (point : List ℤ) (n : ℕ) (r : Result (List ℤ) E) → n ≡ world_count stands → IfOk r (λ other. other ≡ point_of g stands (take n point)) → IfOk r (λ other. other ≡ point_of g stands (take (world_count stands) point))
point_taken g stands point n r e h = subst (λ n. IfOk r (λ other. other ≡ point_of g stands (take n point))) e h

module _ {E : Type 0} (program : Program) (point : List ℤ) (point_whole : IsWholePoint program point) (g : Graph) (stands : List Stand) (matched : IsMatched program g stands) (n : ℕ) (r : Result (List ℤ) E) (is : n ≡ world_count stands) where
  over_taken : IsWorldOver 1 stands (take n point) point
  over_taken = subst (λ n. IsWorldOver 1 stands (take n point) point) (sym is) (world_over program point point_whole g stands matched)

  abbrev OnPoint : (ℕ → List ℤ → List ℤ → Type 0) → Type 0
  OnPoint P = IfOk r (λ other. (d : ℕ) (met : List ℤ) → IsPointOver d program met → IsWorldOver d stands (take n point) met → P d met other)

  pub whole_one : OnPoint (λ d met other. IsWholePoint program other) → IfOk r (λ other. IsWholePoint program other)
  whole_one h =
      if_ok r (λ other. (d : ℕ) (met : List ℤ) → IsPointOver d program met → IsWorldOver d stands (take n point) met → IsWholePoint program other) (λ other. IsWholePoint program other)
      (λ other all. all 1 point (over_one program point point_whole) over_taken) h

  pub agree_one : OnPoint (λ d met other. AgreeOver d stands met other) → IfOk r (λ other. AgreeOver 1 stands point other)
  agree_one h =
      if_ok r (λ other. (d : ℕ) (met : List ℤ) → IsPointOver d program met → IsWorldOver d stands (take n point) met → AgreeOver d stands met other) (λ other. AgreeOver 1 stands point other)
      (λ other all. all 1 point (over_one program point point_whole) over_taken) h
