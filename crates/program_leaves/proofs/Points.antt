-- The point of a world: its numbers, and that it lies within the sides.
use Rattle.std.proofs.Common.{◌≡◌, ◌∙◌, sym, ap, subst, ℕ, ◌<◌, ◌≤◌, ℤ, pos, ◌≤ℤ◌, List, length, take, Result, IfOk, arith}
use Rattle.std.proofs.lemmas.Int.{ints}
use Rattle.std.proofs.lemmas.List.{get_or-map, get_or-take, length-map, length-take-le, ext_get_or}
use Rattle.ip_rows.specs.declared.Bounds.{Bounds}
use Rattle.ip_rows.specs.declared.program.ColumnKind.TheVariants as kind
use Rattle.ip_rows.specs.declared.program.IpColumn.{IpColumn}
use Rattle.ip_rows.specs.declared.program.Program.{Program}
use Rattle.ip_rows.specs.Programs.{IsBetween, number_at, sides_of}
use Rattle.ip_rows.specs.Rows.{side_at}
use Rattle.prov_fold.specs.Graphs.{Graph}
use Rattle.prov_fold.specs.Folds.{IsFold}
use Rattle.prov_fold.specs.Meanings.{values_in}
use Rattle.bool_encode.specs.declared.stand.Stand.{Stand}
use Rattle.bool_encode.specs.declared.stand.Stand.TheVariants as stand
use Rattle.bool_encode.specs.Points.{number_by, point_of}
use Rattle.bool_encode.specs.Stands.{stand_at}
use Rattle.branch_tree.specs.Listing.{lows}
use Rattle.branch_tree.proofs.Columns.{no_side}
use Rattle.whole_points.specs.Matched.{IsMatched, column_at, world_count}
use Rattle.whole_points.specs.Points.{IsWorldWithin}
use Rattle.whole_points.proofs.Whole.{if_ok}
use Rattle.whole_points.proofs.AtWorlds.{world_between as between_at}
use Rattle.program_leaves.specs.Leaves.{IsInside, leaf_point, root_of, worlds_in}
use Rattle.program_leaves.proofs.Insides.{inside_at, inside_long}

pub side_is : (program : Program) (number : ℕ) → number < length program.columns → side_at (sides_of program.columns) number ≡ (column_at program.columns number).sides
side_is program number lt = get_or-map (λ (c : IpColumn). c.sides) program.columns number (record { kind = kind.World; sides = record { lo = pos 0; hi = pos 0 } }) (record { lo = pos 0; hi = pos 0 }) lt

pub root_long : (program : Program) → length (root_of program) ≡ length program.columns
root_long program = length-map program.columns (λ (c : IpColumn). c.sides)

module _ (program : Program) (g : Graph) (stands : List Stand) (world : List ℤ) (matched : IsMatched program g stands) where
  abbrev pub Q : List ℤ
  Q = point_of g stands world

  abbrev V : ℕ → ℤ
  V = values_in g world

  pub q_long : length Q ≡ length stands
  unfolding point_of
  q_long = length-map stands (number_by g world V)

  q_at : (number : ℕ) → number < length stands → number_at Q number ≡ number_by g world V (stand_at stands number)
  unfolding point_of
  q_at number lt = get_or-map (number_by g world V) stands number (stand.World 0) (pos 0) lt

  q_stand : (number : ℕ) (s : Stand) → number < length stands → stand_at stands number ≡ s → number_at Q number ≡ number_by g world V s
  q_stand number s lt is = q_at number lt ∙ ap (number_by g world V) is

  -- the world columns have the world's numbers
  pub q_world : (number : ℕ) → number < world_count stands → number_at Q number ≡ number_at world number
  q_world number less = let all = matched.begins.within in q_stand number (stand.World number) (omega (arith, less, all)) (matched.begins.first number less)

  pub world_taken : length world ≡ world_count stands → take (world_count stands) Q ≡ world
  world_taken long =
      let all = matched.begins.within in
      let q = q_long in
      let taken : length (take (world_count stands) Q) ≡ world_count stands = length-take-le (world_count stands) Q (omega (arith, all, q)) in
      ext_get_or (pos 0) (take (world_count stands) Q) world (taken ∙ sym long)
      (λ number lt. let less : number < world_count stands = omega (arith, lt, taken) in get_or-take (world_count stands) Q number (pos 0) less ∙ q_world number less)

  module _ (fold : IsFold g) (within : IsWorldWithin program stands world) where
    -- the point of a world within the sides lies within all sides
    pub world_between : IsBetween (sides_of program.columns) Q
    world_between = between_at program g stands world fold matched within

below_hi : (n lo hi : ℤ) → n ≤ℤ lo → lo ≤ℤ hi → n ≤ℤ hi
below_hi n lo hi a b = omega (arith, ints, a, b)

low_is : (n a b : ℤ) → n ≤ℤ a → b ≡ a → n ≤ℤ b
low_is n a b le is = omega (arith, ints, le, is)

high_is : (n a b : ℤ) → a ≤ℤ n → b ≡ a → b ≤ℤ n
high_is n a b le is = omega (arith, ints, le, is)

-- the lower sides of a box's world columns are a world within the sides
module _ (program : Program) (g : Graph) (stands : List Stand) (sides : List Bounds) (matched : IsMatched program g stands) (inside : IsInside (root_of program) sides) where
  pub sides_long : length sides ≡ length program.columns
  sides_long = inside_long (root_of program) sides inside ∙ root_long program

  pub worlds_few : world_count stands ≤ length sides
  worlds_few =
      let all = matched.begins.within in
      let count = matched.count in
      let long = sides_long in
      omega (arith, all, count, long)

  worlds_long : length (worlds_in stands sides) ≡ world_count stands
  worlds_long = length-take-le (world_count stands) sides worlds_few

  lows_long : length (lows (worlds_in stands sides)) ≡ world_count stands
  lows_long = length-map (worlds_in stands sides) (λ (side : Bounds). side.lo) ∙ worlds_long

  low_at : (number : ℕ) → number < world_count stands → number_at (lows (worlds_in stands sides)) number ≡ (side_at sides number).lo
  low_at number less =
      let long = worlds_long in
      get_or-map (λ (side : Bounds). side.lo) (worlds_in stands sides) number no_side (pos 0) (omega (arith, less, long))
      ∙ ap (λ (side : Bounds). side.lo) (get_or-take (world_count stands) sides number no_side less)

  pub world_within : IsWorldWithin program stands (lows (worlds_in stands sides))
  world_within =
      let few = worlds_few in
      let long = sides_long in
      record {
        count = lows_long;
        low = λ number less.
            let lt : number < length sides = omega (arith, less, few) in
            let one = inside_at (root_of program) sides number inside lt in
            low_is (column_at program.columns number).sides.lo (side_at sides number).lo (number_at (lows (worlds_in stands sides)) number)
            (subst (λ (b : Bounds). b.lo ≤ℤ (side_at sides number).lo) (side_is program number (omega (arith, lt, long))) one.low) (low_at number less);
        high = λ number less.
            let lt : number < length sides = omega (arith, less, few) in
            let one = inside_at (root_of program) sides number inside lt in
            high_is (column_at program.columns number).sides.hi (side_at sides number).lo (number_at (lows (worlds_in stands sides)) number)
            (subst (λ (b : Bounds). (side_at sides number).lo ≤ℤ b.hi) (side_is program number (omega (arith, lt, long))) (below_hi (side_at sides number).lo (side_at sides number).hi (side_at (root_of program) number).hi one.some one.high))
            (low_at number less);
      }

-- the world at the lower sides, however it is given
module _ (program : Program) (g : Graph) (stands : List Stand) (sides : List Bounds) (matched : IsMatched program g stands) (inside : IsInside (root_of program) sides) (world : List ℤ) (is : world ≡ lows (worlds_in stands sides)) where
  pub within_given : IsWorldWithin program stands world
  within_given = subst (IsWorldWithin program stands) (sym is) (world_within program g stands sides matched inside)

  pub point_given : {E : Type 0} (r : Result (List ℤ) E) → IfOk r (λ point. point ≡ point_of g stands world) → IfOk r (λ point. point ≡ leaf_point program g stands sides)
  point_given r h = if_ok r (λ point. point ≡ point_of g stands world) (λ point. point ≡ leaf_point program g stands sides) (λ point e. e ∙ ap (point_of g stands) is) h

  pub between_given : {E : Type 0} → IsFold g → (r : Result (List ℤ) E) → IfOk r (λ point. point ≡ point_of g stands world) → IfOk r (λ point. IsBetween (sides_of program.columns) point)
  between_given fold r h =
      if_ok r (λ point. point ≡ point_of g stands world) (λ point. IsBetween (sides_of program.columns) point)
      (λ point e. subst (IsBetween (sides_of program.columns)) (sym e) (world_between program g stands world matched fold within_given)) h

pub count_taken : (stands : List Stand) (count : ℕ) (sides : List Bounds) → count ≡ world_count stands → world_count stands ≤ length sides → count ≡ length (take count sides)
count_taken stands count sides is le = sym (length-take-le count sides (omega (arith, is, le)))

pub lows_taken : {E : Type 0} (stands : List Stand) (count : ℕ) (sides : List Bounds) (r : Result (List ℤ) E) → count ≡ world_count stands → IfOk r (λ world. world ≡ lows (take count sides)) → IfOk r (λ world. world ≡ lows (worlds_in stands sides))
lows_taken stands count sides r is h = subst (λ n. IfOk r (λ world. world ≡ lows (take n sides))) is h
