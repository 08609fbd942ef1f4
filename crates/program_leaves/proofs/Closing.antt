-- A tree that closes has every whole point in one of its leaves: none has a better value. And rows that are false have no whole point.
use Rattle.std.proofs.Common.{◌≡◌, ◌∙◌, sym, ap, subst, refl, ℕ, zero, suc, ◌<◌, ◌⊎◌, inl, inr, ℤ, pos, ◌+ℤ◌, ◌≤ℤ◌, Bool, true, false, ◌||◌, List, [], ◌∷◌, length, take, get_or, All, Option, Some, None, arith}
use Rattle.std.specs.List.{list_any}
use Rattle.std.proofs.lemmas.Bool.{and_parts}
use Rattle.std.proofs.lemmas.Int.{ints}
use Rattle.std.proofs.lemmas.List.{get_or-map, length-map}
use Rattle.ip_rows.specs.declared.Bounds.{Bounds}
use Rattle.ip_rows.specs.declared.rows.Coef.{Coef}
use Rattle.ip_rows.specs.declared.program.Program.{Program}
use Rattle.ip_rows.specs.Programs.{IsBetween, IsMeasured, IsWellFormed, number_at, row_at, sum_at}
use Rattle.ip_rows.specs.Rows.{side_at}
use Rattle.prov_fold.specs.Graphs.{Graph}
use Rattle.prov_fold.specs.Folds.{IsFold}
use Rattle.bool_encode.specs.declared.stand.Stand.{Stand}
use Rattle.bool_encode.specs.declared.stand.Stand.TheVariants as stand
use Rattle.bool_encode.specs.Points.{point_of}
use Rattle.bool_encode.specs.Stands.{stand_at}
use Rattle.bool_encode.proofs.Numbers.{times_one}
use Rattle.branch_tree.specs.declared.node.Leaf.TheVariants as leaf
use Rattle.branch_tree.specs.Boxes.{low_box, high_box}
use Rattle.branch_tree.specs.Listing.{InBox, NoBetter, has_two, is_done, lows}
use Rattle.branch_tree.specs.Tree.{Tree, closed, split}
use Rattle.branch_tree.proofs.Covering.{in_half, one_inside}
use Rattle.branch_tree.proofs.Columns.{no_side}
use Rattle.whole_points.specs.Matched.{IsMatched, world_count}
use Rattle.whole_points.specs.Points.{AgreeOver, IsNoSelector, IsWholePoint}
use Rattle.whole_points.proofs.Whole.{over_one, world_over, world_within}
use Rattle.whole_points.proofs.WorldNumbers.{at_any}
use Rattle.whole_points.proofs.WorldPoints.{agree, whole}
use Rattle.program_leaves.specs.Leaves.{IsFalseRow, is_open, leaf_point, leaf_value, part_value, root_of, value_in, worlds_in}
use Rattle.program_leaves.specs.Closing.{Closes, ClosesAll, ClosesLeaf, HasNoPoint, IsLeastPoint, NoneBetter, value_of}
use Rattle.program_leaves.proofs.Insides.{between_in, in_of, in_taken}
use Rattle.program_leaves.proofs.Meets.{all_met, value_both}
use Rattle.program_leaves.proofs.Points.{root_long, world_taken}
use Rattle.program_leaves.proofs.Sums.{cross_sums, fixed_same, none_open, same_all, same_sums}

module _ (program : Program) (g : Graph) (stands : List Stand) (fold : IsFold g) (formed : IsWellFormed program) (matched : IsMatched program g stands) (point : List ℤ) (is_whole : IsWholePoint program point) where
  abbrev world : List ℤ
  world = take (world_count stands) point

  -- the point of the world of a whole point
  abbrev pub same_world : List ℤ
  same_world = point_of g stands world

  world_long : length world ≡ world_count stands
  world_long = (world_within program point is_whole g stands matched).count

  -- it is a whole point
  pub same_whole : IsWholePoint program same_world
  same_whole = whole program g stands world 1 point fold matched (over_one program point is_whole) world_long (world_over program point is_whole g stands matched) formed

  agrees : AgreeOver 1 stands point same_world
  agrees = agree program g stands world 1 point fold matched (over_one program point is_whole) world_long (world_over program point is_whole g stands matched)

  agrees_at : (column : ℕ) → column < length stands → IsNoSelector (stand_at stands column) → number_at point column ≡ number_at same_world column
  agrees_at column lt plain = agrees column lt plain ∙ times_one (number_at same_world column)

  there_at : (k : ℕ) (t d : Coef) → k < length program.aim → get_or program.aim k d ≡ t → t.column < length stands
  there_at k t d lt is = subst (λ (t : Coef). t.column < length stands) is (let there = formed.aim.there k d lt in let count = matched.count in omega (arith, there, count))

  term_same : (k : ℕ) (t d : Coef) → k < length program.aim → get_or program.aim k d ≡ t → (s : Stand) → stand_at stands t.column ≡ s → number_at point t.column ≡ number_at same_world t.column
  term_same k t d lt is (stand.Selector z pair) e = absurd (matched.aim z pair (t, (k, lt, at_any program.aim k d t lt ∙ is), e))
  term_same k t d lt is (stand.World c) e = agrees_at t.column (there_at k t d lt is) (subst IsNoSelector (sym e) tt)
  term_same k t d lt is (stand.Node z) e = agrees_at t.column (there_at k t d lt is) (subst IsNoSelector (sym e) tt)

  -- and has the same value
  pub same_value : part_value program point ≡ part_value program same_world
  same_value = same_sums point same_world (is_open program) program.aim (λ k d lt. term_same k (get_or program.aim k d) d lt refl (stand_at stands (get_or program.aim k d).column) refl)

  module _ (best : Option ℤ) where
    leaf_closes : (sides : List Bounds) → ClosesLeaf program g stands best leaf.Fixed sides → InBox sides same_world → NoBetter best (Some (part_value program same_world))
    leaf_closes sides closes inside =
        let taken : take (world_count stands) same_world ≡ world = world_taken program g stands world matched world_long in
        let low : take (world_count stands) same_world ≡ lows (worlds_in stands sides) = one_inside (worlds_in stands sides) (take (world_count stands) same_world) closes.0 (in_taken (world_count stands) sides same_world inside) in
        let here : leaf_point program g stands sides ≡ same_world = ap (point_of g stands) (sym low ∙ taken) in
        let value : leaf_value program g stands sides ≡ Some (part_value program same_world) =
        ap (value_in program sides) here ∙ value_both program sides same_world (in_of sides same_world inside) (all_met same_world program.rows same_whole.rows) in
        subst (NoBetter best) value closes.1

    covers : (tree : Tree) (sides : List Bounds) → Closes (ClosesLeaf program g stands best) tree sides → is_done tree ≡ true → InBox sides same_world → NoBetter best (Some (part_value program same_world))
    covers (closed leaf.Pending) sides closes done inside = absurd cc
    covers (closed leaf.Fixed) sides closes done inside = leaf_closes sides closes inside
    covers (split column at reason low high) sides closes done inside =
        let both = and_parts (is_done low) (is_done high) done in
        by_half (covers low (low_box sides column at) closes.1 both.0) (covers high (high_box sides column at) closes.2 both.1) (in_half sides column at same_world closes.0.there inside)
      where
        by_half : (InBox (low_box sides column at) same_world → NoBetter best (Some (part_value program same_world))) → (InBox (high_box sides column at) same_world → NoBetter best (Some (part_value program same_world)))
            → InBox (low_box sides column at) same_world ⊎ InBox (high_box sides column at) same_world → NoBetter best (Some (part_value program same_world))
        by_half low high (inl inside) = low inside
        by_half low high (inr inside) = high inside

    pub none_better_at : (tree : Tree) → ClosesAll program g stands best tree → NoBetter best (Some (part_value program point))
    none_better_at tree all =
        subst (λ (v : ℤ). NoBetter best (Some v)) (sym same_value) (covers tree (root_of program) all.closes all.done (between_in (root_of program) same_world same_whole.between))

-- a tree that closes and has no open node: no whole point has a better value in the part
pub none_better : (program : Program) (g : Graph) (stands : List Stand) → IsFold g → IsWellFormed program → IsMatched program g stands → (best : Option ℤ) (tree : Tree) → ClosesAll program g stands best tree → NoneBetter program best
none_better program g stands fold formed matched best tree all point is_whole = none_better_at program g stands fold formed matched point is_whole best tree all

-- ---- from the part's value to the program's

module _ (program : Program) (formed : IsWellFormed program) (a b : List ℤ) (in_a : IsBetween (root_of program) a) (in_b : IsBetween (root_of program) b) where
  aim_there : All (λ (t : Coef). t.column < length (root_of program)) program.aim
  aim_there = λ k d lt. let there = formed.aim.there k d lt in let long = root_long program in omega (arith, there, long)

  lesser : (x y p q c : ℤ) → x +ℤ q ≡ y +ℤ p → p ≤ℤ q → (c +ℤ x) ≤ℤ (c +ℤ y)
  lesser x y p q c e le = omega (arith, ints, e, le)

  pub value_less : part_value program a ≤ℤ part_value program b → value_of program a ≤ℤ value_of program b
  value_less le = lesser (sum_at a program.aim) (sum_at b program.aim) (part_value program a) (part_value program b) program.constant (cross_sums program a b in_a in_b program.aim aim_there) le

-- a whole point whose value in the part none betters is least
pub least_by : (program : Program) → IsWellFormed program → (point : List ℤ) → IsWholePoint program point → NoneBetter program (Some (part_value program point)) → IsLeastPoint program point
least_by program formed point is_whole none = record {
  whole = is_whole;
  least = λ other other_whole. value_less program formed point other is_whole.between other_whole.between (none other other_whole);
}

pub no_point_by : (program : Program) → NoneBetter program None → HasNoPoint program
no_point_by program none point is_whole = none point is_whole

-- ---- where no column has two values

none_two : (sides : List Bounds) (column : ℕ) → list_any has_two sides ≡ false → column < length sides → has_two (side_at sides column) ≡ false
none_two [] column none lt = absurd (omega (arith, lt))
none_two (side ∷ sides) zero none lt = or_first (has_two side) (list_any has_two sides) none
  where
    or_first : (a b : Bool) → (a || b) ≡ false → a ≡ false
    or_first true b e = absurd cc
    or_first false b e = refl
none_two (side ∷ sides) (suc column) none lt = none_two sides column (or_second (has_two side) (list_any has_two sides) none) (omega (arith, lt))
  where
    or_second : (a b : Bool) → (a || b) ≡ false → b ≡ false
    or_second true b e = absurd cc
    or_second false b e = e

same_none : (n a b : ℤ) → a ≡ pos 0 → b ≡ pos 0 → a ≤ℤ b
same_none n a b e f = omega (arith, ints, e, f)

pub least_fixed : (program : Program) → IsWellFormed program → (point : List ℤ) → IsWholePoint program point → list_any has_two (root_of program) ≡ false → IsLeastPoint program point
least_fixed program formed point is_whole none =
    let fixed : All (λ (t : Coef). is_open program t ≡ false) program.aim = λ k d lt. none_two (root_of program) (get_or program.aim k d).column none (let there = formed.aim.there k d lt in let long = root_long program in omega (arith, there, long)) in
    least_by program formed point is_whole (λ other other_whole. same_none (pos 0) (part_value program point) (part_value program other) (none_open program point program.aim fixed) (none_open program other program.aim fixed))

-- ---- false rows

module _ (sides : List Bounds) where
  pub low_is : (column : ℕ) → column < length sides → number_at (lows sides) column ≡ (side_at sides column).lo
  low_is column lt = get_or-map (λ (side : Bounds). side.lo) sides column no_side (pos 0) lt

is_le : (a b : ℤ) → b ≡ a → a ≤ℤ b
is_le a b e = omega (arith, ints, e)

le_by : (a b c : ℤ) → b ≡ a → a ≤ℤ c → b ≤ℤ c
le_by a b c e le = omega (arith, ints, e, le)

pub lows_between : (program : Program) → IsMeasured program → IsBetween (root_of program) (lows (root_of program))
lows_between program measured = record {
  count = length-map (root_of program) (λ (side : Bounds). side.lo);
  low = λ column lt. is_le _ _ (low_is (root_of program) column lt);
  high = λ column lt. le_by _ _ _ (low_is (root_of program) column lt) (measured.sides column no_side lt);
}

-- a false row: no whole point
pub false_none : (program : Program) → IsWellFormed program → IsMeasured program → (number : ℕ) → IsFalseRow program number → HasNoPoint program
false_none program formed measured number is point is_whole =
    let row = row_at program.rows number in
    let terms_there = formed.rows number (record { terms = []; least = pos 0 }) is.there in
    let long = root_long program in
    let same : sum_at point row.terms ≡ sum_at (lows (root_of program)) row.terms =
    same_all point (lows (root_of program)) row.terms (λ k d lt. fixed_same program point (lows (root_of program)) is_whole.between (lows_between program measured) (get_or row.terms k d) (let there = terms_there.there k d lt in omega (arith, there, long)) (is.fixed k d lt)) in
    is.fails (subst (λ (n : ℤ). row.least ≤ℤ n) same (is_whole.rows number (record { terms = []; least = pos 0 }) is.there))
