-- The numbers of the program are small enough for its sums.
use Rattle.std.proofs.Common.{◌≡◌, ◌∙◌, sym, ap, subst, refl, ℕ, suc, ◌+◌, ◌*◌, ◌<◌, ◌≤◌, ◌^◌, if◌then◌else◌, ⊎_elim, ℤ, pos, neg_ℤ, ◌+ℤ◌, ◌-ℤ◌, unsigned_abs, w64, Bool, true, false, List, [], ◌∷◌, map, length, get_or, All, Contains, arith}
use Rattle.std.specs.Prelude.{◌≤ℤ◌, int_lt, Option, None}
use Rattle.std.specs.Ordering.{int_eq}
use Rattle.std.proofs.lemmas.Int.{ints, fits_signed_from_abs}
use Rattle.std.proofs.lemmas.Bool.{cases_lt}
use Rattle.std.proofs.lemmas.List.{get_or-map, get_or_past, length-append, length-map}
use Rattle.std.proofs.lemmas.List.Elements.{All-append, Contains-append_cases}
use Rattle.std.proofs.lemmas.List.Sums.{sum_by-cons}
use Rattle.std.proofs.Math.Nat.{max-le, mul-le-mul_left}
use Rattle.ip_rows.specs.declared.Bounds.{Bounds}
use Rattle.ip_rows.specs.declared.rows.Coef.{Coef}
use Rattle.ip_rows.specs.declared.rows.IpRow.{IpRow}
use Rattle.ip_rows.specs.declared.program.IpColumn.{IpColumn}
use Rattle.ip_rows.specs.declared.program.Program.{Program}
use Rattle.ip_rows.specs.Programs.{IsMeasured, fixed_sum, sides_of}
use Rattle.ip_rows.specs.Rows.{IsMeasuredRow, greater_size, side_at, weight}
use Rattle.tiql_query.specs.declared.world_column.WorldColumn.{WorldColumn}
use Rattle.world_points.specs.Points.{least, greatest, root, side}
use Rattle.drop_rows.specs.Cells.{cell_rows, column_rows, high_row, low_row, may_drop, presence_at, rows_from, tie}
use Rattle.prov_fold.specs.Graphs.{Graph, node}
use Rattle.prov_fold.specs.Folds.{IsFold}
use Rattle.prov_fold.specs.Sums.{added_by}
use Rattle.prov_fold.proofs.SameLemmas.{All_cons}
use Rattle.bool_encode.specs.declared.stand.Stand.{Stand}
use Rattle.bool_encode.specs.Columns.{coef}
use Rattle.bool_encode.specs.Forms.{Form}
use Rattle.bool_encode.specs.Rows.{IsRowOf}
use Rattle.bool_encode.specs.Rows.{weight as form_weight}
use Rattle.bool_encode.specs.Stands.{stand_at}
use Rattle.cmp_encode.specs.Tables.{forms_of}
use Rattle.whole_points.specs.Matched.{world_count}
use Rattle.bool_encode.specs.declared.stand.Stand.TheVariants as stand
use Rattle.bool_encode.proofs.Each.{All_none}
use Rattle.used_columns.specs.Columns.{column_for, stands_for}
use Rattle.used_columns.specs.Laid.{IsLaid}
use Rattle.used_columns.proofs.ListedLemmas.{Listed, listed, worlds_within, world_count_is}
use Rattle.program_rows.specs.declared.goal.Goal.{Goal}
use Rattle.program_rows.specs.Fair.{IsFair}
use Rattle.program_rows.specs.Goals.{aim_form, all_forms, goal_forms, node_forms}
use Rattle.program_rows.specs.Programs.{IsProgramOf, layout_of}
use Rattle.program_rows.specs.Worlds.{AreLed, IsRanged}
use Rattle.program_rows.proofs.Fairness.{fair_weight}
use Rattle.program_rows.proofs.Laying.{all_has, has_at, laid_stands}
use Rattle.program_rows.proofs.Matching.{form_of, marked_from, rows_count}
use Rattle.program_rows.proofs.NodeSizes.{forms_light}
use Rattle.program_rows.proofs.CellSizes.{cells_little, either_small, neg_size}
use Rattle.program_rows.proofs.Fixed.{fair_free, node_free}
use Rattle.bool_encode.proofs.RowSizes.{row_heft}

-- ---- sides

-- a number lies between, and neither side is above 10^17 in size
pub record IsSmallSide (b : Bounds) : Type 0 where
  pub order : b.lo ≤ℤ b.hi
  pub small_lo : unsigned_abs b.lo ≤ 100000000000000000
  pub small_hi : unsigned_abs b.hi ≤ 100000000000000000

least_zero : (m n : ℤ) → least m n ≤ℤ n
least_zero m n = by_test (int_lt n m) refl
  where
    by_test : (b : Bool) → int_lt n m ≡ b → (if b then n else m) ≤ℤ n
    by_test true e = omega (arith, ints)
    by_test false e = grind (arith, ints)

greatest_zero : (m n : ℤ) → n ≤ℤ greatest m n
greatest_zero m n = by_test (int_lt m n) refl
  where
    by_test : (b : Bool) → int_lt m n ≡ b → n ≤ℤ (if b then n else m)
    by_test true e = omega (arith, ints)
    by_test false e = grind (arith, ints)

between_zero : (a b : ℤ) → a ≤ℤ pos 0 → pos 0 ≤ℤ b → a ≤ℤ b
between_zero a b p q = omega (arith, ints)

world_small : (c : WorldColumn) → IsRanged c → IsSmallSide (side c)
unfolding side
world_small c ranged = by_test c.droppable
  where
    wide : IsSmallSide (record { lo = least c.lo (pos 0); hi = greatest c.hi (pos 0) })
    wide =
        let lo = ranged.small_lo in
        let hi = ranged.small_hi in
        record {
          order = between_zero (least c.lo (pos 0)) (greatest c.hi (pos 0)) (least_zero c.lo (pos 0)) (greatest_zero c.hi (pos 0));
          small_lo = either_small c.lo (pos 0) (int_lt (pos 0) c.lo) 100000000000000000 (omega (arith, lo)) (omega arith);
          small_hi = either_small c.hi (pos 0) (int_lt c.hi (pos 0)) 100000000000000000 (omega (arith, hi)) (omega arith);
        }

    by_test : (b : Bool) → IsSmallSide (if b then record { lo = least c.lo (pos 0); hi = greatest c.hi (pos 0) } else record { lo = c.lo; hi = c.hi })
    by_test true = wide
    by_test false = let lo = ranged.small_lo in let hi = ranged.small_hi in record { order = ranged.order; small_lo = omega (arith, lo); small_hi = omega (arith, hi) }

stand_small : (g : Graph) (fold : IsFold g) (worlds : List WorldColumn) (marks : List Bool) (s : Stand) → All IsRanged worlds → Listed g marks (length (root worlds)) s → IsSmallSide (column_for g (root worlds) s).sides
stand_small g fold worlds marks (stand.World number) ranged lt =
    let none : Bounds = record { lo = pos 0; hi = pos 0 } in
    let count = length-map worlds side in
    let inside : number < length worlds = omega (arith, count, lt) in
    let first : WorldColumn = get_or worlds number (record { hypo = 0; row = 0; cell = None; droppable = false; lo = pos 0; hi = pos 0 }) in
    subst IsSmallSide (sym (get_or-map side worlds number first none inside)) (world_small (get_or worlds number first) (ranged number first inside))
stand_small g fold worlds marks (stand.Node z) ranged h = let fits = fold.fits z h.0 in record { order = fits.order; small_lo = fits.small_lo; small_hi = fits.small_hi }
stand_small g fold worlds marks (stand.Selector z pair) ranged h = record { order = omega (arith, ints); small_lo = omega arith; small_hi = omega arith }

greater_small : (b : Bounds) → IsSmallSide b → greater_size b ≤ 100000000000000000
greater_small b is = max-le is.small_lo is.small_hi

-- ---- weights

abbrev pub sizes : List Coef → ℕ
sizes terms = added_by (λ (t : Coef). unsigned_abs t.factor) terms

side_small : (sides : List Bounds) (c : ℕ) → All IsSmallSide sides → greater_size (side_at sides c) ≤ 100000000000000000
side_small sides c all = ⊎_elim (λ (lt : c < length sides). greater_small (side_at sides c) (all c (record { lo = pos 0; hi = pos 0 }) lt)) (λ (le : length sides ≤ c). subst (λ (b : Bounds). greater_size b ≤ 100000000000000000) (sym (get_or_past sides c (record { lo = pos 0; hi = pos 0 }) le)) (max-le {a = 0} {b = 0} (omega arith) (omega arith))) (cases_lt c (length sides))

weight_small : (sides : List Bounds) (terms : List Coef) → All IsSmallSide sides → weight sides terms ≤ sizes terms * 100000000000000000
weight_small sides [] all = omega arith
weight_small sides (t ∷ terms) all =
    let here = mul-le-mul_left (unsigned_abs t.factor) (side_small sides t.column all) in
    let rest = weight_small sides terms all in
    let both = sum_by-cons (λ (t : Coef). unsigned_abs t.factor * greater_size (side_at sides t.column)) t terms in
    omega (arith, here, rest, both)

-- a row whose numbers are below 2^63 together
pub record IsSlight (row : IpRow) : Type 0 where
  pub together : unsigned_abs row.least + sizes row.terms < 2 ^ 63

slight_measured : (sides : List Bounds) (row : IpRow) → All IsSmallSide sides → IsSlight row → IsMeasuredRow sides row
slight_measured sides row all slight =
    let heavy = weight_small sides row.terms all in
    let light = slight.together in
    omega (arith, heavy, light)

-- ---- the rows of cells

tie_slight : (factor : ℤ) (presence : ℕ) (sign : ℤ) (cell : ℕ) → unsigned_abs factor ≤ 10 ^ 15 → unsigned_abs sign ≤ 1 → IsSlight (tie factor presence sign cell)
unfolding tie
tie_slight factor presence sign cell small one = by_test (int_eq factor (pos 0))
  where
    by_test : (b : Bool) → IsSlight (record { terms = (if b then coef sign cell ∷ [] else coef factor presence ∷ coef sign cell ∷ []); least = pos 0 })
    by_test true = record { together = omega (arith, one) }
    by_test false = record { together = omega (arith, one, small) }

less_zero : (n : ℤ) → n -ℤ pos 0 ≡ n
less_zero n = omega (arith, ints)

plus_zero : (n : ℤ) → n +ℤ pos 0 ≡ n
plus_zero n = omega (arith, ints)

column_slight : (presence at : ℕ) (c : WorldColumn) → IsRanged c → All IsSlight (column_rows presence at c)
unfolding column_rows
column_slight presence at c ranged = by_test (may_drop c)
  where
    by_test : (b : Bool) → All IsSlight (if b then low_row presence at c.lo ∷ high_row presence at c.hi ∷ [] else [])
    by_test false = All_none IsSlight
    by_test true =
        let same = neg_size c.lo in
        let lo = ranged.small_lo in
        All_cons IsSlight (low_row presence at c.lo) (high_row presence at c.hi ∷ []) (tie_slight (neg_ℤ c.lo) presence (pos 1) at (omega (arith, same, lo)) (omega arith))
        (All_cons IsSlight (high_row presence at c.hi) [] (tie_slight c.hi presence (neg_ℤ (pos 1)) at ranged.small_hi (omega arith)) (All_none IsSlight))

cells_slight : (presence at : ℕ) (worlds : List WorldColumn) → All IsRanged worlds → All IsSlight (rows_from presence at worlds)
unfolding rows_from
cells_slight presence at [] ranged = All_none IsSlight
cells_slight presence at (c ∷ worlds) ranged =
    All-append IsSlight (column_rows presence at c) (rows_from (presence_at presence at c) (at + 1) worlds) (column_slight presence at c (ranged 0 c (omega arith)))
    (cells_slight (presence_at presence at c) (at + 1) worlds (λ j d lt. ranged (suc j) d (omega (arith, lt))))

-- ---- the program

module _ (g : Graph) (fold : IsFold g) (worlds : List WorldColumn) (roots : List ℕ) (aim : Option Goal) (program : Program) (stands : List Stand) (made : IsProgramOf worlds g roots aim program stands) (ranged : All IsRanged worlds) (led : AreLed worlds) (goals_fair : All (IsFair g) (goal_forms g roots)) (aim_fair : IsFair g (aim_form aim)) (seeds : List ℕ) (are : IsLaid g seeds stands program.columns) where
  all_stands : List Stand
  all_stands = stands_for g (length (root worlds)) made.marks

  laid_all : (stands ≡ all_stands) × (length all_stands ≤ 100000) × (program.columns ≡ map (column_for g (root worlds)) all_stands)
  unfolding all_stands
  laid_all = laid_stands g (root worlds) made.marks (layout_of stands program) made.layout

  map_small : (ss : List Stand) → All (Listed g made.marks (length (root worlds))) ss → All IsSmallSide (sides_of (map (column_for g (root worlds)) ss))
  map_small [] h = All_none IsSmallSide
  map_small (s ∷ ss) h =
      All_cons IsSmallSide (column_for g (root worlds) s).sides (sides_of (map (column_for g (root worlds)) ss)) (stand_small g fold worlds made.marks s ranged (h 0 s (omega arith))) (map_small ss (λ j d lt. h (suc j) d (omega (arith, lt))))

  sides_small : All IsSmallSide (sides_of program.columns)
  unfolding all_stands
  sides_small = subst (λ (cs : List IpColumn). All IsSmallSide (sides_of cs)) (sym laid_all.2) (map_small all_stands (listed g made.marks (length (root worlds))))

  -- the numbers of a row are below 2^63 together, since those of its form are
  row_slight : (r : Form) (row : IpRow) → form_weight g stands r.constant r.pieces < 2 ^ 63 → IsRowOf g stands r row → IsSlight row
  row_slight r row light is = let heft = row_heft g stands r row is in record { together = omega (arith, heft, light) }

  made_count : length (all_forms g made.marks roots) ≡ length made.made
  made_count = rows_count g stands (all_forms g made.marks roots) made.made made.are

  nodes_few : length (node_forms g made.marks) ≤ 50000000
  nodes_few =
      let forms = length-append (node_forms g made.marks) (goal_forms g roots) in
      let count = made_count in
      let rows = ap (λ (l : List IpRow). length l) made.rows in
      let both = length-append (cell_rows worlds) made.made in
      let small = made.small in
      omega (arith, forms, count, rows, both, small)

  node_light : (r : Form) → Contains (node_forms g made.marks) r → form_weight g stands r.constant r.pieces < 2 ^ 63
  node_light r has =
      let (y, own, there, few) = marked_from g made.marks r has in
      let all = nodes_few in
      all_has (λ (r : Form). form_weight g stands r.constant r.pieces < 2 ^ 63) (forms_of g y (node g y)) r (forms_light g stands fold y there (omega (arith, few, all))) own

  made_slight : All IsSlight made.made
  made_slight = λ k d lt.
      let (r, in_forms, is) = form_of g stands (all_forms g made.marks roots) made.made (get_or made.made k d) made.are (has_at made.made k d lt) in
      ⊎_elim (λ (h : Contains (node_forms g made.marks) r). row_slight r (get_or made.made k d) (node_light r h) is)
      (λ (h : Contains (goal_forms g roots) r). row_slight r (get_or made.made k d) (fair_weight g stands r (all_has (IsFair g) (goal_forms g roots) r goals_fair h)) is) (Contains-append_cases (node_forms g made.marks) (goal_forms g roots) r in_forms)

  aim_slight : IsSlight made.aim_row
  aim_slight = row_slight (aim_form aim) made.aim_row (fair_weight g stands (aim_form aim) aim_fair) made.aimed

  all_slight : All IsSlight program.rows
  all_slight = subst (All IsSlight) (sym made.rows) (All-append IsSlight (cell_rows worlds) made.made (cells_slight 0 0 worlds ranged) made_slight)

  constant_plain : unsigned_abs program.constant < 2 ^ 63
  constant_plain =
      let same : unsigned_abs program.constant ≡ unsigned_abs made.aim_row.least = ap unsigned_abs made.constant ∙ neg_size made.aim_row.least in
      let light = aim_slight.together in
      omega (arith, same, light)

  -- the columns of the world come first
  world_stands : (number : ℕ) → number < length worlds → stand_at all_stands number ≡ stand.World number
  unfolding all_stands
  world_stands number lt =
      let count = ap world_count laid_all.0 ∙ world_count_is g made.marks (length (root worlds)) ∙ length-map worlds side in
      ap (λ (l : List Stand). stand_at l number) (sym laid_all.0) ∙ are.begins.first number (omega (arith, lt, count))

  worlds_inside : (number : ℕ) → number < length worlds → number < length all_stands
  unfolding all_stands
  worlds_inside number lt = let within = worlds_within g made.marks (length (root worlds)) in let count = length-map worlds side in omega (arith, lt, within, count)

  world_sides : (number : ℕ) (d : WorldColumn) → number < length worlds → side_at (sides_of program.columns) number ≡ side (get_or worlds number d)
  world_sides number d lt =
      let none : Bounds = record { lo = pos 0; hi = pos 0 } in
      let inside = worlds_inside number lt in
      let long = length-map all_stands (column_for g (root worlds)) in
      ap (λ (cs : List IpColumn). side_at (sides_of cs) number) laid_all.2
      ∙ get_or-map (λ (column : IpColumn). column.sides) (map (column_for g (root worlds)) all_stands) number (column_for g (root worlds) (stand.World 0)) none (omega (arith, inside, long))
      ∙ ap (λ (column : IpColumn). column.sides) (get_or-map (column_for g (root worlds)) all_stands number (stand.World 0) (column_for g (root worlds) (stand.World 0)) inside)
      ∙ ap (λ (s : Stand). (column_for g (root worlds) s).sides) (world_stands number lt)
      ∙ get_or-map side worlds number d none lt

  -- what rows of cells ask with fixed columns put in
  cells_left : All (λ (row : IpRow). unsigned_abs (row.least -ℤ fixed_sum (sides_of program.columns) row.terms) < 2 ^ 63) (cell_rows worlds)
  cells_left = cells_little (sides_of program.columns) worlds ranged led.presences world_sides

  free_small : (row : IpRow) → IsSlight row → fixed_sum (sides_of program.columns) row.terms ≡ pos 0 → unsigned_abs (row.least -ℤ fixed_sum (sides_of program.columns) row.terms) < 2 ^ 63
  free_small row slight free =
      let light = slight.together in
      subst (λ (n : ℤ). unsigned_abs n < 2 ^ 63) (sym (ap (λ (n : ℤ). row.least -ℤ n) free ∙ less_zero row.least)) (omega (arith, light))

  row_left : (r : Form) (row : IpRow) → Contains (all_forms g made.marks roots) r → IsRowOf g stands r row → fixed_sum (sides_of program.columns) row.terms ≡ pos 0
  row_left r row in_forms is =
      ⊎_elim
      (λ (h : Contains (node_forms g made.marks) r).
      let (y, own, there, few) = marked_from g made.marks r h in
      node_free g fold seeds stands program.columns are y there r row own is)
      (λ (h : Contains (goal_forms g roots) r). fair_free g fold seeds stands program.columns are r row (all_has (IsFair g) (goal_forms g roots) r goals_fair h) is) (Contains-append_cases (node_forms g made.marks) (goal_forms g roots) r in_forms)

  made_left : All (λ (row : IpRow). unsigned_abs (row.least -ℤ fixed_sum (sides_of program.columns) row.terms) < 2 ^ 63) made.made
  made_left = λ k d lt.
      let (r, in_forms, is) = form_of g stands (all_forms g made.marks roots) made.made (get_or made.made k d) made.are (has_at made.made k d lt) in
      free_small (get_or made.made k d) (made_slight k d lt) (row_left r (get_or made.made k d) in_forms is)

  -- no column of a row of nodes has one number alone, and those of cells come to little
  leasts_small : All (λ (row : IpRow). unsigned_abs (row.least -ℤ fixed_sum (sides_of program.columns) row.terms) < 2 ^ 63) program.rows
  leasts_small =
      subst (All (λ (row : IpRow). unsigned_abs (row.least -ℤ fixed_sum (sides_of program.columns) row.terms) < 2 ^ 63)) (sym made.rows)
      (All-append (λ (row : IpRow). unsigned_abs (row.least -ℤ fixed_sum (sides_of program.columns) row.terms) < 2 ^ 63) (cell_rows worlds) made.made cells_left made_left)

  constant_small : unsigned_abs (program.constant +ℤ fixed_sum (sides_of program.columns) program.aim) < 2 ^ 63
  constant_small =
      let free = subst (λ (ts : List Coef). fixed_sum (sides_of program.columns) ts ≡ pos 0) (sym made.terms) (fair_free g fold seeds stands program.columns are (aim_form aim) made.aim_row aim_fair made.aimed) in
      subst (λ (n : ℤ). unsigned_abs n < 2 ^ 63) (sym (ap (λ (n : ℤ). program.constant +ℤ n) free ∙ plus_zero program.constant)) constant_plain

  aim_measured : weight (sides_of program.columns) program.aim + unsigned_abs program.constant ≤ 2 ^ 120
  aim_measured =
      let heavy = subst (λ (ts : List Coef). weight (sides_of program.columns) ts ≤ sizes made.aim_row.terms * 100000000000000000) (sym made.terms) (weight_small (sides_of program.columns) made.aim_row.terms sides_small) in
      let same : unsigned_abs program.constant ≡ unsigned_abs made.aim_row.least = ap unsigned_abs made.constant ∙ neg_size made.aim_row.least in
      let light = aim_slight.together in
      omega (arith, heavy, same, light)

  columns_few : length program.columns ≤ 100000
  unfolding all_stands
  columns_few = let e = ap (λ (cs : List IpColumn). length cs) laid_all.2 in let count = length-map all_stands (column_for g (root worlds)) in let most = laid_all.1 in omega (arith, e, count, most)

  pub is_measured : IsMeasured program
  is_measured = record {
    aim = aim_measured;
    rows = λ k d lt. slight_measured (sides_of program.columns) (get_or program.rows k d) sides_small (all_slight k d lt);
    sides = λ k d lt. (sides_small k d lt).order;
    constant = fits_signed_from_abs w64 _ constant_small;
    leasts = λ k d lt. fits_signed_from_abs w64 _ (leasts_small k d lt);
    columns = columns_few;
    size = made.small;
  }
