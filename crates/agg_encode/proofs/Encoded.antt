-- The whole points of the program of a query are its possible worlds that meet.
use Rattle.std.proofs.Common.{◌≡◌, ◌∙◌, sym, ap, subst, refl, ℕ, zero, suc, ◌<◌, ◌≤◌, inl, inr, ℤ, pos, ◌+ℤ◌, ◌*ℤ◌, ◌≤ℤ◌, Bool, true, false, List, [], ◌∷◌, map, flat_map, length, get_or, take, All, Contains, Option, Some, None, Ok, arith}
use Rattle.std.specs.Prelude.{if◌then◌else◌}
use Rattle.std.specs.List.{list_all, range_with_len}
use Rattle.std.proofs.lemmas.Bool.{cases_lt}
use Rattle.std.proofs.lemmas.List.{ext_get_or, get_or-map, get_or-take, length-map, length-take-le}
use Rattle.std.proofs.lemmas.List.FromFn.{get_or-range_with_len, length-range_with_len}
use Rattle.std.proofs.lemmas.List.Elements.{Contains-append_left, Contains-append_right}
use Rattle.branch_tree.specs.Listing.{InBox}
use Rattle.ip_rows.specs.declared.Bounds.{Bounds}
use Rattle.ip_rows.specs.declared.rows.Coef.{Coef}
use Rattle.ip_rows.specs.declared.rows.IpRow.{IpRow}
use Rattle.ip_rows.specs.declared.program.ColumnKind.TheVariants as kind
use Rattle.ip_rows.specs.declared.program.IpColumn.{IpColumn}
use Rattle.ip_rows.specs.declared.program.Program.{Program}
use Rattle.ip_rows.specs.Programs.{Holds, number_at, sides_of, sum_at}
use Rattle.ip_rows.specs.Rows.{AreTerms, side_at}
use Rattle.tiql_query.specs.declared.aim.Aim.{Aim}
use Rattle.tiql_query.specs.declared.aim.Aim.TheVariants as aims
use Rattle.tiql_query.specs.declared.query.Query.{Query}
use Rattle.tiql_query.specs.declared.world_column.WorldColumn.{WorldColumn}
use Rattle.tiql_query.specs.Rows.{AreTables}
use Rattle.tiql_query.specs.WellFormed.{IsWellFormed}
use Rattle.world_def.specs.declared.world.World.{World}
use Rattle.world_def.specs.Columns.{Rows, Tables, columns_of}
use Rattle.world_def.specs.Meaning.{IsPossible, Meets, meets, score, score_by}
use Rattle.world_def.specs.Relations.{rows_in}
use Rattle.world_def.specs.Meaning as meaning
use Rattle.world_def.proofs.Choices.{columns_told}
use Rattle.world_def.proofs.Numbered.{numbers_told}
use Rattle.tiql_query.specs.declared.relation.Source.{Source}
use Rattle.world_points.specs.Points.{cost, root, side}
use Rattle.world_points.proofs.Laws.{cells_there}
use Rattle.world_points.proofs.Within.{inside_box}
use Rattle.drop_rows.specs.Cells.{cell_rows}
use Rattle.drop_rows.specs.Told.{AreFormed, IsOfWorld, TellsWorlds}
use Rattle.drop_rows.proofs.Formed.{are_formed}
use Rattle.drop_rows.proofs.Telling.{rows_tell}
use Rattle.prov_arena.specs.Formulas.{Formula, FalseNode, TrueNode, PresNode, CellNode, PosNode, NotNode, AndNode, OrNode, LinNode, GuardNode, AbsNode, TotNode, MinNode}
use Rattle.prov_fold.specs.Graphs.{Graph, node, size, HasTruth}
use Rattle.prov_fold.specs.Folds.{IsFold}
use Rattle.prov_fold.specs.Kinds.{is_term}
use Rattle.prov_fold.specs.Meanings.{Means, values_in}
use Rattle.prov_fold.specs.Values.{HasNumbers, holds}
use Rattle.prov_fold.proofs.SameLemmas.{All_head, All_tail}
use Rattle.prov_fold.proofs.StandLemmas.{keeps_same}
use Rattle.bool_encode.specs.declared.form.Key.TheVariants as key
use Rattle.bool_encode.specs.declared.stand.Stand.{Stand}
use Rattle.bool_encode.specs.declared.stand.Stand.TheVariants as stand
use Rattle.bool_encode.specs.Columns.{IsOnMap}
use Rattle.bool_encode.specs.Forms.{Form, form_at}
use Rattle.bool_encode.specs.Points.{point_of}
use Rattle.bool_encode.specs.Rows.{AreRows}
use Rattle.bool_encode.specs.Stands.{stand_at}
use Rattle.bool_encode.specs.Tellings.{IsRight}
use Rattle.bool_encode.proofs.Each.{All_none}
use Rattle.cmp_encode.specs.Tables.{forms_of}
use Rattle.whole_points.specs.Matched.{IsMatched, column_at, has_column, world_count}
use Rattle.whole_points.specs.Points.{IsWholePoint, IsWorldWithin}
use Rattle.whole_points.proofs.AtWorlds.{has_all, world_between, world_right, world_rows}
use Rattle.whole_points.proofs.AtWorlds as at
use Rattle.whole_points.proofs.Rights.{right_at}
use Rattle.whole_points.proofs.Whole.{over_one as point_over, world_over, world_within}
use Rattle.root_encode.specs.Told.{AreRight, value_of}
use Rattle.used_columns.specs.Columns.{column_for, stands_for}
use Rattle.used_columns.specs.Laid.{HasChoices, IsLaid}
use Rattle.used_columns.specs.Seeds.{IsSeed}
use Rattle.used_columns.specs.Used.{IsUsed, mark_at}
use Rattle.used_columns.proofs.JoinedSeeds.{seed_term}
use Rattle.used_columns.proofs.Linear.{IsNodePiece}
use Rattle.used_columns.proofs.ListedLemmas.{world_count_is}
use Rattle.used_columns.proofs.UsedLaws.{laws}
use Rattle.sym_query.specs.declared.goals.Goals.{Goals}
use Rattle.sym_query.specs.Meant.{AreGoals, AreGoalsOf, AreGoalsOn, AreGroupedBy, IsAim}
use Rattle.program_rows.specs.declared.goal.Goal.{Goal}
use Rattle.program_rows.specs.Goals.{aim_form, goal_forms, marked_forms, node_forms, sign_of, wanted_forms}
use Rattle.program_rows.specs.Programs.{IsProgramOf, layout_of}
use Rattle.program_rows.proofs.Laying.{laid_stands}
use Rattle.agg_encode.specs.Built.{goal_of}
use Rattle.agg_encode.specs.Encoding.{BeginsWithChoices, Encodes, IsPointed, IsWorldOf, value_at}
use Rattle.agg_encode.proofs.Points.{Parted, aim_worth, all_both, all_left, all_right, forms_right, from_one, over_one, parted, roots_held, roots_hold, value_is}
use Rattle.agg_encode.proofs.RootNodes.{AreNodes, roots_nodes, term_form}

-- ---- lists

past : (xs : List Formula) (k : ℕ) → length xs ≤ k → get_or xs k FalseNode ≡ FalseNode
past [] k le = refl
past (x ∷ xs) zero le = absurd (omega (arith, le))
past (x ∷ xs) (suc k) le = past xs k (omega (arith, le))

no_term : false ≡ true → ⊥
no_term e = cc

-- what may stand in a term is there
term_below : (g : Graph) (z : ℕ) → is_term (node g z) ≡ true → z < size g
term_below g z e = elim (cases_lt z (size g)) as (λ _. z < size g) [ inl less ↦ less | inr le ↦ absurd (no_term (sym (ap is_term (past g.parts z le)) ∙ e)) ]

column_term : (m : Formula) → has_column m ≡ true → is_term m ≡ true
column_term FalseNode e = cc
column_term TrueNode e = cc
column_term (PresNode c) e = refl
column_term (CellNode c) e = refl
column_term (PosNode n) e = refl
column_term (NotNode t) e = cc
column_term (AndNode kids) e = refl
column_term (OrNode kids) e = refl
column_term (LinNode c terms) e = cc
column_term (GuardNode t n) e = refl
column_term (AbsNode n) e = refl
column_term (TotNode n) e = refl
column_term (MinNode pairs) e = refl

-- a node without a column has no rows
rowless : (g : Graph) (z : ℕ) (m : Formula) → has_column m ≡ false → forms_of g z m ≡ []
rowless g z FalseNode e = refl
rowless g z TrueNode e = refl
rowless g z (PresNode c) e = refl
rowless g z (CellNode c) e = refl
rowless g z (PosNode n) e = cc
rowless g z (NotNode t) e = refl
rowless g z (AndNode kids) e = cc
rowless g z (OrNode kids) e = cc
rowless g z (LinNode c terms) e = refl
rowless g z (GuardNode t n) e = cc
rowless g z (AbsNode n) e = cc
rowless g z (TotNode n) e = cc
rowless g z (MinNode pairs) e = cc

-- of no form there is no row
no_rows : (P : IpRow → Type 0) (g : Graph) (stands : List Stand) (rows : List IpRow) → AreRows g stands [] rows → All P rows
no_rows P g stands [] are = All_none P
no_rows P g stands (row ∷ rows) are = absurd are

range_less : (n k d : ℕ) → k < length (range_with_len 0 n) → get_or (range_with_len 0 n) k d < n
range_less n k d lt =
    let long = length-range_with_len 0 n in
    let at = get_or-range_with_len 0 n k d (omega (arith, lt, long)) in
    omega (arith, lt, long, at)

-- points that have the same numbers at the columns of terms
sums_same : (p q : List ℤ) (n : ℕ) (terms : List Coef) → All (λ (t : Coef). t.column < n) terms → ((c : ℕ) → c < n → number_at p c ≡ number_at q c) → sum_at p terms ≡ sum_at q terms
sums_same p q n [] there same = refl
sums_same p q n (t ∷ terms) there same =
    let here = same t.column (All_head (λ (t : Coef). t.column < n) t terms there) in
    let rest = sums_same p q n terms (λ j d lt. there (suc j) d (omega (arith, lt))) same in
    (λ i. t.factor *ℤ here i +ℤ rest i)

rows_same : (p q : List ℤ) (n : ℕ) (rows : List IpRow) → All (λ (row : IpRow). AreTerms n row.terms) rows → ((c : ℕ) → c < n → number_at p c ≡ number_at q c) → All (Holds p) rows → All (Holds q) rows
rows_same p q n rows formed same h = λ k d lt. subst (λ (x : ℤ). (get_or rows k d).least ≤ℤ x) (sums_same p q n (get_or rows k d).terms (formed k d lt).there same) (h k d lt)

-- ---- boxes

box_long : (sides : List Bounds) (ns : List ℤ) → InBox sides ns → length ns ≡ length sides
box_long [] [] box = refl
box_long [] (n ∷ ns) box = absurd box
box_long (s ∷ sides) [] box = absurd box
box_long (s ∷ sides) (n ∷ ns) box = ap suc (box_long sides ns box.2)

box_at : (sides : List Bounds) (ns : List ℤ) (k : ℕ) → InBox sides ns → k < length sides → ((side_at sides k).lo ≤ℤ number_at ns k) × (number_at ns k ≤ℤ (side_at sides k).hi)
box_at [] ns k box lt = absurd (omega (arith, lt))
box_at (s ∷ sides) [] k box lt = absurd box
box_at (s ∷ sides) (n ∷ ns) zero box lt = (box.0, box.1)
box_at (s ∷ sides) (n ∷ ns) (suc k) box lt = box_at sides ns k box.2 (omega (arith, lt))

box_of : (sides : List Bounds) (ns : List ℤ) → length ns ≡ length sides → ((k : ℕ) → k < length sides → ((side_at sides k).lo ≤ℤ number_at ns k) × (number_at ns k ≤ℤ (side_at sides k).hi)) → InBox sides ns
box_of [] [] long each = tt
box_of [] (n ∷ ns) long each = absurd (omega (arith, long))
box_of (s ∷ sides) [] long each = absurd (omega (arith, long))
box_of (s ∷ sides) (n ∷ ns) long each =
    let here = each 0 (omega arith) in
    (here.0, here.1, box_of sides ns (omega (arith, long)) (λ k lt. each (suc k) (omega (arith, lt))))

-- ---- scores

score_none : (aim : Aim) (rows : Source → Rows) → aim ≡ aims.Find → score_by aim rows ≡ pos 0
score_none aims.Find rows e = refl
score_none (aims.Sum maximize source part) rows e = cc

-- ---- the program of a query

module _ (columns : List WorldColumn) (g : Graph) (fold : IsFold g) (roots : List ℕ) (aim : Option Goal) (program : Program) (stands : List Stand) (is : IsProgramOf columns g roots aim program stands) (choices : HasChoices g (root columns)) where
  abbrev Laid : Type 0
  Laid = (stands ≡ stands_for g (length (root columns)) is.marks) × (length (stands_for g (length (root columns)) is.marks) ≤ 100000) × (program.columns ≡ map (column_for g (root columns)) (stands_for g (length (root columns)) is.marks))

  laid_as : Laid
  laid_as = laid_stands g (root columns) is.marks (layout_of stands program) is.layout

  laid_is : IsLaid g is.seeds stands program.columns
  laid_is =
      subst (λ (s : List Stand). IsLaid g is.seeds s program.columns) (sym laid_as.0)
      (subst (λ (c : List IpColumn). IsLaid g is.seeds (stands_for g (length (root columns)) is.marks) c) (sym laid_as.2) (laws g is.seeds is.marks (root columns) fold is.used choices laid_as.1))

  root_long : length (root columns) ≡ length columns
  root_long = length-map columns side

  pub count_is : world_count stands ≡ length columns
  count_is = ap world_count laid_as.0 ∙ world_count_is g is.marks (length (root columns)) ∙ root_long

  -- the columns of the world have the sides of the choices
  side_of : (k : ℕ) → k < length columns → (column_at program.columns k).sides ≡ side_at (root columns) k
  side_of k lt =
      let within = laid_is.begins.within in
      let all = count_is in
      let there : k < length stands = omega (arith, lt, within, all) in
      ap (λ (c : IpColumn). c.sides)
      (ap (λ (c : List IpColumn). column_at c k) laid_as.2
      ∙ get_or-map (column_for g (root columns)) (stands_for g (length (root columns)) is.marks) k (stand.World 0) (record { kind = kind.World; sides = record { lo = pos 0; hi = pos 0 } }) (subst (λ (s : List Stand). k < length s) laid_as.0 there)
      ∙ ap (λ (s : List Stand). column_for g (root columns) (stand_at s k)) (sym laid_as.0)
      ∙ ap (column_for g (root columns)) (laid_is.begins.first k (omega (arith, lt, all))))

  side_by : (k : ℕ) → k < length columns → side_at (sides_of program.columns) k ≡ side_at (root columns) k
  side_by k lt =
      let within = laid_is.begins.within in
      let count = laid_is.count in
      let all = count_is in
      let here : k < length program.columns = omega (arith, lt, within, all, count) in
      get_or-map (λ (c : IpColumn). c.sides) program.columns k (record { kind = kind.World; sides = record { lo = pos 0; hi = pos 0 } }) (record { lo = pos 0; hi = pos 0 }) here ∙ side_of k lt

  -- points of the box are worlds within the sides
  pub within_of : (ns : List ℤ) → InBox (root columns) ns → IsWorldWithin program stands ns
  within_of ns box =
      let all = count_is in
      let long = root_long in
      record {
        count = box_long (root columns) ns box ∙ long ∙ sym all;
        low = λ k lt. subst (λ (b : Bounds). b.lo ≤ℤ number_at ns k) (sym (side_of k (omega (arith, lt, all)))) (box_at (root columns) ns k box (omega (arith, lt, all, long))).0;
        high = λ k lt. subst (λ (b : Bounds). number_at ns k ≤ℤ b.hi) (sym (side_of k (omega (arith, lt, all)))) (box_at (root columns) ns k box (omega (arith, lt, all, long))).1;
      }

  pub box_from : (ns : List ℤ) → IsWorldWithin program stands ns → InBox (root columns) ns
  box_from ns within =
      let all = count_is in
      let long = root_long in
      box_of (root columns) ns (within.count ∙ all ∙ sym long) (λ k lt. (
        subst (λ (b : Bounds). b.lo ≤ℤ number_at ns k) (side_of k (omega (arith, lt, long))) (within.low k (omega (arith, lt, all, long))),
        subst (λ (b : Bounds). number_at ns k ≤ℤ b.hi) (side_of k (omega (arith, lt, long))) (within.high k (omega (arith, lt, all, long))),
      ))

  sides_long : length columns ≤ length (sides_of program.columns)
  sides_long =
      let within = laid_is.begins.within in
      let count = laid_is.count in
      let all = count_is in
      let long = length-map program.columns (λ (c : IpColumn). c.sides) in
      omega (arith, within, count, all, long)

  pub begins : BeginsWithChoices columns program stands
  begins = record {
    count = count_is;
    sides =
        let long = length-take-le (length columns) (sides_of program.columns) sides_long in
        let other = root_long in
        ext_get_or (record { lo = pos 0; hi = pos 0 }) (take (length columns) (sides_of program.columns)) (root columns) (long ∙ sym other)
        (λ k lt. let less : k < length columns = omega (arith, lt, long) in get_or-take (length columns) (sides_of program.columns) k (record { lo = pos 0; hi = pos 0 }) less ∙ side_by k less);
  }

  module _ (matched : IsMatched program g stands) (truths : All (HasTruth g) roots) (aim_nodes : All (IsNodePiece g) (aim_form aim).pieces) where
    wanted_in : (r : Form) → Contains (goal_forms g roots) r → Contains (wanted_forms g roots aim) r
    wanted_in r c = Contains-append_left (goal_forms g roots) (aim_form aim ∷ []) r c

    aim_in_wanted : Contains (wanted_forms g roots aim) (aim_form aim)
    aim_in_wanted = Contains-append_right (goal_forms g roots) (aim_form aim ∷ []) (aim_form aim) (0, omega arith, refl)

    -- a node that is used has its column
    used_on : (z : ℕ) → is_term (node g z) ≡ true → IsUsed g is.seeds z → IsOnMap g stands (key.Node z)
    used_on z term used = laid_is.reached z (term_below g z term) term used

    sown_by : (r : Form) → All (IsNodePiece g) r.pieces → Contains (wanted_forms g roots aim) r → (z : ℕ) → IsSeed g r.pieces z → (z < size g) × IsOnMap g stands (key.Node z)
    sown_by r nodes c z seed =
        let term = seed_term g fold r.pieces z nodes seed in
        (term_below g z term, used_on z term (IsUsed.Seed z ((is.sown z).1 (r, c, seed))))

    goal_nodes : AreNodes g (goal_forms g roots)
    goal_nodes = roots_nodes g fold roots truths

    node_of : (r : Form) → Contains (goal_forms g roots) r → All (IsNodePiece g) r.pieces
    node_of r c = subst (λ (r : Form). All (IsNodePiece g) r.pieces) c.2 (goal_nodes c.0 r c.1)

    rows_parts : Parted g stands (node_forms g is.marks) (goal_forms g roots) is.made
    rows_parts = parted g stands (node_forms g is.marks) (goal_forms g roots) is.made is.are

    module _ (world : List ℤ) (has : HasNumbers g world) (point : List ℤ) (right : (z : ℕ) → z < size g → IsOnMap g stands (key.Node z) → IsRight g stands world 1 point z) where
      goals_right : AreRight g stands world 1 point (goal_forms g roots)
      goals_right = forms_right g fold stands world has point right (goal_forms g roots) goal_nodes (λ r c. sown_by r (node_of r c) (wanted_in r c))

      pub held_roots : All (Holds point) program.rows → list_all (holds (values_in g world)) roots ≡ true
      held_roots h =
          let all = subst (All (Holds point)) is.rows h in
          let made = all_right (Holds point) (cell_rows columns) is.made all in
          let goals = all_right (Holds point) rows_parts.left rows_parts.right (subst (All (Holds point)) (sym rows_parts.whole) made) in
          roots_held g fold stands world has point right roots rows_parts.right truths rows_parts.second goals_right (over_one point rows_parts.right goals)

      rows_of_roots : list_all (holds (values_in g world)) roots ≡ true → All (Holds point) rows_parts.right
      rows_of_roots e = from_one point rows_parts.right (roots_hold g fold stands world has point right roots rows_parts.right truths rows_parts.second goals_right e)

      pub worth_is : value_at program point ≡ form_at 1 (λ k. value_of g world k *ℤ pos 1) (aim_form aim)
      worth_is = value_is g fold stands world has point right program (aim_form aim) is.aim_row is.aimed is.terms is.constant aim_nodes (sown_by (aim_form aim) aim_nodes aim_in_wanted)

    -- ---- points of worlds

    module _ (world : List ℤ) (within : IsWorldWithin program stands world) where
      abbrev Q : List ℤ
      Q = point_of g stands world

      -- the rows of a node that is used
      by_column : (z : ℕ) → z < size g → mark_at is.marks z ≡ true → (own : Bool) → has_column (node g z) ≡ own → (rows : List IpRow) → AreRows g stands (forms_of g z (node g z)) rows → All (Holds Q) rows
      by_column z lt marked true own rows are = from_one Q rows (world_rows program g stands world fold matched within z lt (used_on z (column_term (node g z) own) ((is.used.each z).0 marked)) own rows are)
      by_column z lt marked false own rows are = no_rows (Holds Q) g stands rows (subst (λ (f : List Form). AreRows g stands f rows) (rowless g z (node g z) own) are)

      by_mark : (z : ℕ) → z < size g → (b : Bool) → mark_at is.marks z ≡ b → (rows : List IpRow) → AreRows g stands (marked_forms g is.marks z) rows → All (Holds Q) rows
      by_mark z lt true marked rows are = by_column z lt marked (has_column (node g z)) refl rows (subst (λ (b : Bool). AreRows g stands (if b then forms_of g z (node g z) else []) rows) marked are)
      by_mark z lt false marked rows are = no_rows (Holds Q) g stands rows (subst (λ (b : Bool). AreRows g stands (if b then forms_of g z (node g z) else []) rows) marked are)

      every_node : (zs : List ℕ) → All (λ z. z < size g) zs → (rows : List IpRow) → AreRows g stands (flat_map (marked_forms g is.marks) zs) rows → All (Holds Q) rows
      every_node [] below rows are = no_rows (Holds Q) g stands rows are
      every_node (z ∷ zs) below rows are =
          let parts = parted g stands (marked_forms g is.marks z) (flat_map (marked_forms g is.marks) zs) rows are in
          subst (All (Holds Q)) parts.whole
          (all_both (Holds Q) parts.left parts.right
          (by_mark z (All_head (λ z. z < size g) z zs below) (mark_at is.marks z) refl parts.left parts.first)
          (every_node zs (All_tail (λ z. z < size g) z zs below) parts.right parts.second))

      node_rows : All (Holds Q) rows_parts.left
      node_rows = every_node (range_with_len 0 (size g)) (λ k d lt. range_less (size g) k d lt) rows_parts.left rows_parts.first

      world_numbers_in : (c : ℕ) → c < length columns → number_at world c ≡ number_at Q c
      world_numbers_in c lt =
          let within_stands = laid_is.begins.within in
          let all = count_is in
          sym (at.q_stand program g stands world fold matched within c (stand.World c) (omega (arith, lt, within_stands, all)) (laid_is.begins.first c (omega (arith, lt, all))))

      -- with those of cells and of roots, these are all
      pub all_rows : All (λ (row : IpRow). AreTerms (length columns) row.terms) (cell_rows columns) → All (Holds world) (cell_rows columns) → list_all (holds (values_in g world)) roots ≡ true → All (Holds Q) program.rows
      all_rows formed cells met =
          let goals = rows_of_roots world (has_all program g stands world fold matched within) Q (world_right program g stands world fold matched within) met in
          let made = subst (All (Holds Q)) rows_parts.whole (all_both (Holds Q) rows_parts.left rows_parts.right node_rows goals) in
          subst (All (Holds Q)) (sym is.rows) (all_both (Holds Q) (cell_rows columns) is.made (rows_same world Q (length columns) (cell_rows columns) formed world_numbers_in cells) made)

-- ---- the program of a query

pub aim_there : (g : Graph) (aim : Aim) (number : Option ℕ) → IsAim g number → All (IsNodePiece g) (aim_form (goal_of aim number)).pieces
aim_there g aims.Find None is = All_none (IsNodePiece g)
aim_there g aims.Find (Some id) is = All_none (IsNodePiece g)
aim_there g (aims.Sum maximize source part) None is = All_none (IsNodePiece g)
aim_there g (aims.Sum maximize source part) (Some id) is = All_head (λ (r : Form). All (IsNodePiece g) r.pieces) (aim_form (goal_of (aims.Sum maximize source part) (Some id))) [] (term_form g (pos 0) (sign_of (record { number = id; maximize = maximize })) id is.below)

module _ (query : Query) (tables : Tables) (columns : List WorldColumn) (made : columns_of query tables ≡ Ok columns) (fit : IsWellFormed query) (are : AreTables query tables) where
  abbrev N : World → List ℤ
  N world = meaning.numbers columns world

  box_told : (world : World) → IsPossible query tables world → InBox (root columns) (N world)
  box_told world possible =
      let told = columns_told query tables columns made in
      subst (InBox (root columns)) (numbers_told query tables columns world told possible) (inside_box query tables columns world told (cells_there query tables fit are) possible)

  cells_tell : (ns : List ℤ) → InBox (root columns) ns → (All (Holds ns) (cell_rows columns) → IsOfWorld query tables columns ns) × (IsOfWorld query tables columns ns → All (Holds ns) (cell_rows columns))
  unfolding TellsWorlds
  cells_tell ns box = let told = rows_tell columns (cell_rows columns) refl query tables made fit are ns box in (λ h. told.0 h, λ w. told.1 w)

  cells_formed : All (λ (row : IpRow). AreTerms (length columns) row.terms) (cell_rows columns)
  unfolding AreFormed
  cells_formed = are_formed columns (cell_rows columns) refl query tables made

  score_of : (world : World) → query.aim ≡ aims.Find → score query tables world ≡ pos 0
  unfolding score
  score_of world e = score_none query.aim (rows_in query tables world) e

  module _ (g : Graph) (fold : IsFold g) (goals : Goals) (program : Program) (stands : List Stand) (is : IsProgramOf columns g goals.roots (goal_of query.aim goals.aim) program stands) (choices : HasChoices g (root columns)) (matched : IsMatched program g stands)
      (good : AreGoals g goals) (means : Means g (AreGoalsOf query tables columns goals)) (grouped : AreGroupedBy query) where
    abbrev A : Option Goal
    A = goal_of query.aim goals.aim

    nodes : All (IsNodePiece g) (aim_form A).pieces
    nodes = aim_there g query.aim goals.aim good.aim

    on_world : (ns : List ℤ) → HasNumbers g ns → (world : World) → IsPossible query tables world → ns ≡ N world → AreGoalsOn query tables world goals (values_in g ns)
    unfolding Means
    on_world ns has world possible same = means g ns (record { keeps = keeps_same g; fold = fold; has = has }) grouped world possible same

    worth : (ns : List ℤ) (has : HasNumbers g ns) (point : List ℤ) (right : (z : ℕ) → z < size g → IsOnMap g stands (key.Node z) → IsRight g stands ns 1 point z) (world : World) → AreGoalsOn query tables world goals (values_in g ns)
        → value_at program point ≡ cost query.aim (score query tables world)
    worth ns has point right world on =
        worth_is columns g fold goals.roots A program stands is choices matched good.roots nodes ns has point right ∙ aim_worth g ns query.aim goals.aim (score query tables world) on.score (score_of world)

    pointed : (world : World) → IsPossible query tables world → Meets query tables world → IsPointed query tables columns program g stands world
    pointed world possible met =
        let box = box_told world possible in
        let within = within_of columns g fold goals.roots A program stands is choices (N world) box in
        let has = has_all program g stands (N world) fold matched within in
        let on = on_world (N world) has world possible refl in
        record {
          whole = record {
            between = world_between program g stands (N world) fold matched within;
            rows = all_rows columns g fold goals.roots A program stands is choices matched good.roots nodes (N world) within cells_formed ((cells_tell (N world) box).1 (world, possible, refl)) (on.met ∙ met);
          };
          value = worth (N world) has (point_of g stands (N world)) (world_right program g stands (N world) fold matched within) world on;
        }

    module _ (point : List ℤ) (whole : IsWholePoint program point) where
      abbrev W : List ℤ
      W = take (world_count stands) point

      counted : world_count stands ≡ length columns
      counted = count_is columns g fold goals.roots A program stands is choices

      within_whole : IsWorldWithin program stands W
      within_whole = world_within program point whole g stands matched

      right_whole : (z : ℕ) → z < size g → IsOnMap g stands (key.Node z) → IsRight g stands W 1 point z
      right_whole z lt on = right_at program g stands W 1 point fold matched (point_over program point whole) within_whole.count (world_over program point whole g stands matched) z lt on

      has_whole : HasNumbers g W
      has_whole = has_all program g stands W fold matched within_whole

      same_first : (c : ℕ) → c < length columns → number_at point c ≡ number_at W c
      same_first c lt = let all = counted in sym (get_or-take (world_count stands) point c (pos 0) (omega (arith, lt, all)))

      cells_whole : All (Holds W) (cell_rows columns)
      cells_whole =
          rows_same point W (length columns) (cell_rows columns) cells_formed same_first
          (all_left (Holds point) (cell_rows columns) is.made (subst (All (Holds point)) is.rows whole.rows))

      of_world : IsOfWorld query tables columns W
      of_world = (cells_tell W (box_from columns g fold goals.roots A program stands is choices W within_whole)).0 cells_whole

      world_of : (world : World) × IsWorldOf query tables columns program g stands point world
      world_of =
          let found = of_world in
          let on = on_world W has_whole found.0 found.1 (sym found.2) in (
            found.0,
            record {
              possible = found.1;
              numbers = found.2 ∙ ap (λ (n : ℕ). take n point) counted;
              meets = sym on.met ∙ held_roots columns g fold goals.roots A program stands is choices matched good.roots nodes W has_whole point right_whole whole.rows;
              value = worth W has_whole point right_whole found.0 on;
            },
          )

    -- the whole points are the worlds that meet
    pub encodes : Encodes query tables columns program g stands
    encodes = record { ahead = pointed; back = world_of }
