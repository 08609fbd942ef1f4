-- The program is well formed, and matched with its list and its map.
use Rattle.std.proofs.Common.{◌≡◌, ◌≢◌, ◌∙◌, sym, ap, subst, refl, ℕ, zero, suc, ◌+◌, ◌<◌, ◌≤◌, ◌==◌, if◌then◌else◌, ⊎_elim, Bool, true, false, List, [], ◌∷◌, ◌++◌, flat_map, length, get_or, All, Contains, arith}
use Rattle.std.specs.Prelude.{Option}
use Rattle.std.specs.List.{range_with_len}
use Rattle.std.proofs.lemmas.Bool.Decides.{Decides-eqb}
use Rattle.std.proofs.lemmas.List.{length-append, length-map}
use Rattle.std.proofs.lemmas.List.Elements.{All-append, Contains-append_cases, Contains-append_left, Contains-append_right}
use Rattle.ip_rows.specs.declared.rows.Coef.{Coef}
use Rattle.ip_rows.specs.declared.rows.IpRow.{IpRow}
use Rattle.ip_rows.specs.declared.program.Program.{Program}
use Rattle.ip_rows.specs.Rows.{AreTerms}
use Rattle.ip_rows.specs.Programs.{IsWellFormed}
use Rattle.tiql_query.specs.declared.world_column.WorldColumn.{WorldColumn}
use Rattle.world_points.specs.Points.{root, side}
use Rattle.drop_rows.specs.Cells.{cell_rows}
use Rattle.prov_fold.specs.Graphs.{Graph, node, size}
use Rattle.prov_fold.specs.Folds.{IsFold}
use Rattle.bool_encode.specs.declared.stand.Stand.{Stand}
use Rattle.bool_encode.specs.declared.stand.Stand.TheVariants as stand
use Rattle.bool_encode.specs.Forms.{Form}
use Rattle.bool_encode.specs.Rows.{AreRows, IsRowOf}
use Rattle.bool_encode.specs.Stands.{stand_at}
use Rattle.cmp_encode.specs.Tables.{forms_of}
use Rattle.whole_points.specs.Matched.{HasRows, IsMatched, IsRowIn, NamesSelector, world_count}
use Rattle.used_columns.specs.Columns.{stands_for}
use Rattle.used_columns.specs.Laid.{IsLaid}
use Rattle.used_columns.specs.Used.{mark_at}
use Rattle.used_columns.proofs.ListedLemmas.{range_all, Listed, listed, worlds_within, world_count_is}
use Rattle.program_rows.specs.declared.goal.Goal.{Goal}
use Rattle.program_rows.specs.Fair.{IsFair}
use Rattle.program_rows.specs.Goals.{aim_form, all_forms, goal_forms, marked_forms, node_forms}
use Rattle.program_rows.specs.Programs.{IsProgramOf, layout_of}
use Rattle.program_rows.specs.Worlds.{AreLed}
use Rattle.program_rows.proofs.Laying.{all_has, has_at, laid_stands}
use Rattle.program_rows.proofs.Selecting.{fair_none, flat_from, marked_has, own_selector}

-- ---- rows of forms

module _ (g : Graph) (stands : List Stand) where
  -- the rows of two lots of forms
  pub record IsSplit (xs ys : List Form) (rows : List IpRow) : Type 0 where
    pub left : List IpRow
    pub right : List IpRow
    pub whole : left ++ right ≡ rows
    pub first : AreRows g stands xs left
    pub second : AreRows g stands ys right

  rows_split : (xs ys : List Form) (rows : List IpRow) → AreRows g stands (xs ++ ys) rows → IsSplit xs ys rows
  rows_split [] ys rows are = record { left = []; right = rows; whole = refl; first = tt; second = are }
  rows_split (x ∷ xs) ys [] are = absurd are
  rows_split (x ∷ xs) ys (row ∷ rows) are =
      let rest = rows_split xs ys rows are.1 in record { left = row ∷ rest.left; right = rest.right; whole = ap (λ (l : List IpRow). row ∷ l) rest.whole; first = (are.0, rest.first); second = rest.second }

  -- among rows, those of some forms
  pub record HasPart (forms : List Form) (rows : List IpRow) : Type 0 where
    pub own : List IpRow
    pub are : AreRows g stands forms own
    pub within : (row : IpRow) → Contains own row → Contains rows row

  part_in : (f : ℕ → List Form) (places : List ℕ) (z : ℕ) (rows : List IpRow) → Contains places z → AreRows g stands (flat_map f places) rows → HasPart (f z) rows
  part_in f [] z rows (k, lt, e) are = absurd (omega (arith, lt))
  part_in f (y ∷ ys) z rows (zero, lt, e) are =
      let parts = rows_split (f y) (flat_map f ys) rows are in
      record {
        own = parts.left;
        are = subst (λ (k : ℕ). AreRows g stands (f k) parts.left) e parts.first;
        within = λ row has. subst (λ (l : List IpRow). Contains l row) parts.whole (Contains-append_left parts.left parts.right row has);
      }
  part_in f (y ∷ ys) z rows (suc k, lt, e) are =
      let parts = rows_split (f y) (flat_map f ys) rows are in
      let rest = part_in f ys z parts.right (k, omega arith, e) parts.second in
      record {
        own = rest.own;
        are = rest.are;
        within = λ row has. subst (λ (l : List IpRow). Contains l row) parts.whole (Contains-append_right parts.left parts.right row (rest.within row has));
      }

  -- each row is that of a form
  pub form_of : (forms : List Form) (rows : List IpRow) (row : IpRow) → AreRows g stands forms rows → Contains rows row → (r : Form) × Contains forms r × IsRowOf g stands r row
  form_of [] [] row are (k, lt, e) = absurd (omega (arith, lt))
  form_of [] (x ∷ rows) row are has = absurd are
  form_of (r ∷ forms) [] row are has = absurd are
  form_of (r ∷ forms) (x ∷ rows) row are (zero, lt, e) = (r, (0, omega arith, refl), subst (IsRowOf g stands r) e are.0)
  form_of (r ∷ forms) (x ∷ rows) row are (suc k, lt, e) =
      let rest = form_of forms rows row are.1 (k, omega arith, e) in
      (rest.0, Contains-append_right (r ∷ []) forms rest.0 rest.1, rest.2)

  -- a row for each form
  pub rows_count : (forms : List Form) (rows : List IpRow) → AreRows g stands forms rows → length forms ≡ length rows
  rows_count [] [] are = refl
  rows_count [] (row ∷ rows) are = absurd are
  rows_count (r ∷ forms) [] are = absurd are
  rows_count (r ∷ forms) (row ∷ rows) are = ap suc (rows_count forms rows are.1)

  rows_formed : (forms : List Form) (rows : List IpRow) → AreRows g stands forms rows → All (λ (row : IpRow). AreTerms (length stands) row.terms) rows
  rows_formed forms rows are = λ k d lt. let is = form_of forms rows (get_or rows k d) are (has_at rows k d lt) in is.2.formed

more_columns : (m n : ℕ) (terms : List Coef) → m ≤ n → AreTerms m terms → AreTerms n terms
more_columns m n terms le are = record { rising = are.rising; there = λ k d lt. let less = are.there k d lt in omega (arith, less, le); factors = are.factors }

range_step : (a n z : ℕ) (same : Bool) → (a == z) ≡ same → a ≤ z → z < a + suc n → (a + 1 ≤ z → Contains (range_with_len (a + 1) n) z) → Contains (range_with_len a (suc n)) z
range_step a n z true e le lt rest = (0, omega arith, (Decides-eqb a z).0 e)
range_step a n z false e le lt rest =
    let other : a ≢ z = λ is. let no : true ≡ false = sym ((Decides-eqb a z).1 is) ∙ e in cc in
    Contains-append_right (a ∷ []) (range_with_len (a + 1) n) z (rest (omega (arith, le, other)))

range_from : (a n z : ℕ) → a ≤ z → z < a + n → Contains (range_with_len a n) z
range_from a zero z le lt = absurd (omega (arith, le, lt))
range_from a (suc n) z le lt = range_step a n z (a == z) refl le lt (λ more. range_from (a + 1) n z more (omega (arith, lt)))

flat_where : (f : ℕ → List Form) (xs : List ℕ) (n : ℕ) (r : Form) → All (λ (x : ℕ). x < n) xs → Contains (flat_map f xs) r → (y : ℕ) × Contains (f y) r × (y < n) × (length (f y) ≤ length (flat_map f xs))
flat_where f [] n r below (k, lt, e) = absurd (omega (arith, lt))
flat_where f (x ∷ xs) n r below has =
    let long = length-append (f x) (flat_map f xs) in
    ⊎_elim (λ (h : Contains (f x) r). (x, h, below 0 x (omega arith), omega (arith, long)))
    (λ (h : Contains (flat_map f xs) r). let (y, own, there, few) = flat_where f xs n r (λ j d lt. below (suc j) d (omega (arith, lt))) h in (y, own, there, omega (arith, long, few)))
    (Contains-append_cases (f x) (flat_map f xs) r has)

marked_few : (forms : List Form) (r : Form) (b : Bool) (n : ℕ) → Contains (if b then forms else []) r → length (if b then forms else []) ≤ n → length forms ≤ n
marked_few forms r true n has le = le
marked_few forms r false n (k, lt, e) le = absurd (omega (arith, lt))

-- a form of marked nodes is that of a node of the list, which has no more forms than they
pub marked_from : (g : Graph) (marks : List Bool) (r : Form) → Contains (node_forms g marks) r → (y : ℕ) × Contains (forms_of g y (node g y)) r × (y < size g) × (length (forms_of g y (node g y)) ≤ length (node_forms g marks))
marked_from g marks r has =
    let (y, own, there, few) = flat_where (marked_forms g marks) (range_with_len 0 (size g)) (size g) r (range_all (λ (x : ℕ). x < size g) 0 (size g) (λ x le lt. omega (arith, lt))) has in
    (y, marked_has (forms_of g y (node g y)) r (mark_at marks y) own, there, marked_few (forms_of g y (node g y)) r (mark_at marks y) (length (node_forms g marks)) own few)

-- ---- the program

module _ (g : Graph) (fold : IsFold g) (columns : List WorldColumn) (roots : List ℕ) (aim : Option Goal) (program : Program) (stands : List Stand) (made : IsProgramOf columns g roots aim program stands) (seeds : List ℕ) (are : IsLaid g seeds stands program.columns) (led : AreLed columns) where
  stands_are : stands ≡ stands_for g (length (root columns)) made.marks
  stands_are = (laid_stands g (root columns) made.marks (layout_of stands program) made.layout).0

  worlds_are : length (root columns) ≡ length columns
  worlds_are = length-map columns side

  worlds_fit : length columns ≤ length stands
  worlds_fit =
      let within = worlds_within g made.marks (length (root columns)) in
      let same = ap (λ (l : List Stand). length l) stands_are in
      let count = worlds_are in
      omega (arith, within, same, count)

  cells_formed : All (λ (row : IpRow). AreTerms (length program.columns) row.terms) (cell_rows columns)
  cells_formed = λ k d lt. let count = are.count in let fit = worlds_fit in more_columns (length columns) (length program.columns) _ (omega (arith, count, fit)) (led.formed k d lt)

  made_formed : All (λ (row : IpRow). AreTerms (length program.columns) row.terms) made.made
  made_formed = subst (λ (n : ℕ). All (λ (row : IpRow). AreTerms n row.terms) made.made) (sym are.count) (rows_formed g stands (all_forms g made.marks roots) made.made made.are)

  pub is_formed : IsWellFormed program
  is_formed = record {
    aim = subst (AreTerms (length program.columns)) (sym made.terms) (subst (λ (n : ℕ). AreTerms n made.aim_row.terms) (sym are.count) made.aimed.formed);
    rows = subst (All (λ (row : IpRow). AreTerms (length program.columns) row.terms)) (sym made.rows) (All-append (λ (row : IpRow). AreTerms (length program.columns) row.terms) (cell_rows columns) made.made cells_formed made_formed);
  }

  marked_at : (number z : ℕ) → number < length stands → stand_at stands number ≡ stand.Node z → (z < size g) × (mark_at made.marks z ≡ true)
  marked_at number z lt is =
      let there : number < length (stands_for g (length (root columns)) made.marks) = subst (λ (l : List Stand). number < length l) stands_are lt in
      let at : stand_at (stands_for g (length (root columns)) made.marks) number ≡ stand.Node z = ap (λ (l : List Stand). stand_at l number) (sym stands_are) ∙ is in
      let h = subst (Listed g made.marks (length (root columns))) at (listed g made.marks (length (root columns)) number (stand.World 0) there) in
      (h.0, h.1)

  has_rows : (number z : ℕ) → number < length stands → stand_at stands number ≡ stand.Node z → HasRows program g stands z
  has_rows number z lt is =
      let marked = marked_at number z lt is in
      let parts = rows_split g stands (node_forms g made.marks) (goal_forms g roots) made.made made.are in
      let part = part_in g stands (marked_forms g made.marks) (range_with_len 0 (size g)) z parts.left (range_from 0 (size g) z (omega arith) (omega (arith, marked.0))) parts.first in
      record {
        named = are.named number z lt is;
        chosen = λ pair has. are.chosen number z pair lt is has;
        own = part.own;
        are = subst (λ (b : Bool). AreRows g stands (if b then forms_of g z (node g z) else []) part.own) marked.1 part.are;
        within = λ k d less. subst (λ (l : List IpRow). Contains l (get_or part.own k d)) (sym made.rows)
            (Contains-append_right (cell_rows columns) made.made (get_or part.own k d) (subst (λ (l : List IpRow). Contains l (get_or part.own k d)) parts.whole (Contains-append_left parts.left parts.right (get_or part.own k d) (part.within (get_or part.own k d) (has_at part.own k d less)))));
      }

  module _ (goals_fair : All (IsFair g) (goal_forms g roots)) (aim_fair : IsFair g (aim_form aim)) where
    -- a row of a cell names columns of the world alone
    cell_none : (row : IpRow) (z pair : ℕ) → Contains (cell_rows columns) row → NamesSelector stands z pair row.terms → ⊥
    cell_none row z pair has (t, in_terms, at) =
        let formed = all_has (λ (row : IpRow). AreTerms (length columns) row.terms) (cell_rows columns) row led.formed has in
        let below = all_has (λ (c : Coef). c.column < length columns) row.terms t formed.there in_terms in
        let count = ap world_count stands_are ∙ world_count_is g made.marks (length (root columns)) ∙ worlds_are in
        let first = are.begins.first t.column (omega (arith, below, count)) in
        let no : stand.World t.column ≡ stand.Selector z pair = sym first ∙ at in cc

    made_own : (row : IpRow) (z pair : ℕ) → Contains made.made row → NamesSelector stands z pair row.terms → IsRowIn g stands z row
    made_own row z pair has names =
        let (r, in_forms, is) = form_of g stands (all_forms g made.marks roots) made.made row made.are has in
        ⊎_elim
        (λ (h : Contains (node_forms g made.marks) r).
        let (y, own) = flat_from (marked_forms g made.marks) (range_with_len 0 (size g)) r h in
        own_selector g stands y r row z pair (marked_has (forms_of g y (node g y)) r (mark_at made.marks y) own) is names)
        (λ (h : Contains (goal_forms g roots) r). absurd (fair_none g stands r row z pair (all_has (IsFair g) (goal_forms g roots) r goals_fair h) is names)) (Contains-append_cases (node_forms g made.marks) (goal_forms g roots) r in_forms)

    selectors_own : (row : IpRow) (z pair : ℕ) → Contains program.rows row → NamesSelector stands z pair row.terms → IsRowIn g stands z row
    selectors_own row z pair has names =
        ⊎_elim (λ (h : Contains (cell_rows columns) row). absurd (cell_none row z pair h names)) (λ (h : Contains made.made row). made_own row z pair h names)
        (Contains-append_cases (cell_rows columns) made.made row (subst (λ (l : List IpRow). Contains l row) made.rows has))

    aim_none : (z pair : ℕ) → NamesSelector stands z pair program.aim → ⊥
    aim_none z pair names = fair_none g stands (aim_form aim) made.aim_row z pair aim_fair made.aimed (subst (NamesSelector stands z pair) made.terms names)

    pub is_matched : IsMatched program g stands
    is_matched = record {
      map = are.map;
      begins = are.begins;
      choices = are.choices;
      count = are.count;
      columns = are.columns;
      rows = has_rows;
      selectors = selectors_own;
      aim = aim_none;
    }
