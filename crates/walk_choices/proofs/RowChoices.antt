-- the possible rows of a hypothetical table: their presences and cells name the world columns beside each row
use Rattle.std.proofs.Common.{◌≡◌, length-drop, refl, sym, ◌∙◌, subst, ap, ℕ, zero, suc, ◌+◌, ◌<◌, ◌≤◌, Bool, true, false, cond, List, [], ◌∷◌, length, get_or, take, drop, All, Option, Some, None, arith}
use Rattle.std.specs.Prelude.{is_none, slice_get, Ok}
use Rattle.std.proofs.lemmas.List.{drop_more}
use Rattle.base_kit.specs.declared.value.Value.{Value}
use Rattle.tiql_query.specs.declared.relation.Column.{Column}
use Rattle.tiql_query.specs.declared.relation.QHypo.{QHypo}
use Rattle.tiql_query.specs.declared.query.Query.{Query}
use Rattle.tiql_query.specs.declared.world_column.WorldColumn.{WorldColumn}
use Rattle.world_def.specs.Columns.{Tables, rows_of}
use Rattle.world_def.specs.Worlds.{leading, of_hypo, of_row, is_cell}
use Rattle.prov_arena.specs.Formulas.{PresNode}
use Rattle.prov_fold.specs.Graphs.{Graph}
use Rattle.prov_fold.specs.Spans.{truth_span}
use Rattle.prov_fold.specs.Rules as rule
use Rattle.whole_points.specs.Matched.{bounds_of}
use Rattle.used_columns.specs.Columns.{side_at}
use Rattle.world_points.specs.Points.{side, root}
use Rattle.sym_rows.specs.Cells.{Rows}
use Rattle.sym_rows.specs.declared.row.Cell.TheVariants as cells
use Rattle.sym_rows.specs.Hypos.{sides, may_miss, presence, column_of, is_unknown_in, cell_by, cells_of, row_of, rows_from, start_of, before_hypo, columns_in, table_of, hypo_rows}
use Rattle.sym_rows.specs.Walks.{by_rule}
use Rattle.walk_choices.proofs.RuleChoices.{IsRight, IsOver, pres_over, cell_over}
use Rattle.walk_choices.proofs.SideChoices.{IsSwitch, side_is, switch_sides}
use Rattle.walk_choices.proofs.WalkChoices.{WalkedOver, ok_over, bind_over, each_over, rule_over, settled_over}

-- a list of columns stands in all columns from this number on
pub Stands : List WorldColumn → ℕ → List WorldColumn → Type 0
Stands columns first [] = Unit {0}
Stands columns first (column ∷ others) = (first < length columns) × (side_at (root columns) first ≡ side column) × IsSwitch column × Stands columns (first + 1) others

root_length : (columns : List WorldColumn) → length (root columns) ≡ length columns
root_length [] = refl
root_length (c ∷ columns) = ap suc (root_length columns)

module _ (columns : List WorldColumn) where
  take_stands : (n first : ℕ) (chosen : List WorldColumn) → Stands columns first chosen → Stands columns first (take n chosen)
  unfolding Stands
  take_stands zero first chosen h = tt
  take_stands (suc n) first [] h = tt
  take_stands (suc n) first (column ∷ others) h = (h.0, h.1, h.2, take_stands n (first + 1) others h.3)

  drop_stands : (n first : ℕ) (chosen : List WorldColumn) → Stands columns first chosen → Stands columns (first + n) (drop n chosen)
  unfolding Stands
  drop_stands zero first chosen h = subst (λ (k : ℕ). Stands columns k chosen) (let e : first ≡ first + 0 = omega arith in e) h
  drop_stands (suc n) first [] h = tt
  drop_stands (suc n) first (column ∷ others) h =
      subst (λ (k : ℕ). Stands columns k (drop n others)) (let e : first + 1 + n ≡ first + suc n = omega arith in e) (drop_stands n (first + 1) others h.3)

  -- ---- presences and cells

  none_of : (o : Option ℕ) → is_none o ≡ true → o ≡ None
  none_of None e = refl
  none_of (Some n) e = absurd (let k : false ≡ true = e in cc)

  pres_right : (first : ℕ) (chosen : List WorldColumn) → Stands columns first chosen → may_miss chosen ≡ true → IsRight (root columns) truth_span (PresNode first)
  unfolding may_miss Stands
  pres_right first [] h miss = absurd (let k : false ≡ true = miss in cc)
  pres_right first (column ∷ others) h miss =
      λ number is. subst (λ (n : ℕ). (n < length (root columns)) × (side_at (root columns) n ≡ bounds_of truth_span)) is
      (let long : length (root columns) ≡ length columns = root_length columns in let lt = h.0 in omega (arith, long, lt), h.1 ∙ switch_sides column h.2 (none_of column.cell miss))

  presence_over : (first : ℕ) (chosen : List WorldColumn) (g : Graph) → Stands columns first chosen → IsOver (root columns) g → WalkedOver (root columns) (presence first chosen g)
  unfolding presence
  presence_over first chosen g h over = by_test (may_miss chosen) refl
    where
      by_test : (b : Bool) → may_miss chosen ≡ b → WalkedOver (root columns) (cond b (by_rule (rule.pres first) g) (Ok (1, g)))
      by_test true e = rule_over (root columns) (rule.pres first) g (pres_over (root columns) first g (pres_right first chosen h e) over)
      by_test false e = ok_over (root columns) (1, g) over

  -- the column that is found stands in all columns
  FoundStands : Option (ℕ × WorldColumn) → Type 0
  FoundStands None = Unit {0}
  FoundStands (Some found) = (found.0 < length columns) × (side_at (root columns) found.0 ≡ side found.1)

  found_stands : (place first : ℕ) (chosen : List WorldColumn) → Stands columns first chosen → FoundStands (column_of place first chosen)
  unfolding column_of Stands FoundStands
  found_stands place first [] h = tt
  found_stands place first (column ∷ others) h = by_test (is_cell place column.cell) (found_stands place (first + 1) others h.3)
    where
      by_test : (b : Bool) → FoundStands (column_of place (first + 1) others) → FoundStands (cond b (Some (first, column)) (column_of place (first + 1) others))
      by_test true more = (h.0, h.1)
      by_test false more = more

  cell_by_over : (unknown : Bool) (value : Value) (found : Option (ℕ × WorldColumn)) (g : Graph) → FoundStands found → IsOver (root columns) g → WalkedOver (root columns) (cell_by unknown value found g)
  unfolding FoundStands
  cell_by_over unknown value None g h over = settled_over (root columns) unknown value g over
  cell_by_over unknown value (Some found) g h over =
      bind_over (root columns) (by_rule (rule.cell found.0 (sides found.1)) g) _
      (rule_over (root columns) (rule.cell found.0 (sides found.1)) g (cell_over (root columns) found.0 (sides found.1) g
      (λ number is. subst (λ (n : ℕ). (n < length (root columns)) × (side_at (root columns) n ≡ bounds_of (sides found.1))) is (let long : length (root columns) ≡ length columns = root_length columns in let lt = h.0 in omega (arith, long, lt), h.1 ∙ side_is found.1)) over))
      (λ made more. ok_over (root columns) (cells.Number made.0, made.1) more)

  -- ---- rows

  row_over : (list : List Column) (first : ℕ) (chosen : List WorldColumn) (base : List Value) (g : Graph) → Stands columns first chosen → IsOver (root columns) g → WalkedOver (root columns) (row_of list first chosen base g)
  unfolding row_of cells_of
  row_over list first chosen base g h over =
      bind_over (root columns) (presence first chosen g) _ (presence_over first chosen g h over)
      (λ there more. bind_over (root columns) _ _ (each_over (root columns) (λ place value. cell_by (is_unknown_in list place) value (column_of place first chosen)) (λ place value g kept. cell_by_over (is_unknown_in list place) value (column_of place first chosen) g (found_stands place first chosen h) kept) 0 base there.1 more)
      (λ made last. ok_over (root columns) (record { presence = there.0; cells = made.0 }, made.1) last))

  rows_over : (list : List Column) (at first : ℕ) (bases : Rows) (chosen : List WorldColumn) (g : Graph) → Stands columns first chosen → IsOver (root columns) g → WalkedOver (root columns) (rows_from list at first bases chosen g)
  unfolding rows_from
  rows_over list at first [] chosen g h over = ok_over (root columns) ([], g) over
  rows_over list at first (base ∷ bases) chosen g h over =
      let end = leading (of_row at) chosen in
      bind_over (root columns) (row_of list first (take end chosen) base g) _ (row_over list first (take end chosen) base g (take_stands end first chosen h) over)
      (λ made more. bind_over (root columns) _ _ (rows_over list (at + 1) (first + end) bases (drop end chosen) made.1 (drop_stands end first chosen h) more)
      (λ rest last. ok_over (root columns) (made.0 ∷ rest.0, rest.1) last))

-- ---- all columns

own_side : (columns : List WorldColumn) (n : ℕ) (c : WorldColumn) → n < length columns → side_at (root columns) n ≡ side (get_or columns n c)
own_side [] n c lt = absurd (omega (arith, lt))
own_side (column ∷ columns) zero c lt = refl
own_side (column ∷ columns) (suc n) c lt = own_side columns n c (omega (arith, lt))

all_stand : (columns : List WorldColumn) → All IsSwitch columns → (first : ℕ) (chosen : List WorldColumn) → chosen ≡ drop first columns → first + length chosen ≤ length columns → Stands columns first chosen
unfolding Stands
all_stand columns all first [] is le = tt
all_stand columns all first (column ∷ others) is le =
    let lt : first < length columns = omega (arith, le) in
    let here : drop first columns ≡ get_or columns first column ∷ drop (first + 1) columns = drop_more columns first column lt in
    let both : column ∷ others ≡ get_or columns first column ∷ drop (first + 1) columns = is ∙ here in
    let same : column ≡ get_or columns first column = cc in
    let rest : others ≡ drop (first + 1) columns = cc in
    (lt, own_side columns first column lt ∙ ap side (sym same), subst IsSwitch (sym same) (all first column lt), all_stand columns all (first + 1) others rest (omega (arith, le)))

leading_within : (is_so : WorldColumn → Bool) (columns : List WorldColumn) → leading is_so columns ≤ length columns
unfolding leading
leading_within is_so [] = omega arith
leading_within is_so (column ∷ columns) = by_test (is_so column) (leading_within is_so columns)
  where
    by_test : (b : Bool) → leading is_so columns ≤ length columns → cond b (1 + leading is_so columns) 0 ≤ suc (length columns)
    by_test true le = omega (arith, le)
    by_test false le = omega arith

-- the possible rows of a hypothetical table
pub hypo_over : (query : Query) (tables : Tables) (columns : List WorldColumn) → All IsSwitch columns → (hypo : ℕ) (g : Graph) → IsOver (root columns) g → WalkedOver (root columns) (hypo_rows query tables columns hypo g)
unfolding hypo_rows
hypo_over query tables columns all hypo g over = by_table (slice_get query.hypos hypo)
  where
    by_table : (o : Option QHypo) → WalkedOver (root columns) (table_of tables columns hypo o g)
    by_table None = ok_over (root columns) ([], g) over
    by_table (Some table) =
        let start = start_of hypo columns in
        let within = leading_within (before_hypo hypo) columns in
        let long = length-drop start columns in
        rows_over columns table.columns 0 start (rows_of tables table.table) (columns_in hypo columns) g
        (take_stands columns (leading (of_hypo hypo) (drop start columns)) start (drop start columns) (all_stand columns all start (drop start columns) refl (omega (arith, within, long)))) over
