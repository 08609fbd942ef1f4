-- the rows of a select: what its combinations left, by groups, or each once, or as it is
use Rattle.std.proofs.Common.{◌≡◌, ◌∙◌, sym, ap, refl, true, false, List, [], ◌∷◌, map, get_or, Result, Ok, Err}
use Rattle.std.specs.Prelude.{unwrap_or}
use Rattle.tiql_query.specs.Kinds.{Scope}
use Rattle.tiql_query.specs.declared.relation.Column.{Column}
use Rattle.tiql_query.specs.declared.view.Select.{Select}
use Rattle.row_values.specs.Values.{Combination}
use Rattle.prov_fold.specs.Graphs.{Graph}
use Rattle.prov_fold.specs.Meanings.{values_in}
use Rattle.view_select.specs.Selects.{Rows, is_grouped, row_of, chosen, groups, distinct, select_rows}
use Rattle.sym_rows.specs.declared.fault.WalkFault.{WalkFault}
use Rattle.sym_rows.specs.declared.row.SymRow.{SymRow}
use Rattle.sym_rows.specs.Cells.{AreRowsOf, rows_in}
use Rattle.sym_rows.specs.Walks.{gives, Makes}
use Rattle.sym_rows.proofs.Makes.{makes_so, makes_is, makes_gives, makes_then, makes_stop, still}
use Rattle.sym_values.specs.Left.{left_by}
use Rattle.sym_groups.specs.Groups as groups_walk
use Rattle.sym_groups.specs.Groups.{keys_of}
use Rattle.sym_rows.specs.declared.row.Cell.{Cell}
use Rattle.sym_rows.specs.declared.row.Cell.TheVariants as cells
use Rattle.sym_groups.specs.Meanings.{IsPlainCell, AreDistinctOf, AreDistinct, AreGroupsOf, AreGroups}
use Rattle.view_join.specs.Combos.{select_walk}
use Rattle.view_join.specs.Fitting.{AreSourcesFit, AreSelected, AreOfSelect, IsConstantCell}
use Rattle.view_agg.specs.Views.{finished, rows_of_select}
use Rattle.view_agg.specs.Selecting.{IsFinishing, AreLeft, AreFinished, AreOfLeft, AreSelectRows, AreRowsOfSelect}
use Rattle.view_agg.proofs.Left.{group_fit}

plain_left : (select : Select) → is_grouped select ≡ false → (combos : List Combination) → map (left_by select) combos ≡ map (λ (rows : Combination). row_of select.items (rows ∷ [])) combos
unfolding left_by
plain_left select e [] = refl
plain_left select e (rows ∷ combos) = rw e (ap (λ (l : Rows). row_of select.items (rows ∷ []) ∷ l) (plain_left select e combos))

by_groups : (select : Select) (sources : List Rows) → is_grouped select ≡ true → select_rows select sources ≡ map (row_of select.items) (groups (unwrap_or select.group []) select.items (chosen select.filter sources))
unfolding select_rows
by_groups select sources e = rw e refl

by_distinct : (select : Select) (sources : List Rows) → is_grouped select ≡ false → select.distinct ≡ true → select_rows select sources ≡ distinct (map (λ (rows : Combination). row_of select.items (rows ∷ [])) (chosen select.filter sources))
unfolding select_rows
by_distinct select sources e once = rw (e, once) refl

by_rows : (select : Select) (sources : List Rows) → is_grouped select ≡ false → select.distinct ≡ false → select_rows select sources ≡ map (λ (rows : Combination). row_of select.items (rows ∷ [])) (chosen select.filter sources)
unfolding select_rows
by_rows select sources e once = rw (e, once) refl

walk_groups : (columns : List Column) (select : Select) (left : List SymRow) (g : Graph) → is_grouped select ≡ true → groups_walk.group_rows columns select left g ≡ finished columns select left g
unfolding finished
walk_groups columns select left g e = rw e refl

walk_distinct : (columns : List Column) (select : Select) (left : List SymRow) (g : Graph) → is_grouped select ≡ false → select.distinct ≡ true → groups_walk.distinct_rows left g ≡ finished columns select left g
unfolding finished
walk_distinct columns select left g e once = rw (e, once) refl

walk_plain : (columns : List Column) (select : Select) (left : List SymRow) (g : Graph) → is_grouped select ≡ false → select.distinct ≡ false → gives left g ≡ finished columns select left g
unfolding finished
walk_plain columns select left g e once = rw (e, once) refl

module _ (scope : Scope) (columns : List Column) (select : Select) (left : List SymRow) (g after : Graph) (r : Result (List SymRow) WalkFault) where
  -- by groups
  pub grouped_done : is_grouped select ≡ true → Makes (groups_walk.group_rows columns select left g) (AreGroupsOf columns select left) (AreGroups columns select left) g r after
      → Makes (finished columns select left g) (AreFinished scope columns select g left) (AreOfLeft scope columns select g left) g r after
  grouped_done e h =
      makes_is (AreFinished scope columns select g left) (AreOfLeft scope columns select g left) (groups_walk.group_rows columns select left g) (finished columns select left g) g after r
      (walk_groups columns select left g e)
      (makes_so (AreGroupsOf columns select left) (AreGroups columns select left) (groups_walk.group_rows columns select left g) (AreFinished scope columns select g left) (AreOfLeft scope columns select g left) g after r
      (λ made good. record { rows = good.of; fit = λ finishing are. good.fit (group_fit scope columns select finishing.selected e (finishing.groups e) left are.kinds) })
      (λ made l world later so finishing are sources same. so (chosen select.filter sources) (group_fit scope columns select finishing.selected e (finishing.groups e) left are.kinds) same ∙ sym (by_groups select sources e)) h)

  -- each once
  pub distinct_done : is_grouped select ≡ false → select.distinct ≡ true → Makes (groups_walk.distinct_rows left g) (AreDistinctOf left) (AreDistinct g left) g r after
      → Makes (finished columns select left g) (AreFinished scope columns select g left) (AreOfLeft scope columns select g left) g r after
  distinct_done e once h =
      makes_is (AreFinished scope columns select g left) (AreOfLeft scope columns select g left) (groups_walk.distinct_rows left g) (finished columns select left g) g after r (walk_distinct columns select left g e once)
      (makes_so (AreDistinctOf left) (AreDistinct g left) (groups_walk.distinct_rows left g) (AreFinished scope columns select g left) (AreOfLeft scope columns select g left) g after r
      (λ made good. record { rows = good.of; fit = λ finishing are. good.fit columns (λ k d lt. (are.kinds k d lt).plain e) })
      (λ made l world later so finishing are sources same. so (are.constants e once) ∙ ap distinct (same ∙ plain_left select e (chosen select.filter sources)) ∙ sym (by_distinct select sources e once)) h)

module _ (scope : Scope) (columns : List Column) (select : Select) (left : List SymRow) (g : Graph) where
  -- as they are
  pub plain_done : is_grouped select ≡ false → select.distinct ≡ false → AreRowsOf g left
      → Makes (finished columns select left g) (AreFinished scope columns select g left) (AreOfLeft scope columns select g left) g (Ok left) g
  plain_done e once are_of =
      makes_is (AreFinished scope columns select g left) (AreOfLeft scope columns select g left) (gives left g) (finished columns select left g) g g (Ok left) (walk_plain columns select left g e once)
      (makes_gives (AreFinished scope columns select g left) (AreOfLeft scope columns select g left) left g
      (record { rows = are_of; fit = λ finishing are k d lt. (are.kinds k d lt).plain e })
      (λ l world later finishing are sources same. same ∙ plain_left select e (chosen select.filter sources) ∙ sym (by_rows select sources e once)))

-- ---- a whole select

constant_cell : (g : Graph) (cell : Cell) → IsConstantCell g cell → IsPlainCell g cell
constant_cell g (cells.Fixed value) is = tt
constant_cell g (cells.Number id) is = is

module _ (scope : Scope) (columns : List Column) (select : Select) (sources : List (List SymRow)) (g mid : Graph) where
  left_is : (left : List SymRow) → AreSelected scope columns select sources mid left → IsFinishing scope columns select → AreSourcesFit scope sources → AreLeft scope columns select mid left
  left_is left good finishing fit = record { kinds = good.kinds finishing.selected fit; constants = λ e once k d lt j c l. constant_cell mid (get_or (get_or left k d).cells j c) (good.constants finishing.selected e (finishing.distinct once) k d lt j c l) }

  pub select_then : (left : List SymRow) (after : Graph) (r : Result (List SymRow) WalkFault)
      → Makes (select_walk scope columns select sources g) (AreSelected scope columns select sources) (AreOfSelect scope columns select sources) g (Ok left) mid
      → Makes (finished columns select left mid) (AreFinished scope columns select mid left) (AreOfLeft scope columns select mid left) mid r after
      → Makes (rows_of_select scope columns select sources g) (AreSelectRows scope columns select sources) (AreRowsOfSelect scope columns select sources) g r after
  unfolding rows_of_select
  select_then left after r h k =
      makes_then (AreSelected scope columns select sources) (AreOfSelect scope columns select sources) (AreSelectRows scope columns select sources) (AreRowsOfSelect scope columns select sources)
      (select_walk scope columns select sources g) (finished columns select) g mid left after r h (with_left after r k)
    where
      with_left : (after : Graph) (r : Result (List SymRow) WalkFault) → Makes (finished columns select left mid) (AreFinished scope columns select mid left) (AreOfLeft scope columns select mid left) mid r after
          → Makes (finished columns select left mid) (AreSelectRows scope columns select sources) (AreRowsOfSelect scope columns select sources) mid r after
      with_left after r k =
          makes_so (AreFinished scope columns select mid left) (AreOfLeft scope columns select mid left) (finished columns select left mid) (AreSelectRows scope columns select sources) (AreRowsOfSelect scope columns select sources) mid after r
          (λ made good. record { rows = good.rows; fit = λ finishing fit. good.fit finishing (left_is left h.good finishing fit) })
          (λ made l world later so finishing fit. so finishing (left_is left h.good finishing fit) (map (rows_in (values_in l world)) sources)
          (still mid after l world (AreOfSelect scope columns select sources left) k.kept later h.means finishing.selected fit)) k

  pub select_stop : (e : WalkFault) → Makes (select_walk scope columns select sources g) (AreSelected scope columns select sources) (AreOfSelect scope columns select sources) g (Err e) mid
      → Makes (rows_of_select scope columns select sources g) (AreSelectRows scope columns select sources) (AreRowsOfSelect scope columns select sources) g (Err e) mid
  unfolding rows_of_select
  select_stop e h =
      makes_stop (AreSelected scope columns select sources) (AreOfSelect scope columns select sources) (AreSelectRows scope columns select sources) (AreRowsOfSelect scope columns select sources)
      (select_walk scope columns select sources g) (finished columns select) g mid e h
