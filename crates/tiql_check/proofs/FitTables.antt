-- checked tables and hypothetical tables fit
use Rattle.std.proofs.Common.{◌≡◌, ℕ, ◌<◌, Bool, true, false, ◌&&◌, List, [], ◌∷◌, ◌++◌, length, refl, sym, ◌∙◌, ap, subst, arith}
use Rattle.std.specs.Prelude.{Option, Some, None, slice_get, Ok, Err, All}
use Rattle.std.specs.List.{list_all}
use Rattle.std.proofs.lemmas.Bool.{false≢true}
use Rattle.std.proofs.lemmas.List.Elements.{All-nil, All-push}
use Rattle.std.proofs.lemmas.Option.{slice_get_within}
use Rattle.base_kit.specs.declared.place.Place.{Place}
use Rattle.tiql_query.specs.declared.relation.Column.{Column}
use Rattle.tiql_query.specs.declared.relation.QTable.{QTable}
use Rattle.tiql_query.specs.declared.relation.QHypo.{QHypo}
use Rattle.tiql_query.specs.WellFormed.{IsTableFit, IsHypoFit, with_set}
use Rattle.tiql_tree.specs.declared.tree.Spot.{Spot}
use Rattle.tiql_tree.specs.declared.tree.TreeColumn.{TreeColumn}
use Rattle.tiql_tree.specs.declared.tree.TreeTable.{TreeTable}
use Rattle.tiql_tree.specs.declared.tree.TreeHypo.{TreeHypo}
use Rattle.tiql_check.specs.declared.fault.SoundFault.TheVariants as fault
use Rattle.tiql_check.specs.declared.scope.Found.{Found}
use Rattle.tiql_check.specs.declared.known.Known.{Known}
use Rattle.tiql_check.specs.Turns.{◌>>=◌, in_turn}
use Rattle.tiql_check.specs.Scopes.{column_named}
use Rattle.tiql_check.specs.Conditions.{filter_in}
use Rattle.tiql_check.specs.Known.{is_taken}
use Rattle.tiql_check.specs.Tables.{has_column, with_column, is_among, key_column, with_key_column, checked_table}
use Rattle.tiql_check.specs.Hypos.{base_number, bare_scope, with_bound, droppable, over_table, table_at, checked_hypo}
use Rattle.tiql_check.specs.Small.{small_bound, small_filter}
use Rattle.tiql_check.proofs.Inverse.{came_of, kept, through}
use Rattle.tiql_check.proofs.Fit.{column_there}
use Rattle.tiql_check.proofs.FitConds.{filter_fit}
use Rattle.tiql_check.proofs.FitSet.{bounds_fit}
use Rattle.std.proofs.lemmas.Bool.{and_parts}
use Rattle.base_kit.proofs.Results.{same_Ok}

-- nothing is asked of the parts
pub any_part : {A : Type 0} (xs : List A) → list_all (λ x. true) xs ≡ true
any_part [] = refl
any_part (x ∷ xs) = any_part xs

abbrev AreFixed : List Column → Type 0
AreFixed columns = All (λ column. column.unknown ≡ false) columns

column_step : (before next : List Column) (c : TreeColumn) → true ≡ true → with_column before c ≡ Ok next → AreFixed before → AreFixed next
column_step before next c all e p =
    let made : Column = record { name = c.name.name; text = c.text; unknown = false } in
    let new = kept (has_column c.name.name before) (fault.SameName c.name.place) (Ok (before ++ made ∷ [])) next e in
    subst AreFixed (same_Ok (before ++ made ∷ []) next new.1) (All-push (λ (column : Column). column.unknown ≡ false) before made p refl)

abbrev AreColumns : List Column → List ℕ → Type 0
AreColumns columns key = All (λ column. column < length columns) key

key_step : (columns : List Column) (before next : List ℕ) (name : Spot) → true ≡ true → with_key_column columns before name ≡ Ok next → AreColumns columns before → AreColumns columns next
key_step columns before next name all e p = by_found (column_named name.name 0 columns) refl e
  where
    by_found : (o : Option Found) → column_named name.name 0 columns ≡ o → key_column before name o ≡ Ok next → AreColumns columns next
    by_found None is h = absurd (let k : Err (fault.NoSuchKeyColumn name.place) ≡ Ok next = h in cc)
    by_found (Some found) is h =
        let new = kept (is_among found.number before) (fault.SameName name.place) (Ok (before ++ found.number ∷ [])) next h in
        let there = column_there name.name 0 [] columns found refl is in
        subst (AreColumns columns) (same_Ok (before ++ found.number ∷ []) next new.1) (All-push (λ column. column < length columns) before found.number p (slice_get_within columns found.number there.0 there.1))

pub table_fit : (known : Known) (tree : TreeTable) (table : QTable) → checked_table known tree ≡ Ok table → IsTableFit table
unfolding checked_table
table_fit known tree table e =
    let new = kept (is_taken known tree.name) (fault.SameName tree.name.place) (in_turn with_column [] tree.columns >>= (λ columns. in_turn (with_key_column columns) [] tree.key >>= (λ key. Ok (record { name = tree.name.name; columns = columns; key = key })))) table e in
    let columns = came_of (in_turn with_column [] tree.columns) (λ columns. in_turn (with_key_column columns) [] tree.key >>= (λ key. Ok (record { name = tree.name.name; columns = columns; key = key }))) table new.1 in
    let key = came_of (in_turn (with_key_column columns.0) [] tree.key) (λ key. Ok (record { name = tree.name.name; columns = columns.0; key = key })) table columns.2 in
    let made : QTable = record { name = tree.name.name; columns = columns.0; key = key.0 } in
    subst IsTableFit (same_Ok made table key.2) (record {
      key = through (with_key_column columns.0) (AreColumns columns.0) (λ name. true) (key_step columns.0) tree.key [] key.0 (any_part tree.key) key.1 (All-nil (λ column. column < length columns.0));
      fixed = through with_column AreFixed (λ column. true) column_step tree.columns [] columns.0 (any_part tree.columns) columns.1 (All-nil (λ (column : Column). column.unknown ≡ false));
    })

-- rows are left out only of a table with a key
with_key : (table : QTable) (place : Option Place) (dropped : Bool) → droppable table place ≡ Ok dropped → dropped ≡ true → 0 < length table.key
with_key table None dropped e is = absurd (false≢true (same_Ok false dropped e ∙ is))
with_key table (Some place) dropped e is = by_key table.key refl e
  where
    by_key : (key : List ℕ) → table.key ≡ key → droppable (record table { key = key }) (Some place) ≡ Ok dropped → 0 < length table.key
    by_key [] here h = absurd (let k : Err (fault.KeyMissing place) ≡ Ok dropped = h in cc)
    by_key (number ∷ numbers) here h = rw here (omega arith)

pub hypo_fit : (known : Known) (tree : TreeHypo) (hypo : QHypo) → checked_hypo known tree ≡ Ok hypo → (list_all small_bound tree.set && small_filter tree.filter) ≡ true → IsHypoFit known.query hypo
unfolding checked_hypo over_table
hypo_fit known tree hypo e small =
    let tests = and_parts (list_all small_bound tree.set) (small_filter tree.filter) small in
    let new = kept (is_taken known tree.name) (fault.SameName tree.name.place) (base_number known tree.table >>= (λ number. table_at known tree.table number >>= (λ table. over_table number table tree))) hypo e in
    let number = came_of (base_number known tree.table) (λ number. table_at known tree.table number >>= (λ table. over_table number table tree)) hypo new.1 in
    let table = came_of (table_at known tree.table number.0) (λ table. over_table number.0 table tree) hypo number.2 in
    over number.0 table.0 (at_table number.0 table.0 table.1) table.2 tests.0 tests.1
  where
    at_table : (number : ℕ) (table : QTable) → table_at known tree.table number ≡ Ok table → slice_get known.query.tables number ≡ Some table
    at_table number table h = by_table (slice_get known.query.tables number) refl h
      where
        by_table : (o : Option QTable) → slice_get known.query.tables number ≡ o → table_at known tree.table number ≡ Ok table → slice_get known.query.tables number ≡ Some table
        by_table None is h = absurd (let k : Err (fault.UnknownName tree.table.place) ≡ Ok table = sym (rw is refl) ∙ h in cc)
        by_table (Some t) is h = is ∙ ap Some (same_Ok t table (sym (rw is refl) ∙ h))

    over : (number : ℕ) (table : QTable) → slice_get known.query.tables number ≡ Some table → over_table number table tree ≡ Ok hypo → list_all small_bound tree.set ≡ true → small_filter tree.filter ≡ true → IsHypoFit known.query hypo
    over number table there h small_set small_where =
        let set = came_of (in_turn (with_bound (bare_scope table) table) [] tree.set) (λ set. filter_in (bare_scope table) tree.filter >>= (λ filter. droppable table tree.dropped >>= (λ dropped. Ok (record { name = tree.name.name; table = number; columns = with_set set 0 table.columns; set = set; filter = filter; droppable = dropped })))) hypo h in
        let filter = came_of (filter_in (bare_scope table) tree.filter) (λ filter. droppable table tree.dropped >>= (λ dropped. Ok (record { name = tree.name.name; table = number; columns = with_set set.0 0 table.columns; set = set.0; filter = filter; droppable = dropped }))) hypo set.2 in
        let dropped = came_of (droppable table tree.dropped) (λ dropped. Ok (record { name = tree.name.name; table = number; columns = with_set set.0 0 table.columns; set = set.0; filter = filter.0; droppable = dropped })) hypo filter.2 in
        let made : QHypo = record { name = tree.name.name; table = number; columns = with_set set.0 0 table.columns; set = set.0; filter = filter.0; droppable = dropped.0 } in
        let bounds = bounds_fit table tree.set set.0 small_set set.1 in
        subst (IsHypoFit known.query) {x = made} (same_Ok made hypo dropped.2) (record {
          table = table;
          there = there;
          columns = refl;
          bounds = bounds.fit;
          filter = filter_fit (bare_scope table) tree.filter filter.0 filter.1 small_where;
          once = bounds.once;
          keys = bounds.keys;
          dropped = with_key table tree.dropped dropped.0 dropped.1;
        })
