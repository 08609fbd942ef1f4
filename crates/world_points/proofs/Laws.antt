-- what points tell of the worlds of a query: a world that costs no more than any point is best, and where no point has a
-- cost none meets
use Rattle.std.proofs.Common.{◌≡◌, ℕ, ℤ, ◌≤ℤ◌, ◌<◌, Bool, true, false, List, [], ◌∷◌, length, get_or, refl, sym, ◌∙◌, ap, subst, arith, Option, Some, None, if◌then◌else◌}
use Rattle.std.specs.Prelude.{neg_ℤ, MatchOption, IsSomeAnd, is_none, slice_get, unwrap_or, option_map, Ok, All, IsTrue}
use Rattle.std.specs.List.{AllZip}
use Rattle.std.specs.Ordering.{int_eq}
use Rattle.std.specs.Cmp.Lexicographic.{pointwise}
use Rattle.std.specs.Cmp.Rules.{signed_items}
use Rattle.std.proofs.lemmas.Int.{ints}
use Rattle.std.proofs.lemmas.Slice.Zip.{AllZip-left, AllZip-long}
use Rattle.std.proofs.lemmas.Option.{slice_get_within}
use Rattle.branch_tree.specs.Listing.{InBox, NoBetter}
use Rattle.tiql_query.specs.Rows.{AreRowsOf, AreTables, IsOfColumn}
use Rattle.tiql_query.specs.declared.relation.Column.{Column}
use Rattle.tiql_query.specs.declared.relation.QTable.{QTable}
use Rattle.tiql_query.specs.declared.relation.QHypo.{QHypo}
use Rattle.tiql_query.specs.declared.aim.Aim.{Aim}
use Rattle.tiql_query.specs.declared.aim.Aim.TheVariants as aims
use Rattle.tiql_query.specs.declared.query.Query.{Query}
use Rattle.tiql_query.specs.declared.world_column.WorldColumn.{WorldColumn}
use Rattle.tiql_query.specs.Kinds.{kind_at, is_number}
use Rattle.tiql_query.specs.WellFormed.{IsWellFormed, IsHypoFit}
use Rattle.world_def.specs.declared.world.World.{World}
use Rattle.world_def.specs.declared.world.WorldTable.{WorldTable}
use Rattle.world_def.specs.Columns.{Rows, Tables, rows_of, columns_of}
use Rattle.world_def.specs.Worlds.{first_impossible, tables_at}
use Rattle.world_def.specs.Meaning.{IsPossible, Meets, IsBest, NoneMeets, Better, meets, score, score_met}
use Rattle.world_def.proofs.Choices.{columns_told}
use Rattle.world_def.proofs.Restored.{world_restored}
use Rattle.std.proofs.lemmas.Bool.{and_parts}
use Rattle.world_def.proofs.Runs.{possible_told, possible_passes}
use Rattle.world_points.specs.Points as points
use Rattle.world_points.specs.Points.{root, cost, world_cost, cost_at, is_of_world, has_numbers, numbers}
use Rattle.world_points.proofs.Within.{HasCells, inside_box}

none_is : (found : Option ℕ) → is_none found ≡ true → found ≡ None
none_is None e = refl
none_is (Some n) e = absurd (let k : false ≡ true = e in cc)

-- the numbers of a possible world are those of a world, which is the one that they give
module _ (query : Query) (tables : Tables) (columns : List WorldColumn) (made : columns_of query tables ≡ Ok columns) where
  world_is : (world : World) → IsPossible query tables world → points.world_at query tables columns (numbers query tables columns world) ≡ world
  unfolding points.world_at
  world_is world p = ap (λ (t : List WorldTable). record { tables = t }) (world_restored query tables columns world (columns_told query tables columns made) p)

  own_numbers : (world : World) → IsPossible query tables world → has_numbers query tables columns world (numbers query tables columns world) ≡ true
  own_numbers world p =
      let none = possible_passes query tables columns world (columns_told query tables columns made) p in
      let same = (signed_items (numbers query tables columns world) (numbers query tables columns world)).1 refl in
      rw (none) same

  pub possible_at : (point : List ℤ) → is_of_world query tables columns point ≡ true → IsPossible query tables (points.world_at query tables columns point)
  unfolding points.world_at
  possible_at point e =
      let parts = and_parts (is_none (first_impossible tables (tables_at tables 0 query.hypos columns point) 0 query.hypos columns)) (pointwise int_eq (numbers query tables columns (record { tables = tables_at tables 0 query.hypos columns point })) point) e in
      possible_told query tables columns (record { tables = tables_at tables 0 query.hypos columns point }) (columns_told query tables columns made) (none_is _ parts.0)

  -- a possible world costs what its numbers do
  own_cost : (world : World) → IsPossible query tables world → cost_at query tables columns (numbers query tables columns world) ≡ world_cost query tables world
  unfolding cost_at
  own_cost world p =
      let same = world_is world p in
      let own : is_of_world query tables columns (numbers query tables columns world) ≡ true = ap (λ (w : World). has_numbers query tables columns w (numbers query tables columns world)) same ∙ own_numbers world p in
      rw own (ap (world_cost query tables) same)

meets_cost : (query : Query) (tables : Tables) (world : World) → Meets query tables world → world_cost query tables world ≡ Some (cost query.aim (score query tables world))
unfolding score_met
meets_cost query tables world m = let met : meets query tables world ≡ true = m in rw met refl

there_of : (columns : List Column) (n : ℕ) (found : Option Column) → slice_get columns n ≡ found → IsTrue (is_number (kind_at (columns ∷ []) (record { source = 0; column = n }))) → n < length columns
unfolding kind_at
there_of columns n None is e = absurd (let k : false ≡ true = sym (rw is refl) ∙ e in cc)
there_of columns n (Some column) is e = slice_get_within columns n column is

rows_have : (table : QTable) (rows : Rows) (n : ℕ) → AreRowsOf table rows → n < length table.columns → All (λ row. n < length row) rows
rows_have table rows n are lt = λ k d le. let long = AllZip-long IsOfColumn table.columns (get_or rows k d) (are.each k d le) in omega (arith, lt, long)

table_rows : (tables : List QTable) (all : Tables) (n : ℕ) (table : QTable) → AllZip AreRowsOf tables all → slice_get tables n ≡ Some table → AreRowsOf table (rows_of all n)
unfolding rows_of
table_rows tables all n table are is = by_left (slice_get tables n) is (slice_get all n) refl (AllZip-left AreRowsOf tables all are n)
  where
    by_left : (one : Option QTable) → one ≡ Some table → (other : Option Rows) → slice_get all n ≡ other → MatchOption one (Unit {0}) (λ x. IsSomeAnd other (AreRowsOf x)) → AreRowsOf table (unwrap_or other [])
    by_left None e other o h = absurd (let k : ◌≡◌ {A = Option QTable} None (Some table) = e in cc)
    by_left (Some t) e None o h = absurd h
    by_left (Some t) e (Some rows) o h = let same : t ≡ table = cc in subst (λ (x : QTable). AreRowsOf x rows) same h

cells_of_hypo : (query : Query) (tables : Tables) (hypo : QHypo) → AreTables query tables → IsHypoFit query hypo → HasCells tables hypo
cells_of_hypo query tables hypo are fit = record {
  once = fit.once;
  there = λ k d lt j e lj.
      let bound = fit.bounds j e lj in
      rows_have fit.table (rows_of tables hypo.table) (get_or hypo.set j e).column (table_rows query.tables tables hypo.table fit.table are fit.there) (there_of fit.table.columns (get_or hypo.set j e).column _ refl bound.column) k d lt;
}

-- in a well formed query over its tables every set column is there
pub cells_there : (query : Query) (tables : Tables) → IsWellFormed query → AreTables query tables → All (HasCells tables) query.hypos
cells_there query tables fit are = λ k d lt. cells_of_hypo query tables (get_or query.hypos k d) are (fit.hypos k d lt)

turned_le : (m n : ℤ) → neg_ℤ m ≤ℤ neg_ℤ n → n ≤ℤ m
turned_le m n e = omega (arith, ints)

not_better : (aim : Aim) (m n : ℤ) → cost aim m ≤ℤ cost aim n → Better aim n m → ⊥
unfolding cost
not_better aims.Find m n le b = b
not_better (aims.Sum true source part) m n le b = let t = turned_le m n le in omega (arith, ints, t, b)
not_better (aims.Sum false source part) m n le b = omega (arith, ints, le, b)

module _ (query : Query) (tables : Tables) (columns : List WorldColumn) (made : columns_of query tables ≡ Ok columns) (fit : IsWellFormed query) (are : AreTables query tables) where
  pub own_inside : (world : World) → IsPossible query tables world → InBox (root columns) (numbers query tables columns world)
  own_inside world p = inside_box query tables columns world (columns_told query tables columns made) (cells_there query tables fit are) p

  -- a possible world that meets, and costs no more than any point, is best
  pub best_of : (world : World) → IsPossible query tables world → Meets query tables world
      → ((other : List ℤ) → InBox (root columns) other → NoBetter (Some (cost query.aim (score query tables world))) (cost_at query tables columns other)) → IsBest query tables world
  best_of world p m least = record {
    possible = p;
    meets = m;
    none_better = λ other q n better.
        let there = least (numbers query tables columns other) (own_inside other q) in
        let cost_is = own_cost query tables columns made other q ∙ meets_cost query tables other n in
        let le : cost query.aim (score query tables world) ≤ℤ cost query.aim (score query tables other) =
        subst (λ (v : Option ℤ). NoBetter (Some (cost query.aim (score query tables world))) v) cost_is there in
        not_better query.aim (score query tables world) (score query tables other) le better;
  }

  -- where no point has a cost, no possible world meets
  pub none_there : ((other : List ℤ) → InBox (root columns) other → NoBetter None (cost_at query tables columns other)) → NoneMeets query tables
  none_there none world p m =
      let cost_is = own_cost query tables columns made world p ∙ meets_cost query tables world m in
      subst (λ (v : Option ℤ). NoBetter None v) cost_is (none (numbers query tables columns world) (own_inside world p))

  world_meets : (world : World) (v : ℤ) → world_cost query tables world ≡ Some v → Meets query tables world × (v ≡ cost query.aim (score query tables world))
  unfolding score_met
  world_meets world v = by_test (meets query tables world) refl
    where
      by_test : (b : Bool) → meets query tables world ≡ b → option_map (cost query.aim) (if b then Some (score query tables world) else None) ≡ Some v → Meets query tables world × (v ≡ cost query.aim (score query tables world))
      by_test true t e = (t, cc)
      by_test false t e = absurd (let k : ◌≡◌ {A = Option ℤ} None (Some v) = e in cc)

  point_meets : (point : List ℤ) (v : ℤ) → cost_at query tables columns point ≡ Some v → IsPossible query tables (points.world_at query tables columns point) × Meets query tables (points.world_at query tables columns point) × (v ≡ cost query.aim (score query tables (points.world_at query tables columns point)))
  unfolding cost_at
  point_meets point v = by_test (is_of_world query tables columns point) refl
    where
      by_test : (b : Bool) → is_of_world query tables columns point ≡ b → (if b then world_cost query tables (points.world_at query tables columns point) else None) ≡ Some v
          → IsPossible query tables (points.world_at query tables columns point) × Meets query tables (points.world_at query tables columns point) × (v ≡ cost query.aim (score query tables (points.world_at query tables columns point)))
      by_test true t e = let met = world_meets (points.world_at query tables columns point) v e in (possible_at query tables columns made point t, met.0, met.1)
      by_test false t e = absurd (let k : ◌≡◌ {A = Option ℤ} None (Some v) = e in cc)

  -- the world of a point that costs no more than any point is best
  pub best_there : (point : List ℤ) (v : ℤ) → cost_at query tables columns point ≡ Some v → ((other : List ℤ) → InBox (root columns) other → NoBetter (Some v) (cost_at query tables columns other))
      → IsBest query tables (points.world_at query tables columns point) × (v ≡ cost query.aim (score query tables (points.world_at query tables columns point)))
  best_there point v is least =
      let is_there = point_meets point v is in
      (best_of (points.world_at query tables columns point) is_there.0 is_there.1 (subst (λ (n : ℤ). (other : List ℤ) → InBox (root columns) other → NoBetter (Some n) (cost_at query tables columns other)) is_there.2 least), is_there.2)
