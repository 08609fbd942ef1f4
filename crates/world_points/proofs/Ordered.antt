-- no column of a query has its lower bound above the upper one
use Rattle.std.proofs.Common.{◌≡◌, ℕ, ℤ, ◌≤ℤ◌, ◌+◌, Bool, true, false, List, [], ◌∷◌, ◌++◌, refl, sym, subst, arith, Some, if◌then◌else◌}
use Rattle.std.specs.Prelude.{Result, Ok, Err, int_lt}
use Rattle.std.proofs.lemmas.Int.{ints}
use Rattle.base_kit.specs.Asking.{and_then}
use Rattle.base_kit.specs.declared.value.Value.{Value}
use Rattle.branch_tree.specs.Listing.{AreSides}
use Rattle.tiql_query.specs.declared.relation.QBound.{QBound}
use Rattle.tiql_query.specs.declared.relation.QHypo.{QHypo}
use Rattle.tiql_query.specs.declared.query.Query.{Query}
use Rattle.tiql_query.specs.declared.world_column.WorldColumn.{WorldColumn}
use Rattle.world_def.specs.declared.fault.BoundsFault.{BoundsFault}
use Rattle.world_def.specs.declared.fault.BoundsFault.TheVariants as fault
use Rattle.world_def.specs.Turns.{turns}
use Rattle.world_def.specs.Columns.{Rows, Tables, rows_of, inside, bound_asked, cell_column, presence_column, with_column, with_presence, with_cell, with_row, with_hypo, columns_of}
use Rattle.row_values.proofs.Agreed.{and_then-Ok, same_answer}
use Rattle.world_def.proofs.Choices.{column_told, unless_Ok}
use Rattle.world_points.specs.Points.{side, root}
use Rattle.world_points.proofs.Within.{between_within}

-- the bounds of each column stand so
abbrev AreOrdered : List WorldColumn → Type 0
AreOrdered [] = Unit {0}
AreOrdered (column ∷ columns) = (column.lo ≤ℤ column.hi) × AreOrdered columns

one_more : (made : List WorldColumn) (c : WorldColumn) → AreOrdered made → c.lo ≤ℤ c.hi → AreOrdered (made ++ c ∷ [])
one_more [] c all le = (le, tt)
one_more (m ∷ made) c all le = (all.0, one_more made c all.1 le)

test_false : {A : Type 0} (b : Bool) (w : BoundsFault) (m n : A) → ◌≡◌ {A = Result A BoundsFault} (if b then Err w else Ok m) (Ok n) → b ≡ false
test_false {A} true w m n e = absurd (let k : ◌≡◌ {A = Result A BoundsFault} (Err w) (Ok n) = e in cc)
test_false false w m n e = refl

not_above : (m n : ℤ) → int_lt n m ≡ false → m ≤ℤ n
not_above m n e = grind (arith, ints)

module _ (hypo : ℕ) (droppable : Bool) (at : ℕ) (row : List Value) where
  cell_with : QBound → ℤ → ℤ → WorldColumn
  cell_with bound lo hi = record { hypo = hypo; row = at; cell = Some bound.column; droppable = droppable; lo = lo; hi = hi }

  cell_ordered : (bound : QBound) (c : WorldColumn) → cell_column hypo droppable at row bound ≡ Ok c → c.lo ≤ℤ c.hi
  unfolding cell_column cell_with
  cell_ordered bound c e =
      let low = and_then-Ok (bound_asked hypo bound.lo row) (λ lo. and_then (bound_asked hypo bound.hi row) (λ hi. if int_lt hi lo then Err (fault.EmptyBounds hypo (at + 1)) else Ok (cell_with bound lo hi))) c e in
      let high = and_then-Ok (bound_asked hypo bound.hi row) (λ hi. if int_lt hi low.0 then Err (fault.EmptyBounds hypo (at + 1)) else Ok (cell_with bound low.0 hi)) c low.2 in
      subst (λ (d : WorldColumn). d.lo ≤ℤ d.hi) (unless_Ok (int_lt high.0 low.0) (fault.EmptyBounds hypo (at + 1)) (cell_with bound low.0 high.0) c high.2)
      (not_above low.0 high.0 (test_false (int_lt high.0 low.0) (fault.EmptyBounds hypo (at + 1)) (cell_with bound low.0 high.0) c high.2))

  cells_ordered : (set : List QBound) (n : ℕ) (made more : List WorldColumn) → AreOrdered made → turns (with_cell hypo droppable at row) n set made ≡ Ok more → AreOrdered more
  unfolding turns with_cell
  cells_ordered [] n made more all e = subst AreOrdered (same_answer made more e) all
  cells_ordered (bound ∷ set) n made more all e =
      let both = and_then-Ok (with_cell hypo droppable at row n bound made) (λ more. turns (with_cell hypo droppable at row) (n + 1) set more) more e in
      let cell = and_then-Ok (cell_column hypo droppable at row bound) (λ column. with_column column made) both.0 both.1 in
      cells_ordered set (n + 1) both.0 more (subst AreOrdered (sym (column_told hypo droppable at row cell.0 made both.0 cell.2)) (one_more made cell.0 all (cell_ordered bound cell.0 cell.1))) both.2

presence_ordered : (hypo : ℕ) (droppable : Bool) (at : ℕ) (made more : List WorldColumn) → AreOrdered made → with_presence hypo droppable at made ≡ Ok more → AreOrdered more
unfolding with_presence
presence_ordered hypo true at made more all e = subst AreOrdered (sym (column_told hypo true at [] (presence_column hypo at) made more e)) (one_more made (presence_column hypo at) all (omega (arith, ints)))
presence_ordered hypo false at made more all e = subst AreOrdered (same_answer made more e) all

row_ordered : (hypo : ℕ) (table : QHypo) (at : ℕ) (row : List Value) (made more : List WorldColumn) → AreOrdered made → with_row hypo table at row made ≡ Ok more → AreOrdered more
unfolding with_row
row_ordered hypo table at row made more all e =
    let both = and_then-Ok (inside hypo table.filter row) (λ may_change. if may_change then and_then (with_presence hypo table.droppable at made) (λ more. turns (with_cell hypo table.droppable at row) 0 table.set more) else Ok made) more e in
    by_test both.0 both.2
  where
    by_test : (b : Bool) → (if b then and_then (with_presence hypo table.droppable at made) (λ more. turns (with_cell hypo table.droppable at row) 0 table.set more) else Ok made) ≡ Ok more → AreOrdered more
    by_test true h =
        let both = and_then-Ok (with_presence hypo table.droppable at made) (λ more. turns (with_cell hypo table.droppable at row) 0 table.set more) more h in
        cells_ordered hypo table.droppable at row table.set 0 both.0 more (presence_ordered hypo table.droppable at made both.0 all both.1) both.2
    by_test false h = subst AreOrdered (same_answer made more h) all

rows_ordered : (hypo : ℕ) (table : QHypo) (rows : Rows) (at : ℕ) (made more : List WorldColumn) → AreOrdered made → turns (with_row hypo table) at rows made ≡ Ok more → AreOrdered more
unfolding turns
rows_ordered hypo table [] at made more all e = subst AreOrdered (same_answer made more e) all
rows_ordered hypo table (row ∷ rows) at made more all e =
    let both = and_then-Ok (with_row hypo table at row made) (λ more. turns (with_row hypo table) (at + 1) rows more) more e in
    rows_ordered hypo table rows (at + 1) both.0 more (row_ordered hypo table at row made both.0 all both.1) both.2

hypos_ordered : (tables : Tables) (hypos : List QHypo) (hypo : ℕ) (made more : List WorldColumn) → AreOrdered made → turns (with_hypo tables) hypo hypos made ≡ Ok more → AreOrdered more
unfolding turns with_hypo
hypos_ordered tables [] hypo made more all e = subst AreOrdered (same_answer made more e) all
hypos_ordered tables (table ∷ others) hypo made more all e =
    let both = and_then-Ok (with_hypo tables hypo table made) (λ more. turns (with_hypo tables) (hypo + 1) others more) more e in
    hypos_ordered tables others (hypo + 1) both.0 more (rows_ordered hypo table (rows_of tables table.table) 0 made both.0 all both.1) both.2

side_there : (c : WorldColumn) → c.lo ≤ℤ c.hi → (side c).lo ≤ℤ (side c).hi
side_there c le = let low = between_within c c.lo (omega (arith, ints)) le in omega (arith, ints, low.0, low.1)

sides_of_ordered : (columns : List WorldColumn) → AreOrdered columns → AreSides (root columns)
sides_of_ordered [] all = tt
sides_of_ordered (c ∷ columns) all = (side_there c all.0, sides_of_ordered columns all.1)

-- no side of the box is empty
pub sides_there : (query : Query) (tables : Tables) (columns : List WorldColumn) → columns_of query tables ≡ Ok columns → AreSides (root columns)
unfolding columns_of
sides_there query tables columns e = sides_of_ordered columns (hypos_ordered tables query.hypos 0 [] columns tt e)
