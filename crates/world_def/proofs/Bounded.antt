-- the bounds of the world columns of a query are at most 10^15 in size
use Rattle.std.proofs.Common.{◌≡◌, ◌≤◌, ℕ, ℤ, ◌+◌, ◌^◌, Bool, true, false, List, [], ◌∷◌, ◌++◌, refl, sym, subst, arith, unsigned_abs, Some, if◌then◌else◌}
use Rattle.std.specs.Prelude.{Result, Ok, Err, int_lt, nat_lt}
use Rattle.std.proofs.lemmas.Bool.Decides.{nat_tests}
use Rattle.base_kit.specs.Asking.{and_then}
use Rattle.base_kit.specs.declared.value.Value.{Value}
use Rattle.tiql_query.specs.declared.expression.Expr.{Expr}
use Rattle.tiql_query.specs.declared.relation.QBound.{QBound}
use Rattle.tiql_query.specs.declared.relation.QHypo.{QHypo}
use Rattle.tiql_query.specs.declared.query.Query.{Query}
use Rattle.tiql_query.specs.declared.world_column.WorldColumn.{WorldColumn}
use Rattle.world_def.specs.declared.fault.BoundsFault.{BoundsFault}
use Rattle.world_def.specs.declared.fault.BoundsFault.TheVariants as fault
use Rattle.row_values.specs.Asked.{asked}
use Rattle.world_def.specs.Turns.{turns}
use Rattle.world_def.specs.Columns.{Rows, Tables, rows_of, told, inside, bound_asked, cell_column, presence_column, with_column, with_presence, with_cell, with_row, with_hypo, columns_of}
use Rattle.row_values.proofs.Agreed.{and_then-Ok, same_answer}
use Rattle.world_def.proofs.Choices.{column_told, unless_Ok}

-- a column's bounds
pub record IsBounded (column : WorldColumn) : Type 0 where
  pub lo : unsigned_abs column.lo ≤ 10 ^ 15
  pub hi : unsigned_abs column.hi ≤ 10 ^ 15

abbrev pub AreBounded : List WorldColumn → Type 0
AreBounded [] = Unit {0}
AreBounded (column ∷ columns) = IsBounded column × AreBounded columns

pub bounded_first : (one other : List WorldColumn) → AreBounded (one ++ other) → AreBounded one
bounded_first [] other all = tt
bounded_first (column ∷ one) other all = (all.0, bounded_first one other all.1)

pub bounded_second : (one other : List WorldColumn) → AreBounded (one ++ other) → AreBounded other
bounded_second [] other all = all
bounded_second (column ∷ one) other all = bounded_second one other all.1

one_more : (made : List WorldColumn) (c : WorldColumn) → AreBounded made → IsBounded c → AreBounded (made ++ c ∷ [])
one_more [] c all is = (is, tt)
one_more (m ∷ made) c all is = (all.0, one_more made c all.1 is)

test_false : {A : Type 0} (b : Bool) (w : BoundsFault) (m n : A) → ◌≡◌ {A = Result A BoundsFault} (if b then Err w else Ok m) (Ok n) → b ≡ false
test_false {A} true w m n e = absurd (let k : ◌≡◌ {A = Result A BoundsFault} (Err w) (Ok n) = e in cc)
test_false false w m n e = refl

not_above : (m n : ℕ) → nat_lt m n ≡ false → n ≤ m
not_above m n e = grind (arith, nat_tests)

-- a bound that is asked without a fault
bound_small : (hypo : ℕ) (bound : Expr) (row : List Value) (n : ℤ) → bound_asked hypo bound row ≡ Ok n → unsigned_abs n ≤ 10 ^ 15
unfolding bound_asked
bound_small hypo bound row n e =
    let both = and_then-Ok (told hypo (asked (row ∷ []) bound)) (λ n. if nat_lt (10 ^ 15) (unsigned_abs n) then Err (fault.Wide hypo n) else Ok n) n e in
    subst (λ (m : ℤ). unsigned_abs m ≤ 10 ^ 15) (unless_Ok (nat_lt (10 ^ 15) (unsigned_abs both.0)) (fault.Wide hypo both.0) both.0 n both.2)
    (not_above (10 ^ 15) (unsigned_abs both.0) (test_false (nat_lt (10 ^ 15) (unsigned_abs both.0)) (fault.Wide hypo both.0) both.0 n both.2))

module _ (hypo : ℕ) (droppable : Bool) (at : ℕ) (row : List Value) where
  cell_with : QBound → ℤ → ℤ → WorldColumn
  cell_with bound lo hi = record { hypo = hypo; row = at; cell = Some bound.column; droppable = droppable; lo = lo; hi = hi }

  cell_bounded : (bound : QBound) (c : WorldColumn) → cell_column hypo droppable at row bound ≡ Ok c → IsBounded c
  unfolding cell_column cell_with
  cell_bounded bound c e =
      let low = and_then-Ok (bound_asked hypo bound.lo row) (λ lo. and_then (bound_asked hypo bound.hi row) (λ hi. if int_lt hi lo then Err (fault.EmptyBounds hypo (at + 1)) else Ok (cell_with bound lo hi))) c e in
      let high = and_then-Ok (bound_asked hypo bound.hi row) (λ hi. if int_lt hi low.0 then Err (fault.EmptyBounds hypo (at + 1)) else Ok (cell_with bound low.0 hi)) c low.2 in
      subst IsBounded (unless_Ok (int_lt high.0 low.0) (fault.EmptyBounds hypo (at + 1)) (cell_with bound low.0 high.0) c high.2)
      (record { lo = bound_small hypo bound.lo row low.0 low.1; hi = bound_small hypo bound.hi row high.0 high.1 })

  cells_bounded : (set : List QBound) (n : ℕ) (made more : List WorldColumn) → AreBounded made → turns (with_cell hypo droppable at row) n set made ≡ Ok more → AreBounded more
  unfolding turns with_cell
  cells_bounded [] n made more all e = subst AreBounded (same_answer made more e) all
  cells_bounded (bound ∷ set) n made more all e =
      let both = and_then-Ok (with_cell hypo droppable at row n bound made) (λ more. turns (with_cell hypo droppable at row) (n + 1) set more) more e in
      let cell = and_then-Ok (cell_column hypo droppable at row bound) (λ column. with_column column made) both.0 both.1 in
      cells_bounded set (n + 1) both.0 more (subst AreBounded (sym (column_told hypo droppable at row cell.0 made both.0 cell.2)) (one_more made cell.0 all (cell_bounded bound cell.0 cell.1))) both.2

presence_small : (hypo at : ℕ) → IsBounded (presence_column hypo at)
presence_small hypo at = record { lo = omega arith; hi = omega arith }

presence_bounded : (hypo : ℕ) (droppable : Bool) (at : ℕ) (made more : List WorldColumn) → AreBounded made → with_presence hypo droppable at made ≡ Ok more → AreBounded more
unfolding with_presence
presence_bounded hypo true at made more all e = subst AreBounded (sym (column_told hypo true at [] (presence_column hypo at) made more e)) (one_more made (presence_column hypo at) all (presence_small hypo at))
presence_bounded hypo false at made more all e = subst AreBounded (same_answer made more e) all

row_bounded : (hypo : ℕ) (table : QHypo) (at : ℕ) (row : List Value) (made more : List WorldColumn) → AreBounded made → with_row hypo table at row made ≡ Ok more → AreBounded more
unfolding with_row
row_bounded hypo table at row made more all e =
    let both = and_then-Ok (inside hypo table.filter row) (λ may_change. if may_change then and_then (with_presence hypo table.droppable at made) (λ more. turns (with_cell hypo table.droppable at row) 0 table.set more) else Ok made) more e in
    by_test both.0 both.2
  where
    by_test : (b : Bool) → (if b then and_then (with_presence hypo table.droppable at made) (λ more. turns (with_cell hypo table.droppable at row) 0 table.set more) else Ok made) ≡ Ok more → AreBounded more
    by_test true h =
        let both = and_then-Ok (with_presence hypo table.droppable at made) (λ more. turns (with_cell hypo table.droppable at row) 0 table.set more) more h in
        cells_bounded hypo table.droppable at row table.set 0 both.0 more (presence_bounded hypo table.droppable at made both.0 all both.1) both.2
    by_test false h = subst AreBounded (same_answer made more h) all

rows_bounded : (hypo : ℕ) (table : QHypo) (rows : Rows) (at : ℕ) (made more : List WorldColumn) → AreBounded made → turns (with_row hypo table) at rows made ≡ Ok more → AreBounded more
unfolding turns
rows_bounded hypo table [] at made more all e = subst AreBounded (same_answer made more e) all
rows_bounded hypo table (row ∷ rows) at made more all e =
    let both = and_then-Ok (with_row hypo table at row made) (λ more. turns (with_row hypo table) (at + 1) rows more) more e in
    rows_bounded hypo table rows (at + 1) both.0 more (row_bounded hypo table at row made both.0 all both.1) both.2

hypos_bounded : (tables : Tables) (hypos : List QHypo) (hypo : ℕ) (made more : List WorldColumn) → AreBounded made → turns (with_hypo tables) hypo hypos made ≡ Ok more → AreBounded more
unfolding turns with_hypo
hypos_bounded tables [] hypo made more all e = subst AreBounded (same_answer made more e) all
hypos_bounded tables (table ∷ others) hypo made more all e =
    let both = and_then-Ok (with_hypo tables hypo table made) (λ more. turns (with_hypo tables) (hypo + 1) others more) more e in
    hypos_bounded tables others (hypo + 1) both.0 more (rows_bounded hypo table (rows_of tables table.table) 0 made both.0 all both.1) both.2

-- the bounds of each world column
pub columns_bounded : (query : Query) (tables : Tables) (columns : List WorldColumn) → columns_of query tables ≡ Ok columns → AreBounded columns
unfolding columns_of
columns_bounded query tables columns e = hypos_bounded tables query.hypos 0 [] columns tt e
