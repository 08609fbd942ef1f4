-- the world columns of a query have numbers, and there are at most 20,000,000 of them
use Rattle.std.proofs.Common.{◌≡◌, ◌≤◌, ◌≤ℤ◌, ℕ, ℤ, ◌+◌, ◌^◌, Bool, true, false, List, [], ◌∷◌, ◌++◌, length, refl, sym, ap, subst, arith, unsigned_abs, Some, if◌then◌else◌, All}
use Rattle.std.specs.Prelude.{Result, Ok, Err, int_lt, nat_lt}
use Rattle.std.proofs.lemmas.Int.{ints}
use Rattle.std.proofs.lemmas.Bool.{ltb-true}
use Rattle.std.proofs.lemmas.Bool.Decides.{nat_tests}
use Rattle.std.proofs.Common.{take, drop, length-drop}
use Rattle.std.proofs.lemmas.List.{length_push, length-take}
use Rattle.std.proofs.lemmas.List.Elements.{All-nil, All-cons, All-append, All-take, All-drop}
use Rattle.base_kit.specs.Asking.{and_then}
use Rattle.base_kit.specs.declared.value.Value.{Value}
use Rattle.tiql_query.specs.declared.expression.Expr.{Expr}
use Rattle.tiql_query.specs.declared.relation.QBound.{QBound}
use Rattle.tiql_query.specs.declared.relation.QHypo.{QHypo}
use Rattle.tiql_query.specs.declared.query.Query.{Query}
use Rattle.tiql_query.specs.declared.world_column.WorldColumn.{WorldColumn}
use Rattle.world_def.specs.declared.fault.BoundsFault.{BoundsFault}
use Rattle.world_def.specs.declared.fault.BoundsFault.TheVariants as fault
use Rattle.row_values.specs.Asked.{asked}
use Rattle.world_def.specs.Turns.{turns}
use Rattle.world_def.specs.Columns.{Rows, Tables, rows_of, told, inside, bound_asked, cell_column, presence_column, with_column, with_presence, with_cell, with_row, with_hypo, columns_of}
use Rattle.row_values.proofs.Agreed.{and_then-Ok, same_answer}
use Rattle.world_def.proofs.Choices.{column_told, unless_Ok}
use Rattle.sym_rows.specs.Hypos.{HasSides}

-- they are few, and each has numbers
pub record AreFew (made : List WorldColumn) : Type 0 where
  pub few : length made ≤ 20000000
  pub sides : All HasSides made

test_false : {A : Type 0} (b : Bool) (w : BoundsFault) (m n : A) → ◌≡◌ {A = Result A BoundsFault} (if b then Err w else Ok m) (Ok n) → b ≡ false
test_false {A} true w m n e = absurd (let k : ◌≡◌ {A = Result A BoundsFault} (Err w) (Ok n) = e in cc)
test_false false w m n e = refl

test_true : {A : Type 0} (b : Bool) (w : BoundsFault) (m n : A) → ◌≡◌ {A = Result A BoundsFault} (if b then Ok m else Err w) (Ok n) → b ≡ true
test_true true w m n e = refl
test_true {A} false w m n e = absurd (let k : ◌≡◌ {A = Result A BoundsFault} (Err w) (Ok n) = e in cc)

not_above : (m n : ℕ) → nat_lt m n ≡ false → n ≤ m
not_above m n e = grind (arith, nat_tests)

not_below : (m n : ℤ) → int_lt m n ≡ false → n ≤ℤ m
not_below m n e = grind (arith, ints)

one_more : (made more : List WorldColumn) (c : WorldColumn) → AreFew made → HasSides c → with_column c made ≡ Ok more → AreFew more
unfolding with_column
one_more made more c all is e =
    let room = ltb-true (length made) 20000000 (test_true (nat_lt (length made) 20000000) fault.TooManyWorldColumns (made ++ c ∷ []) more e) in
    let long = length_push made c in
    subst AreFew (sym (column_told 0 true 0 [] c made more e))
    (record { few = omega (arith, room, long); sides = All-append HasSides made (c ∷ []) all.sides (All-cons HasSides c [] is (All-nil HasSides)) })

-- a bound that is asked without a fault
bound_small : (hypo : ℕ) (bound : Expr) (row : List Value) (n : ℤ) → bound_asked hypo bound row ≡ Ok n → unsigned_abs n ≤ 10 ^ 15
unfolding bound_asked
bound_small hypo bound row n e =
    let both = and_then-Ok (told hypo (asked (row ∷ []) bound)) (λ n. if nat_lt (10 ^ 15) (unsigned_abs n) then Err (fault.Wide hypo n) else Ok n) n e in
    subst (λ (m : ℤ). unsigned_abs m ≤ 10 ^ 15) (unless_Ok (nat_lt (10 ^ 15) (unsigned_abs both.0)) (fault.Wide hypo both.0) both.0 n both.2)
    (not_above (10 ^ 15) (unsigned_abs both.0) (test_false (nat_lt (10 ^ 15) (unsigned_abs both.0)) (fault.Wide hypo both.0) both.0 n both.2))

module _ (hypo : ℕ) (droppable : Bool) (at : ℕ) (row : List Value) where
  cell_with : QBound → ℤ → ℤ → WorldColumn
  cell_with bound lo hi = record { hypo = hypo; row = at; cell = Some bound.column; droppable = droppable; lo = lo; hi = hi }

  cell_fits : (bound : QBound) (c : WorldColumn) → cell_column hypo droppable at row bound ≡ Ok c → HasSides c
  unfolding cell_column cell_with
  cell_fits bound c e =
      let low = and_then-Ok (bound_asked hypo bound.lo row) (λ lo. and_then (bound_asked hypo bound.hi row) (λ hi. if int_lt hi lo then Err (fault.EmptyBounds hypo (at + 1)) else Ok (cell_with bound lo hi))) c e in
      let high = and_then-Ok (bound_asked hypo bound.hi row) (λ hi. if int_lt hi low.0 then Err (fault.EmptyBounds hypo (at + 1)) else Ok (cell_with bound low.0 hi)) c low.2 in
      subst HasSides (unless_Ok (int_lt high.0 low.0) (fault.EmptyBounds hypo (at + 1)) (cell_with bound low.0 high.0) c high.2)
      (record { order = not_below high.0 low.0 (test_false (int_lt high.0 low.0) (fault.EmptyBounds hypo (at + 1)) (cell_with bound low.0 high.0) c high.2); lo = bound_small hypo bound.lo row low.0 low.1; hi = bound_small hypo bound.hi row high.0 high.1 })

  cells_few : (set : List QBound) (n : ℕ) (made more : List WorldColumn) → AreFew made → turns (with_cell hypo droppable at row) n set made ≡ Ok more → AreFew more
  unfolding turns with_cell
  cells_few [] n made more all e = subst AreFew (same_answer made more e) all
  cells_few (bound ∷ set) n made more all e =
      let both = and_then-Ok (with_cell hypo droppable at row n bound made) (λ more. turns (with_cell hypo droppable at row) (n + 1) set more) more e in
      let cell = and_then-Ok (cell_column hypo droppable at row bound) (λ column. with_column column made) both.0 both.1 in
      cells_few set (n + 1) both.0 more (one_more made both.0 cell.0 all (cell_fits bound cell.0 cell.1) cell.2) both.2

presence_fits : (hypo at : ℕ) → HasSides (presence_column hypo at)
presence_fits hypo at = record { order = omega (arith, ints); lo = omega arith; hi = omega arith }

presence_few : (hypo : ℕ) (droppable : Bool) (at : ℕ) (made more : List WorldColumn) → AreFew made → with_presence hypo droppable at made ≡ Ok more → AreFew more
unfolding with_presence
presence_few hypo true at made more all e = one_more made more (presence_column hypo at) all (presence_fits hypo at) e
presence_few hypo false at made more all e = subst AreFew (same_answer made more e) all

row_few : (hypo : ℕ) (table : QHypo) (at : ℕ) (row : List Value) (made more : List WorldColumn) → AreFew made → with_row hypo table at row made ≡ Ok more → AreFew more
unfolding with_row
row_few hypo table at row made more all e =
    let both = and_then-Ok (inside hypo table.filter row) (λ may_change. if may_change then and_then (with_presence hypo table.droppable at made) (λ more. turns (with_cell hypo table.droppable at row) 0 table.set more) else Ok made) more e in
    by_test both.0 both.2
  where
    by_test : (b : Bool) → (if b then and_then (with_presence hypo table.droppable at made) (λ more. turns (with_cell hypo table.droppable at row) 0 table.set more) else Ok made) ≡ Ok more → AreFew more
    by_test true h =
        let both = and_then-Ok (with_presence hypo table.droppable at made) (λ more. turns (with_cell hypo table.droppable at row) 0 table.set more) more h in
        cells_few hypo table.droppable at row table.set 0 both.0 more (presence_few hypo table.droppable at made both.0 all both.1) both.2
    by_test false h = subst AreFew (same_answer made more h) all

rows_few : (hypo : ℕ) (table : QHypo) (rows : Rows) (at : ℕ) (made more : List WorldColumn) → AreFew made → turns (with_row hypo table) at rows made ≡ Ok more → AreFew more
unfolding turns
rows_few hypo table [] at made more all e = subst AreFew (same_answer made more e) all
rows_few hypo table (row ∷ rows) at made more all e =
    let both = and_then-Ok (with_row hypo table at row made) (λ more. turns (with_row hypo table) (at + 1) rows more) more e in
    rows_few hypo table rows (at + 1) both.0 more (row_few hypo table at row made both.0 all both.1) both.2

hypos_few : (tables : Tables) (hypos : List QHypo) (hypo : ℕ) (made more : List WorldColumn) → AreFew made → turns (with_hypo tables) hypo hypos made ≡ Ok more → AreFew more
unfolding turns with_hypo
hypos_few tables [] hypo made more all e = subst AreFew (same_answer made more e) all
hypos_few tables (table ∷ others) hypo made more all e =
    let both = and_then-Ok (with_hypo tables hypo table made) (λ more. turns (with_hypo tables) (hypo + 1) others more) more e in
    hypos_few tables others (hypo + 1) both.0 more (rows_few hypo table (rows_of tables table.table) 0 made both.0 all both.1) both.2

pub columns_few : (query : Query) (tables : Tables) (columns : List WorldColumn) → columns_of query tables ≡ Ok columns → AreFew columns
unfolding columns_of
columns_few query tables columns e = hypos_few tables query.hypos 0 [] columns (record { few = omega arith; sides = All-nil HasSides }) e

-- ---- a part of them

pub part_few : (columns rest mine : List WorldColumn) (start end : ℕ) → AreFew columns → rest ≡ drop start columns → mine ≡ take end rest → start ≤ length columns → start + length mine ≤ 20000000
part_few columns rest mine start end all r m le =
    let a = ap length m in
    let b = ap length r in
    let c = length-take end rest in
    let d = length-drop start columns in
    let few = all.few in
    omega (arith, a, b, c, d, few, le)

pub part_sides : (columns rest mine : List WorldColumn) (start end : ℕ) → AreFew columns → rest ≡ drop start columns → mine ≡ take end rest → All HasSides mine
part_sides columns rest mine start end all r m = subst (All HasSides) (sym m) (All-take HasSides end rest (subst (All HasSides) (sym r) (All-drop HasSides start columns all.sides)))
