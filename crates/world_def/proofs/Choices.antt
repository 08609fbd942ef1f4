-- where the bounds have no fault, the world columns are the choices that the rows leave
use Rattle.std.proofs.Common.{◌≡◌, ℕ, ℤ, ◌+◌, ◌^◌, Bool, true, false, List, [], ◌∷◌, ◌++◌, length, map, refl, sym, ◌∙◌, ap, ap₂, append_assoc, unsigned_abs, Option, Some, None, if◌then◌else◌}
use Rattle.std.specs.Prelude.{Result, Ok, Err, nat_lt, int_lt, IfOk}
use Rattle.base_kit.specs.Asking.{and_then}
use Rattle.base_kit.specs.declared.value.Value.{Value}
use Rattle.tiql_query.specs.declared.expression.Expr.{Expr}
use Rattle.tiql_query.specs.declared.condition.Cond.{Cond}
use Rattle.tiql_query.specs.declared.relation.QBound.{QBound}
use Rattle.tiql_query.specs.declared.relation.QHypo.{QHypo}
use Rattle.tiql_query.specs.declared.query.Query.{Query}
use Rattle.tiql_query.specs.declared.world_column.WorldColumn.{WorldColumn}
use Rattle.row_values.specs.declared.fault.Wide.{Wide}
use Rattle.world_def.specs.declared.fault.BoundsFault.{BoundsFault}
use Rattle.world_def.specs.declared.fault.BoundsFault.TheVariants as fault
use Rattle.row_values.specs.Values.{number, value}
use Rattle.row_values.specs.Asked.{asked, truth_asked}
use Rattle.world_def.specs.Turns.{turns}
use Rattle.world_def.specs.Columns.{GivesColumns, Rows, Tables, rows_of, told, inside, bound_asked, cell_column, presence_column, with_column, with_presence, with_cell, with_row, with_hypo, columns_of}
use Rattle.world_def.specs.Meaning.{may_change, cell_choice, presence_choice, choices, rows_choices, all_choices}
use Rattle.row_values.proofs.Agreed.{and_then-Ok, same_answer, agreed, truth_agreed}

append_nil : {A : Type 0} (xs : List A) → xs ++ [] ≡ xs
append_nil [] = refl
append_nil (x ∷ xs) = ap (λ l. x ∷ l) (append_nil xs)

untold : {A : Type 0} (hypo : ℕ) (asked : Result A Wide) (a : A) → told hypo asked ≡ Ok a → asked ≡ Ok a
untold hypo (Ok b) a e = ap (λ c. Ok c) (same_answer b a e)
untold {A} hypo (Err w) a e = absurd (let k : ◌≡◌ {A = Result A BoundsFault} (Err (fault.Wide hypo w.number)) (Ok a) = e in cc)

pub unless_Ok : {A : Type 0} (b : Bool) (w : BoundsFault) (m n : A) → ◌≡◌ {A = Result A BoundsFault} (if b then Err w else Ok m) (Ok n) → m ≡ n
unless_Ok {A} true w m n e = absurd (let k : ◌≡◌ {A = Result A BoundsFault} (Err w) (Ok n) = e in cc)
unless_Ok false w m n e = same_answer m n e

when_Ok : {A : Type 0} (b : Bool) (w : BoundsFault) (m n : A) → ◌≡◌ {A = Result A BoundsFault} (if b then Ok m else Err w) (Ok n) → m ≡ n
when_Ok true w m n e = same_answer m n e
when_Ok {A} false w m n e = absurd (let k : ◌≡◌ {A = Result A BoundsFault} (Err w) (Ok n) = e in cc)

bound_told : (hypo : ℕ) (bound : Expr) (row : List Value) (n : ℤ) → bound_asked hypo bound row ≡ Ok n → number (value (row ∷ []) bound) ≡ n
unfolding bound_asked
bound_told hypo bound row n e =
    let both = and_then-Ok (told hypo (asked (row ∷ []) bound)) (λ n. if nat_lt (10 ^ 15) (unsigned_abs n) then Err (fault.Wide hypo n) else Ok n) n e in
    agreed (row ∷ []) bound both.0 (untold hypo (asked (row ∷ []) bound) both.0 both.1) ∙ unless_Ok (nat_lt (10 ^ 15) (unsigned_abs both.0)) (fault.Wide hypo both.0) both.0 n both.2

module _ (hypo : ℕ) (droppable : Bool) (at : ℕ) (row : List Value) where
  cell_with : QBound → ℤ → ℤ → WorldColumn
  cell_with bound lo hi = record { hypo = hypo; row = at; cell = Some bound.column; droppable = droppable; lo = lo; hi = hi }

  cell_told : (bound : QBound) (c : WorldColumn) → cell_column hypo droppable at row bound ≡ Ok c → c ≡ cell_choice hypo droppable at row bound
  unfolding cell_column cell_choice cell_with
  cell_told bound c e =
      let low = and_then-Ok (bound_asked hypo bound.lo row) (λ lo. and_then (bound_asked hypo bound.hi row) (λ hi. if int_lt hi lo then Err (fault.EmptyBounds hypo (at + 1)) else Ok (cell_with bound lo hi))) c e in
      let high = and_then-Ok (bound_asked hypo bound.hi row) (λ hi. if int_lt hi low.0 then Err (fault.EmptyBounds hypo (at + 1)) else Ok (cell_with bound low.0 hi)) c low.2 in
      sym (unless_Ok (int_lt high.0 low.0) (fault.EmptyBounds hypo (at + 1)) (cell_with bound low.0 high.0) c high.2)
      ∙ ap₂ (cell_with bound) (sym (bound_told hypo bound.lo row low.0 low.1)) (sym (bound_told hypo bound.hi row high.0 high.1))

  pub column_told : (c : WorldColumn) (made more : List WorldColumn) → with_column c made ≡ Ok more → more ≡ made ++ c ∷ []
  unfolding with_column
  column_told c made more e = sym (when_Ok (nat_lt (length made) 20000000) fault.TooManyWorldColumns (made ++ c ∷ []) more e)

  cells_told : (set : List QBound) (n : ℕ) (made more : List WorldColumn) → turns (with_cell hypo droppable at row) n set made ≡ Ok more → more ≡ made ++ map (cell_choice hypo droppable at row) set
  unfolding turns with_cell
  cells_told [] n made more e = sym (same_answer made more e) ∙ sym (append_nil made)
  cells_told (bound ∷ set) n made more e =
      let both = and_then-Ok (with_cell hypo droppable at row n bound made) (λ more. turns (with_cell hypo droppable at row) (n + 1) set more) more e in
      let cell = and_then-Ok (cell_column hypo droppable at row bound) (λ column. with_column column made) both.0 both.1 in
      let here = column_told cell.0 made both.0 cell.2 ∙ ap (λ (c : WorldColumn). made ++ c ∷ []) (cell_told bound cell.0 cell.1) in
      cells_told set (n + 1) both.0 more both.2
      ∙ ap (λ (l : List WorldColumn). l ++ map (cell_choice hypo droppable at row) set) here
      ∙ append_assoc made (cell_choice hypo droppable at row bound ∷ []) (map (cell_choice hypo droppable at row) set)

presence_told : (hypo : ℕ) (droppable : Bool) (at : ℕ) (made more : List WorldColumn) → with_presence hypo droppable at made ≡ Ok more → more ≡ made ++ presence_choice hypo droppable at
unfolding with_presence
presence_told hypo true at made more e = column_told hypo true at [] (presence_column hypo at) made more e
presence_told hypo false at made more e = sym (same_answer made more e) ∙ sym (append_nil made)

may_told : (hypo : ℕ) (filter : Option Cond) (row : List Value) (b : Bool) → inside hypo filter row ≡ Ok b → may_change filter row ≡ b
unfolding inside may_change
may_told hypo None row b e = same_answer true b e
may_told hypo (Some test) row b e = truth_agreed (row ∷ []) test b (untold hypo (truth_asked (row ∷ []) test) b e)

row_told : (hypo : ℕ) (table : QHypo) (at : ℕ) (row : List Value) (made more : List WorldColumn) → with_row hypo table at row made ≡ Ok more → more ≡ made ++ choices hypo table at row
unfolding with_row choices
row_told hypo table at row made more e =
    let both = and_then-Ok (inside hypo table.filter row) (λ may_change. if may_change then and_then (with_presence hypo table.droppable at made) (λ more. turns (with_cell hypo table.droppable at row) 0 table.set more) else Ok made) more e in
    by_test both.0 (may_told hypo table.filter row both.0 both.1) both.2
  where
    by_test : (b : Bool) → may_change table.filter row ≡ b
        → (if b then and_then (with_presence hypo table.droppable at made) (λ more. turns (with_cell hypo table.droppable at row) 0 table.set more) else Ok made) ≡ Ok more
        → more ≡ made ++ (if may_change table.filter row then presence_choice hypo table.droppable at ++ map (cell_choice hypo table.droppable at row) table.set else [])
    by_test true t h =
        let both = and_then-Ok (with_presence hypo table.droppable at made) (λ more. turns (with_cell hypo table.droppable at row) 0 table.set more) more h in
        rw t (cells_told hypo table.droppable at row table.set 0 both.0 more both.2
        ∙ ap (λ (l : List WorldColumn). l ++ map (cell_choice hypo table.droppable at row) table.set) (presence_told hypo table.droppable at made both.0 both.1)
        ∙ append_assoc made (presence_choice hypo table.droppable at) (map (cell_choice hypo table.droppable at row) table.set))
    by_test false t h = rw t (sym (same_answer made more h) ∙ sym (append_nil made))

rows_told : (hypo : ℕ) (table : QHypo) (rows : Rows) (at : ℕ) (made more : List WorldColumn) → turns (with_row hypo table) at rows made ≡ Ok more → more ≡ made ++ rows_choices hypo table at rows
unfolding turns rows_choices
rows_told hypo table [] at made more e = sym (same_answer made more e) ∙ sym (append_nil made)
rows_told hypo table (row ∷ rows) at made more e =
    let both = and_then-Ok (with_row hypo table at row made) (λ more. turns (with_row hypo table) (at + 1) rows more) more e in
    rows_told hypo table rows (at + 1) both.0 more both.2
    ∙ ap (λ (l : List WorldColumn). l ++ rows_choices hypo table (at + 1) rows) (row_told hypo table at row made both.0 both.1)
    ∙ append_assoc made (choices hypo table at row) (rows_choices hypo table (at + 1) rows)

hypos_told : (tables : Tables) (hypos : List QHypo) (hypo : ℕ) (made more : List WorldColumn) → turns (with_hypo tables) hypo hypos made ≡ Ok more → more ≡ made ++ all_choices tables hypo hypos
unfolding turns with_hypo all_choices
hypos_told tables [] hypo made more e = sym (same_answer made more e) ∙ sym (append_nil made)
hypos_told tables (table ∷ others) hypo made more e =
    let both = and_then-Ok (with_hypo tables hypo table made) (λ more. turns (with_hypo tables) (hypo + 1) others more) more e in
    hypos_told tables others (hypo + 1) both.0 more both.2
    ∙ ap (λ (l : List WorldColumn). l ++ all_choices tables (hypo + 1) others) (rows_told hypo table (rows_of tables table.table) 0 made both.0 both.1)
    ∙ append_assoc made (rows_choices hypo table 0 (rows_of tables table.table)) (all_choices tables (hypo + 1) others)

-- the world columns are the choices
pub columns_told : (query : Query) (tables : Tables) (columns : List WorldColumn) → columns_of query tables ≡ Ok columns → columns ≡ all_choices tables 0 query.hypos
unfolding columns_of
columns_told query tables columns e = hypos_told tables query.hypos 0 [] columns e

pub chosen : (query : Query) (tables : Tables) (result : Result (List WorldColumn) BoundsFault) → GivesColumns (columns_of query tables) result → IfOk result (λ columns. columns ≡ all_choices tables 0 query.hypos)
chosen query tables (Ok columns) e = columns_told query tables columns e
chosen query tables (Err fault) e = tt
