-- loops that take items one after the other
use Rattle.std.proofs.Common.{◌≡◌, ◌≢◌, ℕ, Bool, refl, ◌+◌, ◌<◌, ◌≤◌, List, length, get_or, drop, sym, ◌∙◌}
use Rattle.std.specs.Prelude.{Result, Ok, Err}
use Rattle.std.proofs.lemmas.List.{drop_more, drop_all}
use Rattle.world_def.specs.declared.fault.BoundsFault.{BoundsFault}
use Rattle.world_def.specs.declared.fault.BoundsFault.TheVariants as fault
use Rattle.world_def.specs.Turns.{turns}
use Rattle.world_def.specs.Columns.{Tables, Rows, rows_of, with_cell, with_row, with_hypo}
use Rattle.base_kit.specs.declared.value.Value.{Value}
use Rattle.tiql_query.specs.declared.relation.QBound.{QBound}
use Rattle.tiql_query.specs.declared.relation.QHypo.{QHypo}
use Rattle.tiql_query.specs.declared.world_column.WorldColumn.{WorldColumn}

module _ {E S X : Type 0} (f : ℕ → X → S → Result S E) (xs : List X) where
  pub turns-step : (i : ℕ) (s next : S) (x : X) (r : Result S E) → i < length xs → x ≡ get_or xs i x → f i x s ≡ Ok next → turns f i (drop i xs) s ≡ r → turns f (i + 1) (drop (i + 1) xs) next ≡ r
  unfolding turns
  turns-step i s next x r lt is e h = sym (rw (drop_more xs i x lt, ← is, e)) ∙ h

  pub turns-end : (i : ℕ) (s : S) (r : Result S E) → length xs ≤ i → turns f i (drop i xs) s ≡ r → r ≡ Ok s
  unfolding turns
  turns-end i s r le h = sym h ∙ rw (drop_all i xs le)

module _ {S X : Type 0} (f : ℕ → X → S → Result S BoundsFault) (xs : List X) where
  pub turns-err : (i : ℕ) (s : S) (x : X) (e : BoundsFault) (r : Result S BoundsFault) → i < length xs → x ≡ get_or xs i x → (e ≢ fault.Memory → f i x s ≡ Err e) → turns f i (drop i xs) s ≡ r → e ≢ fault.Memory → r ≡ Err e
  unfolding turns
  turns-err i s x e r lt is gives h ne = sym h ∙ rw (drop_more xs i x lt, ← is, gives ne)

-- cells do not ask for their place in SET
pub cell_anywhere : (hypo : ℕ) (droppable : Bool) (at : ℕ) (row : List Value) (place : ℕ) (bound : QBound) (made : List WorldColumn) → with_cell hypo droppable at row place bound made ≡ with_cell hypo droppable at row 0 bound made
unfolding with_cell
cell_anywhere hypo droppable at row place bound made = refl

-- the rows of a hypothetical table's table
pub hypo_rows : (tables : Tables) (number : ℕ) (hypo : QHypo) (made : List WorldColumn) (rows : Rows) → rows ≡ rows_of tables hypo.table → with_hypo tables number hypo made ≡ turns (with_row number hypo) 0 rows made
unfolding with_hypo
hypo_rows tables number hypo made rows is = rw is refl
