-- the terms of each row rise by column, since a presence stands before its cells
use Rattle.std.proofs.Common.{◌≡◌, ◌≢◌, ℕ, zero, suc, ℤ, pos, ◌+◌, ◌<◌, ◌≤◌, Bool, true, false, List, [], ◌∷◌, ◌++◌, length, map, get_or, refl, sym, ◌∙◌, subst, arith, if◌then◌else◌}
use Rattle.std.specs.Prelude.{neg_ℤ, All}
use Rattle.std.specs.Ordering.{int_eq}
use Rattle.std.proofs.lemmas.List.Elements.{All-append, All-cons, All-nil}
use Rattle.std.proofs.lemmas.Bool.Decides.{Decides-int_eq}
use Rattle.base_kit.specs.declared.value.Value.{Value}
use Rattle.ip_rows.specs.declared.rows.Coef.{Coef}
use Rattle.ip_rows.specs.declared.rows.IpRow.{IpRow}
use Rattle.ip_rows.specs.Rows.{AreTerms}
use Rattle.tiql_query.specs.declared.relation.QBound.{QBound}
use Rattle.tiql_query.specs.declared.relation.QHypo.{QHypo}
use Rattle.tiql_query.specs.declared.world_column.WorldColumn.{WorldColumn}
use Rattle.world_def.specs.Columns.{Rows, Tables, rows_of}
use Rattle.world_def.specs.Meaning.{may_change, cell_choice, presence_choice, choices, rows_choices, all_choices}
use Rattle.world_def.proofs.Choices.{columns_told}
use Rattle.drop_rows.specs.Cells.{tie, low_row, high_row, may_drop, column_rows, presence_at, rows_from, cell_rows}
use Rattle.drop_rows.specs.Told.{AreFormed}

-- each cell of a row that may be left out has a presence before it
abbrev AreLed : ℕ → ℕ → List WorldColumn → Type 0
AreLed presence at [] = Unit {0}
AreLed presence at (c ∷ columns) = (may_drop c ≡ true → presence < at) × AreLed (presence_at presence at c) (at + 1) columns

led_join : (columns more : List WorldColumn) (presence at : ℕ) → AreLed presence at columns → ((p a : ℕ) → AreLed p a more) → AreLed presence at (columns ++ more)
led_join [] more presence at led later = later presence at
led_join (c ∷ columns) more presence at led later = (led.0, led_join columns more (presence_at presence at c) (at + 1) led.1 later)

led_cells : (hypo : ℕ) (droppable : Bool) (row : ℕ) (base : List Value) (set : List QBound) (presence at : ℕ) → (droppable ≡ true → presence < at) → AreLed presence at (map (cell_choice hypo droppable row base) set)
unfolding cell_choice
led_cells hypo droppable row base [] presence at before = tt
led_cells hypo droppable row base (bound ∷ set) presence at before = (before, led_cells hypo droppable row base set presence (at + 1) (λ may. let lt = before may in omega (arith, lt)))

led_row : (hypo : ℕ) (table : QHypo) (row : ℕ) (base : List Value) (presence at : ℕ) → AreLed presence at (choices hypo table row base)
unfolding choices
led_row hypo table row base presence at = by_test (may_change table.filter base) table.droppable
  where
    by_test : (b d : Bool) → AreLed presence at (if b then presence_choice hypo d row ++ map (cell_choice hypo d row base) table.set else [])
    by_test false d = tt
    by_test true false = led_cells hypo false row base table.set presence at (λ may. absurd (let no : false ≡ true = may in cc))
    by_test true true = ((λ may. absurd (let no : false ≡ true = may in cc)), led_cells hypo true row base table.set at (at + 1) (λ may. omega arith))

led_rows : (hypo : ℕ) (table : QHypo) (bases : Rows) (row presence at : ℕ) → AreLed presence at (rows_choices hypo table row bases)
unfolding rows_choices
led_rows hypo table [] row presence at = tt
led_rows hypo table (base ∷ bases) row presence at = led_join (choices hypo table row base) (rows_choices hypo table (row + 1) bases) presence at (led_row hypo table row base presence at) (led_rows hypo table bases (row + 1))

led_tables : (tables : Tables) (hypos : List QHypo) (hypo presence at : ℕ) → AreLed presence at (all_choices tables hypo hypos)
unfolding all_choices
led_tables tables [] hypo presence at = tt
led_tables tables (table ∷ others) hypo presence at =
    led_join (rows_choices hypo table 0 (rows_of tables table.table)) (all_choices tables (hypo + 1) others) presence at (led_rows hypo table (rows_of tables table.table) 0 presence at) (led_tables tables others (hypo + 1))

-- one term, or two that rise
module _ (columns factor_at sign_at : ℕ) (factor sign : ℤ) (some : sign ≢ pos 0) (within : sign_at < columns) where
  last : Coef
  last = record { factor = sign; column = sign_at }

  first : Coef
  first = record { factor = factor; column = factor_at }

  one_term : AreTerms columns (last ∷ [])
  unfolding last
  one_term = record {
    rising = λ k lt. absurd (omega (arith, lt));
    there = All-cons (λ (t : Coef). t.column < columns) last [] within (All-nil (λ (t : Coef). t.column < columns));
    factors = All-cons (λ (t : Coef). t.factor ≢ pos 0) last [] some (All-nil (λ (t : Coef). t.factor ≢ pos 0));
  }

  two_terms : factor ≢ pos 0 → factor_at < sign_at → AreTerms columns (first ∷ last ∷ [])
  unfolding last first
  two_terms other less = record {
    rising = rising;
    there = All-cons (λ (t : Coef). t.column < columns) first (last ∷ []) (omega (arith, less, within)) one_term.there;
    factors = All-cons (λ (t : Coef). t.factor ≢ pos 0) first (last ∷ []) other one_term.factors;
  }
    where
      rising : (k : ℕ) → k + 1 < 2 → get_or (factor_at ∷ sign_at ∷ []) k 0 < get_or (factor_at ∷ sign_at ∷ []) (k + 1) 0
      rising zero lt = less
      rising (suc k) lt = absurd (omega (arith, lt))

  tie_formed : factor_at < sign_at → AreTerms columns (tie factor factor_at sign sign_at).terms
  unfolding tie last first
  tie_formed less = by_test (int_eq factor (pos 0)) refl
    where
      by_test : (b : Bool) → int_eq factor (pos 0) ≡ b → AreTerms columns (if b then last ∷ [] else first ∷ last ∷ [])
      by_test true e = one_term
      by_test false e = two_terms (λ is. let no : true ≡ false = sym ((Decides-int_eq factor (pos 0)).1 is) ∙ e in cc) less

column_formed : (size presence at : ℕ) (c : WorldColumn) → at < size → (may_drop c ≡ true → presence < at) → All (λ (row : IpRow). AreTerms size row.terms) (column_rows presence at c)
unfolding column_rows
column_formed size presence at c within before = by_test (may_drop c) refl
  where
    IsFormed : IpRow → Type 0
    IsFormed row = AreTerms size row.terms

    by_test : (b : Bool) → may_drop c ≡ b → All IsFormed (if b then low_row presence at c.lo ∷ high_row presence at c.hi ∷ [] else [])
    by_test false may = All-nil IsFormed
    by_test true may =
        All-cons IsFormed (low_row presence at c.lo) (high_row presence at c.hi ∷ []) (tie_formed size presence at (neg_ℤ c.lo) (pos 1) (λ e. let no : pos 1 ≡ pos 0 = e in cc) within (before may))
        (All-cons IsFormed (high_row presence at c.hi) [] (tie_formed size presence at c.hi (neg_ℤ (pos 1)) (λ e. let no : neg_ℤ (pos 1) ≡ pos 0 = e in cc) within (before may)) (All-nil IsFormed))

rows_formed : (size : ℕ) (columns : List WorldColumn) (presence at : ℕ) → at + length columns ≤ size → AreLed presence at columns → All (λ (row : IpRow). AreTerms size row.terms) (rows_from presence at columns)
unfolding rows_from
rows_formed size [] presence at within led = All-nil (λ (row : IpRow). AreTerms size row.terms)
rows_formed size (c ∷ columns) presence at within led =
    All-append (λ (row : IpRow). AreTerms size row.terms) (column_rows presence at c) (rows_from (presence_at presence at c) (at + 1) columns)
    (column_formed size presence at c (omega (arith, within)) led.0)
    (rows_formed size columns (presence_at presence at c) (at + 1) (omega (arith, within)) led.1)

pub are_formed : (columns : List WorldColumn) (rows : List IpRow) → rows ≡ cell_rows columns → AreFormed columns rows
unfolding AreFormed
are_formed columns rows is query tables made =
    let led = subst (AreLed 0 0) (sym (columns_told query tables columns made)) (led_tables tables query.hypos 0 0 0) in
    subst (All (λ (row : IpRow). AreTerms (length columns) row.terms)) (sym is) (rows_formed (length columns) columns 0 0 (omega arith) led)
