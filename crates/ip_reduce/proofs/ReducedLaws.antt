-- What is left of a program, for those who split it: its columns rise, lie in the grid, and have each live entry.
use Rattle.std.proofs.Common.{◌≡◌, inl, inr, ◌+◌, ◌<◌, ℕ, zero, suc, pos, Bool, true, cond, List, [], ◌∷◌, length, get_or, filter, sym, subst, arith}
use Rattle.std.specs.List.{All, Contains, flat_map, range_with_len}
use Rattle.std.specs.List.Sorted.{IsStrictlyIncreasing}
use Rattle.std.specs.Prelude.{not}
use Rattle.std.proofs.lemmas.Bool.{cases_lt}
use Rattle.std.proofs.lemmas.List.Elements.{All-nil, All-append, All-map, All-filter, All-head, All-tail, All-contains, Contains-get_or, Contains-append_left, Contains-append_right, filter-append}
use Rattle.std.proofs.lemmas.List.Elements.{filter_passes as passes}
use Rattle.std.proofs.lemmas.List.FromFn.{length-range_with_len, get_or-range_with_len}
use Rattle.std.proofs.lemmas.List.Kept.{IsStrictlyIncreasing-filter}
use Rattle.cross_links.specs.declared.entry.Entry.{Entry}
use Rattle.cross_links.specs.Layout.{live}
use Rattle.ip_rows.specs.declared.Bounds.{Bounds}
use Rattle.ip_rows.specs.declared.rows.Coef.{Coef}
use Rattle.ip_rows.specs.declared.program.Program.{Program}
use Rattle.ip_rows.specs.Programs.{IsWellFormed, sides_of, is_fixed, row_at}
use Rattle.ip_reduce.specs.declared.outcome.Reduced.{Reduced}
use Rattle.ip_reduce.specs.Rows.{open_terms}
use Rattle.ip_reduce.specs.Reductions.{entries_of, IsReduced}
use Rattle.ip_reduce.proofs.EntryLemmas.{range_push, entry}
use Rattle.ip_reduce.proofs.UnlinkLemmas.{range_below}

range_rises : (n : ℕ) → IsStrictlyIncreasing (range_with_len 0 n)
range_rises n k lt =
    let size = length-range_with_len 0 n in
    let one = get_or-range_with_len 0 n k 0 (omega arith) in
    let two = get_or-range_with_len 0 n (k + 1) 0 (omega arith) in
    omega arith

-- a number that passes is among those that do
among : (p : ℕ → Bool) (n k : ℕ) → k < n → p k ≡ true → Contains (filter p (range_with_len 0 n)) k
among p zero k lt pass = absurd (omega arith)
among p (suc n) k lt pass =
    let more : n + 1 ≡ suc n = omega arith in
    subst (λ m. Contains (filter p (range_with_len 0 m)) k) more
    (subst (λ (xs : List ℕ). Contains (filter p xs) k) (sym (range_push n))
    (subst (λ (xs : List ℕ). Contains xs k) (sym (filter-append p (range_with_len 0 n) (n ∷ [])))
    (elim (cases_lt k n) [
      | inl less ↦ Contains-append_left (filter p (range_with_len 0 n)) (filter p (n ∷ [])) k (among p n k less pass)
      | inr same ↦
          let here : k ≡ n = omega arith in
          let last : p n ≡ true = subst (λ m. p m ≡ true) here pass in
          Contains-append_right (filter p (range_with_len 0 n)) (filter p (n ∷ [])) k (subst (λ b. Contains (cond b (n ∷ []) []) k) (sym last) (0, omega arith, sym here))
    ])))

module _ (program : Program) (formed : IsWellFormed program) (reduced : Reduced) (state : IsReduced program reduced) where
  abbrev sides : List Bounds
  sides = sides_of program.columns

  pub columns_rise : IsStrictlyIncreasing reduced.columns
  columns_rise =
      subst (λ (xs : List ℕ). IsStrictlyIncreasing xs) (sym state.columns)
      (IsStrictlyIncreasing-filter (λ column. not (is_fixed sides column)) (range_with_len 0 (length program.columns)) (range_rises (length program.columns)))

  pub columns_within : All (λ column. column < reduced.grid.columns) reduced.columns
  columns_within =
      subst (λ (xs : List ℕ). All (λ column. column < reduced.grid.columns) xs) (sym state.columns)
      (All-filter (λ column. not (is_fixed sides column)) (λ column. column < reduced.grid.columns) (range_with_len 0 (length program.columns))
      (subst (λ n. All (λ column. column < n) (range_with_len 0 (length program.columns))) (sym state.grid_columns) (range_below (length program.columns))))

  abbrev IsOpen : Entry → Type 0
  IsOpen e = Contains reduced.columns e.column

  row_open : (n : ℕ) → n < length program.rows → All IsOpen (entries_of sides program.rows n)
  row_open n lt =
      let terms = (row_at program.rows n).terms in
      All-map IsOpen (entry n) (open_terms sides terms) (λ k d below.
      let term = get_or (open_terms sides terms) k d in
      let there : term.column < length program.columns = All-filter (λ (t : Coef). not (is_fixed sides t.column)) (λ (t : Coef). t.column < length program.columns) terms (formed.rows n (record { terms = []; least = pos 0 }) lt).there k d below in
      subst (λ (xs : List ℕ). Contains xs term.column) (sym state.columns) (among (λ column. not (is_fixed sides column)) (length program.columns) term.column there (passes (λ (t : Coef). not (is_fixed sides t.column)) terms k d below)))

  rows_open : (numbers : List ℕ) → All (λ n. n < length program.rows) numbers → All IsOpen (flat_map (entries_of sides program.rows) numbers)
  rows_open [] below = All-nil IsOpen
  rows_open (n ∷ numbers) below =
      All-append IsOpen (entries_of sides program.rows n) (flat_map (entries_of sides program.rows) numbers)
      (row_open n (All-head (λ n. n < length program.rows) n numbers below)) (rows_open numbers (All-tail (λ n. n < length program.rows) n numbers below))

  pub live_open : (row column : ℕ) → Contains (live reduced.grid) (record { row = row; column = column }) → Contains reduced.columns column
  live_open row column h =
      All-contains IsOpen (flat_map (entries_of sides program.rows) reduced.full) (record { row = row; column = column })
      (rows_open reduced.full (λ k d lt. ((state.full (get_or reduced.full k d)).0 (Contains-get_or reduced.full k d lt)).there))
      (subst (λ (es : List Entry). Contains es (record { row = row; column = column })) state.grid h)
