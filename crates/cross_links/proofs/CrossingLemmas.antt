-- A live entry is met by the walk along its row and by that along its column.
use Rattle.std.proofs.Common.{◌≡◌, ℕ, ◌<◌, zero, suc, List, [], ◌∷◌, length, map, filter, get_or, Bool, true, false, eqb, cond, Contains, arith, refl}
use Rattle.std.proofs.lemmas.Bool.{eqb-true, eq-eqb}
use Rattle.cross_links.specs.declared.entry.Entry.{Entry}
use Rattle.cross_links.specs.Entries.{columns_in, rows_in}
use Rattle.cross_links.specs.Layout.{Layout, live, live_columns, live_rows}

-- an index at which a test passes and a function gives a number
record Found {X : Type 0} (p : X → Bool) (f : X → ℕ) (xs : List X) (d : X) (y : ℕ) : Type 0 where
  at : ℕ
  within : at < length xs
  passes : p (get_or xs at d) ≡ true
  gives : f (get_or xs at d) ≡ y

found-later : {X : Type 0} (p : X → Bool) (f : X → ℕ) (x : X) (xs : List X) (d : X) (y : ℕ) → Found p f xs d y → Found p f (x ∷ xs) d y
found-later p f x xs d y found = record { at = suc found.at; within = omega (arith, found.within); passes = found.passes; gives = found.gives }

-- what a list of numbers of kept elements contains
found_from : {X : Type 0} (p : X → Bool) (f : X → ℕ) (xs : List X) (d : X) (y : ℕ) → Contains (map f (filter p xs)) y → Found p f xs d y
found_from p f [] d y has = absurd (omega (arith, has.1))
found_from {X} p f (x ∷ xs) d y has = by_test (p x) refl (λ has. found-later p f x xs d y (found_from p f xs d y has)) has
  where
    by_test : (b : Bool) → p x ≡ b → (Contains (map f (filter p xs)) y → Found p f (x ∷ xs) d y) → Contains (map f (cond b (x ∷ filter p xs) (filter p xs))) y → Found p f (x ∷ xs) d y
    by_test true e later (zero, lt, is) = record { at = 0; within = omega arith; passes = e; gives = is }
    by_test true e later (suc k, lt, is) = later (k, omega arith, is)
    by_test false e later has = later has

found_into : {X : Type 0} (p : X → Bool) (f : X → ℕ) (xs : List X) (d : X) (y k : ℕ) → k < length xs → p (get_or xs k d) ≡ true → f (get_or xs k d) ≡ y → Contains (map f (filter p xs)) y
found_into p f [] d y k lt passes gives = absurd (omega arith)
found_into p f (x ∷ xs) d y zero lt passes gives = rw passes (0, omega arith, gives)
found_into {X} p f (x ∷ xs) d y (suc k) lt passes gives = by_test (p x) (found_into p f xs d y k (omega arith) passes gives)
  where
    by_test : (b : Bool) → Contains (map f (filter p xs)) y → Contains (map f (cond b (x ∷ filter p xs) (filter p xs))) y
    by_test true has = (suc has.0, omega (arith, has.1), has.2)
    by_test false has = has

crosses : (entries : List Entry) (row column : ℕ) → Contains (columns_in entries row) column → Contains (rows_in entries column) row
crosses entries row column has =
    let d : Entry = record { row = 0; column = 0 } in
    let found = found_from (λ (e : Entry). eqb e.row row) (λ e. e.column) entries d column has in
    found_into (λ (e : Entry). eqb e.column column) (λ e. e.row) entries d row found.at found.within (eq-eqb _ column found.gives) (eqb-true _ row found.passes)

crosses_back : (entries : List Entry) (row column : ℕ) → Contains (rows_in entries column) row → Contains (columns_in entries row) column
crosses_back entries row column has =
    let d : Entry = record { row = 0; column = 0 } in
    let found = found_from (λ (e : Entry). eqb e.column column) (λ e. e.row) entries d row has in
    found_into (λ (e : Entry). eqb e.row row) (λ e. e.column) entries d column found.at found.within (eq-eqb _ row found.gives) (eqb-true _ column found.passes)

-- a live column of a row has the row among its live rows
pub live_rows-crossing : (grid : Layout) (row column : ℕ) → Contains (live_columns grid row) column → Contains (live_rows grid column) row
live_rows-crossing grid row column = crosses (live grid) row column

-- and the other way round
pub live_columns-crossing : (grid : Layout) (row column : ℕ) → Contains (live_rows grid column) row → Contains (live_columns grid row) column
live_columns-crossing grid row column = crosses_back (live grid) row column
