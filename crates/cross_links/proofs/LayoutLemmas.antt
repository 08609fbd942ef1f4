-- What is live after a row was unlinked.
use Rattle.std.proofs.Common.{◌≡◌, ℕ, ◌+◌, ◌<◌, List, [], ◌∷◌, length, map, filter, Bool, true, false, not, eqb, ◌||◌, cond, slice_set, Contains, refl, sym, ◌∙◌, ap, subst}
use Rattle.std.specs.List.{list_any}
use Rattle.std.proofs.lemmas.Bool.{ne_eqb, eqb-true, true≢false}
use Rattle.cross_links.specs.declared.entry.Entry.{Entry}
use Rattle.cross_links.specs.Entries.{columns_in}
use Rattle.cross_links.specs.Layout.{Layout, linked_among, live, live_columns, stack}
use Rattle.cross_links.specs.Rings.{Stays}
use Rattle.cross_links.specs.Linkage.{rows_on}
use Rattle.cross_links.proofs.StackLemmas.{Stays-from_missing, rows_on-push}

-- what passes neither test
filter-neither : {X : Type 0} (p q : X → Bool) (xs : List X) → filter (λ x. not (p x || q x)) xs ≡ filter (λ x. not (p x)) (filter (λ x. not (q x)) xs)
filter-neither p q [] = refl
filter-neither {X} p q (x ∷ xs) = by_tests (p x) (q x) refl (filter-neither p q xs)
  where
    by_tests : (a b : Bool) → p x ≡ a → filter (λ x. not (p x || q x)) xs ≡ filter (λ x. not (p x)) (filter (λ x. not (q x)) xs)
        → cond (not (a || b)) (x ∷ filter (λ x. not (p x || q x)) xs) (filter (λ x. not (p x || q x)) xs) ≡ filter (λ x. not (p x)) (cond (not b) (x ∷ filter (λ x. not (q x)) xs) (filter (λ x. not (q x)) xs))
    by_tests true true e rest = rest
    by_tests true false e rest = rw e rest
    by_tests false true e rest = rest
    by_tests false false e rest = rw e (ap (λ ys. x ∷ ys) rest)

-- a test that implies another one
filter-implied : {X : Type 0} (p q : X → Bool) (xs : List X) → ((x : X) → p x ≡ true → q x ≡ true) → filter p (filter q xs) ≡ filter p xs
filter-implied p q [] implied = refl
filter-implied {X} p q (x ∷ xs) implied = by_tests (p x) (q x) refl refl (filter-implied p q xs implied)
  where
    by_tests : (a b : Bool) → p x ≡ a → q x ≡ b → filter p (filter q xs) ≡ filter p xs → filter p (cond b (x ∷ filter q xs) (filter q xs)) ≡ cond a (x ∷ filter p xs) (filter p xs)
    by_tests true true e f rest = rw e (ap (λ ys. x ∷ ys) rest)
    by_tests true false e f rest = absurd (true≢false (sym (implied x e) ∙ f))
    by_tests false true e f rest = rw e rest
    by_tests false false e f rest = rest

-- a row that stays is none of the unlinked ones
pub none_is : (unlinked : List ℕ) (row : ℕ) → Stays unlinked row → list_any (λ r. eqb r row) unlinked ≡ false
none_is [] row stays = refl
none_is (r ∷ unlinked) row stays = rw (ne_eqb r row stays.0, none_is unlinked row stays.1)

-- all entries of a linked row are live
columns_in-linked : (unlinked : List ℕ) (row : ℕ) (entries : List Entry) → Stays unlinked row → columns_in (linked_among unlinked entries) row ≡ columns_in entries row
columns_in-linked unlinked row entries stays =
    ap (map (λ (e : Entry). e.column))
    (filter-implied (λ (e : Entry). eqb e.row row) (λ e. not (list_any (λ r. eqb r e.row) unlinked)) entries
    (λ e same. ap not (none_is unlinked e.row (subst (Stays unlinked) (sym (eqb-true e.row row same)) stays))))

-- the live entries are those of the other rows
pub live-unlinked : (grid : Layout) (row : ℕ) → live (record grid { unlinked = row ∷ grid.unlinked }) ≡ filter (λ e. not (eqb row e.row)) (live grid)
live-unlinked grid row = filter-neither (λ e. eqb row e.row) (λ e. list_any (λ r. eqb r e.row) grid.unlinked) grid.entries

-- the row is on the stack with the columns that were live
pub stack-unlinked : (grid : Layout) (row : ℕ) → ¬ Contains grid.unlinked row
    → stack (record grid { unlinked = row ∷ grid.unlinked }) ≡ (row, live_columns grid row) ∷ stack grid
stack-unlinked grid row missing =
    ap (λ columns. (row, columns) ∷ stack grid) (sym (columns_in-linked grid.unlinked row grid.entries (Stays-from_missing grid.unlinked row missing)))

-- what a push on the stack does to what a grid holds
pub layout-push : (grid : Layout) (rows columns : ℕ) (entries : List Entry) (on : List ℕ) (depth row : ℕ) → depth < length on
    → record { rows = rows; columns = columns; entries = entries; unlinked = rows_on on depth } ≡ grid
    → record { rows = rows; columns = columns; entries = entries; unlinked = rows_on (slice_set on depth row) (depth + 1) } ≡ record grid { unlinked = row ∷ grid.unlinked }
layout-push grid rows columns entries on depth row lt is =
    ap (λ unlinked. record { rows = rows; columns = columns; entries = entries; unlinked = unlinked }) (rows_on-push on depth row lt)
    ∙ ap (λ (g : Layout). record g { unlinked = row ∷ g.unlinked }) is
