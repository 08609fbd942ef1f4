-- The stack of the rows that were unlinked.
use Rattle.std.proofs.Common.{◌≡◌, ℕ, ◌+◌, ◌<◌, ◌≤◌, zero, suc, List, [], ◌∷◌, length, slice_index, slice_index_or, slice_set, reverse, take, arith, sym, ◌∙◌, ap, subst, Contains, true, false, eqb, inl, inr}
use Rattle.std.specs.List.{IsDistinct, AllByRecursion, list_any}
use Rattle.std.proofs.lemmas.Bool.{ne_eqb, eqb-true, or_cases, false≢true}
use Rattle.std.proofs.lemmas.List.{get_or_read, take_more_set, take_more, reverse-append, length-reverse, length-take-le, length-set}
use Rattle.std.proofs.lemmas.Map.Steps.{length-le_from_distinct_below}
use Rattle.cross_links.specs.Rings.{Stays}
use Rattle.cross_links.specs.Linkage.{AreRows, rows_on, IsStack}

-- a row that stays is no element
pub Stays-from_missing : (off : List ℕ) (y : ℕ) → ¬ Contains off y → Stays off y
Stays-from_missing [] y missing = tt
Stays-from_missing (x ∷ off) y missing = ((λ e. missing (0, omega arith, e)), Stays-from_missing off y (λ has. missing (suc has.0, omega (arith, has.1), has.2)))

pub missing_from_stays : (off : List ℕ) (y : ℕ) → Stays off y → ¬ Contains off y
missing_from_stays [] y stays has = absurd (omega (arith, has.1))
missing_from_stays (x ∷ off) y stays (zero, lt, is) = stays.0 is
missing_from_stays (x ∷ off) y stays (suc k, lt, is) = missing_from_stays off y stays.1 (k, omega arith, is)

-- no more rows than there are
apart : (row : ℕ) (rows : List ℕ) → Stays rows row → AllByRecursion (λ y. eqb row y ≡ false) rows
apart row [] stays = tt
apart row (x ∷ rows) stays = (ne_eqb row x (λ e. stays.0 (sym e)), apart row rows stays.1)

distinct : (limit : ℕ) (rows : List ℕ) → AreRows limit rows → IsDistinct eqb rows
unfolding IsDistinct
distinct limit [] are = tt
distinct limit (row ∷ rows) are = (apart row rows are.1, distinct limit rows are.2)

below : (limit : ℕ) (rows : List ℕ) (q : ℕ) → AreRows limit rows → list_any (eqb q) rows ≡ true → q < limit
below limit [] q are has = absurd (false≢true has)
below limit (row ∷ rows) q are has = elim (or_cases (eqb q row) (list_any (eqb q) rows) has) [
  | inl here ↦ omega (arith, eqb-true q row here, are.0)
  | inr there ↦ below limit rows q are.2 there
]

pub room : (limit : ℕ) (rows : List ℕ) → AreRows limit rows → length rows ≤ limit
room limit rows are = length-le_from_distinct_below rows limit (distinct limit rows are) (λ q has. below limit rows q are has)

-- what a push leaves on the stack
pub rows_on-push : (stack : List ℕ) (depth row : ℕ) → depth < length stack → rows_on (slice_set stack depth row) (depth + 1) ≡ row ∷ rows_on stack depth
rows_on-push stack depth row lt = ap reverse (take_more_set stack depth row lt) ∙ reverse-append (take depth stack) (row ∷ [])

-- the last row on the stack
pub rows_on-pop : (stack : List ℕ) (depth : ℕ) → depth < length stack → rows_on stack (depth + 1) ≡ slice_index stack depth ∷ rows_on stack depth
rows_on-pop stack depth lt = ap reverse (take_more stack depth 0 lt) ∙ reverse-append (take depth stack) (slice_index stack depth ∷ [])

-- there is room for a row that is not on the stack
pub has_room : (rows : ℕ) (stack : List ℕ) (depth row : ℕ) → IsStack rows stack depth → row < rows → Stays (rows_on stack depth) row → depth < length stack
has_room rows stack depth row kept lt stays =
    let fits = room rows (row ∷ rows_on stack depth) (lt, stays, kept.rows_once) in
    let count : length (rows_on stack depth) ≡ depth = length-reverse (take depth stack) ∙ length-take-le depth stack (omega (arith, kept.within, kept.room)) in
    omega (arith, kept.room, fits, count)

pub IsStack-push : (rows : ℕ) (stack : List ℕ) (depth row : ℕ) → IsStack rows stack depth → row < rows → Stays (rows_on stack depth) row → IsStack rows (slice_set stack depth row) (depth + 1)
IsStack-push rows stack depth row kept lt stays =
    let fits = has_room rows stack depth row kept lt stays in
    record {
      room = length-set stack depth row ∙ kept.room;
      within = omega (arith, kept.room);
      rows_once = subst (AreRows rows) (sym (rows_on-push stack depth row fits)) (lt, stays, kept.rows_once);
    }

pub IsStack-pop : (rows : ℕ) (stack : List ℕ) (depth : ℕ) → IsStack rows stack (depth + 1)
    → IsStack rows stack depth × (slice_index stack depth < rows) × Stays (rows_on stack depth) (slice_index stack depth)
IsStack-pop rows stack depth kept =
    let top : AreRows rows (slice_index stack depth ∷ rows_on stack depth) = subst (AreRows rows) (rows_on-pop stack depth (omega (arith, kept.room, kept.within))) kept.rows_once in
    (record { room = kept.room; within = omega (arith, kept.within); rows_once = top.2 }, top.0, top.1)

-- what a read of the top of the stack shows
pub record IsPopped (rows : ℕ) (stack : List ℕ) (top depth row : ℕ) : Type 0 where
  pub row_in : row < rows
  pub rest : IsStack rows stack depth
  pub stays : Stays (rows_on stack depth) row
  pub was : rows_on stack top ≡ row ∷ rows_on stack depth

pub popped : (rows : ℕ) (stack : List ℕ) (top depth row : ℕ) → IsStack rows stack top → top ≡ depth + 1 → row ≡ slice_index_or stack depth row → IsPopped rows stack top depth row
popped rows stack top depth row kept top_is read =
    let in_stack : depth < length stack = omega (arith, kept.room, kept.within) in
    let row_is : row ≡ slice_index stack depth = get_or_read stack depth row in_stack read 0 in
    let pop = IsStack-pop rows stack depth (subst (IsStack rows stack) top_is kept) in
    record {
      row_in = omega (arith, pop.1);
      rest = pop.0;
      stays = subst (Stays (rows_on stack depth)) (sym row_is) pop.2;
      was = ap (rows_on stack) top_is ∙ rows_on-pop stack depth in_stack ∙ ap (λ r. r ∷ rows_on stack depth) (sym row_is);
    }
