-- the rows hold at a point exactly where its numbers are tied to the presences
use Rattle.std.proofs.Common.{◌≡◌, ℕ, zero, suc, ℤ, pos, negsuc, ◌+ℤ◌, ◌*ℤ◌, ◌≤ℤ◌, ◌+◌, ◌*◌, ◌<◌, Bool, true, false, List, [], ◌∷◌, ◌++◌, length, drop, get_or, refl, sym, ◌∙◌, ap, subst, arith, if◌then◌else◌}
use Rattle.std.specs.Prelude.{neg_ℤ, is_none, All}
use Rattle.std.specs.Ordering.{int_eq}
use Rattle.std.proofs.lemmas.Int.{ints}
use Rattle.std.proofs.lemmas.List.{drop-drop, get_or-drop, length-append, get_or_append_left, get_or-append-add}
use Rattle.std.proofs.lemmas.List.Elements.{All-append, All-cons, All-nil}
use Rattle.std.proofs.lemmas.Bool.Decides.{Decides-int_eq}
use Rattle.std.proofs.Math.IntN.{*ℤ-one, zero-*ℤ, *ℤ_comm, *ℤ-negsuc, negsuc-*ℤ-pos, pos-*ℤ-pos, neg_ℤ-neg_ℤ}
use Rattle.ip_rows.specs.declared.rows.Coef.{Coef}
use Rattle.ip_rows.specs.declared.rows.IpRow.{IpRow}
use Rattle.ip_rows.specs.Programs.{number_at, sum_at, Holds}
use Rattle.tiql_query.specs.declared.world_column.WorldColumn.{WorldColumn}
use Rattle.drop_rows.specs.Cells.{tie, may_drop, low_row, high_row, column_rows, presence_at, rows_from}
use Rattle.drop_rows.proofs.Ties.{IsTied, AreTied, presence_now}

neg_times_pos : (a : ℤ) (n : ℕ) → neg_ℤ a *ℤ pos n ≡ neg_ℤ (a *ℤ pos n)
neg_times_pos (pos zero) n = zero-*ℤ (pos n) ∙ ap neg_ℤ (sym (zero-*ℤ (pos n)))
neg_times_pos (pos (suc m)) n = negsuc-*ℤ-pos m n ∙ ap neg_ℤ (sym (pos-*ℤ-pos (suc m) n))
neg_times_pos (negsuc m) n = pos-*ℤ-pos (suc m) n ∙ sym (neg_ℤ-neg_ℤ (pos (suc m * n))) ∙ ap neg_ℤ (sym (negsuc-*ℤ-pos m n))

neg_times : (a b : ℤ) → neg_ℤ a *ℤ b ≡ neg_ℤ (a *ℤ b)
neg_times a (pos n) = neg_times_pos a n
neg_times a (negsuc n) = *ℤ-negsuc (neg_ℤ a) n ∙ ap neg_ℤ (neg_times_pos a (suc n)) ∙ ap neg_ℤ (sym (*ℤ-negsuc a n))

one_times : (n : ℤ) → pos 1 *ℤ n ≡ n
unfolding lib.IntN.one
one_times n = *ℤ_comm (pos 1) n ∙ *ℤ-one n

no_first : (a b : ℤ) → a +ℤ pos 0 ≡ (pos 0 *ℤ b) +ℤ a
no_first a b = let z = zero-*ℤ b in omega (arith, ints, z)

no_more : (a b : ℤ) → a +ℤ (b +ℤ pos 0) ≡ a +ℤ b
no_more a b = omega (arith, ints)

low_of : (total low cell first last : ℤ) → total ≡ first +ℤ last → first ≡ neg_ℤ low → last ≡ cell → pos 0 ≤ℤ total → low ≤ℤ cell
low_of total low cell first last t f l h = omega (arith, ints, t, f, l, h)

of_low : (total low cell first last : ℤ) → total ≡ first +ℤ last → first ≡ neg_ℤ low → last ≡ cell → low ≤ℤ cell → pos 0 ≤ℤ total
of_low total low cell first last t f l h = omega (arith, ints, t, f, l, h)

high_of : (total high cell last : ℤ) → total ≡ high +ℤ last → last ≡ neg_ℤ cell → pos 0 ≤ℤ total → cell ≤ℤ high
high_of total high cell last t l h = omega (arith, ints, t, l, h)

of_high : (total high cell last : ℤ) → total ≡ high +ℤ last → last ≡ neg_ℤ cell → cell ≤ℤ high → pos 0 ≤ℤ total
of_high total high cell last t l h = omega (arith, ints, t, l, h)

minus : (n : ℤ) → neg_ℤ (pos 1) *ℤ n ≡ neg_ℤ n
minus n = neg_times (pos 1) n ∙ ap neg_ℤ (one_times n)

all_first : {X : Type 0} (P : X → Type 0) (xs ys : List X) → All P (xs ++ ys) → All P xs
all_first {X} P xs ys all = λ k d lt. subst P (get_or_append_left xs ys d k lt) (all k d (within k lt))
  where
    within : (k : ℕ) → k < length xs → k < length (xs ++ ys)
    within k lt = let long = length-append xs ys in omega (arith, lt, long)

all_rest : {X : Type 0} (P : X → Type 0) (xs ys : List X) → All P (xs ++ ys) → All P ys
all_rest {X} P xs ys all = λ k d lt. subst P (get_or-append-add xs ys k d) (all (length xs + k) d (within k lt))
  where
    within : (k : ℕ) → k < length ys → length xs + k < length (xs ++ ys)
    within k lt = let long = length-append xs ys in omega (arith, lt, long)

module _ (point : List ℤ) where
  -- what a row comes to at the point
  sum_of : (factor : ℤ) (presence : ℕ) (sign : ℤ) (at : ℕ) → sum_at point (tie factor presence sign at).terms ≡ (factor *ℤ number_at point presence) +ℤ (sign *ℤ number_at point at)
  unfolding tie
  sum_of factor presence sign at = by_test (int_eq factor (pos 0)) refl
    where
      last : Coef
      last = record { factor = sign; column = at }

      by_test : (b : Bool) → int_eq factor (pos 0) ≡ b → sum_at point (if b then last ∷ [] else record { factor = factor; column = presence } ∷ last ∷ []) ≡ (factor *ℤ number_at point presence) +ℤ (sign *ℤ number_at point at)
      by_test true e = let none : factor ≡ pos 0 = (Decides-int_eq factor (pos 0)).0 e in rw none (no_first (sign *ℤ number_at point at) (number_at point presence))
      by_test false e = no_more (factor *ℤ number_at point presence) (sign *ℤ number_at point at)

  low_holds : (presence at : ℕ) (lo : ℤ) → Holds point (low_row presence at lo) → (lo *ℤ number_at point presence) ≤ℤ number_at point at
  unfolding tie
  low_holds presence at lo h = low_of _ _ _ _ _ (sum_of (neg_ℤ lo) presence (pos 1) at) (neg_times lo (number_at point presence)) (one_times (number_at point at)) h

  holds_low : (presence at : ℕ) (lo : ℤ) → (lo *ℤ number_at point presence) ≤ℤ number_at point at → Holds point (low_row presence at lo)
  unfolding tie
  holds_low presence at lo h = of_low _ _ _ _ _ (sum_of (neg_ℤ lo) presence (pos 1) at) (neg_times lo (number_at point presence)) (one_times (number_at point at)) h

  high_holds : (presence at : ℕ) (hi : ℤ) → Holds point (high_row presence at hi) → number_at point at ≤ℤ (hi *ℤ number_at point presence)
  unfolding tie
  high_holds presence at hi h = high_of _ _ _ _ (sum_of hi presence (neg_ℤ (pos 1)) at) (minus (number_at point at)) h

  holds_high : (presence at : ℕ) (hi : ℤ) → number_at point at ≤ℤ (hi *ℤ number_at point presence) → Holds point (high_row presence at hi)
  unfolding tie
  holds_high presence at hi h = of_high _ _ _ _ (sum_of hi presence (neg_ℤ (pos 1)) at) (minus (number_at point at)) h

  -- the rows of a column say that it is tied
  column_tied : (presence at : ℕ) (c : WorldColumn) → All (Holds point) (column_rows presence at c) → IsTied (number_at point presence) c (number_at point at)
  unfolding column_rows
  column_tied presence at c all may =
      let rows : column_rows presence at c ≡ low_row presence at c.lo ∷ high_row presence at c.hi ∷ [] = rw may refl in
      let both = subst (All (Holds point)) rows all in
      let none : IpRow = low_row presence at c.lo in
      (low_holds presence at c.lo (both 0 none (omega arith)), high_holds presence at c.hi (both 1 none (omega arith)))

  column_holds : (presence at : ℕ) (c : WorldColumn) → IsTied (number_at point presence) c (number_at point at) → All (Holds point) (column_rows presence at c)
  unfolding column_rows
  column_holds presence at c tied = by_test (may_drop c) refl
    where
      by_test : (b : Bool) → may_drop c ≡ b → All (Holds point) (if b then low_row presence at c.lo ∷ high_row presence at c.hi ∷ [] else [])
      by_test false may = All-nil (Holds point)
      by_test true may =
          let both = tied may in
          All-cons (Holds point) (low_row presence at c.lo) (high_row presence at c.hi ∷ []) (holds_low presence at c.lo both.0)
          (All-cons (Holds point) (high_row presence at c.hi) [] (holds_high presence at c.hi both.1) (All-nil (Holds point)))

  number_here : (at : ℕ) (n : ℤ) (ns : List ℤ) → drop at point ≡ n ∷ ns → number_at point at ≡ n
  number_here at n ns e =
      let same : at + 0 ≡ at = omega arith in
      sym (ap (λ (k : ℕ). get_or point k (pos 0)) same) ∙ sym (get_or-drop at point 0 (pos 0)) ∙ ap (λ (l : List ℤ). get_or l 0 (pos 0)) e

  numbers_next : (at : ℕ) (n : ℤ) (ns : List ℤ) → drop at point ≡ n ∷ ns → drop (at + 1) point ≡ ns
  numbers_next at n ns e = sym (drop-drop 1 at point) ∙ ap (drop 1) e

  presence_next : (presence at : ℕ) (c : WorldColumn) (n : ℤ) → number_at point at ≡ n → number_at point (presence_at presence at c) ≡ presence_now (number_at point presence) c n
  presence_next presence at c n e = by_test (is_none c.cell)
    where
      by_test : (b : Bool) → number_at point (if b then at else presence) ≡ (if b then n else number_at point presence)
      by_test true = e
      by_test false = refl

  -- the rows of the columns say that all are tied
  pub tied_of : (columns : List WorldColumn) (presence at : ℕ) (ns : List ℤ) → drop at point ≡ ns → All (Holds point) (rows_from presence at columns) → AreTied (number_at point presence) columns ns
  unfolding rows_from
  tied_of [] presence at ns e all = tt
  tied_of (c ∷ columns) presence at [] e all = tt
  tied_of (c ∷ columns) presence at (n ∷ ns) e all =
      let here = number_here at n ns e in
      let rows = rows_from (presence_at presence at c) (at + 1) columns in (
        subst (λ (m : ℤ). IsTied (number_at point presence) c m) here (column_tied presence at c (all_first (Holds point) (column_rows presence at c) rows all)),
        subst (λ (m : ℤ). AreTied m columns ns) (presence_next presence at c n here)
            (tied_of columns (presence_at presence at c) (at + 1) ns (numbers_next at n ns e) (all_rest (Holds point) (column_rows presence at c) rows all)),
      )

  pub holding_of : (columns : List WorldColumn) (presence at : ℕ) (ns : List ℤ) → length ns ≡ length columns → drop at point ≡ ns → AreTied (number_at point presence) columns ns → All (Holds point) (rows_from presence at columns)
  unfolding rows_from
  holding_of [] presence at ns long e tied = All-nil (Holds point)
  holding_of (c ∷ columns) presence at [] long e tied = absurd (omega (arith, long))
  holding_of (c ∷ columns) presence at (n ∷ ns) long e tied =
      let here = number_here at n ns e in
      All-append (Holds point) (column_rows presence at c) (rows_from (presence_at presence at c) (at + 1) columns)
      (column_holds presence at c (subst (λ (m : ℤ). IsTied (number_at point presence) c m) (sym here) tied.0))
      (holding_of columns (presence_at presence at c) (at + 1) ns (omega (arith, long)) (numbers_next at n ns e)
      (subst (λ (m : ℤ). AreTied m columns ns) (sym (presence_next presence at c n here)) tied.1))
