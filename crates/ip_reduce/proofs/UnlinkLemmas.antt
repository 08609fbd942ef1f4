-- Rows are unlinked that are not kept.
use Rattle.std.proofs.Common.{◌≡◌, ◌+◌, ◌<◌, ℕ, Bool, true, false, cond, ◌||◌, eqb, List, [], ◌∷◌, ◌++◌, filter, refl, sym, ap, ◌∙◌, subst, arith}
use Rattle.std.specs.List.{All, Contains, list_any, range_with_len}
use Rattle.std.specs.Prelude.{not}
use Rattle.std.proofs.lemmas.Bool.{eq-eqb, ne_eqb}
use Rattle.std.proofs.lemmas.List.{append-nil}
use Rattle.std.proofs.lemmas.List.Elements.{All-head, All-tail, All-cons, All-weaker, All-nil, filter-append}
use Rattle.std.proofs.lemmas.List.FromFn.{length-range_with_len, get_or-range_with_len}
use Rattle.cross_links.specs.Layout.{Layout}
use Rattle.ip_reduce.specs.Unlinking.{IsUnlinked}
use Rattle.ip_reduce.proofs.EntryLemmas.{range_push}

-- tests that agree on a list's numbers keep the same of them
filter_same : (p q : ℕ → Bool) (xs : List ℕ) → All (λ x. p x ≡ q x) xs → filter p xs ≡ filter q xs
filter_same p q [] same = refl
filter_same p q (x ∷ xs) same =
    let here : p x ≡ q x = All-head (λ y. p y ≡ q y) x xs same in
    let rest : filter p xs ≡ filter q xs = filter_same p q xs (All-tail (λ y. p y ≡ q y) x xs same) in
    ap (λ b. cond b (x ∷ filter p xs) (filter p xs)) here ∙ ap (λ ys. cond (q x) (x ∷ ys) ys) rest

pub range_below : (n : ℕ) → All (λ x. x < n) (range_with_len 0 n)
range_below n k d lt = let size = length-range_with_len 0 n in let here = get_or-range_with_len 0 n k d (omega arith) in omega arith

-- a number above all of a list is none of it
not_any : (xs : List ℕ) (n : ℕ) → All (λ x. x < n) xs → list_any (λ x. eqb x n) xs ≡ false
not_any [] n below = refl
not_any (x ∷ xs) n below =
    let here : x < n = All-head (λ y. y < n) x xs below in
    let test : eqb x n ≡ false = ne_eqb x n (λ e. omega arith) in
    ap (λ b. b || list_any (λ y. eqb y n) xs) test ∙ not_any xs n (All-tail (λ y. y < n) x xs below)

pub not_unlinked : (n : ℕ) (unlinked full : List ℕ) → IsUnlinked n unlinked full → Contains unlinked n → ⊥
not_unlinked n unlinked full state h = let lt = state.below h.0 n h.1 in let same = h.2 in omega arith

pub unlinking_begins : (unlinked full : List ℕ) → unlinked ≡ [] → full ≡ [] → IsUnlinked 0 unlinked full
unlinking_begins unlinked full none empty = record { below = subst (λ (xs : List ℕ). All (λ x. x < 0) xs) (sym none) (All-nil (λ x. x < 0)); kept = empty }

module _ (n : ℕ) (unlinked full : List ℕ) (state : IsUnlinked n unlinked full) where
  -- the next row is kept
  pub unlinking_keeps : (full' : List ℕ) → full' ≡ full ++ n ∷ [] → IsUnlinked (n + 1) unlinked full'
  unlinking_keeps full' is =
      let test : not (list_any (λ row. eqb row n) unlinked) ≡ true = ap not (not_any unlinked n state.below) in
      let one : filter (λ k. not (list_any (λ row. eqb row k) unlinked)) (n ∷ []) ≡ n ∷ [] = ap (λ b. cond b (n ∷ []) []) test in
      record {
        below = All-weaker (λ x. x < n) (λ x. x < n + 1) (λ x lt. omega arith) unlinked state.below;
        kept = is ∙ ap (λ xs. xs ++ n ∷ []) state.kept ∙ ap (λ ys. filter (λ k. not (list_any (λ row. eqb row k) unlinked)) (range_with_len 0 n) ++ ys) (sym one)
            ∙ sym (filter-append (λ k. not (list_any (λ row. eqb row k) unlinked)) (range_with_len 0 n) (n ∷ [])) ∙ ap (filter (λ k. not (list_any (λ row. eqb row k) unlinked))) (sym (range_push n));
      }

  -- the next row is unlinked
  pub unlinking_drops : (full' : List ℕ) → full' ≡ full → IsUnlinked (n + 1) (n ∷ unlinked) full'
  unlinking_drops full' is =
      let test : not (list_any (λ row. eqb row n) (n ∷ unlinked)) ≡ false = ap (λ b. not (b || list_any (λ row. eqb row n) unlinked)) (eq-eqb n n refl) in
      let one : filter (λ k. not (list_any (λ row. eqb row k) (n ∷ unlinked))) (n ∷ []) ≡ [] = ap (λ b. cond b (n ∷ []) []) test in
      let same : filter (λ k. not (list_any (λ row. eqb row k) unlinked)) (range_with_len 0 n) ≡ filter (λ k. not (list_any (λ row. eqb row k) (n ∷ unlinked))) (range_with_len 0 n) =
      filter_same (λ k. not (list_any (λ row. eqb row k) unlinked)) (λ k. not (list_any (λ row. eqb row k) (n ∷ unlinked))) (range_with_len 0 n)
      (All-weaker (λ x. x < n) (λ x. not (list_any (λ row. eqb row x) unlinked) ≡ not (list_any (λ row. eqb row x) (n ∷ unlinked))) (λ x lt. ap (λ b. not (b || list_any (λ row. eqb row x) unlinked)) (sym (ne_eqb n x (λ e. omega arith)))) (range_with_len 0 n) (range_below n)) in
      record {
        below = All-cons (λ x. x < n + 1) n unlinked (omega arith) (All-weaker (λ x. x < n) (λ x. x < n + 1) (λ x lt. omega arith) unlinked state.below);
        kept = is ∙ state.kept ∙ same ∙ sym (append-nil (filter (λ k. not (list_any (λ row. eqb row k) (n ∷ unlinked))) (range_with_len 0 n)))
            ∙ ap (λ ys. filter (λ k. not (list_any (λ row. eqb row k) (n ∷ unlinked))) (range_with_len 0 n) ++ ys) (sym one)
            ∙ sym (filter-append (λ k. not (list_any (λ row. eqb row k) (n ∷ unlinked))) (range_with_len 0 n) (n ∷ [])) ∙ ap (filter (λ k. not (list_any (λ row. eqb row k) (n ∷ unlinked)))) (sym (range_push n));
      }

-- a grid of which rows alone were unlinked
pub grid_kept : (first before after : Layout) (unlinked : List ℕ) → before ≡ record first { unlinked = before.unlinked } → after ≡ record before { unlinked = unlinked } → after ≡ record first { unlinked = after.unlinked }
grid_kept first before after unlinked kept is =
    is ∙ ap (λ (g : Layout). record g { unlinked = unlinked }) kept ∙ ap (λ (us : List ℕ). record first { unlinked = us }) (sym (ap (λ (g : Layout). g.unlinked) is))
