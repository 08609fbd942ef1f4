-- The rows of And and Or hold at whole numbers exactly where the column has the node's value.
use Rattle.std.proofs.Common.{◌≡◌, sym, subst, ℕ, ℤ, pos, negsuc, ◌+ℤ◌, ◌-ℤ◌, ◌*ℤ◌, neg_ℤ, ◌≤ℤ◌, Bool, true, false, List, [], ◌∷◌, ◌++◌, map, length, All, arith}
use Rattle.std.specs.List.{list_all, list_any}
use Rattle.std.proofs.lemmas.Int.{ints}
use Rattle.prov_fold.specs.Values.{as_number, holds}
use Rattle.prov_fold.proofs.SameLemmas.{All_head, All_tail, All_cons}
use Rattle.bool_encode.specs.declared.form.Key.{Key}
use Rattle.bool_encode.specs.Forms.{Form, form}
use Rattle.bool_encode.specs.Tables.{times, and_forms, or_forms}
use Rattle.bool_encode.proofs.Each.{All_none, All_change}
use Rattle.bool_encode.proofs.FormLemmas.{nodes, whole_at, Held}
use Rattle.bool_encode.proofs.Bits.{IsTruthValue, sum_of, plus_total, minus_total, AllSum, AnySum, all_sum, any_sum, below_all, above_any, all_below, any_above}

-- ---- lists of rows

pub hold_left : (f : Key → ℤ) (xs ys : List Form) → Held f (xs ++ ys) → Held f xs
hold_left f [] ys h = tt
hold_left f (x ∷ xs) ys h = (h.0, hold_left f xs ys h.1)

pub hold_right : (f : Key → ℤ) (xs ys : List Form) → Held f (xs ++ ys) → Held f ys
hold_right f [] ys h = h
hold_right f (x ∷ xs) ys h = hold_right f xs ys h.1

pub hold_both : (f : Key → ℤ) (xs ys : List Form) → Held f xs → Held f ys → Held f (xs ++ ys)
hold_both f [] ys h k = k
hold_both f (x ∷ xs) ys h k = (h.0, hold_both f xs ys h.1 k)

hold_map : (f : Key → ℤ) (row : ℕ → Form) (kids : List ℕ) → All (λ k. pos 0 ≤ℤ whole_at f (row k)) kids → Held f (map row kids)
hold_map f row [] h = tt
hold_map f row (k ∷ kids) h = (All_head (λ k. pos 0 ≤ℤ whole_at f (row k)) k kids h, hold_map f row kids (All_tail (λ k. pos 0 ≤ℤ whole_at f (row k)) k kids h))

map_hold : (f : Key → ℤ) (row : ℕ → Form) (kids : List ℕ) → Held f (map row kids) → All (λ k. pos 0 ≤ℤ whole_at f (row k)) kids
map_hold f row [] h = All_none (λ k. pos 0 ≤ℤ whole_at f (row k))
map_hold f row (k ∷ kids) h = All_cons (λ k. pos 0 ≤ℤ whole_at f (row k)) k kids h.0 (map_hold f row kids h.1)

-- ---- And

and_by : (b : Bool) (z s : ℤ) (l : ℕ) → pos 0 ≤ℤ z → z ≤ℤ as_number b → AllSum b s l → pos 0 ≤ℤ ((pos l -ℤ pos 1) +ℤ (pos 1 *ℤ z +ℤ neg_ℤ s)) → z ≡ as_number b
and_by true z s l lo le a h = omega (arith, ints)
and_by false z s l lo le a h = omega (arith, ints)

and_last : (b : Bool) (z s : ℤ) (l : ℕ) → z ≡ as_number b → AllSum b s l → pos 0 ≤ℤ ((pos l -ℤ pos 1) +ℤ (pos 1 *ℤ z +ℤ neg_ℤ s))
and_last true z s l e a = omega (arith, ints)
and_last false z s l e a = omega (arith, ints)

one_under : (z t : ℤ) → pos 0 ≤ℤ (pos 0 +ℤ (pos 1 *ℤ t +ℤ (negsuc 0 *ℤ z +ℤ pos 0))) → z ≤ℤ t
one_under z t h = omega (arith, ints)

under_one : (z t : ℤ) → z ≤ℤ t → pos 0 ≤ℤ (pos 0 +ℤ (pos 1 *ℤ t +ℤ (negsuc 0 *ℤ z +ℤ pos 0)))
under_one z t h = omega (arith, ints)

module _ (f : ℕ → ℤ) (kids : List ℕ) (z : ℕ) (bits : All (λ k. IsTruthValue (f k)) kids) where
  under : ℕ → Form
  under t = form (pos 0) (times (pos 1) t ∷ times (negsuc 0) z ∷ [])

  last : Form
  last = form (pos (length kids) -ℤ pos 1) (times (pos 1) z ∷ map (times (negsuc 0)) kids)

  pub and_back : pos 0 ≤ℤ f z → f z ≤ℤ pos 1 → Held (nodes f) (and_forms kids z) → f z ≡ as_number (list_all (holds f) kids)
  unfolding under last
  and_back lo hi h =
      let each : All (λ k. pos 0 ≤ℤ whole_at (nodes f) (under k)) kids = map_hold (nodes f) under kids (hold_left (nodes f) (map under kids) (last ∷ []) h) in
      let end : pos 0 ≤ℤ whole_at (nodes f) last = (hold_right (nodes f) (map under kids) (last ∷ []) h).0 in
      and_by (list_all (holds f) kids) (f z) (sum_of f kids) (length kids) lo
      (below_all f (f z) kids hi bits (All_change (λ k. pos 0 ≤ℤ whole_at (nodes f) (under k)) (λ k. f z ≤ℤ f k) kids (λ k h. one_under (f z) (f k) h) each)) (all_sum f kids bits)
      (subst (λ (v : ℤ). pos 0 ≤ℤ ((pos (length kids) -ℤ pos 1) +ℤ (pos 1 *ℤ f z +ℤ v))) (minus_total f kids) end)

  pub and_ahead : f z ≡ as_number (list_all (holds f) kids) → Held (nodes f) (and_forms kids z)
  unfolding under last
  and_ahead e =
      let each : All (λ k. f z ≤ℤ f k) kids = all_below f (f z) kids (omega (arith, ints, e)) bits in
      hold_both (nodes f) (map under kids) (last ∷ [])
      (hold_map (nodes f) under kids (All_change (λ k. f z ≤ℤ f k) (λ k. pos 0 ≤ℤ whole_at (nodes f) (under k)) kids (λ k h. under_one (f z) (f k) h) each))
      (subst (λ (v : ℤ). pos 0 ≤ℤ ((pos (length kids) -ℤ pos 1) +ℤ (pos 1 *ℤ f z +ℤ v))) (sym (minus_total f kids)) (and_last (list_all (holds f) kids) (f z) (sum_of f kids) (length kids) e (all_sum f kids bits)), tt)

-- ---- Or

one_over : (t z : ℤ) → pos 0 ≤ℤ (pos 0 +ℤ (negsuc 0 *ℤ t +ℤ (pos 1 *ℤ z +ℤ pos 0))) → t ≤ℤ z
one_over t z h = omega (arith, ints)

over_one : (t z : ℤ) → t ≤ℤ z → pos 0 ≤ℤ (pos 0 +ℤ (negsuc 0 *ℤ t +ℤ (pos 1 *ℤ z +ℤ pos 0)))
over_one t z h = omega (arith, ints)

or_by : (b : Bool) (z s : ℤ) → z ≤ℤ pos 1 → as_number b ≤ℤ z → AnySum b s → pos 0 ≤ℤ (pos 0 +ℤ (negsuc 0 *ℤ z +ℤ s)) → z ≡ as_number b
or_by true z s hi le a h = omega (arith, ints)
or_by false z s hi le a h = omega (arith, ints)

or_last : (b : Bool) (z s : ℤ) → z ≡ as_number b → AnySum b s → pos 0 ≤ℤ (pos 0 +ℤ (negsuc 0 *ℤ z +ℤ s))
or_last true z s e a = omega (arith, ints)
or_last false z s e a = omega (arith, ints)

module _ (f : ℕ → ℤ) (kids : List ℕ) (z : ℕ) (bits : All (λ k. IsTruthValue (f k)) kids) where
  over : ℕ → Form
  over t = form (pos 0) (times (negsuc 0) t ∷ times (pos 1) z ∷ [])

  last_or : Form
  last_or = form (pos 0) (times (negsuc 0) z ∷ map (times (pos 1)) kids)

  pub or_back : pos 0 ≤ℤ f z → f z ≤ℤ pos 1 → Held (nodes f) (or_forms kids z) → f z ≡ as_number (list_any (holds f) kids)
  unfolding over last_or
  or_back lo hi h =
      let each : All (λ k. pos 0 ≤ℤ whole_at (nodes f) (over k)) kids = map_hold (nodes f) over kids (hold_left (nodes f) (map over kids) (last_or ∷ []) h) in
      let end : pos 0 ≤ℤ whole_at (nodes f) last_or = (hold_right (nodes f) (map over kids) (last_or ∷ []) h).0 in
      or_by (list_any (holds f) kids) (f z) (sum_of f kids) hi
      (above_any f (f z) kids lo bits (All_change (λ k. pos 0 ≤ℤ whole_at (nodes f) (over k)) (λ k. f k ≤ℤ f z) kids (λ k h. one_over (f k) (f z) h) each)) (any_sum f kids bits)
      (subst (λ (v : ℤ). pos 0 ≤ℤ (pos 0 +ℤ (negsuc 0 *ℤ f z +ℤ v))) (plus_total f kids) end)

  pub or_ahead : f z ≡ as_number (list_any (holds f) kids) → Held (nodes f) (or_forms kids z)
  unfolding over last_or
  or_ahead e =
      let each : All (λ k. f k ≤ℤ f z) kids = any_above f (f z) kids (omega (arith, ints, e)) bits in
      hold_both (nodes f) (map over kids) (last_or ∷ [])
      (hold_map (nodes f) over kids (All_change (λ k. f k ≤ℤ f z) (λ k. pos 0 ≤ℤ whole_at (nodes f) (over k)) kids (λ k h. over_one (f k) (f z) h) each))
      (subst (λ (v : ℤ). pos 0 ≤ℤ (pos 0 +ℤ (negsuc 0 *ℤ f z +ℤ v))) (sym (plus_total f kids)) (or_last (list_any (holds f) kids) (f z) (sum_of f kids) e (any_sum f kids bits)), tt)
