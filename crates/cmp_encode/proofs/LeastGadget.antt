-- The rows of a least number hold only where its column is that number.
use Rattle.std.proofs.Common.{◌≡◌, ◌∙◌, sym, ap, subst, refl, zero, suc, ℤ, pos, negsuc, ◌+ℤ◌, ◌-ℤ◌, ◌*ℤ◌, ◌≤ℤ◌, Bool, true, false, cond, ◌||◌, List, [], ◌∷◌, fold, arith, ◌⊎◌, inl, inr}
use Rattle.std.specs.List.{list_any}
use Rattle.std.specs.Ordering.{int_eq}
use Rattle.std.proofs.lemmas.Int.{ints}
use Rattle.std.specs.Prelude.{int_lt, ◌&&◌}
use Rattle.std.proofs.lemmas.Bool.{and_parts}
use Rattle.std.proofs.lemmas.Bool.Decides.{Decides-int_eq}
use Rattle.prov_fold.specs.Sums.{total_by}
use Rattle.prov_fold.specs.Spans.{least, lesser}
use Rattle.prov_fold.specs.Values.{as_number}
use Rattle.cmp_encode.proofs.Choices.{Choice, MeetsPair, MeetsPairs, MeetsLeast, IsChoice, AreChoices, present, Picks, PicksHere}
use Rattle.bool_encode.proofs.Bits.{le_le}

-- ---- least numbers

-- one of the numbers is z or below
abbrev Low : ℤ → List ℤ → Type 0
Low z [] = ⊥
Low z (x ∷ xs) = (x ≤ℤ z) ⊎ Low z xs

-- each is z or above
abbrev High : ℤ → List ℤ → Type 0
High z [] = Unit {0}
High z (x ∷ xs) = (z ≤ℤ x) × High z xs

lesser_left : (a b : ℤ) → lesser a b ≤ℤ a
lesser_left a b = grind (arith, ints)

lesser_right : (a b : ℤ) → lesser a b ≤ℤ b
lesser_right a b = grind (arith, ints)

lesser_high : (z a b : ℤ) → z ≤ℤ a → z ≤ℤ b → z ≤ℤ lesser a b
lesser_high z a b h k = grind (arith, ints)

fold_first : (a : ℤ) (xs : List ℤ) → fold lesser a xs ≤ℤ a
fold_first a [] = omega (arith, ints)
fold_first a (x ∷ xs) = le_le _ (lesser a x) a (fold_first (lesser a x) xs) (lesser_left a x)

fold_low : (z a : ℤ) (xs : List ℤ) → Low z xs → fold lesser a xs ≤ℤ z
fold_low z a [] h = absurd h
fold_low z a (x ∷ xs) (inl h) = le_le _ (lesser a x) z (fold_first (lesser a x) xs) (le_le (lesser a x) x z (lesser_right a x) h)
fold_low z a (x ∷ xs) (inr h) = fold_low z (lesser a x) xs h

fold_high : (z a : ℤ) (xs : List ℤ) → z ≤ℤ a → High z xs → z ≤ℤ fold lesser a xs
fold_high z a [] le h = le
fold_high z a (x ∷ xs) le h = fold_high z (lesser a x) xs (lesser_high z a x le h.0) h.1

both : (a b : ℤ) → a ≤ℤ b → b ≤ℤ a → a ≡ b
both a b h k = omega (arith, ints)

least_is : (z : ℤ) (xs : List ℤ) → Low z xs → High z xs → z ≡ least xs
least_is z [] low high = absurd low
least_is z (x ∷ xs) (inl low) high = both z (fold lesser x xs) (fold_high z x xs high.0 high.1) (le_le _ x z (fold_first x xs) low)
least_is z (x ∷ xs) (inr low) high = both z (fold lesser x xs) (fold_high z x xs high.0 high.1) (fold_low z x xs low)

-- ---- pairs

-- a pair that is present is above
at_present : (Hm lo z n : ℤ) → z ≤ℤ (n +ℤ (Hm -ℤ lo) *ℤ (pos 1 -ℤ pos 1)) → z ≤ℤ n
at_present Hm lo z n h = omega (arith, ints)

at_chosen : (Lm hi z n : ℤ) → (n -ℤ (hi -ℤ Lm) *ℤ (pos 1 -ℤ pos 1)) ≤ℤ z → n ≤ℤ z
at_chosen Lm hi z n h = omega (arith, ints)

high_step : (Hm z t n lo : ℤ) (xs : List ℤ) → pos 0 ≤ℤ t → t ≤ℤ pos 1 → z ≤ℤ (n +ℤ (Hm -ℤ lo) *ℤ (pos 1 -ℤ t)) → High z xs → High z (cond (int_eq t (pos 1)) (n ∷ xs) xs)
high_step Hm z (pos zero) n lo xs low high h r = r
high_step Hm z (pos (suc zero)) n lo xs low high h r = (at_present Hm lo z n h, r)
high_step Hm z (pos (suc (suc t))) n lo xs low high h r = absurd (omega (arith, ints))
high_step Hm z (negsuc t) n lo xs low high h r = absurd (omega (arith, ints))

pub all_above : (Lm Hm z : ℤ) (cs : List Choice) → AreChoices cs → MeetsPairs Lm Hm z cs → High z (present cs)
all_above Lm Hm z [] a h = tt
all_above Lm Hm z (c ∷ cs) a h = high_step Hm z c.truth c.number c.lo (present cs) a.0.truth_low a.0.truth_high h.0.above (all_above Lm Hm z cs a.1 h.1)

low_more : (z n : ℤ) (b : Bool) (xs : List ℤ) → Low z xs → Low z (cond b (n ∷ xs) xs)
low_more z n true xs h = inr h
low_more z n false xs h = h

low_here : (z n t : ℤ) (xs : List ℤ) → pos 1 ≤ℤ t → t ≤ℤ pos 1 → n ≤ℤ z → Low z (cond (int_eq t (pos 1)) (n ∷ xs) xs)
low_here z n (pos zero) xs low high h = absurd (omega (arith, ints))
low_here z n (pos (suc zero)) xs low high h = inl h
low_here z n (pos (suc (suc t))) xs low high h = absurd (omega (arith, ints))
low_here z n (negsuc t) xs low high h = absurd (omega (arith, ints))

low_step : (Lm z t n hi w s : ℤ) (xs : List ℤ) → pos 0 ≤ℤ w → w ≤ℤ pos 1 → t ≤ℤ pos 1 → w ≤ℤ t → (n -ℤ (hi -ℤ Lm) *ℤ (pos 1 -ℤ w)) ≤ℤ z → pos 1 ≤ℤ (w +ℤ s) → (pos 1 ≤ℤ s → Low z xs) → Low z (cond (int_eq t (pos 1)) (n ∷ xs) xs)
low_step Lm z t n hi (pos zero) s xs low high th wt b one r = low_more z n (int_eq t (pos 1)) xs (r (omega (arith, ints)))
low_step Lm z t n hi (pos (suc zero)) s xs low high th wt b one r = low_here z n t xs wt th (at_chosen Lm hi z n b)
low_step Lm z t n hi (pos (suc (suc w))) s xs low high th wt b one r = absurd (omega (arith, ints))
low_step Lm z t n hi (negsuc w) s xs low high th wt b one r = absurd (omega (arith, ints))

pub one_below : (Lm Hm z : ℤ) (cs : List Choice) → AreChoices cs → MeetsPairs Lm Hm z cs → pos 1 ≤ℤ total_by (λ (c : Choice). c.chosen) cs → Low z (present cs)
one_below Lm Hm z [] a h one = absurd (omega (arith, ints))
one_below Lm Hm z (c ∷ cs) a h one =
    low_step Lm z c.truth c.number c.hi c.chosen (total_by (λ (c : Choice). c.chosen) cs) (present cs) a.0.chosen_low a.0.chosen_high a.0.truth_high h.0.present h.0.below one (one_below Lm Hm z cs a.1 h.1)

none_present : (cs : List Choice) → list_any (λ (c : Choice). int_eq c.truth (pos 1)) cs ≡ false → present cs ≡ []
none_present [] e = refl
none_present (c ∷ cs) e = by_test (int_eq c.truth (pos 1)) e (none_present cs)
  where
    by_test : (b : Bool) → (b || list_any (λ (c : Choice). int_eq c.truth (pos 1)) cs) ≡ false → (list_any (λ (c : Choice). int_eq c.truth (pos 1)) cs ≡ false → present cs ≡ []) → cond b (c.number ∷ present cs) (present cs) ≡ []
    by_test true e r = cc
    by_test false e r = r e

-- the rows hold only where the column is the least number that is present
min_by : (Lm Hm L H g z : ℤ) (cs : List Choice) (b : Bool) → list_any (λ (c : Choice). int_eq c.truth (pos 1)) cs ≡ b → g ≡ as_number b → AreChoices cs → MeetsLeast Lm Hm L H g z cs → z ≡ least (present cs)
min_by Lm Hm L H g z cs true e is a h = least_is z (present cs) (one_below Lm Hm z cs a h.pairs (let one = h.one in omega (arith, ints, one, is))) (all_above Lm Hm z cs a h.pairs)
min_by Lm Hm L H g z cs false e is a h =
    let low = subst (λ (g : ℤ). (L *ℤ g) ≤ℤ z) is h.low in
    let high = subst (λ (g : ℤ). z ≤ℤ (H *ℤ g)) is h.high in
    let zero_is : z ≡ pos 0 = omega (arith, ints, low, high) in
    zero_is ∙ sym (ap least (none_present cs e))

pub min_back : (Lm Hm L H g z : ℤ) (cs : List Choice) → g ≡ as_number (list_any (λ (c : Choice). int_eq c.truth (pos 1)) cs) → AreChoices cs → MeetsLeast Lm Hm L H g z cs → z ≡ least (present cs)
min_back Lm Hm L H g z cs is a h = min_by Lm Hm L H g z cs (list_any (λ (c : Choice). int_eq c.truth (pos 1)) cs) refl is a h

-- ---- from the value to the rows

plus_none : (s : ℤ) → pos 0 +ℤ s ≡ s
plus_none s = omega (arith, ints)

high_first : (z n : ℤ) (b : Bool) (xs : List ℤ) → High z (cond b (n ∷ xs) xs) → b ≡ true → z ≤ℤ n
high_first z n true xs h e = h.0
high_first z n false xs h e = cc

high_rest : (z n : ℤ) (b : Bool) (xs : List ℤ) → High z (cond b (n ∷ xs) xs) → High z xs
high_rest z n true xs h = h.1
high_rest z n false xs h = h

above_ahead : (Hm z t n lo : ℤ) → pos 0 ≤ℤ t → t ≤ℤ pos 1 → lo ≤ℤ n → z ≤ℤ Hm → (int_eq t (pos 1) ≡ true → z ≤ℤ n) → z ≤ℤ (n +ℤ (Hm -ℤ lo) *ℤ (pos 1 -ℤ t))
above_ahead Hm z (pos zero) n lo a b c d h = omega (arith, ints, c, d)
above_ahead Hm z (pos (suc zero)) n lo a b c d h = let k = h refl in omega (arith, ints, k)
above_ahead Hm z (pos (suc (suc t))) n lo a b c d h = absurd (omega (arith, ints))
above_ahead Hm z (negsuc t) n lo a b c d h = absurd (omega (arith, ints))

below_zero : (Lm hi z n : ℤ) → n ≤ℤ hi → Lm ≤ℤ z → (n -ℤ (hi -ℤ Lm) *ℤ (pos 1 -ℤ pos 0)) ≤ℤ z
below_zero Lm hi z n a b = omega (arith, ints)

below_one : (Lm hi z n : ℤ) → n ≤ℤ z → (n -ℤ (hi -ℤ Lm) *ℤ (pos 1 -ℤ pos 1)) ≤ℤ z
below_one Lm hi z n a = omega (arith, ints)

truth_is : (t : ℤ) → int_eq t (pos 1) ≡ true → t ≡ pos 1
truth_is t e = (Decides-int_eq t (pos 1)).0 e

module _ (Lm Hm z : ℤ) (low : Lm ≤ℤ z) (high : z ≤ℤ Hm) where
  pair_off : (c : Choice) → IsChoice c → c.chosen ≡ pos 0 → (int_eq c.truth (pos 1) ≡ true → z ≤ℤ c.number) → MeetsPair Lm Hm z c
  pair_off c i e h = record {
    present = subst (λ (w : ℤ). w ≤ℤ c.truth) (sym e) i.truth_low;
    above = above_ahead Hm z c.truth c.number c.lo i.truth_low i.truth_high i.lo high h;
    below = subst (λ (w : ℤ). (c.number -ℤ (c.hi -ℤ Lm) *ℤ (pos 1 -ℤ w)) ≤ℤ z) (sym e) (below_zero Lm c.hi z c.number i.hi low);
  }

  pair_on : (c : Choice) → IsChoice c → c.chosen ≡ pos 1 → int_eq c.truth (pos 1) ≡ true → c.number ≡ z → MeetsPair Lm Hm z c
  pair_on c i e t n = record {
    present = let a = truth_is c.truth t in omega (arith, ints, a, e);
    above = above_ahead Hm z c.truth c.number c.lo i.truth_low i.truth_high i.lo high (λ _. omega (arith, ints, n));
    below = subst (λ (w : ℤ). (c.number -ℤ (c.hi -ℤ Lm) *ℤ (pos 1 -ℤ w)) ≤ℤ z) (sym e) (below_one Lm c.hi z c.number (omega (arith, ints, n)));
  }

  picked_off : (cs : List Choice) → AreChoices cs → High z (present cs) → Picks true z cs → MeetsPairs Lm Hm z cs × (total_by (λ (c : Choice). c.chosen) cs ≡ pos 0)
  picked_off [] a h p = (tt, refl)
  picked_off (c ∷ cs) a h p =
      let r = picked_off cs a.1 (high_rest z c.number (int_eq c.truth (pos 1)) (present cs) h) p.1 in
      ((pair_off c a.0 p.0 (high_first z c.number (int_eq c.truth (pos 1)) (present cs) h), r.0), let e = p.0 in let s = r.1 in omega (arith, ints, e, s))

  hit : List Choice → Bool
  hit cs = list_any (λ (c : Choice). int_eq c.truth (pos 1) && int_eq c.number z) cs

  picked : (cs : List Choice) → AreChoices cs → High z (present cs) → Picks false z cs → MeetsPairs Lm Hm z cs × (total_by (λ (c : Choice). c.chosen) cs ≡ as_number (hit cs))
  unfolding hit
  picked [] a h p = (tt, refl)
  picked (c ∷ cs) a h p = by_test (int_eq c.truth (pos 1) && int_eq c.number z) refl (picked cs a.1 (high_rest z c.number (int_eq c.truth (pos 1)) (present cs) h))
      (picked_off cs a.1 (high_rest z c.number (int_eq c.truth (pos 1)) (present cs) h)) p
    where
      by_test : (b : Bool) → (int_eq c.truth (pos 1) && int_eq c.number z) ≡ b
          → (Picks false z cs → MeetsPairs Lm Hm z cs × (total_by (λ (c : Choice). c.chosen) cs ≡ as_number (list_any (λ (c : Choice). int_eq c.truth (pos 1) && int_eq c.number z) cs)))
          → (Picks true z cs → MeetsPairs Lm Hm z cs × (total_by (λ (c : Choice). c.chosen) cs ≡ pos 0))
          → PicksHere b c.chosen (Picks true z cs) (Picks false z cs)
          → (MeetsPair Lm Hm z c × MeetsPairs Lm Hm z cs) × (c.chosen +ℤ total_by (λ (c : Choice). c.chosen) cs ≡ as_number (b || list_any (λ (c : Choice). int_eq c.truth (pos 1) && int_eq c.number z) cs))
      by_test true e more done p =
          let t = and_parts (int_eq c.truth (pos 1)) (int_eq c.number z) e in
          let r = done p.1 in
          ((pair_on c a.0 p.0 t.0 ((Decides-int_eq c.number z).0 t.1), r.0), let k = p.0 in let s = r.1 in omega (arith, ints, k, s))
      by_test false e more done p =
          let r = more p.1 in
          ((pair_off c a.0 p.0 (high_first z c.number (int_eq c.truth (pos 1)) (present cs) h), r.0), ap (λ (w : ℤ). w +ℤ total_by (λ (c : Choice). c.chosen) cs) p.0 ∙ plus_none (total_by (λ (c : Choice). c.chosen) cs) ∙ r.1)

-- the least is one of the numbers
or_move : (a b c : Bool) → (a || c) ≡ true → (a || (b || c)) ≡ true
or_move true b c e = refl
or_move false true c e = refl
or_move false false c e = e

or_later : (a b : Bool) → b ≡ true → (a || b) ≡ true
or_later true b e = refl
or_later false b e = e

reached_step : (a x m : ℤ) (r : Bool) (b : Bool) → (int_eq (cond b a x) m || r) ≡ true → (int_eq a m || (int_eq x m || r)) ≡ true
reached_step a x m r true e = or_move (int_eq a m) (int_eq x m) r e
reached_step a x m r false e = or_later (int_eq a m) (int_eq x m || r) e

reached : (a : ℤ) (xs : List ℤ) → (int_eq a (fold lesser a xs) || list_any (λ (x : ℤ). int_eq x (fold lesser a xs)) xs) ≡ true
reached a [] = ap (λ b. b || false) ((Decides-int_eq a a).1 refl)
reached a (x ∷ xs) = reached_step a x (fold lesser (lesser a x) xs) (list_any (λ (y : ℤ). int_eq y (fold lesser (lesser a x) xs)) xs) (int_lt a x) (reached (lesser a x) xs)

hit_is : (z : ℤ) (cs : List Choice) → list_any (λ (x : ℤ). int_eq x z) (present cs) ≡ list_any (λ (c : Choice). int_eq c.truth (pos 1) && int_eq c.number z) cs
hit_is z [] = refl
hit_is z (c ∷ cs) = by_test (int_eq c.truth (pos 1)) (hit_is z cs)
  where
    by_test : (b : Bool) → list_any (λ (x : ℤ). int_eq x z) (present cs) ≡ list_any (λ (c : Choice). int_eq c.truth (pos 1) && int_eq c.number z) cs
        → list_any (λ (x : ℤ). int_eq x z) (cond b (c.number ∷ present cs) (present cs)) ≡ ((b && int_eq c.number z) || list_any (λ (c : Choice). int_eq c.truth (pos 1) && int_eq c.number z) cs)
    by_test true r = ap (λ t. int_eq c.number z || t) r
    by_test false r = r

-- whether there is a number
abbrev some : List ℤ → Bool
some [] = false
some (x ∷ xs) = true

some_is : (cs : List Choice) → list_any (λ (c : Choice). int_eq c.truth (pos 1)) cs ≡ some (present cs)
some_is [] = refl
some_is (c ∷ cs) = by_test (int_eq c.truth (pos 1)) (some_is cs)
  where
    by_test : (b : Bool) → list_any (λ (c : Choice). int_eq c.truth (pos 1)) cs ≡ some (present cs) → (b || list_any (λ (c : Choice). int_eq c.truth (pos 1)) cs) ≡ some (cond b (c.number ∷ present cs) (present cs))
    by_test true r = refl
    by_test false r = r

hit_some : (z : ℤ) (xs : List ℤ) → z ≡ least xs → list_any (λ (x : ℤ). int_eq x z) xs ≡ some xs
hit_some z [] e = refl
hit_some z (x ∷ xs) e = ap (λ (z : ℤ). list_any (λ (y : ℤ). int_eq y z) (x ∷ xs)) e ∙ reached x xs

fold_each : (a : ℤ) (xs : List ℤ) → High (fold lesser a xs) xs
fold_each a [] = tt
fold_each a (x ∷ xs) = (le_le _ (lesser a x) x (fold_first (lesser a x) xs) (lesser_right a x), fold_each (lesser a x) xs)

least_each : (z : ℤ) (xs : List ℤ) → z ≡ least xs → High z xs
least_each z [] e = tt
least_each z (x ∷ xs) e = subst (λ (z : ℤ). High z (x ∷ xs)) (sym e) (fold_first x xs, fold_each x xs)

-- the rows hold where the column is the least number that is present, and the selectors pick the first pair that has it
pub min_ahead : (Lm Hm L H g z : ℤ) (cs : List Choice) → g ≡ as_number (list_any (λ (c : Choice). int_eq c.truth (pos 1)) cs) → AreChoices cs → z ≡ least (present cs)
    → Lm ≤ℤ z → z ≤ℤ Hm → (L *ℤ g) ≤ℤ z → z ≤ℤ (H *ℤ g) → Picks false z cs → MeetsLeast Lm Hm L H g z cs
unfolding hit
min_ahead Lm Hm L H g z cs is a least_of low high low' high' p =
    let r = picked Lm Hm z low high cs a (least_each z (present cs) least_of) p in
    record {
      pairs = r.0;
      one = r.1 ∙ ap as_number (sym (hit_is z cs) ∙ hit_some z (present cs) least_of ∙ sym (some_is cs)) ∙ sym is;
      low = low';
      high = high';
    }
