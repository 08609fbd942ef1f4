-- The pairs of a least number at a point, with their selectors.
use Rattle.std.specs.Prelude.{◌≡◌, ℕ, suc, ℤ, pos, ◌+ℤ◌, ◌-ℤ◌, ◌*ℤ◌, ◌≤ℤ◌, Bool, true, false, ◌&&◌, cond, List, [], ◌∷◌}
use Rattle.std.specs.Ordering.{int_eq}
use Rattle.prov_arena.specs.declared.part.Pair.{Pair}
use Rattle.prov_fold.specs.Sums.{total_by}

-- a pair at a point: its truth, its number with the number's range, and its selector
pub record Choice : Type 0 where
  pub truth : ℤ
  pub number : ℤ
  pub lo : ℤ
  pub hi : ℤ
  pub chosen : ℤ

-- by the numbers of truths, of numbers, of the ends of their ranges, and of selectors
abbrev pub choices : (ℕ → ℤ) → (ℕ → ℤ) → (ℕ → ℤ) → (ℕ → ℤ) → (ℕ → ℤ) → ℕ → List Pair → List Choice
choices t n lo hi w i [] = []
choices t n lo hi w i (p ∷ ps) = record { truth = t p.truth; number = n p.number; lo = lo p.number; hi = hi p.number; chosen = w i } ∷ choices t n lo hi w (suc i) ps

-- v(t) >= w, v(n) + (Hm - lo)(1 - v(t)) >= z, z >= v(n) - (hi - Lm)(1 - w)
pub record MeetsPair (Lm Hm z : ℤ) (c : Choice) : Type 0 where
  pub present : c.chosen ≤ℤ c.truth
  pub above : z ≤ℤ (c.number +ℤ (Hm -ℤ c.lo) *ℤ (pos 1 -ℤ c.truth))
  pub below : (c.number -ℤ (c.hi -ℤ Lm) *ℤ (pos 1 -ℤ c.chosen)) ≤ℤ z

abbrev pub MeetsPairs : ℤ → ℤ → ℤ → List Choice → Type 0
MeetsPairs Lm Hm z [] = Unit {0}
MeetsPairs Lm Hm z (c ∷ cs) = MeetsPair Lm Hm z c × MeetsPairs Lm Hm z cs

pub record MeetsLeast (Lm Hm L H g z : ℤ) (cs : List Choice) : Type 0 where
  pub pairs : MeetsPairs Lm Hm z cs
  pub one : total_by (λ (c : Choice). c.chosen) cs ≡ g
  pub low : (L *ℤ g) ≤ℤ z
  pub high : z ≤ℤ (H *ℤ g)

-- truths and selectors are 0 or 1, and numbers lie in their ranges
pub record IsChoice (c : Choice) : Type 0 where
  pub truth_low : pos 0 ≤ℤ c.truth
  pub truth_high : c.truth ≤ℤ pos 1
  pub chosen_low : pos 0 ≤ℤ c.chosen
  pub chosen_high : c.chosen ≤ℤ pos 1
  pub lo : c.lo ≤ℤ c.number
  pub hi : c.number ≤ℤ c.hi

abbrev pub AreChoices : List Choice → Type 0
AreChoices [] = Unit {0}
AreChoices (c ∷ cs) = IsChoice c × AreChoices cs

-- the numbers whose truth holds
abbrev pub present : List Choice → List ℤ
present [] = []
present (c ∷ cs) = cond (int_eq c.truth (pos 1)) (c.number ∷ present cs) (present cs)

abbrev pub PicksHere : Bool → ℤ → Type 0 → Type 0 → Type 0
PicksHere true w here later = (w ≡ pos 1) × here
PicksHere false w here later = (w ≡ pos 0) × later

-- selectors are 1 at the first pair that is present and z, and 0 elsewhere; true: that pair stands before
abbrev pub Picks : Bool → ℤ → List Choice → Type 0
Picks found z [] = Unit {0}
Picks true z (c ∷ cs) = (c.chosen ≡ pos 0) × Picks true z cs
Picks false z (c ∷ cs) = PicksHere (int_eq c.truth (pos 1) && int_eq c.number z) c.chosen (Picks true z cs) (Picks false z cs)
