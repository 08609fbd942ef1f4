-- What a run of steps on the links leaves of the circles.
use Rattle.std.proofs.Common.{◌≡◌, ◌≢◌, ℕ, ◌+◌, ◌-◌, ◌<◌, ◌≤◌, zero, suc, List, [], ◌∷◌, ◌++◌, length, All, slice_index, slice_set, arith, sym, ◌∙◌, ap, ap₂, subst, ◌⊎◌, inl, inr}
use Rattle.std.proofs.lemmas.Bool.{cases_lt}
use Rattle.std.proofs.lemmas.List.{get_or-set_same, get_or-set_other, length-set, set-set, set-get_or}
use Rattle.std.proofs.lemmas.List.Elements.{All-set, All-get_or}
use Rattle.cross_links.specs.Rings.{Stays, There, Rings, Undoable, Closed, falling, TakesOut, PutsBack}
use Rattle.cross_links.proofs.RingLemmas.{rings_less, next_apart, back_apart}

-- what can be undone is rings as it is
pub Undoable-rings : (places : ℕ) (head : ℕ → ℕ) (off next back : List ℕ) → Undoable places head off next back → Rings places head off (slice_index next) (slice_index back)
unfolding Undoable
Undoable-rings places head [] next back can = can
Undoable-rings places head (x ∷ off) next back can = can.0

-- a place that is no head can be taken out
pub Undoable-less : (places : ℕ) (head : ℕ → ℕ) (off next back : List ℕ) (x : ℕ) → length next ≡ places → length back ≡ places
    → There places off x → head x ≢ x → Undoable places head off next back
    → Undoable places head (x ∷ off) (slice_set next (slice_index back x) (slice_index next x)) (slice_set back (slice_index next x) (slice_index back x))
unfolding Undoable
Undoable-less places head off next back x nexts backs there inner can = (
  rings_less places head off (slice_index next) (slice_index back) (slice_index less_next) (slice_index less_back) x rings there inner
      (get_or-set_same next before after 0 (omega (arith, (rings.back_there x there).0))) (λ y ne. get_or-set_other next before y after 0 ne)
      (get_or-set_same back after before 0 (omega (arith, (rings.next_there x there).0))) (λ y ne. get_or-set_other back after y before 0 ne),
  subst (λ ns. Undoable places head off ns (slice_set less_back (slice_index less_next x) x)) (sym next_again)
      (subst (λ bs. Undoable places head off next bs) (sym back_again) can),
)
  where
    rings : Rings places head off (slice_index next) (slice_index back)
    rings = Undoable-rings places head off next back can

    before : ℕ
    before = slice_index back x

    after : ℕ
    after = slice_index next x

    less_next : List ℕ
    less_next = slice_set next before after

    less_back : List ℕ
    less_back = slice_set back after before

    next_again : slice_set less_next (slice_index less_back x) x ≡ next
    next_again =
        ap (λ u. slice_set less_next u x) (get_or-set_other back after x before 0 (next_apart places head off (slice_index next) (slice_index back) x rings there inner))
        ∙ set-set next before after x ∙ ap (slice_set next before) (sym (rings.next_back x there)) ∙ set-get_or next before 0

    back_again : slice_set less_back (slice_index less_next x) x ≡ back
    back_again =
        ap (λ u. slice_set less_back u x) (get_or-set_other next before x after 0 (back_apart places head off (slice_index next) (slice_index back) x rings there inner))
        ∙ set-set back after before x ∙ ap (slice_set back after) (sym (rings.back_next x there)) ∙ set-get_or back after 0

-- links to places stay so where two of them change to places
pub Closed-set : (next back : List ℕ) (u d v w : ℕ) → Closed next back → v < length next → w < length next → Closed (slice_set next u v) (slice_set back d w)
Closed-set next back u d v w closed v_in w_in = record {
  same = length-set back d w ∙ closed.same ∙ sym (length-set next u v);
  nexts = subst (λ n. All (λ y. y < n) (slice_set next u v)) (sym (length-set next u v)) (All-set (λ y. y < length next) next u v v_in closed.nexts);
  backs = subst (λ n. All (λ y. y < n) (slice_set back d w)) (sym (length-set next u v)) (All-set (λ y. y < length next) back d w w_in closed.backs);
}

-- the places of a falling run, and the places that stay beside them
pub Stays-falling : (from n : ℕ) (off : List ℕ) (y : ℕ) → ((y < from) ⊎ (from + n ≤ y)) → Stays off y → Stays (falling from n ++ off) y
Stays-falling from zero off y out stays = stays
Stays-falling from (suc n) off y out stays = (
  (elim out [ inl lt ↦ omega arith | inr ge ↦ omega arith ]),
  Stays-falling from n off y (elim out [ inl lt ↦ inl lt | inr ge ↦ inr (omega arith) ]) stays,
)

pub Stays-falling_out : (from n : ℕ) (off : List ℕ) (y : ℕ) → Stays (falling from n ++ off) y → ((y < from) ⊎ (from + n ≤ y)) × Stays off y
Stays-falling_out from zero off y stays = (elim (cases_lt y from) [ inl lt ↦ inl lt | inr ge ↦ inr (omega arith) ], stays)
Stays-falling_out from (suc n) off y stays =
    let rest = Stays-falling_out from n off y stays.1 in
    (elim rest.0 [ inl lt ↦ inl lt | inr ge ↦ inr (elim (cases_lt (from + n) y) [ inl lt ↦ omega arith | inr le ↦ absurd (stays.0 (omega arith)) ]) ], rest.1)

-- a falling run by its least place, where the definition goes by its greatest
pub falling_least : (from n : ℕ) (off : List ℕ) → falling from (suc n) ++ off ≡ falling (from + 1) n ++ from ∷ off
falling_least from zero off = ap (λ x. x ∷ off) (omega arith)
falling_least from (suc n) off = ap₂ (λ x xs. x ∷ xs) (omega arith) (falling_least from n off)

-- no place was taken out yet
pub TakesOut-none : (from : ℕ) (next back : List ℕ) → TakesOut from from next back next back
unfolding TakesOut
TakesOut-none from next back head off inner can =
    let none : from - from ≡ 0 = omega arith in
    rw none can

-- one place more was taken out
pub TakesOut-more : (from x : ℕ) (next back next' back' : List ℕ) → from ≤ x → x < length next → length next' ≡ length next → length back' ≡ length next
    → TakesOut from x next back next' back'
    → TakesOut from (x + 1) next back (slice_set next' (slice_index back' x) (slice_index next' x)) (slice_set back' (slice_index next' x) (slice_index back' x))
unfolding TakesOut
TakesOut-more from x next back next' back' le lt nexts backs taken head off inner can =
    let count : x + 1 - from ≡ suc (x - from) = omega arith in
    let place : from + (x - from) ≡ x = omega arith in
    let at = inner x le (omega arith) in
    let before = taken head off (λ y low high. inner y low (omega arith)) can in
    rw (count, place) (Undoable-less (length next) head (falling from (x - from) ++ off) next' back' x nexts backs
    (at.0.0, Stays-falling from (x - from) off x (inr (omega arith)) at.0.1) at.1 before)

-- no place was put back yet
pub PutsBack-none : (to : ℕ) (next back : List ℕ) → PutsBack to to next back next back
unfolding PutsBack
PutsBack-none to next back head off can =
    let none : to - to ≡ 0 = omega arith in
    rw none at can

-- one place more was put back
pub PutsBack-more : (x y to : ℕ) (next back next' back' : List ℕ) → y + 1 ≡ x → x ≤ to → PutsBack x to next back next' back'
    → PutsBack y to next back (slice_set next' (slice_index back' y) y) (slice_set back' (slice_index next' y) y)
unfolding PutsBack Undoable
PutsBack-more x y to next back next' back' step le put head off can =
    let count : to - y ≡ suc (to - x) = omega arith in
    let split : falling y (to - y) ++ off ≡ falling x (to - x) ++ y ∷ off =
    ap (λ n. falling y n ++ off) count ∙ falling_least y (to - x) off ∙ ap (λ z. falling z (to - x) ++ y ∷ off) step in
    let before = put head (y ∷ off) (subst (λ places. Undoable (length next) head places next back) split can) in
    before.1

-- a loop's step: the links stay closed, and one place more was taken out
pub take_more : (from x : ℕ) (next back next' back' next'' back'' : List ℕ) → from ≤ x → x < length next → length next' ≡ length next
    → Closed next' back' × TakesOut from x next back next' back'
    → next'' ≡ slice_set next' (slice_index back' x) (slice_index next' x) → back'' ≡ slice_set back' (slice_index next' x) (slice_index back' x)
    → Closed next'' back'' × TakesOut from (x + 1) next back next'' back''
take_more from x next back next' back' next'' back'' le lt same (closed, taken) nexts backs =
    rw (nexts, backs) (
      Closed-set next' back' _ _ _ _ closed (All-get_or (λ y. y < length next') next' x 0 (omega arith) closed.nexts)
          (All-get_or (λ y. y < length next') back' x 0 (omega (arith, closed.same)) closed.backs),
      TakesOut-more from x next back next' back' le lt same (closed.same ∙ same) taken,
    )

-- a loop's step: the links stay closed, and one place more was put back
pub put_more : (x y to : ℕ) (next back next' back' next'' back'' : List ℕ) → y + 1 ≡ x → x ≤ to → to ≤ length next → length next' ≡ length next
    → Closed next' back' × PutsBack x to next back next' back'
    → next'' ≡ slice_set next' (slice_index back' y) y → back'' ≡ slice_set back' (slice_index next' y) y
    → Closed next'' back'' × PutsBack y to next back next'' back''
put_more x y to next back next' back' next'' back'' step le within same (closed, put) nexts backs =
    rw (nexts, backs) (
      Closed-set next' back' _ _ _ _ closed (omega arith) (omega arith),
      PutsBack-more x y to next back next' back' step le put,
    )
