-- What a step on the links leaves of the circles.
use Rattle.std.proofs.Common.{◌≡◌, ◌≢◌, ℕ, ◌+◌, ◌<◌, ◌≤◌, ◌⊎◌, List, [], ◌∷◌, inl, inr, arith, sym, ◌∙◌, ap, subst}
use Rattle.std.proofs.lemmas.Bool.{cases_eq, cases_lt}
use Rattle.cross_links.specs.Rings.{There, Rings}

-- A place x that is no head has neighbours of its own.
module _ (places : ℕ) (head : ℕ → ℕ) (off : List ℕ) (next back : ℕ → ℕ) (x : ℕ)
    (rings : Rings places head off next back) (there : There places off x) (inner : head x ≢ x) where
  pub next_apart : x ≢ next x
  next_apart e = inner (sym (e ∙ rings.wraps x there (omega arith)))

  pub back_apart : x ≢ back x
  back_apart e = next_apart (sym (ap next e ∙ rings.next_back x there))

  pub head_of_back : head (back x) ≡ head x
  head_of_back = sym (rings.same_head (back x) (rings.back_there x there)) ∙ ap head (rings.next_back x there)

  -- the place before x is below it
  pub back_below : back x < x
  back_below = elim (cases_lt (back x) x) [
    | inl lt ↦ lt
    | inr ge ↦ absurd (inner (sym head_of_back ∙ sym (rings.wraps (back x) (rings.back_there x there) (rw (rings.next_back x there) ge)) ∙ rings.next_back x there))
  ]

-- A place x that is no head leaves its circle: the place before it goes on to the one after it.
module _ (places : ℕ) (head : ℕ → ℕ) (off : List ℕ) (next back next' back' : ℕ → ℕ) (x : ℕ)
    (rings : Rings places head off next back) (there : There places off x) (inner : head x ≢ x)
    (next_at : next' (back x) ≡ next x) (next_other : (y : ℕ) → y ≢ back x → next' y ≡ next y)
    (back_at : back' (next x) ≡ back x) (back_other : (y : ℕ) → y ≢ next x → back' y ≡ back y) where
  apart_next : x ≢ next x
  apart_next = next_apart places head off next back x rings there inner

  apart_back : x ≢ back x
  apart_back = back_apart places head off next back x rings there inner

  same_circle : head (back x) ≡ head x
  same_circle = head_of_back places head off next back x rings there inner

  below_x : back x < x
  below_x = back_below places head off next back x rings there inner

  -- what a place that stays goes on to
  data Goes (y : ℕ) : Type 0 where
    from_before : y ≡ back x → next' y ≡ next x → Goes y
    as_before : y ≢ back x → next' y ≡ next y → x ≢ next y → Goes y

  goes : (y : ℕ) → There places off y → Goes y
  goes y here = elim (cases_eq y (back x)) [
    | inl e ↦ from_before e (ap next' e ∙ next_at)
    | inr ne ↦ as_before ne (next_other y ne) (λ e. ne (sym (ap back e ∙ rings.back_next y here)))
  ]

  -- what stands before a place that stays
  data Comes (y : ℕ) : Type 0 where
    from_next : y ≡ next x → back' y ≡ back x → Comes y
    as_back : y ≢ next x → back' y ≡ back y → x ≢ back y → Comes y

  comes : (y : ℕ) → There places off y → Comes y
  comes y here = elim (cases_eq y (next x)) [
    | inl e ↦ from_next e (ap back' e ∙ back_at)
    | inr ne ↦ as_back ne (back_other y ne) (λ e. ne (sym (ap next e ∙ rings.next_back y here)))
  ]

  -- a place that stays is there without x
  kept : (z : ℕ) → There places off z → x ≢ z → There places (x ∷ off) z
  kept z here ne = (here.0, (ne, here.1))

  -- a place that is there without x was there
  was : (z : ℕ) → There places (x ∷ off) z → There places off z
  was z here = (here.0, here.1.1)

  next_there_less : (y : ℕ) → There places (x ∷ off) y → There places (x ∷ off) (next' y)
  next_there_less y here = elim (goes y (was y here)) [
    | from_before e n ↦ subst (There places (x ∷ off)) (sym n) (kept (next x) (rings.next_there x there) apart_next)
    | as_before ne n apart ↦ subst (There places (x ∷ off)) (sym n) (kept (next y) (rings.next_there y (was y here)) apart)
  ]

  back_there_less : (y : ℕ) → There places (x ∷ off) y → There places (x ∷ off) (back' y)
  back_there_less y here = elim (comes y (was y here)) [
    | from_next e n ↦ subst (There places (x ∷ off)) (sym n) (kept (back x) (rings.back_there x there) apart_back)
    | as_back ne n apart ↦ subst (There places (x ∷ off)) (sym n) (kept (back y) (rings.back_there y (was y here)) apart)
  ]

  back_next_less : (y : ℕ) → There places (x ∷ off) y → back' (next' y) ≡ y
  back_next_less y here = elim (goes y (was y here)) [
    | from_before e n ↦ ap back' n ∙ back_at ∙ sym e
    | as_before ne n apart ↦ ap back' n ∙ back_other (next y) (λ e. here.1.0 (sym (rings.back_next x there) ∙ ap back (sym e) ∙ rings.back_next y (was y here))) ∙ rings.back_next y (was y here)
  ]

  next_back_less : (y : ℕ) → There places (x ∷ off) y → next' (back' y) ≡ y
  next_back_less y here = elim (comes y (was y here)) [
    | from_next e n ↦ ap next' n ∙ next_at ∙ sym e
    | as_back ne n apart ↦ ap next' n ∙ next_other (back y) (λ e. here.1.0 (sym (rings.next_back x there) ∙ ap next (sym e) ∙ rings.next_back y (was y here))) ∙ rings.next_back y (was y here)
  ]

  same_head_less : (y : ℕ) → There places (x ∷ off) y → head (next' y) ≡ head y
  same_head_less y here = elim (goes y (was y here)) [
    | from_before e n ↦ ap head n ∙ rings.same_head x there ∙ sym same_circle ∙ ap head (sym e)
    | as_before ne n apart ↦ ap head n ∙ rings.same_head y (was y here)
  ]

  wraps_less : (y : ℕ) → There places (x ∷ off) y → next' y ≤ y → next' y ≡ head y
  wraps_less y here le = elim (goes y (was y here)) [
    | from_before e n ↦ n ∙ rings.wraps x there (omega (arith, below_x)) ∙ sym same_circle ∙ ap head (sym e)
    | as_before ne n apart ↦ n ∙ rings.wraps y (was y here) (omega arith)
  ]

  first_less : (y z : ℕ) → There places (x ∷ off) y → There places (x ∷ off) z → head z ≡ head y → y < z → (y < next' y) × (next' y ≤ z)
  first_less y z here there_z same lt = elim (goes y (was y here)) [
    | from_before e n ↦
        let at_x = rings.first y z (was y here) (was z there_z) same lt in
        let goes_on : next y ≡ x = ap next e ∙ rings.next_back x there in
        let le : x ≤ z = omega (arith, at_x) in
        let ne : x ≢ z = there_z.1.0 in
        let at_z = rings.first x z there (was z there_z) (same ∙ ap head e ∙ same_circle) (omega arith) in
        (omega (arith, at_z, below_x), omega (arith, at_z))
    | as_before ne n apart ↦
        let at_z = rings.first y z (was y here) (was z there_z) same lt in
        (omega (arith, at_z), omega (arith, at_z))
  ]

  pub rings_less : Rings places head (x ∷ off) next' back'
  rings_less = record {
    next_there = next_there_less;
    back_there = back_there_less;
    back_next = back_next_less;
    next_back = next_back_less;
    same_head = same_head_less;
    wraps = wraps_less;
    first = first_less;
  }

-- A new last place x enters the circle of its head h, between the place before h and h.
module _ (x : ℕ) (head next back next' back' : ℕ → ℕ)
    (rings : Rings x head [] next back) (h : ℕ) (its_head : head x ≡ h) (below : h < x) (top : head h ≡ h)
    (heads_first : (y : ℕ) → y < x → head y ≤ y)
    (next_at : next' (back h) ≡ x) (next_x : next' x ≡ h) (next_other : (y : ℕ) → y ≢ back h → y ≢ x → next' y ≡ next y)
    (back_at : back' h ≡ x) (back_x : back' x ≡ back h) (back_other : (y : ℕ) → y ≢ h → y ≢ x → back' y ≡ back y) where
  there_h : There x [] h
  there_h = (below, tt)

  -- what each place goes on to
  data GoesOn (y : ℕ) : Type 0 where
    to_head : y ≡ x → next' y ≡ h → GoesOn y
    to_new : There x [] y → y ≡ back h → next' y ≡ x → GoesOn y
    on_as_before : There x [] y → y ≢ back h → next' y ≡ next y → GoesOn y

  goes_on : (y : ℕ) → There (x + 1) [] y → GoesOn y
  goes_on y here = elim (cases_lt y x) [
    | inl lt ↦ elim (cases_eq y (back h)) [
      | inl e ↦ to_new (lt, tt) e (ap next' e ∙ next_at)
      | inr ne ↦ on_as_before (lt, tt) ne (next_other y ne (omega arith))
    ]
    | inr ge ↦ let e : y ≡ x = omega (arith, here.0) in to_head e (ap next' e ∙ next_x)
  ]

  -- what stands before each place
  data ComesFrom (y : ℕ) : Type 0 where
    from_last : y ≡ x → back' y ≡ back h → ComesFrom y
    from_new : y ≡ h → back' y ≡ x → ComesFrom y
    as_it_was : There x [] y → y ≢ h → back' y ≡ back y → ComesFrom y

  comes_from : (y : ℕ) → There (x + 1) [] y → ComesFrom y
  comes_from y here = elim (cases_lt y x) [
    | inl lt ↦ elim (cases_eq y h) [
      | inl e ↦ from_new e (ap back' e ∙ back_at)
      | inr ne ↦ as_it_was (lt, tt) ne (back_other y ne (omega arith))
    ]
    | inr ge ↦ let e : y ≡ x = omega (arith, here.0) in from_last e (ap back' e ∙ back_x)
  ]

  wider : (y z : ℕ) → There x [] z → y ≡ z → There (x + 1) [] y
  wider y z here e = (omega (arith, here.0), tt)

  newest : (y : ℕ) → y ≡ x → There (x + 1) [] y
  newest y e = (omega arith, tt)

  -- a place that goes on to the head is the one before it
  before_head : (y : ℕ) → There x [] y → y ≢ back h → next y ≢ h
  before_head y here ne e = ne (sym (rings.back_next y here) ∙ ap back e)

  next_there_more : (y : ℕ) → There (x + 1) [] y → There (x + 1) [] (next' y)
  next_there_more y here = elim (goes_on y here) [
    | to_head e n ↦ wider (next' y) h there_h n
    | to_new there e n ↦ newest (next' y) n
    | on_as_before there ne n ↦ wider (next' y) (next y) (rings.next_there y there) n
  ]

  back_there_more : (y : ℕ) → There (x + 1) [] y → There (x + 1) [] (back' y)
  back_there_more y here = elim (comes_from y here) [
    | from_last e n ↦ wider (back' y) (back h) (rings.back_there h there_h) n
    | from_new e n ↦ newest (back' y) n
    | as_it_was there ne n ↦ wider (back' y) (back y) (rings.back_there y there) n
  ]

  back_next_more : (y : ℕ) → There (x + 1) [] y → back' (next' y) ≡ y
  back_next_more y here = elim (goes_on y here) [
    | to_head e n ↦ ap back' n ∙ back_at ∙ sym e
    | to_new there e n ↦ ap back' n ∙ back_x ∙ sym e
    | on_as_before there ne n ↦ ap back' n ∙ back_other (next y) (before_head y there ne) (omega (arith, (rings.next_there y there).0)) ∙ rings.back_next y there
  ]

  next_back_more : (y : ℕ) → There (x + 1) [] y → next' (back' y) ≡ y
  next_back_more y here = elim (comes_from y here) [
    | from_last e n ↦ ap next' n ∙ next_at ∙ sym e
    | from_new e n ↦ ap next' n ∙ next_x ∙ sym e
    | as_it_was there ne n ↦
        ap next' n ∙ next_other (back y) (λ e. ne (sym (rings.next_back y there) ∙ ap next e ∙ rings.next_back h there_h)) (omega (arith, (rings.back_there y there).0))
        ∙ rings.next_back y there
  ]

  -- the place before h has the head h
  head_of_last : head (back h) ≡ h
  head_of_last = sym (rings.same_head (back h) (rings.back_there h there_h)) ∙ ap head (rings.next_back h there_h) ∙ top

  same_head_more : (y : ℕ) → There (x + 1) [] y → head (next' y) ≡ head y
  same_head_more y here = elim (goes_on y here) [
    | to_head e n ↦ ap head n ∙ top ∙ sym its_head ∙ ap head (sym e)
    | to_new there e n ↦ ap head n ∙ its_head ∙ sym head_of_last ∙ ap head (sym e)
    | on_as_before there ne n ↦ ap head n ∙ rings.same_head y there
  ]

  wraps_more : (y : ℕ) → There (x + 1) [] y → next' y ≤ y → next' y ≡ head y
  wraps_more y here le = elim (goes_on y here) [
    | to_head e n ↦ n ∙ sym its_head ∙ ap head (sym e)
    | to_new there e n ↦ absurd (omega (arith, there.0))
    | on_as_before there ne n ↦ n ∙ rings.wraps y there (omega arith)
  ]

  -- the place before h is the last of its circle
  last_of_circle : (z : ℕ) → There x [] z → head z ≡ h → z ≤ back h
  last_of_circle z there same = elim (cases_lt (back h) z) [
    | inl lt ↦
        let on = rings.first (back h) z (rings.back_there h there_h) there (same ∙ sym head_of_last) lt in
        let to : next (back h) ≡ h = rings.next_back h there_h in
        let above : head (back h) ≤ back h = heads_first (back h) (rings.back_there h there_h).0 in
        absurd (omega (arith, on, head_of_last))
    | inr ge ↦ ge
  ]

  first_more : (y z : ℕ) → There (x + 1) [] y → There (x + 1) [] z → head z ≡ head y → y < z → (y < next' y) × (next' y ≤ z)
  first_more y z here there_z same lt = elim (goes_on y here) [
    | to_head e n ↦ absurd (omega (arith, there_z.0))
    | to_new there e n ↦ elim (cases_lt z x) [
      | inl small ↦ absurd (omega (arith, last_of_circle z (small, tt) (same ∙ ap head e ∙ head_of_last)))
      | inr big ↦ (omega (arith, there.0), omega arith)
    ]
    | on_as_before there ne n ↦ elim (cases_lt z x) [
      | inl small ↦ let on = rings.first y z there (small, tt) same lt in (omega (arith, on), omega (arith, on))
      | inr big ↦
          let new : z ≡ x = omega (arith, there_z.0) in
          let under : (y < next y) ⊎ (next y ≤ y) = cases_lt y (next y) in
          elim under [
            | inl up ↦ (omega arith, omega (arith, (rings.next_there y there).0))
            | inr down ↦ absurd (before_head y there ne (rings.wraps y there down ∙ sym same ∙ ap head new ∙ its_head))
          ]
    ]
  ]

  pub rings_more : Rings (x + 1) head [] next' back'
  rings_more = record {
    next_there = next_there_more;
    back_there = back_there_more;
    back_next = back_next_more;
    next_back = next_back_more;
    same_head = same_head_more;
    wraps = wraps_more;
    first = first_more;
  }

-- Heads alone, each linked with itself.
pub rings_alone : (places : ℕ) (head next back : ℕ → ℕ)
    → ((y : ℕ) → y < places → head y ≡ y) → ((y : ℕ) → y < places → next y ≡ y) → ((y : ℕ) → y < places → back y ≡ y) → Rings places head [] next back
rings_alone places head next back heads nexts backs = record {
  next_there = λ y here. (omega (arith, nexts y here.0, here.0), tt);
  back_there = λ y here. (omega (arith, backs y here.0, here.0), tt);
  back_next = λ y here. ap back (nexts y here.0) ∙ backs y here.0;
  next_back = λ y here. ap next (backs y here.0) ∙ nexts y here.0;
  same_head = λ y here. ap head (nexts y here.0);
  wraps = λ y here le. nexts y here.0 ∙ sym (heads y here.0);
  first = λ y z here there same lt. absurd (omega (arith, heads y here.0, heads z there.0));
}
