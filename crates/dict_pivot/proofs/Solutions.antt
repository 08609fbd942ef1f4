-- A pivot keeps the solutions: what row i says moves by its cell in the pivot's column times what is missed in the pivot's row.
use Rattle.std.proofs.Common.{◌≡◌, ◌≢◌, ℕ, ◌<◌, ◌⊎◌, inl, inr, refl, sym, ◌∙◌, ap, ap₂, subst, arith}
use Rattle.rat128.specs.Rationals.{ℚ, zero_ℚ, one_ℚ, ◌+ℚ◌, ◌-ℚ◌, ◌*ℚ◌, neg_ℚ, inv_ℚ}
use Rattle.rat128.proofs.Rationals.{+ℚ_comm, +ℚ_assoc, +ℚ_zero, zero-+ℚ, +ℚ_neg, +ℚ_cancel, *ℚ_comm, *ℚ_assoc, *ℚ-+ℚ, +ℚ-*ℚ, zero-*ℚ, *ℚ_zero, one-*ℚ, *ℚ_inverse, *ℚ-neg_ℚ, neg_ℚ-*ℚ, neg_ℚ-+ℚ}
use Rattle.dict_pivot.specs.Tables.{Table, IsColumn, share, IsPivot, IsUnits, IsHome, total, distance, said, Solves}
use Rattle.dict_pivot.proofs.PivotLaws.{same_or_not, added, scaled, kept, share_is, old_column}
use Rattle.dict_pivot.proofs.Sums.{total_zero, total_same, cross_sum, total_plus, total_times, total_put}

pub undone : (x y : ℚ) → neg_ℚ x +ℚ (neg_ℚ y +ℚ (x +ℚ y)) ≡ zero_ℚ
undone x y =
    sym (+ℚ_assoc (neg_ℚ x) (neg_ℚ y) (x +ℚ y)) ∙ ap (λ s. s +ℚ (x +ℚ y)) (sym (neg_ℚ-+ℚ x y)) ∙ +ℚ_comm (neg_ℚ (x +ℚ y)) (x +ℚ y) ∙ +ℚ_neg (x +ℚ y)

module _ (least : ℕ → ℚ) (t t' : Table) (r c : ℕ) (rl : r < t.height) (col : IsColumn t c) (some : t.cell r c ≢ zero_ℚ) (p : IsPivot least t r c t') (q : ℕ → ℚ) where
  -- column c's share of what the quantities miss in row r
  missed : ℚ
  missed =
      share least t r c 0 +ℚ (total t.width (λ j. neg_ℚ (t.cell r j *ℚ inv_ℚ (t.cell r c)) *ℚ distance least q (t.free j)) +ℚ inv_ℚ (t.cell r c) *ℚ distance least q r)

  own_zero : (i : ℕ) → t.cell i c *ℚ distance least q (t.free c) +ℚ t.cell i c *ℚ (neg_ℚ (t.cell r c *ℚ inv_ℚ (t.cell r c)) *ℚ distance least q (t.free c)) ≡ zero_ℚ
  own_zero i =
      let d = distance least q (t.free c) in
      let a = t.cell i c in
      let one : t.cell r c *ℚ inv_ℚ (t.cell r c) ≡ one_ℚ = *ℚ_inverse (t.cell r c) some in
      let e : neg_ℚ (t.cell r c *ℚ inv_ℚ (t.cell r c)) *ℚ d ≡ neg_ℚ d = ap (λ s. neg_ℚ s *ℚ d) one ∙ neg_ℚ-*ℚ one_ℚ d ∙ ap neg_ℚ (one-*ℚ d) in
      ap (λ s. a *ℚ d +ℚ a *ℚ s) e ∙ ap (λ s. a *ℚ d +ℚ s) (*ℚ-neg_ℚ a d) ∙ +ℚ_neg (a *ℚ d)

  said_moves : (i : ℕ) → i < t.height → said least t' q i ≡ said least t q i +ℚ t.cell i c *ℚ missed
  unfolding missed
  said_moves i l =
      let a = t.cell i c in
      let d : ℕ → ℚ = λ j. distance least q (t.free j) in
      let f : ℕ → ℚ = λ j. neg_ℚ (t.cell r j *ℚ inv_ℚ (t.cell r c)) *ℚ d j in
      let e = inv_ℚ (t.cell r c) *ℚ distance least q r in
      let put : total t.width (λ j. t'.cell i j *ℚ distance least q (t'.free j)) ≡ total t.width (λ j. t.cell i j *ℚ d j +ℚ a *ℚ f j) +ℚ t'.cell i c *ℚ distance least q (t'.free c) = total_put t.width c (λ j. t.cell i j *ℚ d j +ℚ a *ℚ f j) (λ j. t'.cell i j *ℚ distance least q (t'.free j)) col.some col.within (λ j s le ne. term j (record { some = s; within = le }) ne) (own_zero i) in
      let own : t'.cell i c *ℚ distance least q (t'.free c) ≡ a *ℚ e = ap₂ (λ x y. x *ℚ distance least q y) (scaled least t t' r c rl col some p i l) p.free ∙ *ℚ_assoc a (inv_ℚ (t.cell r c)) (distance least q r) in
      let apart : total t.width (λ j. t.cell i j *ℚ d j +ℚ a *ℚ f j) ≡ total t.width (λ j. t.cell i j *ℚ d j) +ℚ a *ℚ total t.width f = total_plus t.width (λ j. t.cell i j *ℚ d j) (λ j. a *ℚ f j) ∙ ap (λ s. total t.width (λ j. t.cell i j *ℚ d j) +ℚ s) (total_times t.width a f) in
      let first : t'.cell i 0 ≡ t.cell i 0 +ℚ a *ℚ share least t r c 0 = added least t t' r c rl col some p i 0 l (omega arith) (λ z. absurd (not_first c col.some z)) in
      ap (λ w. t'.cell i 0 +ℚ total w (λ j. t'.cell i j *ℚ distance least q (t'.free j))) p.width ∙ ap₂ (λ x y. x +ℚ y) first (put ∙ ap₂ (λ x y. x +ℚ y) apart own) ∙ grouped (t.cell i 0) a (share least t r c 0) (total t.width (λ j. t.cell i j *ℚ d j)) (total t.width f) e
    where
      not_first : (c : ℕ) → 0 < c → 0 ≡ c → ⊥
      not_first c s z = absurd (omega arith)

      term : (j : ℕ) → IsColumn t j → j ≢ c → t'.cell i j *ℚ distance least q (t'.free j) ≡ t.cell i j *ℚ distance least q (t.free j) +ℚ t.cell i c *ℚ (neg_ℚ (t.cell r j *ℚ inv_ℚ (t.cell r c)) *ℚ distance least q (t.free j))
      term j k ne =
          let d = distance least q (t.free j) in
          let x = neg_ℚ (t.cell r j *ℚ inv_ℚ (t.cell r c)) in
          ap₂ (λ a b. a *ℚ distance least q b) (added least t t' r c rl col some p i j l k.within ne ∙ ap (λ s. t.cell i j +ℚ t.cell i c *ℚ s) (share_is least t t' r c rl col some p j k.some)) (p.frees j k ne) ∙ +ℚ-*ℚ (t.cell i j) (t.cell i c *ℚ x) d ∙ ap (λ s. t.cell i j *ℚ d +ℚ s) (*ℚ_assoc (t.cell i c) x d)

      grouped : (b a f s g e : ℚ) → (b +ℚ a *ℚ f) +ℚ ((s +ℚ a *ℚ g) +ℚ a *ℚ e) ≡ (b +ℚ s) +ℚ a *ℚ (f +ℚ (g +ℚ e))
      grouped b a f s g e =
          ap (λ z. (b +ℚ a *ℚ f) +ℚ z) (+ℚ_assoc s (a *ℚ g) (a *ℚ e)) ∙ cross_sum b (a *ℚ f) s (a *ℚ g +ℚ a *ℚ e) ∙ ap (λ z. (b +ℚ s) +ℚ z) (ap (λ z. a *ℚ f +ℚ z) (sym (*ℚ-+ℚ a g e)) ∙ sym (*ℚ-+ℚ a f (g +ℚ e)))

  -- nothing is missed where row r is met
  none_missed : q r ≡ said least t q r → missed ≡ zero_ℚ
  unfolding missed
  none_missed h =
      let u = inv_ℚ (t.cell r c) in
      let b = t.cell r 0 -ℚ least r in
      let s = total t.width (λ j. t.cell r j *ℚ distance least q (t.free j)) in
      let front : share least t r c 0 ≡ neg_ℚ (u *ℚ b) = ap neg_ℚ (*ℚ_comm b u) in
      let middle : total t.width (λ j. neg_ℚ (t.cell r j *ℚ u) *ℚ distance least q (t.free j)) ≡ neg_ℚ (u *ℚ s) = total_same t.width (λ j. neg_ℚ (t.cell r j *ℚ u) *ℚ distance least q (t.free j)) (λ j. neg_ℚ u *ℚ (t.cell r j *ℚ distance least q (t.free j))) (λ j some le. turned (t.cell r j) u (distance least q (t.free j))) ∙ total_times t.width (neg_ℚ u) (λ j. t.cell r j *ℚ distance least q (t.free j)) ∙ neg_ℚ-*ℚ u s in
      let last : u *ℚ distance least q r ≡ u *ℚ b +ℚ u *ℚ s = ap (λ z. u *ℚ (z -ℚ least r)) h ∙ ap (λ z. u *ℚ z) (swapped (t.cell r 0) s (neg_ℚ (least r))) ∙ *ℚ-+ℚ u b s in
      ap₂ (λ x y. x +ℚ y) front (ap₂ (λ x y. x +ℚ y) middle last) ∙ undone (u *ℚ b) (u *ℚ s)
    where
      turned : (a u d : ℚ) → neg_ℚ (a *ℚ u) *ℚ d ≡ neg_ℚ u *ℚ (a *ℚ d)
      turned a u d = ap (λ s. neg_ℚ s *ℚ d) (*ℚ_comm a u) ∙ ap (λ s. s *ℚ d) (sym (neg_ℚ-*ℚ u a)) ∙ *ℚ_assoc (neg_ℚ u) a d

      swapped : (a s m : ℚ) → (a +ℚ s) +ℚ m ≡ (a +ℚ m) +ℚ s
      swapped a s m = +ℚ_assoc a s m ∙ ap (λ z. a +ℚ z) (+ℚ_comm s m) ∙ sym (+ℚ_assoc a m s)

  -- a solution stays one
  pub solves_after : Solves least t q → Solves least t' q
  solves_after s = record { each = λ i l. let l' : i < t.height = subst (λ h. i < h) p.height l in s.each i l' ∙ sym (said_moves i l' ∙ ap (λ z. said least t q i +ℚ t.cell i c *ℚ z) (none_missed (s.each r rl)) ∙ ap (λ z. said least t q i +ℚ z) (*ℚ_zero (t.cell i c)) ∙ +ℚ_zero (said least t q i)) }

  -- the row of a free quantity says nothing
  pub says_itself : IsUnits t → IsHome least t → said least t q (t.free c) ≡ q (t.free c)
  says_itself g h =
      let f = t.free c in
      let put : total t.width (λ j. t.cell f j *ℚ distance least q (t.free j)) ≡ total t.width (λ j. zero_ℚ) +ℚ t.cell f c *ℚ distance least q f = total_put t.width c (λ j. zero_ℚ) (λ j. t.cell f j *ℚ distance least q (t.free j)) col.some col.within (λ j s le ne. ap (λ z. z *ℚ distance least q (t.free j)) (g.apart c j col (record { some = s; within = le }) (λ e. ne (sym e))) ∙ zero-*ℚ (distance least q (t.free j))) refl in
      let own : t.cell f c *ℚ distance least q f ≡ distance least q f = ap (λ z. z *ℚ distance least q f) (g.own c col) ∙ one-*ℚ (distance least q f) in
      ap₂ (λ x y. x +ℚ y) (h.home c col) (put ∙ ap₂ (λ x y. x +ℚ y) (total_zero t.width (λ j. zero_ℚ) (λ j s le. refl)) own ∙ zero-+ℚ (distance least q f)) ∙ +ℚ_comm (least f) (distance least q f) ∙ +ℚ_assoc (q f) (neg_ℚ (least f)) (least f) ∙ ap (λ z. q f +ℚ z) (+ℚ_comm (neg_ℚ (least f)) (least f) ∙ +ℚ_neg (least f)) ∙ +ℚ_zero (q f)

  -- and a solution afterwards was one before
  pub solves_before : IsUnits t → IsHome least t → Solves least t' q → Solves least t q
  solves_before g h s =
      let f = t.free c in
      let l : f < t.height = g.row c col in
      let moved : q f ≡ q f +ℚ missed = s.each f (subst (λ h. f < h) (sym p.height) l) ∙ said_moves f l ∙ ap₂ (λ x y. x +ℚ y) (says_itself g h) (ap (λ z. z *ℚ missed) (g.own c col) ∙ one-*ℚ missed) in
      let none : missed ≡ zero_ℚ = +ℚ_cancel missed zero_ℚ (q f) (+ℚ_comm missed (q f) ∙ sym moved ∙ sym (zero-+ℚ (q f))) in
      record { each = λ i m. s.each i (subst (λ h. i < h) (sym p.height) m) ∙ said_moves i m ∙ ap (λ z. said least t q i +ℚ t.cell i c *ℚ z) none ∙ ap (λ z. said least t q i +ℚ z) (*ℚ_zero (t.cell i c)) ∙ +ℚ_zero (said least t q i) }

  pub stays_home : IsUnits t → IsHome least t → IsHome least t'
  stays_home g h = record { home = λ j k. home j (old_column least t t' r c rl col some p j k) (same_or_not j c) }
    where
      home : (j : ℕ) → IsColumn t j → (j ≡ c) ⊎ (j ≢ c) → t'.cell (t'.free j) 0 ≡ least (t'.free j)
      home j k (inl e) = subst (λ j. t'.cell (t'.free j) 0 ≡ least (t'.free j)) (sym e) (subst (λ i. t'.cell i 0 ≡ least i) (sym p.free) p.constant)
      home j k (inr ne) = subst (λ i. t'.cell i 0 ≡ least i) (sym (p.frees j k ne)) (kept least t t' r c rl col some p (t.free j) 0 (g.row j k) (omega arith) (λ e. absurd (not_first c col.some e)) (g.apart j c k col ne) ∙ h.home j k)
        where
          not_first : (c : ℕ) → 0 < c → 0 ≡ c → ⊥
          not_first c s z = absurd (omega arith)
