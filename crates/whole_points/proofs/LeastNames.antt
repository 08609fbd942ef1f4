-- What the forms of a least number name.
use Rattle.std.proofs.Common.{ℕ, suc, ◌+◌, ◌<◌, ◌≤◌, ℤ, pos, negsuc, ◌-ℤ◌, neg_ℤ, List, [], ◌∷◌, ◌++◌, flat_map, length, All, arith}
use Rattle.prov_arena.specs.declared.part.Pair.{Pair}
use Rattle.prov_fold.specs.declared.span.Span.{Span}
use Rattle.prov_fold.proofs.SameLemmas.{All_cons}
use Rattle.bool_encode.specs.declared.form.Key.{Key}
use Rattle.bool_encode.specs.declared.form.Key.TheVariants as key
use Rattle.bool_encode.specs.declared.form.Piece.{Piece}
use Rattle.bool_encode.specs.Tables.{times}
use Rattle.bool_encode.proofs.Each.{All_none}
use Rattle.bool_encode.proofs.FormLemmas.{NamesOnly, names_both, two_pieces, three_pieces}
use Rattle.cmp_encode.specs.Tables.{above_forms, below_forms, end_forms, min_forms, present_forms, selectors, selects, sum_forms}

module _ (P : Key → Type 0) where
  abbrev On : Piece → Type 0
  On p = P p.key

  abbrev At : ℕ → Type 0
  At k = P (key.Node k)

  abbrev Kids : List Pair → Type 0
  Kids pairs = All At (flat_map (λ (p : Pair). p.truth ∷ p.number ∷ []) pairs)

  abbrev Chosen : ℕ → ℕ → List Pair → Type 0
  Chosen z i pairs = (j : ℕ) → i ≤ j → j < i + length pairs → P (key.Selector z j)

  names_present : (z i : ℕ) (pairs : List Pair) → Kids pairs → Chosen z i pairs → NamesOnly P (present_forms z i pairs)
  names_present z i [] h c = tt
  names_present z i (q ∷ qs) h c =
      let t = h 0 0 (omega arith) in
      let w = c i (omega arith) (omega arith) in
      (All_cons On (times (pos 1) q.truth) (selects (negsuc 0) z i ∷ []) t (All_cons On (selects (negsuc 0) z i) [] w (All_none On)), names_present z (suc i) qs (λ j a lt. h (suc (suc j)) a (omega arith)) (λ j le lt. c j (omega arith) (omega arith)))

  names_above : (s : Span) (r : ℕ → Span) (z : ℕ) (pairs : List Pair) → Kids pairs → At z → NamesOnly P (above_forms s r z pairs)
  names_above s r z [] h p = tt
  names_above s r z (q ∷ qs) h p = (three_pieces P (pos 1) (neg_ℤ (s.hi -ℤ (r q.number).lo)) (negsuc 0) q.number q.truth z (h 1 0 (omega arith)) (h 0 0 (omega arith)) p, names_above s r z qs (λ j a lt. h (suc (suc j)) a (omega arith)) p)

  names_below : (s : Span) (r : ℕ → Span) (z i : ℕ) (pairs : List Pair) → Kids pairs → At z → Chosen z i pairs → NamesOnly P (below_forms s r z i pairs)
  names_below s r z i [] h p c = tt
  names_below s r z i (q ∷ qs) h p c =
      let n = h 1 0 (omega arith) in
      let w = c i (omega arith) (omega arith) in
      let last = All_cons On (selects (neg_ℤ ((r q.number).hi -ℤ s.lo)) z i) [] w (All_none On) in
      (All_cons On (times (pos 1) z) (times (negsuc 0) q.number ∷ selects (neg_ℤ ((r q.number).hi -ℤ s.lo)) z i ∷ []) p (All_cons On (times (negsuc 0) q.number) (selects (neg_ℤ ((r q.number).hi -ℤ s.lo)) z i ∷ []) n last), names_below s r z (suc i) qs (λ j a lt. h (suc (suc j)) a (omega arith)) p (λ j le lt. c j (omega arith) (omega arith)))

  names_selectors : (k : ℤ) (z i : ℕ) (pairs : List Pair) → Chosen z i pairs → All On (selectors k z i pairs)
  names_selectors k z i [] c = All_none On
  names_selectors k z i (q ∷ qs) c = All_cons On (selects k z i) (selectors k z (suc i) qs) (c i (omega arith) (omega arith)) (names_selectors k z (suc i) qs (λ j le lt. c j (omega arith) (omega arith)))

  pub names_min : (s h : Span) (r : ℕ → Span) (b z : ℕ) (pairs : List Pair) → Kids pairs → At b → At z → ((j : ℕ) → j < length pairs → P (key.Selector z j)) → NamesOnly P (min_forms s h r b z pairs)
  names_min s h r b z pairs k q p c =
      let sel : Chosen z 0 pairs = λ j le lt. c j (omega (arith, lt)) in
      let ends : NamesOnly P (end_forms h b z) = (two_pieces P (pos 1) (neg_ℤ h.lo) z b p q, (two_pieces P h.hi (negsuc 0) b z q p, tt)) in
      let belows = names_both P (below_forms s r z 0 pairs) (end_forms h b z) (names_below s r z 0 pairs k p sel) ends in
      let aboves = names_both P (above_forms s r z pairs) (below_forms s r z 0 pairs ++ end_forms h b z) (names_above s r z pairs k p) belows in
      names_both P (present_forms z 0 pairs) (sum_forms b z pairs ++ (above_forms s r z pairs ++ (below_forms s r z 0 pairs ++ end_forms h b z))) (names_present z 0 pairs k sel)
      (All_cons On (times (negsuc 0) b) (selectors (pos 1) z 0 pairs) q (names_selectors (pos 1) z 0 pairs sel), (All_cons On (times (pos 1) b) (selectors (negsuc 0) z 0 pairs) q (names_selectors (negsuc 0) z 0 pairs sel), aboves))
