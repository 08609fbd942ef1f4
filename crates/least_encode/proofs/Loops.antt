-- Rows that are appended, one by one and group by group.
use Rattle.std.proofs.Common.{◌≡◌, ◌∙◌, sym, ap, subst, ℕ, zero, suc, ◌+◌, ◌<◌, ◌≤◌, ℤ, pos, negsuc, ◌-ℤ◌, neg_ℤ, Result, Ok, Err, OnOk, List, [], ◌∷◌, ◌++◌, length, take, drop, get_or, arith, append_assoc, append-nil, refl}
use Rattle.std.proofs.lemmas.List.{take_all, drop_more, drop_all}
use Rattle.ip_rows.specs.declared.rows.IpRow.{IpRow}
use Rattle.prov_arena.specs.declared.part.Pair.{Pair}
use Rattle.prov_fold.specs.declared.span.Span.{Span}
use Rattle.prov_fold.specs.Graphs.{Graph}
use Rattle.bool_encode.specs.declared.form.Piece.{Piece}
use Rattle.bool_encode.specs.declared.stand.Stand.{Stand}
use Rattle.bool_encode.specs.Forms.{Form, form}
use Rattle.bool_encode.specs.Rows.{AreRows, IsRowOf}
use Rattle.bool_encode.proofs.RowLemmas.{rows_push}
use Rattle.bool_encode.specs.Tables.{times}
use Rattle.cmp_encode.specs.Tables.{selects, selectors, present_forms, above_forms, below_forms}
use Rattle.least_encode.specs.Groups.{Appends}

-- ---- forms of pairs in turn, each by the pair and its number

module _ (forms : ℕ → List Pair → List Form) (one : ℕ → Pair → Form) (none : (i : ℕ) → forms i [] ≡ []) (more : (i : ℕ) (p : Pair) (ps : List Pair) → forms i (p ∷ ps) ≡ one i p ∷ forms (suc i) ps) where
  here : (i j : ℕ) (p : Pair) → i ≡ j → forms i (p ∷ []) ≡ forms i [] ++ one j p ∷ []
  here i j p e = more i p [] ∙ ap (λ (fs : List Form). one i p ∷ fs) (none (suc i)) ∙ ap (λ (k : ℕ). one k p ∷ []) e ∙ ap (λ (fs : List Form). fs ++ one j p ∷ []) (sym (none i))

  grown : (k i j : ℕ) (ps : List Pair) (d : Pair) → k < length ps → i + k ≡ j → forms i (take (suc k) ps) ≡ forms i (take k ps) ++ one j (get_or ps k d) ∷ []
  grown k i j [] d lt e = absurd (omega (arith, lt))
  grown zero i j (p ∷ ps) d lt e = here i j p (omega (arith, e))
  grown (suc k) i j (p ∷ ps) d lt e =
      more i p (take (suc k) ps) ∙ ap (λ (fs : List Form). one i p ∷ fs) (grown k (suc i) j ps d (omega (arith, lt)) (omega (arith, e)))
      ∙ ap (λ (fs : List Form). fs ++ one j (get_or ps k d) ∷ []) (sym (more i p (take k ps)))

  module _ (g : Graph) (stands : List Stand) (pairs : List Pair) (old : List IpRow) where
    nothing_more : (before : List Form) → before ≡ before ++ forms 0 []
    nothing_more before = sym (append-nil before) ∙ ap (λ (fs : List Form). before ++ fs) (sym (none 0))

    pub appends_none : Appends g stands (forms 0 (take 0 pairs)) old old
    appends_none before are = subst (λ (fs : List Form). AreRows g stands fs old) (nothing_more before) are

    pub appends_more : (k : ℕ) (mid new : List IpRow) (row : IpRow) (d : Pair) → k < length pairs → Appends g stands (forms 0 (take k pairs)) old mid → IsRowOf g stands (one k (get_or pairs k d)) row → new ≡ mid ++ row ∷ [] → Appends g stands (forms 0 (take (k + 1) pairs)) old new
    appends_more k mid new row d lt so_far is e before are =
        let next : k + 1 ≡ suc k = omega arith in
        let whole : (before ++ forms 0 (take k pairs)) ++ one k (get_or pairs k d) ∷ [] ≡ before ++ forms 0 (take (k + 1) pairs) =
        append_assoc before (forms 0 (take k pairs)) (one k (get_or pairs k d) ∷ []) ∙ ap (λ (fs : List Form). before ++ fs) (sym (grown k 0 k pairs d lt (omega arith))) ∙ ap (λ (n : ℕ). before ++ forms 0 (take n pairs)) (sym next) in
        subst (λ (rows : List IpRow). AreRows g stands (before ++ forms 0 (take (k + 1) pairs)) rows) (sym e)
        (subst (λ (fs : List Form). AreRows g stands fs (mid ++ row ∷ [])) whole (rows_push g stands (before ++ forms 0 (take k pairs)) mid (one k (get_or pairs k d)) row (so_far before are) is))

    pub appends_all : (k : ℕ) (new : List IpRow) → length pairs ≤ k → Appends g stands (forms 0 (take k pairs)) old new → Appends g stands (forms 0 pairs) old new
    appends_all k new le so_far = subst (λ (ps : List Pair). Appends g stands (forms 0 ps) old new) (take_all k pairs le) so_far

-- ---- the groups of a Min

module _ (g : Graph) (stands : List Stand) (z : ℕ) (pairs : List Pair) (old : List IpRow) where
  pub present_more : (k : ℕ) (mid new : List IpRow) (row : IpRow) (d : Pair) → k < length pairs → Appends g stands (present_forms z 0 (take k pairs)) old mid → IsRowOf g stands (form (pos 0) (times (pos 1) (get_or pairs k d).truth ∷ selects (negsuc 0) z k ∷ [])) row → new ≡ mid ++ row ∷ []
      → Appends g stands (present_forms z 0 (take (k + 1) pairs)) old new
  present_more = appends_more (present_forms z) (λ i p. form (pos 0) (times (pos 1) p.truth ∷ selects (negsuc 0) z i ∷ [])) (λ i. refl) (λ i p ps. refl) g stands pairs old

  above_one : ℤ → Pair → Form
  above_one gap p = form gap (times (pos 1) p.number ∷ times (neg_ℤ gap) p.truth ∷ times (negsuc 0) z ∷ [])

  below_one : ℤ → ℕ → Pair → Form
  below_one gap i p = form gap (times (pos 1) z ∷ times (negsuc 0) p.number ∷ selects (neg_ℤ gap) z i ∷ [])

  module _ (s : Span) (r : ℕ → Span) where
    pub above_more : (k : ℕ) (mid new : List IpRow) (row : IpRow) (d : Pair) (gap : ℤ) → k < length pairs → gap ≡ s.hi -ℤ (r (get_or pairs k d).number).lo → Appends g stands (above_forms s r z (take k pairs)) old mid
        → IsRowOf g stands (form gap (times (pos 1) (get_or pairs k d).number ∷ times (neg_ℤ gap) (get_or pairs k d).truth ∷ times (negsuc 0) z ∷ [])) row → new ≡ mid ++ row ∷ [] → Appends g stands (above_forms s r z (take (k + 1) pairs)) old new
    unfolding above_one
    above_more k mid new row d gap lt is so_far row_is e =
        appends_more (λ i ps. above_forms s r z ps) (λ i p. above_one (s.hi -ℤ (r p.number).lo) p) (λ i. refl) (λ i p ps. refl) g stands pairs old k mid new row d lt so_far
        (subst (λ (gap : ℤ). IsRowOf g stands (above_one gap (get_or pairs k d)) row) is row_is) e

    pub below_more : (k : ℕ) (mid new : List IpRow) (row : IpRow) (d : Pair) (gap : ℤ) → k < length pairs → gap ≡ (r (get_or pairs k d).number).hi -ℤ s.lo → Appends g stands (below_forms s r z 0 (take k pairs)) old mid
        → IsRowOf g stands (form gap (times (pos 1) z ∷ times (negsuc 0) (get_or pairs k d).number ∷ selects (neg_ℤ gap) z k ∷ [])) row → new ≡ mid ++ row ∷ [] → Appends g stands (below_forms s r z 0 (take (k + 1) pairs)) old new
    unfolding below_one
    below_more k mid new row d gap lt is so_far row_is e =
        appends_more (below_forms s r z) (λ i p. below_one ((r p.number).hi -ℤ s.lo) i p) (λ i. refl) (λ i p ps. refl) g stands pairs old k mid new row d lt so_far
        (subst (λ (gap : ℤ). IsRowOf g stands (below_one gap k (get_or pairs k d)) row) is row_is) e

-- ---- rows together

module _ (g : Graph) (stands : List Stand) where
  rows_both : (xs ys : List Form) (made more : List IpRow) → AreRows g stands xs made → AreRows g stands ys more → AreRows g stands (xs ++ ys) (made ++ more)
  rows_both [] ys [] more h k = k
  rows_both [] ys (row ∷ made) more h k = absurd h
  rows_both (x ∷ xs) ys [] more h k = absurd h
  rows_both (x ∷ xs) ys (row ∷ made) more h k = (h.0, rows_both xs ys made more h.1 k)

  pub appends_two : (a b : Form) (first second : IpRow) (old new : List IpRow) → IsRowOf g stands a first → IsRowOf g stands b second → new ≡ old ++ first ∷ second ∷ [] → Appends g stands (a ∷ b ∷ []) old new
  appends_two a b first second old new is also e before are = subst (λ (rows : List IpRow). AreRows g stands (before ++ a ∷ b ∷ []) rows) (sym e) (rows_both before (a ∷ b ∷ []) old (first ∷ second ∷ []) are (is, (also, tt)))

  pub appends_two_if : {E : Type 0} (r : Result (Unit {0}) E) (a b : Form) (first second : IpRow) (old new : List IpRow) → IsRowOf g stands a first → IsRowOf g stands b second → OnOk r (new ≡ old ++ first ∷ second ∷ []) → OnOk r (Appends g stands (a ∷ b ∷ []) old new)
  appends_two_if (Ok u) a b first second old new is also e = appends_two a b first second old new is also e
  appends_two_if (Err w) a b first second old new is also e = tt

  -- five groups, one after another
  pub appended : (xs ys zs us ws : List Form) (start a b c d e : List IpRow) → start ≡ [] → Appends g stands xs start a → Appends g stands ys a b → Appends g stands zs b c → Appends g stands us c d → Appends g stands ws d e → AreRows g stands (xs ++ (ys ++ (zs ++ (us ++ ws)))) e
  appended xs ys zs us ws start a b c d e nothing p q r s t =
      let whole : (((xs ++ ys) ++ zs) ++ us) ++ ws ≡ xs ++ (ys ++ (zs ++ (us ++ ws))) =
      append_assoc ((xs ++ ys) ++ zs) us ws ∙ append_assoc (xs ++ ys) zs (us ++ ws) ∙ append_assoc xs ys (zs ++ (us ++ ws)) in
      subst (λ (fs : List Form). AreRows g stands fs e) whole (t (((xs ++ ys) ++ zs) ++ us) (s ((xs ++ ys) ++ zs) (r (xs ++ ys) (q xs (p [] (subst (AreRows g stands []) (sym nothing) tt))))))

-- ---- the selectors of a sum in turn

selectors_step : (pieces next all : List Piece) (k : ℤ) (z i : ℕ) (p : Pair) (ps : List Pair) → next ≡ pieces ++ selects k z i ∷ [] → pieces ++ selectors k z i (p ∷ ps) ≡ all → next ++ selectors k z (suc i) ps ≡ all
selectors_step pieces next all k z i p ps e h = ap (λ (qs : List Piece). qs ++ selectors k z (suc i) ps) e ∙ append_assoc pieces (selects k z i ∷ []) (selectors k z (suc i) ps) ∙ h

pub selectors_more : (pieces next all : List Piece) (k : ℤ) (z i : ℕ) (pairs : List Pair) (d : Pair) → i < length pairs → next ≡ pieces ++ selects k z i ∷ [] → pieces ++ selectors k z i (drop i pairs) ≡ all → next ++ selectors k z (i + 1) (drop (i + 1) pairs) ≡ all
selectors_more pieces next all k z i pairs d lt e h =
    let up : suc i ≡ i + 1 = omega arith in
    subst (λ (n : ℕ). next ++ selectors k z n (drop (i + 1) pairs) ≡ all) up
    (selectors_step pieces next all k z i (get_or pairs i d) (drop (i + 1) pairs) e (subst (λ (ps : List Pair). pieces ++ selectors k z i ps ≡ all) (drop_more pairs i d lt) h))

pub selectors_end : (pieces all : List Piece) (k : ℤ) (z i : ℕ) (pairs : List Pair) → length pairs ≤ i → pieces ++ selectors k z i (drop i pairs) ≡ all → pieces ≡ all
selectors_end pieces all k z i pairs le h = sym (append-nil pieces) ∙ ap (λ (ps : List Pair). pieces ++ selectors k z i ps) (sym (drop_all i pairs le)) ∙ h
