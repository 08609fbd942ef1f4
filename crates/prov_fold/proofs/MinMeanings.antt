-- What the rule of the least means: pairs of False and repeats change nothing.
use Rattle.std.proofs.Common.{◌≡◌, ◌∙◌, sym, ap, subst, ℕ, ◌<◌, ◌==◌, ℤ, pos, ◌≤ℤ◌, int_lt, Bool, true, false, cond, not, ◌&&◌, List, [], ◌∷◌, length, map, filter, fold, get_or, All, Option, Some, None, Result, Ok, Err, refl, arith}
use Rattle.std.specs.Ordering.{int_eq}
use Rattle.std.proofs.lemmas.Bool.{eqb-true}
use Rattle.std.proofs.lemmas.Bool.Decides.{Decides-int_eq}
use Rattle.std.proofs.lemmas.Int.{ints}
use Rattle.std.proofs.lemmas.List.Elements.{All-map}
use Rattle.prov_arena.specs.declared.part.Pair.{Pair}
use Rattle.prov_arena.specs.Formulas.{MinNode}
use Rattle.prov_fold.specs.declared.fault.FoldFault.{FoldFault}
use Rattle.prov_fold.specs.Spans.{min_span, least, lesser}
use Rattle.prov_fold.specs.Graphs.{Graph, range, size, HasPair}
use Rattle.prov_fold.specs.Folds.{IsFold}
use Rattle.prov_fold.specs.Values.{holds, nearest}
use Rattle.prov_fold.specs.Meanings.{values_in}
use Rattle.prov_fold.specs.Rules.{Rule, then_by, number_of, constant, guard, or_of, is_same_pair, first_pairs, pairs_left, least_of, min_by, min_of}
use Rattle.prov_fold.proofs.SameLemmas.{All_head}
use Rattle.prov_fold.proofs.LeastLemmas.{le_le}
use Rattle.prov_fold.proofs.PairLemmas.{All-pairs_left}
use Rattle.prov_fold.proofs.FillLemmas.{min_in}
use Rattle.prov_fold.proofs.PlaceLemmas.{value_zero, value_one}
use Rattle.prov_fold.proofs.InsideLemmas.{inside_kept}
use Rattle.prov_fold.proofs.StandLemmas.{by_if}
use Rattle.prov_fold.proofs.AidLemmas.{SettledBy, or_settled}
use Rattle.prov_fold.proofs.MeantLemmas.{Meant, meant_so, meant_from, IsWorth, number_meant}
use Rattle.prov_fold.proofs.NumberMeanings.{constant_means, GuardOf, guard_means}

-- ---- the least of the pairs whose truth holds, with what was found so far

lesser_is : (a x : ℤ) → a ≤ℤ x → lesser a x ≡ a
lesser_is a x le = by_test (int_lt a x) refl
  where
    by_test : (b : Bool) → int_lt a x ≡ b → cond b a x ≡ a
    by_test true e = refl
    by_test false e = omega (arith, ints, e, le)

lesser_left : (a x : ℤ) → lesser a x ≤ℤ a
lesser_left a x = by_test (int_lt a x) refl
  where
    by_test : (b : Bool) → int_lt a x ≡ b → cond b a x ≤ℤ a
    by_test true e = omega (arith, ints)
    by_test false e = omega (arith, ints, e)

lesser_right : (a x : ℤ) → lesser a x ≤ℤ x
lesser_right a x = by_test (int_lt a x) refl
  where
    by_test : (b : Bool) → int_lt a x ≡ b → cond b a x ≤ℤ x
    by_test true e = omega (arith, ints, e)
    by_test false e = omega (arith, ints)

not_false : (b : Bool) → not b ≡ false → b ≡ true
not_false true e = refl
not_false false e = sym e

both_left : (a b : Bool) → (a && b) ≡ true → a ≡ true
both_left true b e = refl
both_left false b e = e

both_right : (a b : Bool) → (a && b) ≡ true → b ≡ true
both_right true b e = e
both_right false b e = cc

same_truth : (q p : Pair) → is_same_pair q p ≡ true → q.truth ≡ p.truth
same_truth q p e = eqb-true q.truth p.truth (both_left (q.truth == p.truth) (q.number == p.number) e)

same_number : (q p : Pair) → is_same_pair q p ≡ true → q.number ≡ p.number
same_number q p e = eqb-true q.number p.number (both_right (q.truth == p.truth) (q.number == p.number) e)

module _ (v : ℕ → ℤ) where
  -- the numbers whose truth holds
  abbrev present : List Pair → List ℤ
  present ps = map (λ (p : Pair). v p.number) (filter (λ (p : Pair). holds v p.truth) ps)

  abbrev ended : Option ℤ → ℤ
  ended None = pos 0
  ended (Some a) = a

  -- the least of what was found and of the pairs, one after another
  abbrev go : Option ℤ → List Pair → ℤ
  go o [] = ended o
  go o (p ∷ ps) = cond (holds v p.truth) (go (Some (nearest o (v p.number))) ps) (go o ps)

  abbrev least_from : Option ℤ → List ℤ → ℤ
  least_from None xs = least xs
  least_from (Some a) xs = fold lesser a xs

  go_is : (o : Option ℤ) (ps : List Pair) → go o ps ≡ least_from o (present ps)
  go_is None [] = refl
  go_is (Some a) [] = refl
  go_is o (p ∷ ps) = by_test o (holds v p.truth) (λ o. go_is o ps)
    where
      by_test : (o : Option ℤ) (b : Bool) → ((o : Option ℤ) → go o ps ≡ least_from o (present ps))
          → cond b (go (Some (nearest o (v p.number))) ps) (go o ps) ≡ least_from o (map (λ (p : Pair). v p.number) (cond b (p ∷ filter (λ (p : Pair). holds v p.truth) ps) (filter (λ (p : Pair). holds v p.truth) ps)))
      by_test None true r = r (Some (v p.number))
      by_test (Some a) true r = r (Some (lesser a (v p.number)))
      by_test None false r = r None
      by_test (Some a) false r = r (Some a)

  -- what was found so far is at most n
  abbrev Covers : Option ℤ → ℤ → Type 0
  Covers None n = ⊥
  Covers (Some a) n = a ≤ℤ n

  covers_more : (o : Option ℤ) (x n : ℤ) → Covers o n → Covers (Some (nearest o x)) n
  covers_more None x n h = absurd h
  covers_more (Some a) x n h = le_le (lesser a x) a n (lesser_left a x) h

  covers_this : (o : Option ℤ) (x : ℤ) → Covers (Some (nearest o x)) x
  covers_this None x = omega (arith, ints)
  covers_this (Some a) x = lesser_right a x

  covered : (o : Option ℤ) (x : ℤ) → Covers o x → o ≡ Some (nearest o x)
  covered None x h = absurd h
  covered (Some a) x h = ap (λ z. Some z) (sym (lesser_is a x h))

  -- pairs that hold no lesser number may be left out
  go_drop : (keep : Pair → Bool) (o : Option ℤ) (ps : List Pair) → ((p : Pair) → keep p ≡ false → holds v p.truth ≡ true → Covers o (v p.number)) → go o (filter keep ps) ≡ go o ps
  go_drop keep o [] h = refl
  go_drop keep o (p ∷ ps) h = by_test (keep p) refl (holds v p.truth) refl (go_drop keep o ps h) (go_drop keep (Some (nearest o (v p.number))) ps (λ q out on. covers_more o (v p.number) (v q.number) (h q out on)))
    where
      by_test : (b : Bool) → keep p ≡ b → (c : Bool) → holds v p.truth ≡ c → go o (filter keep ps) ≡ go o ps → go (Some (nearest o (v p.number))) (filter keep ps) ≡ go (Some (nearest o (v p.number))) ps
          → go o (cond b (p ∷ filter keep ps) (filter keep ps)) ≡ cond c (go (Some (nearest o (v p.number))) ps) (go o ps)
      by_test true k true e r s = ap (λ b. cond b (go (Some (nearest o (v p.number))) (filter keep ps)) (go o (filter keep ps))) e ∙ s
      by_test true k false e r s = ap (λ b. cond b (go (Some (nearest o (v p.number))) (filter keep ps)) (go o (filter keep ps))) e ∙ r
      by_test false k true e r s = r ∙ ap (λ o. go o ps) (covered o (v p.number) (h p k e))
      by_test false k false e r s = r

  go_firsts : (o : Option ℤ) (ps : List Pair) → go o (first_pairs ps) ≡ go o ps
  go_firsts o [] = refl
  go_firsts o (p ∷ ps) = by_test (holds v p.truth) refl (go_firsts o ps) (go_firsts (Some (nearest o (v p.number))) ps)
    where
      by_test : (c : Bool) → holds v p.truth ≡ c → go o (first_pairs ps) ≡ go o ps → go (Some (nearest o (v p.number))) (first_pairs ps) ≡ go (Some (nearest o (v p.number))) ps
          → cond c (go (Some (nearest o (v p.number))) (filter (λ q. not (is_same_pair q p)) (first_pairs ps))) (go o (filter (λ q. not (is_same_pair q p)) (first_pairs ps))) ≡ cond c (go (Some (nearest o (v p.number))) ps) (go o ps)
      by_test true e r s =
          go_drop (λ q. not (is_same_pair q p)) (Some (nearest o (v p.number))) (first_pairs ps)
          (λ q out on. subst (λ n. Covers (Some (nearest o (v p.number))) (v n)) (sym (same_number q p (not_false (is_same_pair q p) out))) (covers_this o (v p.number))) ∙ s
      by_test false e r s =
          go_drop (λ q. not (is_same_pair q p)) o (first_pairs ps) (λ q out on. let no : true ≡ false = sym on ∙ ap (holds v) (same_truth q p (not_false (is_same_pair q p) out)) ∙ e in cc) ∙ r

  left_least : holds v 0 ≡ false → (ps : List Pair) → least (present (pairs_left ps)) ≡ least (present ps)
  left_least off ps =
      sym (go_is None (pairs_left ps)) ∙ go_firsts None (filter (λ (p : Pair). not (p.truth == 0)) ps)
      ∙ go_drop (λ (p : Pair). not (p.truth == 0)) None ps (λ q out on. let no : true ≡ false = sym on ∙ ap (holds v) (eqb-true q.truth 0 (not_false (q.truth == 0) out)) ∙ off in cc) ∙ go_is None ps

-- ---- the rules

abbrev pub LeastOf : List Pair → List ℤ → (ℕ → ℤ) → ℤ
LeastOf pairs world v = least (map (λ (p : Pair). v p.number) (filter (λ (p : Pair). holds v p.truth) pairs))

between : (lo hi z : ℤ) → lo ≡ hi → lo ≤ℤ z → z ≤ℤ hi → lo ≡ z
between lo hi z e a b = omega (arith, ints, e, a, b)

least_means : (pairs : List Pair) (g : Graph) → length g.ranges ≡ size g → All (λ (p : Pair). p.number < size g) pairs → Meant g (IsWorth (LeastOf pairs)) (least_of pairs g)
least_means pairs g count below =
    let span = min_span (range g) pairs in
    by_if (Meant g (IsWorth (LeastOf pairs))) (int_eq span.lo span.hi) (constant span.lo g) (number_of span (MinNode pairs) g)
    (λ e. meant_so g (IsWorth (λ world v. span.lo)) (IsWorth (LeastOf pairs)) (constant span.lo g)
    (λ id h world later is.
    let inside = min_in g (values_in h world) pairs (λ j d lt. inside_kept g h world later (get_or pairs j d).number (below j d lt)) (value_one h world later.fold) in
    is ∙ between span.lo span.hi (LeastOf pairs world (values_in h world)) ((Decides-int_eq span.lo span.hi).0 e) inside.low inside.high)
    (constant_means span.lo g count))
    (λ _. number_meant span (MinNode pairs) g (LeastOf pairs) count (λ h world later. refl))

then_least : (pairs : List Pair) (g : Graph) (rule : Rule) → All (λ (p : Pair). p.number < size g) pairs → (r : Result ℕ FoldFault) (g' : Graph) → SettledBy g rule r g' → Meant g (IsWorth (LeastOf pairs)) (then_by r g' (λ _. least_of pairs))
then_least pairs g rule below (Ok id) g' s =
    meant_from g g' (IsWorth (LeastOf pairs)) (least_of pairs g') s.0 (least_means pairs g' s.1 (λ j d lt. let n = s.0.longer in let b = below j d lt in omega (arith, n, b)))
then_least pairs g rule below (Err e) g' s = tt

truths_below : (g : Graph) (pairs : List Pair) → All (λ (p : Pair). HasPair g p) pairs → All (λ k. k < size g) (map (λ (p : Pair). p.truth) pairs)
truths_below g pairs has = All-map (λ k. k < size g) (λ (p : Pair). p.truth) pairs (λ j d lt. (has j d lt).truth.below)

by_means : (pairs : List Pair) (g : Graph) → IsFold g → All (λ (p : Pair). HasPair g p) pairs → Meant g (IsWorth (LeastOf pairs)) (min_by pairs g)
by_means [] g fold has = constant_means (pos 0) g fold.count
by_means (p ∷ []) g fold has =
    let h = All_head (λ (p : Pair). HasPair g p) p [] has in
    meant_so g (IsWorth (GuardOf p.truth p.number)) (IsWorth (LeastOf (p ∷ []))) (guard p.truth p.number g)
    (λ id k world later is. is ∙ go_is (values_in k world) None (p ∷ [])) (guard_means p.truth p.number g fold h.truth h.number.below)
by_means (p ∷ q ∷ more) g fold has =
    let truths = map (λ (r : Pair). r.truth) (p ∷ q ∷ more) in
    let or = or_of truths g in
    then_least (p ∷ q ∷ more) g (or_of truths) (λ j d lt. (has j d lt).number.below) or.gives or.list (or_settled truths g fold.count (truths_below g (p ∷ q ∷ more) has))

pub min_means : (pairs : List Pair) (g : Graph) → IsFold g → All (λ (p : Pair). HasPair g p) pairs → Meant g (IsWorth (LeastOf pairs)) (min_of pairs g)
unfolding min_of
min_means pairs g fold has =
    meant_so g (IsWorth (LeastOf (pairs_left pairs))) (IsWorth (LeastOf pairs)) (min_by (pairs_left pairs) g)
    (λ id h world later is. is ∙ left_least (values_in h world) (ap (λ (x : ℤ). int_eq x (pos 1)) (value_zero h world later.fold)) pairs)
    (by_means (pairs_left pairs) g fold (All-pairs_left (λ (p : Pair). HasPair g p) pairs has))
