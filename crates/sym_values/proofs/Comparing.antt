-- the truths that are made of conditions, step by step
use Rattle.std.proofs.Common.{◌≡◌, ◌∙◌, sym, ap, ap₂, subst, refl, ℕ, ◌≤ℤ◌, ◌<ℤ◌, ℤ, pos, negsuc, neg_ℤ, ◌+ℤ◌, ◌*ℤ◌, Bool, true, false, ◌&&◌, ◌||◌, List, [], ◌∷◌, All, Result, Ok, Err, arith}
use Rattle.std.specs.Prelude.{int_le}
use Rattle.std.specs.declared.cmp.Ordering.{Ordering}
use Rattle.std.specs.declared.cmp.Ordering.TheVariants.{Less, Equal, Greater}
use Rattle.std.specs.List.{list_all, list_any}
use Rattle.std.specs.Ordering.{int_eq, int_cmp, MatchOrdering}
use Rattle.std.specs.Cmp.{int_ranks}
use Rattle.std.proofs.lemmas.Int.{ints}
use Rattle.std.proofs.lemmas.List.Elements.{All-nil, All-cons}
use Rattle.tiql_query.specs.declared.condition.Cmp.{Cmp}
use Rattle.tiql_query.specs.declared.condition.Cmp.TheVariants as cmp
use Rattle.row_values.specs.Values.{Combination, number, value, truth}
use Rattle.row_values.specs.Values as plain_values
use Rattle.prov_fold.specs.Graphs.{Graph, HasNumber, HasTruth, HasSummand}
use Rattle.prov_fold.specs.Values.{as_number, holds}
use Rattle.prov_fold.specs.Sums.{total_by}
use Rattle.prov_fold.specs.declared.span.Scaled.{Scaled}
use Rattle.prov_fold.specs.Rules as rule
use Rattle.prov_fold.proofs.PlaceLemmas.{as_is}
use Rattle.sym_rows.specs.declared.fault.WalkFault.{WalkFault}
use Rattle.sym_rows.specs.Walks.{Walk, ◌>>=◌, by_rule, Makes}
use Rattle.sym_rows.proofs.Makes.{makes_is, makes_then, makes_stop}
use Rattle.sym_values.specs.Conditions.{at_least, both_ways, compared}
use Rattle.sym_values.specs.Tests.{IsComparison, IsAtLeast}
use Rattle.sym_values.proofs.Numbering.{makes_on, makes_as, summand}

-- ---- differences

pub two_summands : (g : Graph) (one other : ℕ) → HasNumber g one → HasNumber g other → All (λ (part : Scaled). HasSummand g part.number) (record { factor = pos 1; number = one } ∷ record { factor = negsuc 0; number = other } ∷ [])
two_summands g one other a b =
    All-cons (λ (part : Scaled). HasSummand g part.number) (record { factor = pos 1; number = one }) (record { factor = negsuc 0; number = other } ∷ []) (summand g one a)
    (All-cons (λ (part : Scaled). HasSummand g part.number) (record { factor = negsuc 0; number = other }) [] (summand g other b) (All-nil (λ (part : Scaled). HasSummand g part.number)))

same_test : (a b c d : ℤ) → (a ≤ℤ b → c ≤ℤ d) → (c ≤ℤ d → a ≤ℤ b) → int_le a b ≡ int_le c d
same_test a b c d on back = by_test (int_le a b) (int_le c d) refl refl
  where
    by_test : (one other : Bool) → int_le a b ≡ one → int_le c d ≡ other → one ≡ other
    by_test true true e f = refl
    by_test false false e f = refl
    by_test true false e f = absurd (let h : c ≤ℤ d = on (grind (arith, ints)) in grind (arith, ints))
    by_test false true e f = absurd (let h : a ≤ℤ b = back (grind (arith, ints)) in grind (arith, ints))

minus_one : (n : ℤ) → negsuc 0 *ℤ n ≡ neg_ℤ n
minus_one n = grind (arith, ints)

one_times : (n : ℤ) → pos 1 *ℤ n ≡ n
one_times n = grind (arith, ints)

above : (c m n : ℤ) → int_le (pos 0) (c +ℤ (pos 1 *ℤ m +ℤ (negsuc 0 *ℤ n +ℤ pos 0))) ≡ int_le n (c +ℤ m)
above c m n =
    ap₂ (λ (a b : ℤ). int_le (pos 0) (c +ℤ (a +ℤ (b +ℤ pos 0)))) (one_times m) (minus_one n)
    ∙ same_test (pos 0) (c +ℤ (m +ℤ (neg_ℤ n +ℤ pos 0))) n (c +ℤ m) (λ h. omega (arith, ints, h)) (λ h. omega (arith, ints, h))

module _ (constant : ℤ) (one other : ℕ) (g mid : Graph) where
  abbrev IsDifference : ℕ → List ℤ → (ℕ → ℤ) → Type 0
  IsDifference id _ v = v id ≡ constant +ℤ total_by (λ (part : Scaled). part.factor *ℤ v part.number) (record { factor = pos 1; number = one } ∷ record { factor = negsuc 0; number = other } ∷ [])

  abbrev DifferenceMade : Result ℕ WalkFault → Type 0
  DifferenceMade r = Makes (by_rule (rule.sum constant (record { factor = pos 1; number = one } ∷ record { factor = negsuc 0; number = other } ∷ [])) g) HasNumber IsDifference g r mid

  pub difference_as : (m : ℤ) (r : Result ℕ WalkFault) → m ≡ constant → Makes (by_rule (rule.sum m (record { factor = pos 1; number = one } ∷ record { factor = negsuc 0; number = other } ∷ [])) g) HasNumber (λ id _ v. v id ≡ m +ℤ total_by (λ (part : Scaled). part.factor *ℤ v part.number) (record { factor = pos 1; number = one } ∷ record { factor = negsuc 0; number = other } ∷ [])) g r mid → DifferenceMade r
  difference_as m r same h =
      subst (λ (c : ℤ). Makes (by_rule (rule.sum c (record { factor = pos 1; number = one } ∷ record { factor = negsuc 0; number = other } ∷ [])) g) HasNumber (λ id _ v. v id ≡ c +ℤ total_by (λ (part : Scaled). part.factor *ℤ v part.number) (record { factor = pos 1; number = one } ∷ record { factor = negsuc 0; number = other } ∷ [])) g r mid) same h

  pub at_least_ok : (id : ℕ) (after : Graph) (r : Result ℕ WalkFault) → DifferenceMade (Ok id) → Makes (by_rule (rule.pos_of id) mid) HasTruth (λ made _ v. v made ≡ as_number (int_le (pos 0) (v id))) mid r after
      → Makes (at_least constant one other g) HasTruth (IsAtLeast constant one other) g r after
  at_least_ok id after r h k =
      makes_on HasNumber IsDifference HasTruth (IsAtLeast constant one other) (λ made _ v. v made ≡ as_number (int_le (pos 0) (v id))) (by_rule (rule.sum constant (record { factor = pos 1; number = one } ∷ record { factor = negsuc 0; number = other } ∷ [])) g) (λ n g. by_rule (rule.pos_of n) g) g mid id after r
      (λ made world v is e. ap (λ (n : ℤ). int_eq n (pos 1)) e ∙ as_is (int_le (pos 0) (v id)) ∙ ap (int_le (pos 0)) is ∙ above constant (v one) (v other)) h k

  pub at_least_err : (e : WalkFault) → DifferenceMade (Err e) → Makes (at_least constant one other g) HasTruth (IsAtLeast constant one other) g (Err e) mid
  at_least_err e h = makes_stop HasNumber IsDifference HasTruth (IsAtLeast constant one other) (by_rule (rule.sum constant (record { factor = pos 1; number = one } ∷ record { factor = negsuc 0; number = other } ∷ [])) g) (λ n g. by_rule (rule.pos_of n) g) g mid e h

-- ---- comparisons of numbers

module _ (m n : ℤ) where
  by_rank : (P : Ordering → Type 0) → (m <ℤ n → P Less) → (m ≡ n → P Equal) → (n <ℤ m → P Greater) → P (int_cmp m n)
  by_rank P less equal greater = by_order (int_cmp m n) (int_ranks m n)
    where
      by_order : (order : Ordering) → MatchOrdering order (m <ℤ n) (m ≡ n) (n <ℤ m) → P order
      by_order Less h = less h
      by_order Equal h = equal h
      by_order Greater h = greater h

  yes_le : (a b : ℤ) → a ≤ℤ b → int_le a b ≡ true
  yes_le a b h = grind (arith, ints)

  no_le : (a b : ℤ) → b <ℤ a → int_le a b ≡ false
  no_le a b h = grind (arith, ints)

  less_is : int_le m (negsuc 0 +ℤ n) ≡ plain_values.holds cmp.Lt (int_cmp m n)
  unfolding plain_values.holds
  less_is = by_rank (λ order. int_le m (negsuc 0 +ℤ n) ≡ plain_values.holds cmp.Lt order) (λ h. yes_le m (negsuc 0 +ℤ n) (omega (arith, ints, h))) (λ h. no_le m (negsuc 0 +ℤ n) (omega (arith, ints, h))) (λ h. no_le m (negsuc 0 +ℤ n) (omega (arith, ints, h)))

  most_is : int_le m (pos 0 +ℤ n) ≡ plain_values.holds cmp.Le (int_cmp m n)
  unfolding plain_values.holds
  most_is = by_rank (λ order. int_le m (pos 0 +ℤ n) ≡ plain_values.holds cmp.Le order) (λ h. yes_le m (pos 0 +ℤ n) (omega (arith, ints, h))) (λ h. yes_le m (pos 0 +ℤ n) (omega (arith, ints, h))) (λ h. no_le m (pos 0 +ℤ n) (omega (arith, ints, h)))

  more_is : int_le n (negsuc 0 +ℤ m) ≡ plain_values.holds cmp.Gt (int_cmp m n)
  unfolding plain_values.holds
  more_is = by_rank (λ order. int_le n (negsuc 0 +ℤ m) ≡ plain_values.holds cmp.Gt order) (λ h. no_le n (negsuc 0 +ℤ m) (omega (arith, ints, h))) (λ h. no_le n (negsuc 0 +ℤ m) (omega (arith, ints, h))) (λ h. yes_le n (negsuc 0 +ℤ m) (omega (arith, ints, h)))

  least_is : int_le n (pos 0 +ℤ m) ≡ plain_values.holds cmp.Ge (int_cmp m n)
  unfolding plain_values.holds
  least_is = by_rank (λ order. int_le n (pos 0 +ℤ m) ≡ plain_values.holds cmp.Ge order) (λ h. no_le n (pos 0 +ℤ m) (omega (arith, ints, h))) (λ h. yes_le n (pos 0 +ℤ m) (omega (arith, ints, h))) (λ h. yes_le n (pos 0 +ℤ m) (omega (arith, ints, h)))

  equal_is : (plain_values.holds cmp.Ge (int_cmp m n) && (plain_values.holds cmp.Le (int_cmp m n) && true)) ≡ plain_values.holds cmp.Eq (int_cmp m n)
  unfolding plain_values.holds
  equal_is = by_rank (λ order. (plain_values.holds cmp.Ge order && (plain_values.holds cmp.Le order && true)) ≡ plain_values.holds cmp.Eq order) (λ h. refl) (λ h. refl) (λ h. refl)

  unequal_is : (plain_values.holds cmp.Gt (int_cmp m n) || (plain_values.holds cmp.Lt (int_cmp m n) || false)) ≡ plain_values.holds cmp.Ne (int_cmp m n)
  unfolding plain_values.holds
  unequal_is = by_rank (λ order. (plain_values.holds cmp.Gt order || (plain_values.holds cmp.Lt order || false)) ≡ plain_values.holds cmp.Ne order) (λ h. refl) (λ h. refl) (λ h. refl)

module _ (one other : ℕ) (g : Graph) where
  module _ (after : Graph) (r : Result ℕ WalkFault) where
    pub compared_less : Makes (at_least (negsuc 0) other one g) HasTruth (IsAtLeast (negsuc 0) other one) g r after → Makes (compared cmp.Lt one other g) HasTruth (IsComparison cmp.Lt one other) g r after
    unfolding compared
    compared_less h = makes_as HasTruth (IsAtLeast (negsuc 0) other one) (IsComparison cmp.Lt one other) (at_least (negsuc 0) other one g) (compared cmp.Lt one other g) g after r refl (λ id world v e. e ∙ less_is (v one) (v other)) h

    pub compared_most : Makes (at_least (pos 0) other one g) HasTruth (IsAtLeast (pos 0) other one) g r after → Makes (compared cmp.Le one other g) HasTruth (IsComparison cmp.Le one other) g r after
    unfolding compared
    compared_most h = makes_as HasTruth (IsAtLeast (pos 0) other one) (IsComparison cmp.Le one other) (at_least (pos 0) other one g) (compared cmp.Le one other g) g after r refl (λ id world v e. e ∙ most_is (v one) (v other)) h

    pub compared_more : Makes (at_least (negsuc 0) one other g) HasTruth (IsAtLeast (negsuc 0) one other) g r after → Makes (compared cmp.Gt one other g) HasTruth (IsComparison cmp.Gt one other) g r after
    unfolding compared
    compared_more h = makes_as HasTruth (IsAtLeast (negsuc 0) one other) (IsComparison cmp.Gt one other) (at_least (negsuc 0) one other g) (compared cmp.Gt one other g) g after r refl (λ id world v e. e ∙ more_is (v one) (v other)) h

    pub compared_least : Makes (at_least (pos 0) one other g) HasTruth (IsAtLeast (pos 0) one other) g r after → Makes (compared cmp.Ge one other g) HasTruth (IsComparison cmp.Ge one other) g r after
    unfolding compared
    compared_least h = makes_as HasTruth (IsAtLeast (pos 0) one other) (IsComparison cmp.Ge one other) (at_least (pos 0) one other g) (compared cmp.Ge one other g) g after r refl (λ id world v e. e ∙ least_is (v one) (v other)) h

  -- a comparison both ways
  module _ (constant : ℤ) (word : List ℕ → rule.Rule) (test : Cmp) (is : compared test one other g ≡ both_ways constant word one other g) where
    abbrev last_word : ℕ → Walk ℕ
    last_word p g = at_least constant other one g >>= λ q g. by_rule (word (p ∷ q ∷ [])) g

    pub both_ok : (p q : ℕ) (mid late after : Graph) (r : Result ℕ WalkFault) (TL : ℕ → List ℤ → (ℕ → ℤ) → Type 0) → ((id : ℕ) (world : List ℤ) (v : ℕ → ℤ) → IsAtLeast constant one other p world v → IsAtLeast constant other one q world v → TL id world v → IsComparison test one other id world v)
        → Makes (at_least constant one other g) HasTruth (IsAtLeast constant one other) g (Ok p) mid → Makes (at_least constant other one mid) HasTruth (IsAtLeast constant other one) mid (Ok q) late → Makes (by_rule (word (p ∷ q ∷ [])) late) HasTruth TL late r after
        → Makes (compared test one other g) HasTruth (IsComparison test one other) g r after
    both_ok p q mid late after r TL so h k j =
        makes_is HasTruth (IsComparison test one other) (both_ways constant word one other g) (compared test one other g) g after r (sym is)
        (makes_on HasTruth (IsAtLeast constant one other) HasTruth (IsComparison test one other) (λ id world v. IsAtLeast constant one other p world v → IsComparison test one other id world v) (at_least constant one other g) last_word g mid p after r (λ id world v first tells. tells first) h
        (makes_on HasTruth (IsAtLeast constant other one) HasTruth (λ id world v. IsAtLeast constant one other p world v → IsComparison test one other id world v) TL (at_least constant other one mid) (λ q g. by_rule (word (p ∷ q ∷ [])) g) mid late q after r
        (λ id world v second tells first. so id world v first second tells) k j))

    pub both_first : (e : WalkFault) (after : Graph) → Makes (at_least constant one other g) HasTruth (IsAtLeast constant one other) g (Err e) after → Makes (compared test one other g) HasTruth (IsComparison test one other) g (Err e) after
    both_first e after h =
        makes_is HasTruth (IsComparison test one other) (both_ways constant word one other g) (compared test one other g) g after (Err e) (sym is)
        (makes_stop HasTruth (IsAtLeast constant one other) HasTruth (IsComparison test one other) (at_least constant one other g) last_word g after e h)

    pub both_second : (p : ℕ) (e : WalkFault) (mid after : Graph) → Makes (at_least constant one other g) HasTruth (IsAtLeast constant one other) g (Ok p) mid → Makes (at_least constant other one mid) HasTruth (IsAtLeast constant other one) mid (Err e) after → Makes (compared test one other g) HasTruth (IsComparison test one other) g (Err e) after
    both_second p e mid after h k =
        makes_is HasTruth (IsComparison test one other) (both_ways constant word one other g) (compared test one other g) g after (Err e) (sym is)
        (makes_then HasTruth (IsAtLeast constant one other) HasTruth (IsComparison test one other) (at_least constant one other g) last_word g mid p after (Err e) h
        (makes_stop HasTruth (IsAtLeast constant other one) HasTruth (IsComparison test one other) (at_least constant other one mid) (λ q g. by_rule (word (p ∷ q ∷ [])) g) mid after e k))

  equal_walk : compared cmp.Eq one other g ≡ both_ways (pos 0) rule.and_of one other g
  unfolding compared
  equal_walk = refl

  unequal_walk : compared cmp.Ne one other g ≡ both_ways (negsuc 0) rule.or_of one other g
  unfolding compared
  unequal_walk = refl

  pub compared_equal : (p q : ℕ) (mid late after : Graph) (r : Result ℕ WalkFault) → Makes (at_least (pos 0) one other g) HasTruth (IsAtLeast (pos 0) one other) g (Ok p) mid → Makes (at_least (pos 0) other one mid) HasTruth (IsAtLeast (pos 0) other one) mid (Ok q) late
      → Makes (by_rule (rule.and_of (p ∷ q ∷ [])) late) HasTruth (λ id _ v. holds v id ≡ list_all (holds v) (p ∷ q ∷ [])) late r after → Makes (compared cmp.Eq one other g) HasTruth (IsComparison cmp.Eq one other) g r after
  compared_equal p q mid late after r =
      both_ok (pos 0) rule.and_of cmp.Eq equal_walk p q mid late after r (λ id _ v. holds v id ≡ list_all (holds v) (p ∷ q ∷ []))
      (λ id world v first second e. e ∙ ap₂ (λ (a b : Bool). a && (b && true)) (first ∙ least_is (v one) (v other)) (second ∙ most_is (v one) (v other)) ∙ equal_is (v one) (v other))

  pub compared_unequal : (p q : ℕ) (mid late after : Graph) (r : Result ℕ WalkFault) → Makes (at_least (negsuc 0) one other g) HasTruth (IsAtLeast (negsuc 0) one other) g (Ok p) mid → Makes (at_least (negsuc 0) other one mid) HasTruth (IsAtLeast (negsuc 0) other one) mid (Ok q) late
      → Makes (by_rule (rule.or_of (p ∷ q ∷ [])) late) HasTruth (λ id _ v. holds v id ≡ list_any (holds v) (p ∷ q ∷ [])) late r after → Makes (compared cmp.Ne one other g) HasTruth (IsComparison cmp.Ne one other) g r after
  compared_unequal p q mid late after r =
      both_ok (negsuc 0) rule.or_of cmp.Ne unequal_walk p q mid late after r (λ id _ v. holds v id ≡ list_any (holds v) (p ∷ q ∷ []))
      (λ id world v first second e. e ∙ ap₂ (λ (a b : Bool). a || (b || false)) (first ∙ more_is (v one) (v other)) (second ∙ less_is (v one) (v other)) ∙ unequal_is (v one) (v other))

  pub equal_first : (e : WalkFault) (after : Graph) → Makes (at_least (pos 0) one other g) HasTruth (IsAtLeast (pos 0) one other) g (Err e) after → Makes (compared cmp.Eq one other g) HasTruth (IsComparison cmp.Eq one other) g (Err e) after
  equal_first = both_first (pos 0) rule.and_of cmp.Eq equal_walk

  pub equal_second : (p : ℕ) (e : WalkFault) (mid after : Graph) → Makes (at_least (pos 0) one other g) HasTruth (IsAtLeast (pos 0) one other) g (Ok p) mid → Makes (at_least (pos 0) other one mid) HasTruth (IsAtLeast (pos 0) other one) mid (Err e) after → Makes (compared cmp.Eq one other g) HasTruth (IsComparison cmp.Eq one other) g (Err e) after
  equal_second = both_second (pos 0) rule.and_of cmp.Eq equal_walk

  pub unequal_first : (e : WalkFault) (after : Graph) → Makes (at_least (negsuc 0) one other g) HasTruth (IsAtLeast (negsuc 0) one other) g (Err e) after → Makes (compared cmp.Ne one other g) HasTruth (IsComparison cmp.Ne one other) g (Err e) after
  unequal_first = both_first (negsuc 0) rule.or_of cmp.Ne unequal_walk

  pub unequal_second : (p : ℕ) (e : WalkFault) (mid after : Graph) → Makes (at_least (negsuc 0) one other g) HasTruth (IsAtLeast (negsuc 0) one other) g (Ok p) mid → Makes (at_least (negsuc 0) other one mid) HasTruth (IsAtLeast (negsuc 0) other one) mid (Err e) after → Makes (compared cmp.Ne one other g) HasTruth (IsComparison cmp.Ne one other) g (Err e) after
  unequal_second = both_second (negsuc 0) rule.or_of cmp.Ne unequal_walk

-- a comparison by its kind
pub of_test : (test test' : Cmp) (one other : ℕ) (g after : Graph) (r : Result ℕ WalkFault) → test ≡ test' → Makes (compared test' one other g) HasTruth (IsComparison test' one other) g r after → Makes (compared test one other g) HasTruth (IsComparison test one other) g r after
of_test test test' one other g after r is h = subst (λ (test : Cmp). Makes (compared test one other g) HasTruth (IsComparison test one other) g r after) (sym is) h
