-- comparisons and conditions on a combination of possible rows
use Rattle.std.proofs.Common.{◌≡◌, ◌∙◌, sym, ap, ap₂, subst, refl, ℕ, ◌+◌, ◌<◌, ◌≤◌, ℤ, pos, Bool, true, false, not, ◌&&◌, ◌||◌, cond, List, [], ◌∷◌, ◌++◌, length, get_or, take, map, All, Result, Ok, Err, Option, Some, None}
use Rattle.std.specs.Prelude.{if◌then◌else◌}
use Rattle.std.specs.List.{list_all, list_any}
use Rattle.std.specs.Ordering.{int_eq, int_cmp}
use Rattle.std.proofs.lemmas.List.{take_all, take_more, map-append}
use Rattle.std.proofs.lemmas.List.Elements.{All-nil, All-cons}
use denote.Hole.Carrier.{roll}
use Rattle.base_kit.specs.Orders.{value_order}
use Rattle.base_kit.specs.declared.value.Value.{Value}
use Rattle.tiql_query.specs.Kinds.{Scope, Kind, kind, are_alike, is_fit}
use Rattle.tiql_query.specs.declared.expression.Expr.{Expr}
use Rattle.tiql_query.specs.declared.condition.Cmp.{Cmp}
use Rattle.tiql_query.specs.declared.condition.Cond.{Cond}
use Rattle.tiql_query.specs.declared.condition.Cond.TheOpen.{Cond-F}
use Rattle.tiql_query.specs.declared.condition.Cond.TheFolds.{fold-roll-Cond}
use Rattle.tiql_query.specs.declared.condition.Cond.TheVariants.{Compare}
use Rattle.tiql_query.specs.declared.condition.Cond.TheViews.{Not, And, Or, roll-Cond}
use Rattle.row_values.specs.declared.fault.Wide.{Wide}
use Rattle.row_values.specs.Values.{number, value, truth}
use Rattle.row_values.specs.Values as plain_values
use Rattle.prov_fold.specs.Graphs.{Graph, HasNumber, HasTruth}
use Rattle.prov_fold.specs.Values.{holds}
use Rattle.prov_fold.specs.Meanings.{IsLater, values_in}
use Rattle.prov_fold.specs.Rules as rule
use Rattle.prov_fold.proofs.StandLemmas.{keeps_same}
use Rattle.prov_fold.proofs.PlaceLemmas.{value_zero, value_one}
use Rattle.view_select.specs.Asking.{is_unknown}
use Rattle.sym_rows.specs.declared.fault.WalkFault.{WalkFault}
use Rattle.sym_rows.specs.declared.fault.WalkFault.TheVariants as fault
use Rattle.sym_rows.specs.declared.row.SymRow.{SymRow}
use Rattle.sym_rows.specs.Walks.{Walked, Walk, gives, ◌>>=◌, each, by_rule, told, truth_of, Makes}
use Rattle.sym_rows.proofs.Makes.{makes_gives, makes_is, makes_then, makes_stop}
use Rattle.sym_values.specs.Meanings.{AreRowsFit, combination_in, IsNumberOf, IsTruthOf}
use Rattle.sym_values.specs.Numbers.{fixed_rows, number_of}
use Rattle.sym_values.specs.Conditions.{compared, compare_plain, compare_of, test_step, test_of}
use Rattle.sym_values.specs.Tests.{tests_walk, AreTruthsOf, IsComparison, IsCompareOf}
use Rattle.sym_values.proofs.Making.{each_of}
use Rattle.sym_values.proofs.Equations.{truth-is-Compare, truth-is-Not, truth-is-And, truth-is-Or, fit-Compare, fit-Not, fit-And, fit-Or}
use Rattle.sym_values.proofs.Checked.{fixed_value, unknown_number, number_value}
use Rattle.sym_values.proofs.Agreed.{compare_value}
use Rattle.sym_values.proofs.Numbering.{makes_on, makes_as}

-- ---- comparisons

-- both sides have kinds, and are texts or numbers alike
record AreAlike (one other : Option Kind) : Type 0 where
  first : Kind
  second : Kind
  first_is : one ≡ Some first
  second_is : other ≡ Some second
  text : first.text ≡ second.text

alike : (one other : Option Kind) → are_alike one other ≡ true → AreAlike one other
alike None other e = absurd (let k : false ≡ true = e in cc)
alike (Some first) None e = absurd (let k : false ≡ true = e in cc)
alike (Some first) (Some second) e = record { first = first; second = second; first_is = refl; second_is = refl; text = by_texts first.text second.text e }
  where
    by_texts : (a b : Bool) → (if a then b else not b) ≡ true → a ≡ b
    by_texts true b h = sym h
    by_texts false true h = absurd (let k : false ≡ true = h in cc)
    by_texts false false h = refl

either : (a b : Bool) → (a || b) ≡ true → (P : Type 0) → (a ≡ true → P) → (b ≡ true → P) → P
either true b e P one other = one refl
either false b e P one other = other e

neither : (a b : Bool) → (a || b) ≡ false → (a ≡ false) × (b ≡ false)
neither true b e = absurd (let k : true ≡ false = e in cc)
neither false b e = (refl, e)

known_truth : (h : Graph) (world : List ℤ) (g : Graph) (b : Bool) → IsLater g h world → holds (values_in h world) (truth_of b) ≡ b
known_truth h world g true later = ap (λ (n : ℤ). int_eq n (pos 1)) (value_one h world later.fold)
known_truth h world g false later = ap (λ (n : ℤ). int_eq n (pos 1)) (value_zero h world later.fold)

module _ (scope : Scope) (rows : List SymRow) (test : Cmp) (one other : Expr) (g : Graph) where
  compare_fixed : (is_unknown scope one || is_unknown scope other) ≡ false → compare_of scope rows test one other g ≡ (told (compare_plain (fixed_rows rows) test one other) g >>= λ b g. gives (truth_of b) g)
  unfolding compare_of
  compare_fixed e = ap (λ (unknown : Bool). cond unknown (number_of scope rows one g >>= λ m g. number_of scope rows other g >>= λ n g. compared test m n g) (told (compare_plain (fixed_rows rows) test one other) g >>= λ b g. gives (truth_of b) g)) e

  compare_unknown : (is_unknown scope one || is_unknown scope other) ≡ true → compare_of scope rows test one other g ≡ (number_of scope rows one g >>= λ m g. number_of scope rows other g >>= λ n g. compared test m n g)
  unfolding compare_of
  compare_unknown e = ap (λ (unknown : Bool). cond unknown (number_of scope rows one g >>= λ m g. number_of scope rows other g >>= λ n g. compared test m n g) (told (compare_plain (fixed_rows rows) test one other) g >>= λ b g. gives (truth_of b) g)) e

  pub fixed_compare_ok : (b : Bool) (id : ℕ) → (is_unknown scope one || is_unknown scope other) ≡ false → compare_plain (fixed_rows rows) test one other ≡ Ok b → id ≡ truth_of b → HasTruth g id → Makes (compare_of scope rows test one other g) HasTruth (IsCompareOf scope rows test one other) g (Ok id) g
  fixed_compare_ok b id fixed is at truth =
      let both = neither (is_unknown scope one) (is_unknown scope other) fixed in
      makes_is HasTruth (IsCompareOf scope rows test one other) (gives (truth_of b) g) (compare_of scope rows test one other g) g g (Ok id)
      (sym (compare_fixed fixed ∙ ap (λ (r : Result Bool Wide). told r g >>= λ b g. gives (truth_of b) g) is))
      (subst (λ (id : ℕ). Makes (gives (truth_of b) g) HasTruth (IsCompareOf scope rows test one other) g (Ok id) g) (sym at)
      (makes_gives HasTruth (IsCompareOf scope rows test one other) (truth_of b) g (subst (HasTruth g) at truth)
      (λ h world later fit alike.
      known_truth h world g b later ∙ sym (compare_value (fixed_rows rows) test one other b is)
      ∙ ap₂ (λ (x y : Value). plain_values.holds test (value_order x y)) (fixed_value scope rows fit (λ id. pos 0) (values_in h world) one both.0) (fixed_value scope rows fit (λ id. pos 0) (values_in h world) other both.1))))

  pub fixed_compare_err : (w : Wide) → (is_unknown scope one || is_unknown scope other) ≡ false → compare_plain (fixed_rows rows) test one other ≡ Err w → Makes (compare_of scope rows test one other g) HasTruth (IsCompareOf scope rows test one other) g (Err (fault.Wide w.number)) g
  fixed_compare_err w fixed is =
      record { follows = λ ne. compare_fixed fixed ∙ ap (λ (r : Result Bool Wide). told r g >>= λ b g. gives (truth_of b) g) is; kept = keeps_same g; good = tt; means = tt }

  -- where one side has an unknown column both are numbers
  both_numbers : (v : ℕ → ℤ) → (is_unknown scope one || is_unknown scope other) ≡ true → AreRowsFit scope rows → are_alike (kind scope one) (kind scope other) ≡ true
      → value_order (value (combination_in v rows) one) (value (combination_in v rows) other) ≡ int_cmp (number (value (combination_in v rows) one)) (number (value (combination_in v rows) other))
  both_numbers v unknown fit like =
      let kinds = alike (kind scope one) (kind scope other) like in
      let no_text : kinds.first.text ≡ false = either (is_unknown scope one) (is_unknown scope other) unknown (kinds.first.text ≡ false) (λ e. unknown_number scope rows fit one kinds.first kinds.first_is e) (λ e. kinds.text ∙ unknown_number scope rows fit other kinds.second kinds.second_is e) in
      ap₂ value_order (number_value scope rows fit v one kinds.first kinds.first_is no_text) (number_value scope rows fit v other kinds.second kinds.second_is (sym kinds.text ∙ no_text))

  abbrev last_number : ℕ → Walk ℕ
  last_number m g = number_of scope rows other g >>= λ n g. compared test m n g

  has_kinds : are_alike (kind scope one) (kind scope other) ≡ true → ((it : Kind) × (kind scope one ≡ Some it)) × ((it : Kind) × (kind scope other ≡ Some it))
  has_kinds like = let kinds = alike (kind scope one) (kind scope other) like in ((kinds.first, kinds.first_is), (kinds.second, kinds.second_is))

  pub unknown_compare_ok : (m n : ℕ) (mid late after : Graph) (r : Result ℕ WalkFault) → (is_unknown scope one || is_unknown scope other) ≡ true → Makes (number_of scope rows one g) HasNumber (IsNumberOf scope rows one) g (Ok m) mid → Makes (number_of scope rows other mid) HasNumber (IsNumberOf scope rows other) mid (Ok n) late
      → Makes (compared test m n late) HasTruth (IsComparison test m n) late r after → Makes (compare_of scope rows test one other g) HasTruth (IsCompareOf scope rows test one other) g r after
  unknown_compare_ok m n mid late after r unknown h k j =
      makes_is HasTruth (IsCompareOf scope rows test one other) (number_of scope rows one g >>= last_number) (compare_of scope rows test one other g) g after r (sym (compare_unknown unknown))
      (makes_on HasNumber (IsNumberOf scope rows one) HasTruth (IsCompareOf scope rows test one other) (λ id world v. IsNumberOf scope rows one m world v → IsCompareOf scope rows test one other id world v) (number_of scope rows one g) last_number g mid m after r (λ id world v first tells. tells first) h
      (makes_on HasNumber (IsNumberOf scope rows other) HasTruth (λ id world v. IsNumberOf scope rows one m world v → IsCompareOf scope rows test one other id world v) (IsComparison test m n) (number_of scope rows other mid) (λ n g. compared test m n g) mid late n after r
      (λ id world v second e first fit like.
      let has = has_kinds like in
      e ∙ ap₂ (λ (a b : ℤ). plain_values.holds test (int_cmp a b)) (first fit has.0) (second fit has.1) ∙ sym (ap (plain_values.holds test) (both_numbers v unknown fit like))) k j))

  pub unknown_compare_first : (e : WalkFault) (after : Graph) → (is_unknown scope one || is_unknown scope other) ≡ true → Makes (number_of scope rows one g) HasNumber (IsNumberOf scope rows one) g (Err e) after → Makes (compare_of scope rows test one other g) HasTruth (IsCompareOf scope rows test one other) g (Err e) after
  unknown_compare_first e after unknown h =
      makes_is HasTruth (IsCompareOf scope rows test one other) (number_of scope rows one g >>= last_number) (compare_of scope rows test one other g) g after (Err e) (sym (compare_unknown unknown))
      (makes_stop HasNumber (IsNumberOf scope rows one) HasTruth (IsCompareOf scope rows test one other) (number_of scope rows one g) last_number g after e h)

  pub unknown_compare_second : (m : ℕ) (e : WalkFault) (mid after : Graph) → (is_unknown scope one || is_unknown scope other) ≡ true → Makes (number_of scope rows one g) HasNumber (IsNumberOf scope rows one) g (Ok m) mid → Makes (number_of scope rows other mid) HasNumber (IsNumberOf scope rows other) mid (Err e) after
      → Makes (compare_of scope rows test one other g) HasTruth (IsCompareOf scope rows test one other) g (Err e) after
  unknown_compare_second m e mid after unknown h k =
      makes_is HasTruth (IsCompareOf scope rows test one other) (number_of scope rows one g >>= last_number) (compare_of scope rows test one other g) g after (Err e) (sym (compare_unknown unknown))
      (makes_then HasNumber (IsNumberOf scope rows one) HasTruth (IsCompareOf scope rows test one other) (number_of scope rows one g) last_number g mid m after (Err e) h
      (makes_stop HasNumber (IsNumberOf scope rows other) HasTruth (IsCompareOf scope rows test one other) (number_of scope rows other mid) (λ n g. compared test m n g) mid after e k))

-- ---- conditions

module _ (scope : Scope) (rows : List SymRow) where
  test-Compare : (test : Cmp) (one other : Expr) (g : Graph) → test_of scope rows (Compare test one other) g ≡ compare_of scope rows test one other g
  unfolding test_of roll-Cond roll
  test-Compare test one other g = ap (λ (w : Walk ℕ). w g) (fold-roll-Cond (Walk ℕ) (test_step scope rows) (Cond-F.Compare test one other))

  test-Not : (part : Cond) (g : Graph) → test_of scope rows (Not part) g ≡ (test_of scope rows part g >>= λ id g. by_rule (rule.not_of id) g)
  unfolding test_of roll-Cond roll
  test-Not part g = ap (λ (w : Walk ℕ). w g) (fold-roll-Cond (Walk ℕ) (test_step scope rows) (Cond-F.Not part))

  and_walk : (parts : List Cond) (g : Graph) → test_of scope rows (And parts) g ≡ (each (λ i part. part) 0 (map (test_of scope rows) parts) g >>= λ ids g. by_rule (rule.and_of ids) g)
  unfolding test_of roll-Cond roll
  and_walk parts g = ap (λ (w : Walk ℕ). w g) (fold-roll-Cond (Walk ℕ) (test_step scope rows) (Cond-F.And parts))

  or_walk : (parts : List Cond) (g : Graph) → test_of scope rows (Or parts) g ≡ (each (λ i part. part) 0 (map (test_of scope rows) parts) g >>= λ ids g. by_rule (rule.or_of ids) g)
  unfolding test_of roll-Cond roll
  or_walk parts g = ap (λ (w : Walk ℕ). w g) (fold-roll-Cond (Walk ℕ) (test_step scope rows) (Cond-F.Or parts))

  parts_walk : (parts : List Cond) (g : Graph) → each (λ i part. part) 0 (map (test_of scope rows) parts) g ≡ tests_walk scope rows parts g
  parts_walk parts g = each_of (λ i part. part) (test_of scope rows) 0 parts g

  abbrev and_after : List ℕ → Walk ℕ
  and_after ids g = by_rule (rule.and_of ids) g

  abbrev or_after : List ℕ → Walk ℕ
  or_after ids g = by_rule (rule.or_of ids) g

  abbrev not_after : ℕ → Walk ℕ
  not_after id g = by_rule (rule.not_of id) g

  test-And : (parts : List Cond) (g : Graph) → test_of scope rows (And parts) g ≡ (tests_walk scope rows parts g >>= and_after)
  test-And parts g = and_walk parts g ∙ ap (λ (w : Walked (List ℕ)). w >>= and_after) (parts_walk parts g)

  test-Or : (parts : List Cond) (g : Graph) → test_of scope rows (Or parts) g ≡ (tests_walk scope rows parts g >>= or_after)
  test-Or parts g = or_walk parts g ∙ ap (λ (w : Walked (List ℕ)). w >>= or_after) (parts_walk parts g)

  all_fit : (parts : List Cond) → list_all (λ fit. fit) (map (is_fit scope) parts) ≡ true → All (λ part. is_fit scope part ≡ true) parts
  all_fit [] e = All-nil (λ part. is_fit scope part ≡ true)
  all_fit (part ∷ parts) e =
      let both = split (is_fit scope part) (list_all (λ fit. fit) (map (is_fit scope) parts)) e in
      All-cons (λ part. is_fit scope part ≡ true) part parts both.0 (all_fit parts both.1)
    where
      split : (a b : Bool) → (a && b) ≡ true → (a ≡ true) × (b ≡ true)
      split true b h = (refl, h)
      split false b h = absurd (let k : false ≡ true = h in cc)

  all_of_truths : (v : ℕ → ℤ) (ids : List ℕ) → list_all (holds v) ids ≡ list_all (λ b. b) (map (holds v) ids)
  all_of_truths v [] = refl
  all_of_truths v (id ∷ ids) = ap (λ (rest : Bool). holds v id && rest) (all_of_truths v ids)

  any_of_truths : (v : ℕ → ℤ) (ids : List ℕ) → list_any (holds v) ids ≡ list_any (λ b. b) (map (holds v) ids)
  any_of_truths v [] = refl
  any_of_truths v (id ∷ ids) = ap (λ (rest : Bool). holds v id || rest) (any_of_truths v ids)

  -- a condition by its variant
  pub of_condition : (test test' : Cond) (g after : Graph) (r : Result ℕ WalkFault) → test ≡ test' → Makes (test_of scope rows test' g) HasTruth (IsTruthOf scope rows test') g r after → Makes (test_of scope rows test g) HasTruth (IsTruthOf scope rows test) g r after
  of_condition test test' g after r is h = subst (λ (test : Cond). Makes (test_of scope rows test g) HasTruth (IsTruthOf scope rows test) g r after) (sym is) h

  module _ (g after : Graph) (r : Result ℕ WalkFault) where
    pub condition_compare : (test : Cmp) (one other : Expr) → Makes (compare_of scope rows test one other g) HasTruth (IsCompareOf scope rows test one other) g r after → Makes (test_of scope rows (Compare test one other) g) HasTruth (IsTruthOf scope rows (Compare test one other)) g r after
    condition_compare test one other h =
        makes_as HasTruth (IsCompareOf scope rows test one other) (IsTruthOf scope rows (Compare test one other)) (compare_of scope rows test one other g) (test_of scope rows (Compare test one other) g) g after r (sym (test-Compare test one other g))
        (λ id world v is fit fits. is fit (sym (fit-Compare scope test one other) ∙ fits) ∙ sym (truth-is-Compare (combination_in v rows) test one other)) h

    pub condition_not : (part : Cond) (id : ℕ) (mid : Graph) → Makes (test_of scope rows part g) HasTruth (IsTruthOf scope rows part) g (Ok id) mid → Makes (by_rule (rule.not_of id) mid) HasTruth (λ made _ v. holds v made ≡ not (holds v id)) mid r after → Makes (test_of scope rows (Not part) g) HasTruth (IsTruthOf scope rows (Not part)) g r after
    condition_not part id mid h k =
        makes_is HasTruth (IsTruthOf scope rows (Not part)) (test_of scope rows part g >>= not_after) (test_of scope rows (Not part) g) g after r (sym (test-Not part g))
        (makes_on HasTruth (IsTruthOf scope rows part) HasTruth (IsTruthOf scope rows (Not part)) (λ made _ v. holds v made ≡ not (holds v id)) (test_of scope rows part g) not_after g mid id after r
        (λ made world v is e fit fits. e ∙ ap not (is fit (sym (fit-Not scope part) ∙ fits)) ∙ sym (truth-is-Not (combination_in v rows) part)) h k)

    module _ (parts : List Cond) (made ids : List ℕ) (mid : Graph) (same : ids ≡ made) (h : Makes (tests_walk scope rows parts g) (λ g made. All (HasTruth g) made) (AreTruthsOf scope rows parts) g (Ok made) mid) where
      pub condition_and : Makes (by_rule (rule.and_of ids) mid) HasTruth (λ id _ v. holds v id ≡ list_all (holds v) ids) mid r after → Makes (test_of scope rows (And parts) g) HasTruth (IsTruthOf scope rows (And parts)) g r after
      condition_and k =
          makes_is HasTruth (IsTruthOf scope rows (And parts)) (tests_walk scope rows parts g >>= and_after) (test_of scope rows (And parts) g) g after r (sym (test-And parts g))
          (makes_on (λ g made. All (HasTruth g) made) (AreTruthsOf scope rows parts) HasTruth (IsTruthOf scope rows (And parts)) (λ id _ v. holds v id ≡ list_all (holds v) made) (tests_walk scope rows parts g) and_after g mid made after r
          (λ id world v are e fit fits. e ∙ all_of_truths v made ∙ ap (list_all (λ b. b)) (are fit (all_fit parts (sym (fit-And scope parts) ∙ fits))) ∙ sym (truth-is-And (combination_in v rows) parts)) h
          (subst (λ (ids : List ℕ). Makes (by_rule (rule.and_of ids) mid) HasTruth (λ id _ v. holds v id ≡ list_all (holds v) ids) mid r after) same k))

      pub condition_or : Makes (by_rule (rule.or_of ids) mid) HasTruth (λ id _ v. holds v id ≡ list_any (holds v) ids) mid r after → Makes (test_of scope rows (Or parts) g) HasTruth (IsTruthOf scope rows (Or parts)) g r after
      condition_or k =
          makes_is HasTruth (IsTruthOf scope rows (Or parts)) (tests_walk scope rows parts g >>= or_after) (test_of scope rows (Or parts) g) g after r (sym (test-Or parts g))
          (makes_on (λ g made. All (HasTruth g) made) (AreTruthsOf scope rows parts) HasTruth (IsTruthOf scope rows (Or parts)) (λ id _ v. holds v id ≡ list_any (holds v) made) (tests_walk scope rows parts g) or_after g mid made after r
          (λ id world v are e fit fits. e ∙ any_of_truths v made ∙ ap (list_any (λ b. b)) (are fit (all_fit parts (sym (fit-Or scope parts) ∙ fits))) ∙ sym (truth-is-Or (combination_in v rows) parts)) h
          (subst (λ (ids : List ℕ). Makes (by_rule (rule.or_of ids) mid) HasTruth (λ id _ v. holds v id ≡ list_any (holds v) ids) mid r after) same k))

  module _ (g after : Graph) (e : WalkFault) where
    pub not_stop : (part : Cond) → Makes (test_of scope rows part g) HasTruth (IsTruthOf scope rows part) g (Err e) after → Makes (test_of scope rows (Not part) g) HasTruth (IsTruthOf scope rows (Not part)) g (Err e) after
    not_stop part h =
        makes_is HasTruth (IsTruthOf scope rows (Not part)) (test_of scope rows part g >>= not_after) (test_of scope rows (Not part) g) g after (Err e) (sym (test-Not part g))
        (makes_stop HasTruth (IsTruthOf scope rows part) HasTruth (IsTruthOf scope rows (Not part)) (test_of scope rows part g) not_after g after e h)

    module _ (parts : List Cond) (h : Makes (tests_walk scope rows parts g) (λ g made. All (HasTruth g) made) (AreTruthsOf scope rows parts) g (Err e) after) where
      pub and_stop : Makes (test_of scope rows (And parts) g) HasTruth (IsTruthOf scope rows (And parts)) g (Err e) after
      and_stop =
          makes_is HasTruth (IsTruthOf scope rows (And parts)) (tests_walk scope rows parts g >>= and_after) (test_of scope rows (And parts) g) g after (Err e) (sym (test-And parts g))
          (makes_stop (λ g made. All (HasTruth g) made) (AreTruthsOf scope rows parts) HasTruth (IsTruthOf scope rows (And parts)) (tests_walk scope rows parts g) and_after g after e h)

      pub or_stop : Makes (test_of scope rows (Or parts) g) HasTruth (IsTruthOf scope rows (Or parts)) g (Err e) after
      or_stop =
          makes_is HasTruth (IsTruthOf scope rows (Or parts)) (tests_walk scope rows parts g >>= or_after) (test_of scope rows (Or parts) g) g after (Err e) (sym (test-Or parts g))
          (makes_stop (λ g made. All (HasTruth g) made) (AreTruthsOf scope rows parts) HasTruth (IsTruthOf scope rows (Or parts)) (tests_walk scope rows parts g) or_after g after e h)

  -- the truths so far
  module _ (tests : List Cond) where
    abbrev pub TruthsSo : ℕ → List ℕ → List ℤ → (ℕ → ℤ) → Type 0
    TruthsSo i made numbers v = AreRowsFit scope rows → All (λ test. is_fit scope test ≡ true) tests → map (holds v) made ≡ map (truth (combination_in v rows)) (take i tests)

    pub truths_step : (i : ℕ) (test : Cond) (made : List ℕ) (id : ℕ) (numbers : List ℤ) (v : ℕ → ℤ) → i < length tests → test ≡ get_or tests i test → TruthsSo i made numbers v → IsTruthOf scope rows test id numbers v → TruthsSo (i + 1) (made ++ id ∷ []) numbers v
    truths_step i test made id numbers v lt is so mine fit fits =
        map-append (holds v) made (id ∷ [])
        ∙ ap₂ (λ (l : List Bool) (b : Bool). l ++ b ∷ []) (so fit fits) (mine fit (subst (λ (t : Cond). is_fit scope t ≡ true) (sym is) (fits i test lt)))
        ∙ sym (map-append (truth (combination_in v rows)) (take i tests) (test ∷ []))
        ∙ ap (λ (l : List Cond). map (truth (combination_in v rows)) l) (ap (λ (t : Cond). take i tests ++ t ∷ []) is ∙ sym (take_more tests i test lt))

    pub truths_end : (i : ℕ) (made : List ℕ) (numbers : List ℤ) (v : ℕ → ℤ) → length tests ≤ i → TruthsSo i made numbers v → AreTruthsOf scope rows tests made numbers v
    truths_end i made numbers v le so fit fits = so fit fits ∙ ap (map (truth (combination_in v rows))) (take_all i tests le)
