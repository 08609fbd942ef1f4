-- the truths of requirements, step by step
use Rattle.std.proofs.Common.{◌≡◌, ◌∙◌, sym, ap, ap₂, subst, refl, ℕ, ◌+◌, ◌<◌, ◌≤◌, ℤ, Bool, true, false, not, ◌&&◌, ◌||◌, List, [], ◌∷◌, ◌++◌, length, get_or, take, map, All, Result, Ok, Err}
use Rattle.std.specs.List.{list_all, list_any}
use Rattle.std.proofs.lemmas.List.{take_all}
use Rattle.std.proofs.lemmas.List.Elements.{All-nil, All-cons}
use Rattle.tiql_query.specs.declared.relation.Column.{Column}
use Rattle.tiql_query.specs.declared.relation.Source.{Source}
use Rattle.tiql_query.specs.declared.condition.Cond.{Cond}
use Rattle.tiql_query.specs.declared.aim.Require.{Require}
use Rattle.tiql_query.specs.declared.aim.Require.TheVariants as needs
use Rattle.row_values.specs.Values.{truth}
use Rattle.world_def.specs.Worlds.{are_none}
use Rattle.world_def.specs.Meaning.{is_met}
use Rattle.prov_fold.specs.Graphs.{Graph, HasTruth}
use Rattle.prov_fold.specs.Values.{holds}
use Rattle.prov_fold.specs.Meanings.{values_in}
use Rattle.prov_fold.specs.Rules as rule
use Rattle.sym_rows.specs.declared.fault.WalkFault.{WalkFault}
use Rattle.sym_rows.specs.declared.fault.WalkFault.TheVariants as fault
use Rattle.sym_rows.specs.declared.row.SymRow.{SymRow}
use Rattle.sym_rows.specs.Cells.{row_in, is_there, rows_in}
use Rattle.sym_rows.specs.Walks.{Walked, Walk, gives, ◌>>=◌, by_rule, Makes}
use Rattle.sym_rows.proofs.Makes.{makes_gives, makes_memory, makes_then, makes_stop}
use Rattle.sym_values.specs.Meanings.{IsRowFit, IsTruthOf}
use Rattle.sym_values.specs.Conditions.{test_of}
use Rattle.sym_values.proofs.Numbering.{makes_on, makes_as}
use Rattle.sym_goals.specs.Goals.{absent, absent_or, there_and, part_of, parts_of, one_of, roots_from, roots_of}
use Rattle.sym_goals.specs.Meant.{IsNeedFit, AreRootsOf}
use Rattle.sym_goals.specs.Parts.{does, does_in, IsAbsent, IsAbsentOr, IsThereAnd, IsPartOf, ArePartsOf, together, IsOneOf, AreFrom}
use Rattle.sym_goals.proofs.Turns.{one_fit, one_more}

-- ---- one row

or_false : (a b : Bool) → (a || (b || false)) ≡ (a || b)
or_false true b = refl
or_false false true = refl
or_false false false = refl

and_true : (a b : Bool) → (a && (b && true)) ≡ (a && b)
and_true true true = refl
and_true true false = refl
and_true false b = refl

module _ (columns : List Column) (test : Cond) (row : SymRow) (g : Graph) where
  abbrev met_walk : Walked ℕ
  met_walk = test_of (columns ∷ []) (row ∷ []) test g

  abbrev IsMet : ℕ → List ℤ → (ℕ → ℤ) → Type 0
  IsMet = IsTruthOf (columns ∷ []) (row ∷ []) test

  abbrev gone_or : ℕ → ℕ → Walk ℕ
  gone_or met gone g = by_rule (rule.or_of (gone ∷ met ∷ [])) g

  abbrev then_gone : ℕ → Walk ℕ
  then_gone met g = absent row g >>= gone_or met

  abbrev then_and : ℕ → Walk ℕ
  then_and met g = by_rule (rule.and_of (row.presence ∷ met ∷ [])) g

  pub absent_or_ok : (met gone : ℕ) (mid late after : Graph) (r : Result ℕ WalkFault) → Makes met_walk HasTruth IsMet g (Ok met) mid → Makes (absent row mid) HasTruth (IsAbsent row) mid (Ok gone) late
      → Makes (gone_or met gone late) HasTruth (λ id _ v. holds v id ≡ list_any (holds v) (gone ∷ met ∷ [])) late r after → Makes (absent_or columns test row g) HasTruth (IsAbsentOr columns test row) g r after
  unfolding absent_or
  absent_or_ok met gone mid late after r h k j =
      makes_on HasTruth IsMet HasTruth (IsAbsentOr columns test row) (λ id world v. IsMet met world v → IsAbsentOr columns test row id world v) met_walk then_gone g mid met after r (λ id world v first tells. tells first) h
      (makes_on HasTruth (IsAbsent row) HasTruth (λ id world v. IsMet met world v → IsAbsentOr columns test row id world v) (λ id _ v. holds v id ≡ list_any (holds v) (gone ∷ met ∷ [])) (absent row mid) (gone_or met) mid late gone after r
      (λ id world v away is first fit fits. is ∙ or_false (holds v gone) (holds v met) ∙ ap₂ (λ (a b : Bool). a || b) away (first (one_fit columns row fit) fits)) k j)

  pub absent_or_stop : (e : WalkFault) (after : Graph) → Makes met_walk HasTruth IsMet g (Err e) after → Makes (absent_or columns test row g) HasTruth (IsAbsentOr columns test row) g (Err e) after
  unfolding absent_or
  absent_or_stop e after h = makes_stop HasTruth IsMet HasTruth (IsAbsentOr columns test row) met_walk then_gone g after e h

  pub absent_or_late : (met : ℕ) (e : WalkFault) (mid after : Graph) → Makes met_walk HasTruth IsMet g (Ok met) mid → Makes (absent row mid) HasTruth (IsAbsent row) mid (Err e) after → Makes (absent_or columns test row g) HasTruth (IsAbsentOr columns test row) g (Err e) after
  unfolding absent_or
  absent_or_late met e mid after h k =
      makes_then HasTruth IsMet HasTruth (IsAbsentOr columns test row) met_walk then_gone g mid met after (Err e) h
      (makes_stop HasTruth (IsAbsent row) HasTruth (IsAbsentOr columns test row) (absent row mid) (gone_or met) mid after e k)

  pub there_and_ok : (met : ℕ) (mid after : Graph) (r : Result ℕ WalkFault) → Makes met_walk HasTruth IsMet g (Ok met) mid → Makes (then_and met mid) HasTruth (λ id _ v. holds v id ≡ list_all (holds v) (row.presence ∷ met ∷ [])) mid r after
      → Makes (there_and columns test row g) HasTruth (IsThereAnd columns test row) g r after
  unfolding there_and
  there_and_ok met mid after r h k =
      makes_on HasTruth IsMet HasTruth (IsThereAnd columns test row) (λ id _ v. holds v id ≡ list_all (holds v) (row.presence ∷ met ∷ [])) met_walk then_and g mid met after r
      (λ id world v first is fit fits. is ∙ and_true (is_there v row) (holds v met) ∙ ap (λ (b : Bool). is_there v row && b) (first (one_fit columns row fit) fits)) h k

  pub there_and_stop : (e : WalkFault) (after : Graph) → Makes met_walk HasTruth IsMet g (Err e) after → Makes (there_and columns test row g) HasTruth (IsThereAnd columns test row) g (Err e) after
  unfolding there_and
  there_and_stop e after h = makes_stop HasTruth IsMet HasTruth (IsThereAnd columns test row) met_walk then_and g after e h

module _ (columns : List Column) (row : SymRow) (g after : Graph) (r : Result ℕ WalkFault) (need : Require) (source : Source) where
  abbrev PartMade : Require → Type 0
  PartMade need = Makes (part_of columns need row g) HasTruth (IsPartOf columns need row) g r after

  pub part_all : (test : Cond) → need ≡ needs.All source test → Makes (absent_or columns test row g) HasTruth (IsAbsentOr columns test row) g r after → PartMade need
  unfolding part_of does
  part_all test is h = subst PartMade (sym is) h

  pub part_some : (test : Cond) → need ≡ needs.Some source test → Makes (there_and columns test row g) HasTruth (IsThereAnd columns test row) g r after → PartMade need
  unfolding part_of does
  part_some test is h = subst PartMade (sym is) h

  pub part_none : need ≡ needs.None source → Makes (absent row g) HasTruth (IsAbsent row) g r after → PartMade need
  unfolding part_of does
  part_none is h = subst PartMade (sym is) (makes_as HasTruth (IsAbsent row) (IsPartOf columns (needs.None source) row) (absent row g) (part_of columns (needs.None source) row g) g after r refl (λ id world v away fit fits. away) h)

-- ---- the rows in turn

module _ (columns : List Column) (need : Require) (rows : List SymRow) where
  abbrev pub PartsSo : ℕ → List ℕ → List ℤ → (ℕ → ℤ) → Type 0
  PartsSo i made numbers v = All (IsRowFit columns) rows → IsNeedFit columns need → map (holds v) made ≡ map (does_in v need) (take i rows)

  pub parts_step : (i : ℕ) (row : SymRow) (made : List ℕ) (id : ℕ) (numbers : List ℤ) (v : ℕ → ℤ) → i < length rows → row ≡ get_or rows i row → PartsSo i made numbers v → IsPartOf columns need row id numbers v → PartsSo (i + 1) (made ++ id ∷ []) numbers v
  parts_step i row made id numbers v lt is so mine fit fits = one_more (holds v) (does_in v need) rows i row made id lt is (so fit fits) (mine (subst (IsRowFit columns) (sym is) (fit i row lt)) fits)

  pub parts_end : (i : ℕ) (made : List ℕ) (numbers : List ℤ) (v : ℕ → ℤ) → length rows ≤ i → PartsSo i made numbers v → ArePartsOf columns need rows made numbers v
  parts_end i made numbers v le so fit fits = so fit fits ∙ ap (map (does_in v need)) (take_all i rows le)

-- ---- all roots

abbrev AreTruths : Graph → List ℕ → Type 0
AreTruths g made = All (HasTruth g) made

all_of_truths : (v : ℕ → ℤ) (ids : List ℕ) → list_all (holds v) ids ≡ list_all (λ b. b) (map (holds v) ids)
all_of_truths v [] = refl
all_of_truths v (id ∷ ids) = ap (λ (rest : Bool). holds v id && rest) (all_of_truths v ids)

any_of_truths : (v : ℕ → ℤ) (ids : List ℕ) → list_any (holds v) ids ≡ list_any (λ b. b) (map (holds v) ids)
any_of_truths v [] = refl
any_of_truths v (id ∷ ids) = ap (λ (rest : Bool). holds v id || rest) (any_of_truths v ids)

alone : (b : Bool) → (b && true) ≡ b
alone true = refl
alone false = refl

module _ (parts : List ℕ) (g mid : Graph) (root : ℕ) where
  abbrev then_root : ℕ → Walk (List ℕ)
  then_root root g = gives (root ∷ []) g

  pub one_of_ok : (made : List ℕ) → made ≡ root ∷ [] → Makes (by_rule (rule.or_of parts) g) HasTruth (λ id _ v. holds v id ≡ list_any (holds v) parts) g (Ok root) mid → Makes (one_of parts g) (λ g made. All (HasTruth g) made) (IsOneOf parts) g (Ok made) mid
  unfolding one_of
  one_of_ok made same h =
      subst (λ (made : List ℕ). Makes (one_of parts g) AreTruths (IsOneOf parts) g (Ok made) mid) (sym same)
      (makes_on HasTruth (λ id _ v. holds v id ≡ list_any (holds v) parts) AreTruths (IsOneOf parts) (λ made _ v. made ≡ root ∷ []) (by_rule (rule.or_of parts) g) then_root g mid root mid (Ok (root ∷ []))
      (λ made world v is only. ap (list_all (holds v)) only ∙ alone (holds v root) ∙ is) h
      (makes_gives AreTruths (λ made _ v. made ≡ root ∷ []) (root ∷ []) mid (All-cons (HasTruth mid) root [] h.good (All-nil (HasTruth mid))) (λ l world later. refl)))

pub one_of_stop : (parts : List ℕ) (g after : Graph) (e : WalkFault) → Makes (by_rule (rule.or_of parts) g) HasTruth (λ id _ v. holds v id ≡ list_any (holds v) parts) g (Err e) after → Makes (one_of parts g) (λ g made. All (HasTruth g) made) (IsOneOf parts) g (Err e) after
unfolding one_of
one_of_stop parts g after e h = makes_stop HasTruth (λ id _ v. holds v id ≡ list_any (holds v) parts) AreTruths (IsOneOf parts) (by_rule (rule.or_of parts) g) (λ root g. gives (root ∷ []) g) g after e h

pub one_of_memory : (parts : List ℕ) (g after : Graph) (root : ℕ) → Makes (by_rule (rule.or_of parts) g) HasTruth (λ id _ v. holds v id ≡ list_any (holds v) parts) g (Ok root) after → Makes (one_of parts g) (λ g made. All (HasTruth g) made) (IsOneOf parts) g (Err fault.Memory) after
one_of_memory parts g after root h = makes_memory AreTruths (IsOneOf parts) (one_of parts g) g after h.kept

-- all that is asked of the rows
module _ (v : ℕ → ℤ) (test : Cond) where
  all_met : (rows : List SymRow) → list_all (λ b. b) (map (λ row. not (is_there v row) || truth (row_in v row ∷ []) test) rows) ≡ list_all (λ row. truth (row ∷ []) test) (rows_in v rows)
  all_met [] = refl
  all_met (row ∷ rows) = by_there (is_there v row) refl (all_met rows)
    where
      by_there : (b : Bool) → is_there v row ≡ b → list_all (λ b. b) (map (λ row. not (is_there v row) || truth (row_in v row ∷ []) test) rows) ≡ list_all (λ row. truth (row ∷ []) test) (rows_in v rows)
          → list_all (λ b. b) (map (λ row. not (is_there v row) || truth (row_in v row ∷ []) test) (row ∷ rows)) ≡ list_all (λ row. truth (row ∷ []) test) (rows_in v (row ∷ rows))
      by_there true e rest = rw e (ap (λ (more : Bool). truth (row_in v row ∷ []) test && more) rest)
      by_there false e rest = rw e rest

  some_met : (rows : List SymRow) → list_any (λ b. b) (map (λ row. is_there v row && truth (row_in v row ∷ []) test) rows) ≡ list_any (λ row. truth (row ∷ []) test) (rows_in v rows)
  some_met [] = refl
  some_met (row ∷ rows) = by_there (is_there v row) refl (some_met rows)
    where
      by_there : (b : Bool) → is_there v row ≡ b → list_any (λ b. b) (map (λ row. is_there v row && truth (row_in v row ∷ []) test) rows) ≡ list_any (λ row. truth (row ∷ []) test) (rows_in v rows)
          → list_any (λ b. b) (map (λ row. is_there v row && truth (row_in v row ∷ []) test) (row ∷ rows)) ≡ list_any (λ row. truth (row ∷ []) test) (rows_in v (row ∷ rows))
      by_there true e rest = rw e (ap (λ (more : Bool). truth (row_in v row ∷ []) test || more) rest)
      by_there false e rest = rw e rest

none_met : (v : ℕ → ℤ) (rows : List SymRow) → list_all (λ b. b) (map (λ row. not (is_there v row)) rows) ≡ are_none (rows_in v rows)
none_met v [] = refl
none_met v (row ∷ rows) = by_there (is_there v row) refl (none_met v rows)
  where
    by_there : (b : Bool) → is_there v row ≡ b → list_all (λ b. b) (map (λ row. not (is_there v row)) rows) ≡ are_none (rows_in v rows) → list_all (λ b. b) (map (λ row. not (is_there v row)) (row ∷ rows)) ≡ are_none (rows_in v (row ∷ rows))
    by_there true e rest = rw e refl
    by_there false e rest = rw e rest

met_is : (v : ℕ → ℤ) (need : Require) (rows : List SymRow) → together need (map (does_in v need) rows) ≡ is_met need (rows_in v rows)
unfolding together does
met_is v (needs.All source test) rows = all_met v test rows
met_is v (needs.Some source test) rows = some_met v test rows
met_is v (needs.None source) rows = none_met v rows

-- a requirement by what it asks of its rows together
module _ (parts : List ℕ) (g after : Graph) (need : Require) (source : Source) where
  pub from_all : (test : Cond) → need ≡ needs.All source test → All (HasTruth g) parts → Makes (roots_from need parts g) (λ g made. All (HasTruth g) made) (AreFrom need parts) g (Ok parts) g
  unfolding roots_from together
  from_all test is are =
      subst (λ (need : Require). Makes (roots_from need parts g) AreTruths (AreFrom need parts) g (Ok parts) g) (sym is)
      (makes_gives AreTruths (AreFrom (needs.All source test) parts) parts g are (λ h world later. all_of_truths (values_in h world) parts))

  pub from_none : need ≡ needs.None source → All (HasTruth g) parts → Makes (roots_from need parts g) (λ g made. All (HasTruth g) made) (AreFrom need parts) g (Ok parts) g
  unfolding roots_from together
  from_none is are =
      subst (λ (need : Require). Makes (roots_from need parts g) AreTruths (AreFrom need parts) g (Ok parts) g) (sym is)
      (makes_gives AreTruths (AreFrom (needs.None source) parts) parts g are (λ h world later. all_of_truths (values_in h world) parts))

  pub from_some : (test : Cond) (items : List ℕ) (r : Result (List ℕ) WalkFault) → need ≡ needs.Some source test → items ≡ parts → Makes (one_of items g) (λ g made. All (HasTruth g) made) (IsOneOf items) g r after → Makes (roots_from need parts g) (λ g made. All (HasTruth g) made) (AreFrom need parts) g r after
  unfolding roots_from together
  from_some test items r is same h =
      subst (λ (need : Require). Makes (roots_from need parts g) AreTruths (AreFrom need parts) g r after) (sym is)
      (makes_as AreTruths (IsOneOf parts) (AreFrom (needs.Some source test) parts) (one_of parts g) (roots_from (needs.Some source test) parts g) g after r refl (λ made world v one. one ∙ any_of_truths v parts)
      (subst (λ (l : List ℕ). Makes (one_of l g) AreTruths (IsOneOf l) g r after) same h))

module _ (columns : List Column) (need : Require) (rows : List SymRow) (g mid : Graph) where
  pub roots_ok : (parts : List ℕ) (after : Graph) (r : Result (List ℕ) WalkFault) → Makes (parts_of columns need rows g) (λ g made. All (HasTruth g) made) (ArePartsOf columns need rows) g (Ok parts) mid → Makes (roots_from need parts mid) (λ g made. All (HasTruth g) made) (AreFrom need parts) mid r after
      → Makes (roots_of columns need rows g) (λ g made. All (HasTruth g) made) (AreRootsOf columns need rows) g r after
  unfolding roots_of
  roots_ok parts after r h k =
      makes_on AreTruths (ArePartsOf columns need rows) AreTruths (AreRootsOf columns need rows) (AreFrom need parts) (parts_of columns need rows g) (roots_from need) g mid parts after r
      (λ made world v are from fit fits. from ∙ ap (together need) (are fit fits) ∙ met_is v need rows) h k

  pub roots_stop : (e : WalkFault) → Makes (parts_of columns need rows g) (λ g made. All (HasTruth g) made) (ArePartsOf columns need rows) g (Err e) mid → Makes (roots_of columns need rows g) (λ g made. All (HasTruth g) made) (AreRootsOf columns need rows) g (Err e) mid
  unfolding roots_of
  roots_stop e h = makes_stop AreTruths (ArePartsOf columns need rows) AreTruths (AreRootsOf columns need rows) (parts_of columns need rows g) (roots_from need) g mid e h
