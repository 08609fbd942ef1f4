-- the requirements and the objective of a query, over the possible rows of its relations
use Rattle.std.proofs.Common.{◌≡◌, ◌∙◌, sym, ap, ap₂, subst, refl, ℕ, ◌+◌, ◌<◌, ◌≤◌, ℤ, Bool, true, ◌&&◌, List, [], ◌∷◌, ◌++◌, length, take, get_or, All, Option, Some, None, Result, Ok, Err}
use Rattle.std.specs.Prelude.{unwrap_or}
use Rattle.std.specs.List.{list_all}
use Rattle.std.proofs.lemmas.Bool.{false≢true}
use Rattle.std.proofs.lemmas.List.{take_all}
use Rattle.std.proofs.lemmas.List.Elements.{All-nil, All-append}
use Rattle.std.proofs.lemmas.List.Folds.{list_all-append, list_all_more}
use Rattle.tiql_query.specs.declared.query.Query.{Query}
use Rattle.tiql_query.specs.declared.relation.Column.{Column}
use Rattle.tiql_query.specs.declared.relation.Source.{Source}
use Rattle.tiql_query.specs.declared.aim.Aim.{Aim}
use Rattle.tiql_query.specs.declared.aim.Aim.TheVariants as aims
use Rattle.tiql_query.specs.declared.aim.Require.{Require}
use Rattle.tiql_query.specs.declared.aim.Require.TheVariants as needs
use Rattle.tiql_query.specs.declared.expression.Expr.{Expr}
use Rattle.tiql_query.specs.Kinds.{Scope, Kind, kind, is_number, is_fit}
use Rattle.tiql_query.specs.WellFormed.{IsOver, IsRequireFit, IsAimFit, IsWellFormed}
use Rattle.world_def.specs.Judging.{source_of}
use Rattle.world_def.specs.Meaning.{is_met}
use Rattle.prov_fold.specs.Graphs.{Graph, Keeps, HasTruth, HasNumber}
use Rattle.prov_fold.specs.Meanings.{values_in}
use Rattle.prov_fold.specs.Values.{holds}
use Rattle.prov_fold.proofs.StandLemmas.{keeps_on}
use Rattle.sym_rows.specs.declared.fault.WalkFault.{WalkFault}
use Rattle.sym_rows.specs.declared.row.Known.{Known}
use Rattle.sym_rows.specs.declared.row.SymRow.{SymRow}
use Rattle.sym_rows.specs.Cells.{AreRowsOf}
use Rattle.sym_rows.specs.Walks as walks
use Rattle.sym_rows.proofs.Makes.{truth_kept}
use Rattle.sym_rows.proofs.Hypos.{rows_kept}
use Rattle.sym_values.specs.Meanings.{IsRowFit, HasKind}
use Rattle.sym_goals.specs.Goals.{roots_of, aim_of}
use Rattle.sym_goals.specs.Meant.{IsNeedFit, AreRootsOf, IsAimOf}
use Rattle.view_join.specs.Sources.{rows_at}
use Rattle.sym_query.specs.declared.fault.QueryFault.{QueryFault}
use Rattle.sym_query.specs.declared.fault.QueryFault.TheVariants as fault
use Rattle.sym_query.specs.declared.goals.Goals.{Goals}
use Rattle.sym_query.specs.Meant.{aim_in, IsAim, AreGoals}
use Rattle.sym_query.specs.Walks.{Walked, Walk, gives, ◌>>=◌, told_of, columns_at, need_walk, need_more, roots_walk, sum_walk, as_some, aim_walk, goals_walk, Makes}
use Rattle.sym_query.specs.Relations.{there_at, AreKnown, AllFit, AreRootsOfNeed, AreRootsOfAll, IsSumOver, IsAimOfQuery, AreGoalsOver}
use Rattle.sym_query.proofs.Making.{makes_gives, makes_memory, makes_then, makes_stop, makes_of, Going, going_init, going_step, going_err, going_end}

-- ---- a relation that fits

module _ (query : Query) (known : Known) (fits : AllFit query known) where
  over_fit : (source : Source) (holds_in : Scope → Bool) → IsOver query source holds_in → All (IsRowFit (columns_at query source)) (rows_at known source) × (holds_in (columns_at query source ∷ []) ≡ true)
  over_fit source holds_in over =
      subst (λ (o : Option (List Column)). All (IsRowFit (unwrap_or o [])) (rows_at known source) × (holds_in (unwrap_or o [] ∷ []) ≡ true)) (sym over.1) (fits source over.0 over.1, over.2)

  need_fit : (need : Require) → IsRequireFit query need → All (IsRowFit (columns_at query (source_of need))) (rows_at known (source_of need)) × IsNeedFit (columns_at query (source_of need)) need
  unfolding IsRequireFit
  need_fit (needs.All source test) over = over_fit source (λ scope. is_fit scope test) over
  need_fit (needs.Some source test) over = over_fit source (λ scope. is_fit scope test) over
  need_fit (needs.None source) over = ((over_fit source (λ scope. true) over).0, tt)

  -- a number has a kind
  number_kind : (o : Option Kind) → is_number o ≡ true → (it : Kind) × (o ≡ Some it)
  number_kind None e = absurd (false≢true e)
  number_kind (Some it) e = (it, refl)

  sum_fit : (source : Source) (part : Expr) → IsOver query source (λ scope. is_number (kind scope part)) → All (IsRowFit (columns_at query source)) (rows_at known source) × HasKind (columns_at query source ∷ []) part
  sum_fit source part over =
      let both = over_fit source (λ scope. is_number (kind scope part)) over in
      (both.0, number_kind (kind (columns_at query source ∷ []) part) both.1)

-- ---- a requirement

module _ (query : Query) (known : Known) (need : Require) (g after : Graph) (source : Source) (columns : List Column) (rows : List SymRow) (r : Result (List ℕ) WalkFault) (result : Result (List ℕ) QueryFault) where
  pub need_made : source ≡ source_of need → columns ≡ columns_at query source → rows ≡ rows_at known source → result ≡ told_of source r
      → walks.Makes (roots_of columns need rows g) (λ g made. All (HasTruth g) made) (AreRootsOf columns need rows) g r after → Makes (need_walk query known need g) (λ g made. All (HasTruth g) made) (AreRootsOfNeed query known need) g result after
  unfolding need_walk
  need_made from cs rs is h =
      makes_of (source_of need) (roots_of (columns_at query (source_of need)) need (rows_at known (source_of need)) g) (λ g made. All (HasTruth g) made) (AreRootsOf (columns_at query (source_of need)) need (rows_at known (source_of need))) (AreRootsOfNeed query known need) g after r result
      (is ∙ ap (λ (s : Source). told_of s r) from)
      (subst (λ (l : List SymRow). walks.Makes (roots_of (columns_at query (source_of need)) need l g) (λ g made. All (HasTruth g) made) (AreRootsOf (columns_at query (source_of need)) need l) g r after) (rs ∙ ap (rows_at known) from)
      (subst (λ (l : List Column). walks.Makes (roots_of l need rows g) (λ g made. All (HasTruth g) made) (AreRootsOf l need rows) g r after) (cs ∙ ap (columns_at query) from) h))
      (λ made l world later so fits fit. let both = need_fit query known fits need fit in so both.0 both.1)

pub rows_known : (query : Query) (known : Known) (g : Graph) (source : Source) (rows : List SymRow) → rows ≡ rows_at known source → AreKnown query g known → AreRowsOf g rows
rows_known query known g source rows is are = subst (AreRowsOf g) (sym is) (are.rows source)

-- ---- all requirements

module _ (query : Query) (known : Known) (g0 : Graph) where
  -- whether the rows that are there meet a requirement
  abbrev pub met_in : (ℕ → ℤ) → Require → Bool
  met_in v need = is_met need (there_at v known (source_of need))

  abbrev pub AreRoots : ℕ → Graph → List ℕ → Type 0
  AreRoots i g made = All (HasTruth g) made

  abbrev pub AreRootsSo : ℕ → List ℕ → List ℤ → (ℕ → ℤ) → Type 0
  AreRootsSo i made numbers v = AllFit query known → list_all (holds v) made ≡ list_all (met_in v) (take i query.requires_)

  abbrev pub RootsGoing : ℕ → List ℕ → Graph → Type 0
  RootsGoing = Going (need_more query known) query.requires_ [] AreRoots AreRootsSo g0

  pub roots_init : (made : List ℕ) → made ≡ [] → RootsGoing 0 made g0
  roots_init made is =
      subst (λ (l : List ℕ). RootsGoing 0 l g0) (sym is)
      (going_init (need_more query known) query.requires_ [] AreRoots AreRootsSo g0 (All-nil (HasTruth g0)) (λ h world later fits. refl))

  -- what is known stays so
  pub known_kept : (g : Graph) → Keeps g0 g → AreKnown query g0 known → AreKnown query g known
  known_kept g kept are = record { rows = λ source. rows_kept g0 g (rows_at known source) kept (are.rows source); fit = are.fit }

  module _ (fit : IsWellFormed query) (i : ℕ) (need : Require) (made : List ℕ) (g after : Graph) (lt : i < length query.requires_) (is : need ≡ get_or query.requires_ i need) (going : RootsGoing i made g) where
    more_is : (w : Walked (List ℕ)) → need_walk query known need g ≡ w → need_more query known need made g ≡ (w >>= λ roots g. gives (made ++ roots) g)
    unfolding need_more
    more_is w e = ap (λ (w : Walked (List ℕ)). w >>= λ roots g. gives (made ++ roots) g) e

    need_here : IsRequireFit query need
    need_here = subst (IsRequireFit query) (sym is) (fit.requires_ i need lt)

    told_more : (roots : List ℕ) (numbers : List ℤ) (v : ℕ → ℤ) → AreRootsSo i made numbers v → AreRootsOfNeed query known need roots numbers v → AreRootsSo (i + 1) (made ++ roots) numbers v
    told_more roots numbers v so here fits =
        list_all-append (holds v) made roots ∙ ap₂ (λ (b c : Bool). b && c) (so fits) (here fits need_here ∙ ap (met_in v) is) ∙ sym (list_all_more (met_in v) query.requires_ i need lt)

    pub roots_step : (roots all : List ℕ) → all ≡ made ++ roots → Makes (need_walk query known need g) (λ g made. All (HasTruth g) made) (AreRootsOfNeed query known need) g (Ok roots) after → RootsGoing (i + 1) all after
    roots_step roots all same one =
        subst (λ (l : List ℕ). RootsGoing (i + 1) l after) (sym same)
        (going_step (need_more query known) query.requires_ [] AreRoots AreRootsSo g0 i need made g after lt is going (made ++ roots) (AreRootsOfNeed query known need roots) (more_is (Ok (roots, after)) one.follows) one.kept
        (λ old. All-append (HasTruth after) made roots (λ k d below. truth_kept g after (get_or made k d) one.kept (old k d below)) one.good) one.means (λ h world later so here. told_more roots world (values_in h world) so here))

    pub roots_err : (e : QueryFault) → Makes (need_walk query known need g) (λ g made. All (HasTruth g) made) (AreRootsOfNeed query known need) g (Err e) after
        → Makes (roots_walk query known g0) (λ g made. All (HasTruth g) made) (AreRootsOfAll query known) g0 (Err e) after
    unfolding roots_walk
    roots_err e one =
        going_err (need_more query known) query.requires_ [] AreRoots AreRootsSo g0 i need made g after lt is going e (λ g made. All (HasTruth g) made) (AreRootsOfAll query known) (λ ne. more_is (Err (e, after)) (one.follows ne)) one.kept

    -- memory was wanting for one more
    pub roots_memory : (roots : List ℕ) → Makes (need_walk query known need g) (λ g made. All (HasTruth g) made) (AreRootsOfNeed query known need) g (Ok roots) after
        → Makes (roots_walk query known g0) (λ g made. All (HasTruth g) made) (AreRootsOfAll query known) g0 (Err fault.Memory) after
    roots_memory roots one = makes_memory (λ g made. All (HasTruth g) made) (AreRootsOfAll query known) (roots_walk query known g0) g0 after (keeps_on g0 g after going.kept one.kept)

  pub roots_end : (i : ℕ) (made : List ℕ) (g : Graph) → length query.requires_ ≤ i → RootsGoing i made g → Makes (roots_walk query known g0) (λ g made. All (HasTruth g) made) (AreRootsOfAll query known) g0 (Ok made) g
  unfolding roots_walk
  roots_end i made g le going =
      going_end (need_more query known) query.requires_ [] AreRoots AreRootsSo g0 i made g (λ g made. All (HasTruth g) made) (AreRootsOfAll query known) le (λ so. so)
      (λ h world later so fits. so fits ∙ ap (list_all (met_in (values_in h world))) (take_all i query.requires_ le)) going

-- ---- the objective

module _ (query : Query) (known : Known) (source : Source) (part : Expr) (g after : Graph) where
  pub sum_made : (columns : List Column) (rows : List SymRow) (r : Result ℕ WalkFault) (result : Result ℕ QueryFault) → columns ≡ columns_at query source → rows ≡ rows_at known source → result ≡ told_of source r
      → walks.Makes (aim_of columns part rows g) HasNumber (IsAimOf columns part rows) g r after → Makes (sum_walk query known source part g) HasNumber (IsSumOver query known source part) g result after
  unfolding sum_walk
  sum_made columns rows r result cs rs is h =
      makes_of source (aim_of (columns_at query source) part (rows_at known source) g) HasNumber (IsAimOf (columns_at query source) part (rows_at known source)) (IsSumOver query known source part) g after r result is
      (subst (λ (l : List SymRow). walks.Makes (aim_of (columns_at query source) part l g) HasNumber (IsAimOf (columns_at query source) part l) g r after) rs
      (subst (λ (l : List Column). walks.Makes (aim_of l part rows g) HasNumber (IsAimOf l part rows) g r after) cs h))
      (λ made l world later so fits over. let both = sum_fit query known fits source part over in so both.0 both.1)

module _ (query : Query) (known : Known) (g after : Graph) (aim : Aim) (fit : IsAimFit query aim) where
  pub aim_find : aim ≡ aims.Find → Makes (aim_walk query known aim g) IsAim (IsAimOfQuery query known aim) g (Ok None) g
  unfolding aim_walk
  aim_find is =
      subst (λ (a : Aim). Makes (aim_walk query known a g) IsAim (IsAimOfQuery query known a) g (Ok None) g) (sym is)
      (makes_gives IsAim (IsAimOfQuery query known aims.Find) None g tt (λ h world later fits. refl))

  module _ (maximize : Bool) (source : Source) (part : Expr) (is : aim ≡ aims.Sum maximize source part) where
    abbrev pub sum_aim : Aim
    sum_aim = aims.Sum maximize source part

    sum_over : IsOver query source (λ scope. is_number (kind scope part))
    unfolding IsAimFit
    sum_over = subst (IsAimFit query) is fit

    pub aim_sum : (id : ℕ) → Makes (sum_walk query known source part g) HasNumber (IsSumOver query known source part) g (Ok id) after → Makes (aim_walk query known aim g) IsAim (IsAimOfQuery query known aim) g (Ok (Some id)) after
    unfolding aim_walk
    aim_sum id h =
        subst (λ (a : Aim). Makes (aim_walk query known a g) IsAim (IsAimOfQuery query known a) g (Ok (Some id)) after) (sym is)
        (makes_then HasNumber (IsSumOver query known source part) IsAim (IsAimOfQuery query known sum_aim) (sum_walk query known source part g) as_some g after id after (Ok (Some id)) (λ made numbers v. made ≡ Some id) h
        (makes_gives IsAim (λ made numbers v. made ≡ Some id) (Some id) after h.good (λ l world later. refl))
        (λ made l world later so same fits. ap (aim_in (values_in l world)) same ∙ so fits sum_over))

    pub aim_err : (e : QueryFault) → Makes (sum_walk query known source part g) HasNumber (IsSumOver query known source part) g (Err e) after → Makes (aim_walk query known aim g) IsAim (IsAimOfQuery query known aim) g (Err e) after
    unfolding aim_walk
    aim_err e h =
        subst (λ (a : Aim). Makes (aim_walk query known a g) IsAim (IsAimOfQuery query known a) g (Err e) after) (sym is)
        (makes_stop HasNumber (IsSumOver query known source part) IsAim (IsAimOfQuery query known sum_aim) (sum_walk query known source part g) as_some g after e h)

-- ---- both

module _ (query : Query) (known : Known) (g mid : Graph) where
  abbrev pub then_aim : List ℕ → Walk Goals
  then_aim roots g = aim_walk query known query.aim g >>= λ aim g. gives (record { roots = roots; aim = aim }) g

  pub goals_stop : (e : QueryFault) → Makes (roots_walk query known g) (λ g roots. All (HasTruth g) roots) (AreRootsOfAll query known) g (Err e) mid → Makes (goals_walk query known g) AreGoals (AreGoalsOver query known) g (Err e) mid
  unfolding goals_walk
  goals_stop e h = makes_stop (λ g roots. All (HasTruth g) roots) (AreRootsOfAll query known) AreGoals (AreGoalsOver query known) (roots_walk query known g) then_aim g mid e h

  module _ (roots : List ℕ) (after : Graph) (one : Makes (roots_walk query known g) (λ g roots. All (HasTruth g) roots) (AreRootsOfAll query known) g (Ok roots) mid) where
    with_roots : Option ℕ → Goals
    with_roots aim = record { roots = roots; aim = aim }

    abbrev IsLate : Goals → List ℤ → (ℕ → ℤ) → Type 0
    IsLate goals numbers v = (goals.roots ≡ roots) × IsAimOfQuery query known query.aim goals.aim numbers v

    joined : (r : Result Goals QueryFault) → Makes (then_aim roots mid) AreGoals IsLate mid r after → Makes (goals_walk query known g) AreGoals (AreGoalsOver query known) g r after
    unfolding goals_walk
    joined r h =
        makes_then (λ g roots. All (HasTruth g) roots) (AreRootsOfAll query known) AreGoals (AreGoalsOver query known) (roots_walk query known g) then_aim g mid roots after r IsLate one h
        (λ goals l world later so both fits. (ap (list_all (holds (values_in l world))) both.0 ∙ so fits, both.1 fits))

    pub goals_late : (e : QueryFault) → Makes (aim_walk query known query.aim mid) IsAim (IsAimOfQuery query known query.aim) mid (Err e) after → Makes (goals_walk query known g) AreGoals (AreGoalsOver query known) g (Err e) after
    goals_late e h = joined (Err e) (makes_stop IsAim (IsAimOfQuery query known query.aim) AreGoals IsLate (aim_walk query known query.aim mid) (λ aim g. gives (record { roots = roots; aim = aim }) g) mid after e h)

    pub goals_ok : (aim : Option ℕ) → Makes (aim_walk query known query.aim mid) IsAim (IsAimOfQuery query known query.aim) mid (Ok aim) after
        → Makes (goals_walk query known g) AreGoals (AreGoalsOver query known) g (Ok (record { roots = roots; aim = aim })) after
    goals_ok aim h =
        joined (Ok (record { roots = roots; aim = aim }))
        (makes_then IsAim (IsAimOfQuery query known query.aim) AreGoals IsLate (aim_walk query known query.aim mid) (λ aim g. gives (record { roots = roots; aim = aim }) g) mid after aim after (Ok (record { roots = roots; aim = aim }))
        (λ goals numbers v. (goals.roots ≡ roots) × (goals.aim ≡ aim)) h
        (makes_gives AreGoals (λ goals numbers v. (goals.roots ≡ roots) × (goals.aim ≡ aim)) (record { roots = roots; aim = aim }) after
        (record { roots = λ k d below. truth_kept mid after (get_or roots k d) h.kept (one.good k d below); aim = h.good }) (λ l world later. (refl, refl)))
        (λ goals l world later so same. (same.0, λ fits. ap (aim_in (values_in l world)) same.1 ∙ so fits)))
