-- the world of an answer stands in one way
use Rattle.std.proofs.Common.{◌≡◌, ◌≢◌, ℕ, zero, suc, ◌+◌, ◌<◌, ◌≤◌, true, false, List, [], ◌∷◌, length, take, refl, sym, ◌∙◌, ap, subst, inl, inr, ⊎_elim, arith, Option, Some, None}
use Rattle.std.specs.Prelude.{All, IfOk, Result, Ok, Err, slice_get}
use Rattle.base_kit.specs.declared.memory.Memory.{Memory}
use Rattle.std.proofs.lemmas.Bool.{and_parts, cases_lt}
use Rattle.std.proofs.lemmas.List.Elements.{All-cons, All-nil}
use Rattle.tiql_query.specs.declared.query.Query.{Query}
use Rattle.tiql_query.specs.declared.relation.QHypo.{QHypo}
use Rattle.tiql_query.specs.Rows.{AreTables}
use Rattle.answer_text.specs.declared.answer.WorldText.{WorldText}
use Rattle.answer_text.specs.declared.world.WorldFault.{WorldFault}
use Rattle.answer_text.specs.declared.world.WorldFault.TheVariants as faults
use Rattle.answer_text.specs.Worlds as sections
use Rattle.answer_text.specs.Worlds.{AreSections, IsWorldOf, IsWrong}
use Rattle.answer_text.proofs.Worlds.{world_no_fault, world_one}
use Rattle.world_def.specs.declared.fault.EvalFault.{EvalFault}
use Rattle.world_def.specs.declared.world.World.{World}
use Rattle.world_def.specs.declared.world.WorldTable.{WorldTable}
use Rattle.world_def.specs.Columns.{IsSmall, Tables, rows_of}
use Rattle.world_def.specs.Meaning as meaning
use Rattle.world_def.specs.Meaning.{IsNotFor, IsPossible, IsWrongAt, table_can, tables_can}
use Rattle.world_def.specs.Views.{Gives}
use Rattle.world_eval.specs.declared.evaluation.Evaluation.{Evaluation}
use Rattle.world_eval.specs.declared.standing.Standing.{Standing}
use Rattle.world_eval.specs.declared.standing.Standing.TheVariants as standing
use Rattle.world_eval.specs.Standings.{IsStanding, IsWrongFirst, name_at}
use Rattle.world_eval.specs.Evaluating.{IsSmallStanding, Tells, TellsEach, evaluation}

-- ---- a possible world has few rows

abbrev IsFew : WorldTable → Type 0
IsFew table = length table.rows ≤ 200000

module _ (query : Query) (tables : Tables) where
  given_few : (hypos : List QHypo) (worlds : List WorldText) (given : List WorldTable) → AreSections query tables hypos worlds given → All IsFew given
  given_few [] [] [] are = All-nil IsFew
  given_few [] [] (table ∷ given) are = absurd are
  given_few [] (text ∷ worlds) given are = absurd are
  given_few (hypo ∷ hypos) [] given are = absurd are
  given_few (hypo ∷ hypos) (text ∷ worlds) [] are = absurd are
  given_few (hypo ∷ hypos) (text ∷ worlds) (table ∷ given) are = All-cons IsFew table given are.0.right.rows.given.few (given_few hypos worlds given are.1)

  pub standing_small : (worlds : List WorldText) (stands : Standing) → IsSmall query tables → IsStanding query tables worlds stands → IsSmallStanding tables stands
  standing_small worlds (standing.NotPossible name) small is = tt
  standing_small worlds (standing.Possible world) small is = record { tables_rows = small.rows; world_rows = given_few query.hypos worlds world.tables is.0 }

-- ---- one first wrong number

get_take : {A : Type 0} (xs : List A) (k j : ℕ) → j < k → slice_get (take k xs) j ≡ slice_get xs j
get_take xs zero j lt = absurd (omega (arith, lt))
get_take [] (suc k) j lt = refl
get_take (x ∷ xs) (suc k) zero lt = refl
get_take (x ∷ xs) (suc k) (suc j) lt = get_take xs k j (omega (arith, lt))

module _ (query : Query) (tables : Tables) where
  wrong_nowhere : (hypos : List QHypo) (worlds : List WorldText) (found : List WorldTable) (n : ℕ) → AreSections query tables hypos worlds found
      → IsWrong query tables (slice_get hypos n) (slice_get worlds n) → ⊥
  wrong_nowhere [] [] [] n are wrong = wrong
  wrong_nowhere [] [] (f ∷ found) n are wrong = absurd are
  wrong_nowhere [] (s ∷ worlds) found n are wrong = absurd are
  wrong_nowhere (h ∷ hypos) [] found n are wrong = absurd are
  wrong_nowhere (h ∷ hypos) (s ∷ worlds) [] n are wrong = absurd are
  wrong_nowhere (h ∷ hypos) (s ∷ worlds) (f ∷ found) zero are wrong = wrong f are.0
  wrong_nowhere (h ∷ hypos) (s ∷ worlds) (f ∷ found) (suc n) are wrong = wrong_nowhere hypos worlds found n are.1 wrong

  -- no section before the first wrong one is wrong
  none_before : (worlds : List WorldText) (m n : ℕ) → sections.IsFirstWrong query tables worlds m → sections.IsFirstWrong query tables worlds n → m < n → ⊥
  none_before worlds m n one other lt =
      wrong_nowhere (take n query.hypos) (take n worlds) other.before m other.right
      (subst (λ hypo. IsWrong query tables hypo (slice_get (take n worlds) m)) (sym (get_take query.hypos n m lt))
      (subst (IsWrong query tables (slice_get query.hypos m)) (sym (get_take worlds n m lt)) one.wrong))

  by_order : (m n : ℕ) → (m < n → ⊥) → (n < m → ⊥) → m ≡ n
  by_order m n not_less not_more = ⊎_elim (λ less. absurd (not_less less)) (λ le. ⊎_elim (λ more. absurd (not_more more)) (λ ge. omega (arith, le, ge)) (cases_lt n m)) (cases_lt m n)

  first_section : (worlds : List WorldText) (m n : ℕ) → sections.IsFirstWrong query tables worlds m → sections.IsFirstWrong query tables worlds n → m ≡ n
  first_section worlds m n one other = by_order m n (none_before worlds m n one other) (none_before worlds n m other one)

  first_table : (world : World) (m n : ℕ) → meaning.IsFirstWrong query tables world m → meaning.IsFirstWrong query tables world n → m ≡ n
  first_table world m n one other = by_order m n (λ less. other.first m less one.here) (λ less. one.first n less other.here)

  -- a possible world is wrong nowhere
  all_can : (tables : Tables) (world : List WorldTable) (hypos : List QHypo) (from n : ℕ) (hypo : QHypo) → tables_can tables world from hypos ≡ true → slice_get hypos n ≡ Some hypo
      → table_can (from + n) hypo (rows_of tables hypo.table) (slice_get world (from + n)) ≡ true
  unfolding tables_can
  all_can tables world [] from n hypo can there = absurd (let k : ◌≡◌ {A = Option QHypo} None (Some hypo) = there in cc)
  all_can tables world (first ∷ others) from zero hypo can there =
      let parts = and_parts (table_can from first (rows_of tables first.table) (slice_get world from)) (tables_can tables world (from + 1) others) can in
      let same : first ≡ hypo = cc in
      let here : from ≡ from + 0 = omega arith in
      subst (λ (m : ℕ). table_can m hypo (rows_of tables hypo.table) (slice_get world m) ≡ true) here
      (subst (λ (h : QHypo). table_can from h (rows_of tables h.table) (slice_get world from) ≡ true) same parts.0)
  all_can tables world (first ∷ others) from (suc n) hypo can there =
      let parts = and_parts (table_can from first (rows_of tables first.table) (slice_get world from)) (tables_can tables world (from + 1) others) can in
      let here : (from + 1) + n ≡ from + suc n = omega arith in
      subst (λ (m : ℕ). table_can m hypo (rows_of tables hypo.table) (slice_get world m) ≡ true) here (all_can tables world others (from + 1) n hypo parts.1 there)

  no_more : {A : Type 0} (xs : List A) (n : ℕ) → slice_get xs n ≡ None → length xs ≤ n
  no_more [] n none = omega arith
  no_more (x ∷ xs) zero none = absurd (let k : ◌≡◌ (Some x) None = none in cc)
  no_more (x ∷ xs) (suc n) none = let le = no_more xs n none in omega (arith, le)

  possible_right : (world : World) (n : ℕ) → IsPossible query tables world → IsWrongAt query tables world n → ⊥
  possible_right world n possible wrong = by_hypo (slice_get query.hypos n) refl wrong
    where
      by_hypo : (hypo : Option QHypo) → slice_get query.hypos n ≡ hypo → IsNotFor tables world n hypo → ⊥
      by_hypo None is more = let long = possible.long in let few = no_more query.hypos n is in absurd (omega (arith, long, few, more))
      by_hypo (Some hypo) is not_ =
          let can = all_can tables world.tables query.hypos 0 n hypo possible.rows is in
          let at : 0 + n ≡ n = omega arith in
          let here = subst (λ (m : ℕ). table_can m hypo (rows_of tables hypo.table) (slice_get world.tables m) ≡ true) at can in
          let no : true ≡ false = sym here ∙ not_ in cc

-- ---- one standing

module _ (query : Query) (tables : Tables) (are : AreTables query tables) (worlds : List WorldText) where
  wrong_one : (m n : ℕ) → IsWrongFirst query tables worlds m → IsWrongFirst query tables worlds n → m ≡ n
  wrong_one m n (inl one) (inl other) = first_section query tables worlds m n one other
  wrong_one m n (inl one) (inr other) = absurd (world_no_fault query tables worlds other.0 (faults.NoTable m) other.1 one)
  wrong_one m n (inr one) (inl other) = absurd (world_no_fault query tables worlds one.0 (faults.NoTable n) one.1 other)
  wrong_one m n (inr one) (inr other) =
      first_table query tables other.0 m n (subst (λ (world : World). meaning.IsFirstWrong query tables world m) (world_one query tables are worlds one.0 other.0 one.1 other.1) one.2) other.2

  wrong_or_possible : (n : ℕ) (world : World) → IsWrongFirst query tables worlds n → IsWorldOf query tables worlds world → IsPossible query tables world → ⊥
  wrong_or_possible n world (inl wrong) is possible = world_no_fault query tables worlds world (faults.NoTable n) is wrong
  wrong_or_possible n world (inr wrong) is possible =
      possible_right query tables world n possible (subst (λ (w : World). meaning.IsFirstWrong query tables w n) (world_one query tables are worlds wrong.0 world wrong.1 is) wrong.2).here

  standing_one : (one other : Standing) → IsStanding query tables worlds one → IsStanding query tables worlds other → one ≡ other
  standing_one (standing.NotPossible name) (standing.NotPossible other) first second =
      ap (λ (n : List ℕ). standing.NotPossible n) (first.2 ∙ ap (name_at query worlds) (wrong_one first.0 second.0 first.1 second.1) ∙ sym second.2)
  standing_one (standing.NotPossible name) (standing.Possible world) first second = absurd (wrong_or_possible first.0 world first.1 second.0 second.1)
  standing_one (standing.Possible world) (standing.NotPossible name) first second = absurd (wrong_or_possible second.0 world second.1 first.0 first.1)
  standing_one (standing.Possible world) (standing.Possible other) first second = ap (λ (w : World). standing.Possible w) (world_one query tables are worlds world other first.0 second.0)

  -- what is told by one standing is told by each
  pub tells_each : (stands : Standing) (result : Result Evaluation EvalFault) → IsStanding query tables worlds stands → Gives (evaluation query tables stands) result → TellsEach query tables worlds result
  tells_each stands result is gives other other_is =
      subst (λ (s : Standing). Gives (evaluation query tables s) result) (standing_one stands other is other_is) gives

  pub tells : (stands : Standing) (result : Result Evaluation EvalFault) → IsStanding query tables worlds stands → Gives (evaluation query tables stands) result → Tells query tables worlds result
  tells stands (Ok told) is gives = (stands, is, gives)
  tells stands (Err e) is gives = λ ne. (stands, is, gives ne)

-- ---- how a standing is found

module _ (query : Query) (tables : Tables) (worlds : List WorldText) where
  pub stands_wrong : (n : ℕ) (result : Result Standing Memory) → IsWrongFirst query tables worlds n → IfOk result (λ stands. stands ≡ standing.NotPossible (name_at query worlds n))
      → IfOk result (IsStanding query tables worlds)
  stands_wrong n (Ok stands) wrong e = subst (IsStanding query tables worlds) (sym e) (n, wrong, refl)
  stands_wrong n (Err fault) wrong e = tt

  pub no_table : (n : ℕ) (told : WorldFault) → told ≡ faults.NoTable n → (told ≢ faults.Memory → sections.IsWorldFault query tables worlds told) → sections.IsFirstWrong query tables worlds n
  no_table n told e wrong = subst (sections.IsWorldFault query tables worlds) e (wrong (λ (no : told ≡ faults.Memory). cc))
