-- the first hypothetical table for which a world is not possible
use Rattle.std.proofs.Common.{◌≡◌, ℕ, suc, ◌+◌, ◌<◌, ◌≤◌, Bool, true, false, List, [], ◌∷◌, length, refl, sym, ◌∙◌, subst, inl, inr, arith, Option, Some, None, if◌then◌else◌}
use Rattle.std.specs.Prelude.{IfSome, Ok, nat_lt, slice_get, ◌↔◌}
use Rattle.std.proofs.lemmas.Bool.{cases_lt}
use Rattle.std.proofs.lemmas.Bool.Decides.{nat_tests}
use Rattle.tiql_query.specs.declared.relation.QHypo.{QHypo}
use Rattle.tiql_query.specs.declared.query.Query.{Query}
use Rattle.tiql_query.specs.declared.world_column.WorldColumn.{WorldColumn}
use Rattle.world_def.specs.declared.world.World.{World}
use Rattle.world_def.specs.Columns.{Tables, rows_of, columns_of}
use Rattle.world_def.specs.Worlds.{surplus, first_impossible}
use Rattle.world_def.specs.Meaning.{IsFirstWrong, IsNotFor, IsPossible, IsWrongAt, all_choices, table_can}
use Rattle.world_def.proofs.Choices.{columns_told}
use Rattle.world_def.proofs.Runs.{impossible_next, possible_passes, possible_told}

module _ (query : Query) (tables : Tables) (world : World) where
  -- the first number, from one on, at which the world is wrong
  record IsFirstFrom (from number : ℕ) : Type 0 where
    pub above : from ≤ number
    pub here : IsWrongAt query tables world number
    pub first : (earlier : ℕ) → from ≤ earlier → earlier < number → IsWrongAt query tables world earlier → ⊥

  same_number : (m n : ℕ) → ◌≡◌ {A = Option ℕ} (Some m) (Some n) → m ≡ n
  same_number m n e = cc

  wrong_at : (n : ℕ) (hypo : Option QHypo) → slice_get query.hypos n ≡ hypo → IsNotFor tables world n hypo → IsWrongAt query tables world n
  wrong_at n hypo is not_ = subst (IsNotFor tables world n) (sym is) not_

  wrong_for : (n : ℕ) (hypo : Option QHypo) → slice_get query.hypos n ≡ hypo → IsWrongAt query tables world n → IsNotFor tables world n hypo
  wrong_for n hypo is not_ = subst (IsNotFor tables world n) is not_

  -- behind all hypothetical tables
  last_from : (hypo n : ℕ) → slice_get query.hypos hypo ≡ None → surplus world.tables hypo ≡ Some n → IsFirstFrom hypo n
  last_from hypo n none = by_test (nat_lt hypo (length world.tables)) refl
    where
      by_test : (b : Bool) → nat_lt hypo (length world.tables) ≡ b → (if b then Some hypo else None) ≡ Some n → IsFirstFrom hypo n
      by_test true t e =
          let same = same_number hypo n e in
          let more : hypo < length world.tables = grind (arith, nat_tests) in record {
            above = omega (arith, same);
            here = subst (IsWrongAt query tables world) same (wrong_at hypo None none more);
            first = λ earlier le lt. absurd (omega (arith, same, le, lt));
          }
      by_test false t e = absurd (let k : ◌≡◌ {A = Option ℕ} None (Some n) = e in cc)

  -- at a hypothetical table
  next_from : (hypo n : ℕ) (table : QHypo) (later : Option ℕ) → slice_get query.hypos hypo ≡ Some table → (later ≡ Some n → IsFirstFrom (hypo + 1) n)
      → (if table_can hypo table (rows_of tables table.table) (slice_get world.tables hypo) then later else Some hypo) ≡ Some n → IsFirstFrom hypo n
  next_from hypo n table later there more = by_test (table_can hypo table (rows_of tables table.table) (slice_get world.tables hypo)) refl
    where
      by_test : (b : Bool) → table_can hypo table (rows_of tables table.table) (slice_get world.tables hypo) ≡ b → (if b then later else Some hypo) ≡ Some n → IsFirstFrom hypo n
      by_test true t e = let rest = more e in let above = rest.above in record {
        above = omega (arith, above);
        here = rest.here;
        first = λ earlier le lt wrong. elim (cases_lt hypo earlier) as (λ _. ⊥) [
          | inl past ↦ rest.first earlier (omega (arith, past)) lt wrong
          | inr not_past ↦
              let same : earlier ≡ hypo = omega (arith, le, not_past) in
              let no : true ≡ false = sym t ∙ wrong_for hypo (Some table) there (subst (IsWrongAt query tables world) same wrong) in
              cc
        ];
      }
      by_test false t e = let same = same_number hypo n e in record {
        above = omega (arith, same);
        here = subst (IsWrongAt query tables world) same (wrong_at hypo (Some table) there t);
        first = λ earlier le lt. absurd (omega (arith, same, le, lt));
      }

  first_from : (hypos : List QHypo) (hypo n : ℕ) → ((k : ℕ) → slice_get query.hypos (hypo + k) ≡ slice_get hypos k)
      → first_impossible tables world.tables hypo hypos (all_choices tables hypo hypos) ≡ Some n → IsFirstFrom hypo n
  unfolding first_impossible
  first_from [] hypo n same e =
      let none : slice_get query.hypos hypo ≡ None = subst (λ m. slice_get query.hypos m ≡ None) (let k : hypo + 0 ≡ hypo = omega arith in k) (same 0) in
      last_from hypo n none e
  first_from (table ∷ others) hypo n same e =
      let there : slice_get query.hypos hypo ≡ Some table = subst (λ m. slice_get query.hypos m ≡ Some table) (let k : hypo + 0 ≡ hypo = omega arith in k) (same 0) in
      next_from hypo n table (first_impossible tables world.tables (hypo + 1) others (all_choices tables (hypo + 1) others)) there
      (first_from others (hypo + 1) n (λ k. subst (λ m. slice_get query.hypos m ≡ slice_get others k) (let a : hypo + suc k ≡ (hypo + 1) + k = omega arith in a) (same (suc k))))
      (sym (impossible_next tables world.tables hypo table others) ∙ e)

  module _ (columns : List WorldColumn) (found : Option ℕ) (walk : found ≡ first_impossible tables world.tables 0 query.hypos columns) where
    -- none is found exactly where the world is possible
    pub none_wrong : columns_of query tables ≡ Ok columns → (found ≡ None) ↔ IsPossible query tables world
    none_wrong made = (
      (λ none. possible_told query tables columns world (columns_told query tables columns made) (sym walk ∙ none)),
      (λ possible. walk ∙ possible_passes query tables columns world (columns_told query tables columns made) possible),
    )

    -- else the first number at which it is wrong
    pub first_wrong : columns_of query tables ≡ Ok columns → IfSome found (IsFirstWrong query tables world)
    first_wrong made = by_found found walk
      where
        by_found : (found : Option ℕ) → found ≡ first_impossible tables world.tables 0 query.hypos columns → IfSome found (IsFirstWrong query tables world)
        by_found None is = tt
        by_found (Some n) is =
            let first = first_from query.hypos 0 n (λ k. subst (λ m. slice_get query.hypos m ≡ slice_get query.hypos k) (let z : k ≡ 0 + k = omega arith in z) refl)
            (subst (λ (l : List WorldColumn). first_impossible tables world.tables 0 query.hypos l ≡ Some n) (columns_told query tables columns made) (sym is)) in
            record { here = first.here; first = λ earlier lt. first.first earlier (omega arith) lt }
