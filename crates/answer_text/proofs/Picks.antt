-- the rows of a table that the rows of a section are
use Rattle.std.proofs.Common.{◌≡◌, ◌∙◌, ◌+◌, ◌<◌, ◌++◌, ℕ, zero, suc, Bool, true, false, cond, All, List, [], ◌∷◌, Some, None, ap, sym, refl, subst, arith, length, length-append, get_or, slice_index, filter, map, drop, true≢false, inl, inr}
use Rattle.std.proofs.lemmas.Bool.{cases_lt}
use Rattle.std.proofs.lemmas.List.{get_or_append_left, get_or_push, get_or_read}
use Rattle.std.proofs.lemmas.List.Elements.{All-head, filter_passes}
use Rattle.std.proofs.lemmas.Grind.{same_number_lists}
use Rattle.std.proofs.lemmas.Option.{same_Some}
use Rattle.std.proofs.lemmas.Slice.Zip.{AllZip-long}
use Rattle.std.specs.Prelude.{pos, slice_get, slice_index_or, unwrap_or}
use Rattle.base_kit.specs.declared.value.Value.{Value}
use Rattle.base_kit.specs.declared.value.Value.TheVariants.{Int}
use Rattle.tiql_query.proofs.Rows.{key_one}
use Rattle.tiql_query.specs.declared.relation.QTable.{QTable}
use Rattle.tiql_query.specs.Keys.{HaveDistinctKeys, key_of}
use Rattle.tiql_query.specs.Rows.{AreRowsOf, IsOfColumn}
use Rattle.join_index.specs.Matching.{is_same, matching_rows, value_at, values_in}
use Rattle.join_index.proofs.Keys.{is_same-equal, is_same-refl}
use Rattle.join_index.proofs.Matches.{matched, match_within}
use Rattle.world_def.specs.Columns.{Rows}
use Rattle.answer_text.specs.Worlds.{ArePicks, IsPick}

-- ---- rows found by the values that an index compares

-- two rows of one length have the same in a column, where their values there are equal
same_place : (one other : List Value) (column : ℕ) → length one ≡ length other → value_at one column ≡ value_at other column → slice_get one column ≡ slice_get other column
same_place [] [] column size values = refl
same_place [] (y ∷ ys) column size values = absurd (omega (arith, size))
same_place (x ∷ xs) [] column size values = absurd (omega (arith, size))
same_place (x ∷ xs) (y ∷ ys) zero size values = ap Some values
same_place (x ∷ xs) (y ∷ ys) (suc column) size values = same_place xs ys column (omega (arith, size)) values

-- so they have one key, where their values in its columns are equal
same_key : (key : List ℕ) (one other : List Value) → length one ≡ length other → values_in key one ≡ values_in key other → key_of key one ≡ key_of key other
unfolding key_of
same_key [] one other size values = refl
same_key (column ∷ key) one other size values =
    let here = same_place one other column size (ap (λ list. get_or list 0 (value_at one column)) values) in
    let rest = same_key key one other size (ap (λ list. drop 1 list) values) in
    λ i. here i ∷ rest i

-- rows of one key have equal values in its columns
same_values : (key : List ℕ) (one other : List Value) → key_of key one ≡ key_of key other → values_in key one ≡ values_in key other
unfolding key_of
same_values [] one other keys = refl
same_values (column ∷ key) one other keys =
    let here = ap (λ list. unwrap_or (get_or list 0 (slice_get one column)) (Int (pos 0))) keys in
    let rest = same_values key one other (ap (λ list. drop 1 list) keys) in
    λ i. here i ∷ rest i

-- the first of those that pass passes
first_passes : {X : Type 0} (test : X → Bool) (xs more : List X) (x : X) → filter test xs ≡ x ∷ more → test x ≡ true
first_passes test xs more x is = All-head (λ y. test y ≡ true) x more (subst (All (λ y. test y ≡ true)) is (filter_passes test xs))

-- where none passes, each fails
none_passes : {X : Type 0} (test : X → Bool) (xs : List X) (i : ℕ) (d : X) → filter test xs ≡ [] → i < length xs → test (get_or xs i d) ≡ true → ⊥
none_passes test [] i d none less passes = absurd (omega (arith, less))
none_passes test (x ∷ xs) i d none less passes = by (test x) refl none (λ n kept. none_passes test xs n d kept) i less passes
  where
    by : (b : Bool) → test x ≡ b → cond b (x ∷ filter test xs) (filter test xs) ≡ []
        → ((n : ℕ) → filter test xs ≡ [] → n < length xs → test (get_or xs n d) ≡ true → ⊥)
        → (n : ℕ) → n < length (x ∷ xs) → test (get_or (x ∷ xs) n d) ≡ true → ⊥
    by true e kept rest n less passes = cc
    by false e kept rest zero less passes = true≢false (sym passes ∙ e)
    by false e kept rest (suc n) less passes = rest n kept (omega (arith, less)) passes

-- what is first in a list begins it
first_there : (numbers : List ℕ) (first : ℕ) → slice_get numbers 0 ≡ Some first → numbers ≡ first ∷ drop 1 numbers
first_there [] first is = cc
first_there (n ∷ more) first is = ap (λ m. m ∷ more) (same_Some n first is)

-- a list without a first is empty
none_there : (numbers : List ℕ) → slice_get numbers 0 ≡ None → numbers ≡ []
none_there [] is = refl
none_there (n ∷ more) is = cc

-- the first rows, so many, are the rows of the table with these numbers
pub record ArePicksUpTo (key : List ℕ) (base rows : Rows) (picks : List ℕ) (count : ℕ) : Type 0 where
  pub size : length picks ≡ count
  pub each : (place : ℕ) → place < count → IsPick key base place (slice_index_or rows place []) (slice_index picks place)

module _ (key : List ℕ) (base rows : Rows) where
  pub picks_none : ArePicksUpTo key base rows [] 0
  picks_none = record { size = refl; each = λ place less. absurd (omega arith) }

  -- one more row
  pub picks_more : (picks more : List ℕ) (count pick : ℕ) → ArePicksUpTo key base rows picks count → IsPick key base count (slice_index_or rows count []) pick
      → more ≡ picks ++ pick ∷ [] → ArePicksUpTo key base rows more (count + 1)
  picks_more picks more count pick before is whole = rw whole (record {
    size = let size = length-append picks (pick ∷ []) in let known = before.size in omega arith;
    each = λ place less. elim (cases_lt place count) as (λ _. IsPick key base place (slice_index_or rows place []) (slice_index (picks ++ pick ∷ []) place)) [
      | inl within ↦
          let known = before.size in
          subst (λ (n : ℕ). IsPick key base place (slice_index_or rows place []) n) (sym (get_or_append_left picks (pick ∷ []) 0 place (omega arith))) (before.each place within)
      | inr past ↦
          let here : count ≡ place = omega arith in
          let last : slice_index (picks ++ pick ∷ []) place ≡ pick = get_or_push picks pick 0 place (before.size ∙ here) in
          subst (λ (n : ℕ). IsPick key base place (slice_index_or rows place []) n) (sym last) (subst (λ (n : ℕ). IsPick key base n (slice_index_or rows n []) pick) here is)
    ];
  })

  pub picks_all : (picks : List ℕ) (count : ℕ) → ArePicksUpTo key base rows picks count → length rows ≡ count → ArePicks key base rows picks
  picks_all picks count are all = record { count = are.size ∙ sym all; each = λ place less. are.each place (omega arith) }

  -- without a key
  pub place_pick : (place : ℕ) (row : List Value) → length key ≡ 0 → place < length base → IsPick key base place row place
  place_pick place row none less = record { within = less; keyed = λ some. absurd (omega arith); placed = λ _. refl }

  pub too_many_rows : length key ≡ 0 → length base < length rows → (picks : List ℕ) → ArePicks key base rows picks → ⊥
  too_many_rows none more picks are =
      let last = are.each (length base) more in
      let within = last.within in let placed = last.placed none in omega arith

  -- rows are rows of the table in one way
  pick_one : (place one other : ℕ) (row : List Value) → HaveDistinctKeys key base → IsPick key base place row one → IsPick key base place row other → one ≡ other
  pick_one place one other row distinct first second = elim (cases_lt 0 (length key)) as (λ _. one ≡ other) [
    | inl some ↦ key_one key base one other distinct some first.within second.within (first.keyed some ∙ sym (second.keyed some))
    | inr less ↦ let none : length key ≡ 0 = omega arith in first.placed none ∙ sym (second.placed none)
  ]

  pub picks_one : (one other : List ℕ) → HaveDistinctKeys key base → ArePicks key base rows one → ArePicks key base rows other → one ≡ other
  picks_one one other distinct first second =
      same_number_lists one other (first.count ∙ sym second.count)
      (λ place less. let size = first.count in
      let row = slice_index_or rows place [] in
      pick_one place (slice_index one place) (slice_index other place) row distinct (first.each place (omega arith)) (second.each place (omega arith)))

-- with a key, rows of the table are found by it
module _ (table : QTable) (base rows : Rows) (base_are : AreRowsOf table base) (rows_are : AreRowsOf table rows) where
  -- a row of the section, and whether a row of the table has its values in the columns of the key
  abbrev sought : List Value → List Value → Bool
  sought row other = is_same (values_in table.key row) (values_in table.key other)

  -- the rows of both have one length
  one_length : (pick place : ℕ) → pick < length base → place < length rows → length (slice_index_or base pick []) ≡ length (slice_index_or rows place [])
  one_length pick place within less =
      AllZip-long IsOfColumn table.columns (slice_index_or base pick []) (base_are.each pick [] within)
      ∙ sym (AllZip-long IsOfColumn table.columns (slice_index_or rows place []) (rows_are.each place [] less))

  module _ (place : ℕ) (row : List Value) (numbers : List ℕ) (less : place < length rows) (is : row ≡ get_or rows place row)
      (those : numbers ≡ matching_rows table.key base (values_in table.key row)) where
    here : row ≡ slice_index_or rows place []
    here = get_or_read rows place row less is []

    found : map (λ number. get_or base number []) numbers ≡ filter (sought row) base
    found = ap (map (λ number. get_or base number [])) those ∙ matched table.key base (values_in table.key row) []

    -- the first number that is found is that of the row
    pub key_pick : (pick : ℕ) → 0 < length table.key → slice_get numbers 0 ≡ Some pick → IsPick table.key base place (slice_index_or rows place []) pick
    key_pick pick some is_first =
        let first : numbers ≡ pick ∷ drop 1 numbers = first_there numbers pick is_first in
        let within : pick < length base =
        subst (λ n. n < length base) (ap (λ list. get_or list 0 0) first)
        (match_within table.key base (values_in table.key row) numbers 0 0 those (subst (λ list. 0 < length list) (sym first) (omega arith))) in
        let passes = first_passes (sought row) base (map (λ number. get_or base number []) (drop 1 numbers)) (get_or base pick []) (sym found ∙ ap (map (λ number. get_or base number [])) first) in
        let values = is_same-equal (values_in table.key row) (values_in table.key (get_or base pick [])) passes in
        record {
          within = within;
          keyed = λ _. same_key table.key (slice_index_or base pick []) (slice_index_or rows place []) (one_length pick place within less)
              (sym values ∙ ap (values_in table.key) here);
          placed = λ none. absurd (omega (arith, some));
        }

    -- where none is found, the rows of the section are no rows of the table
    pub no_row_of_key : 0 < length table.key → slice_get numbers 0 ≡ None → (picks : List ℕ) → ArePicks table.key base rows picks → ⊥
    no_row_of_key some is_none picks are =
        let pick = are.each place less in
        let number = slice_index picks place in
        let values = same_values table.key (slice_index_or base number []) row (pick.keyed some ∙ ap (key_of table.key) (sym here)) in
        none_passes (sought row) base number [] (sym found ∙ ap (map (λ n. get_or base n [])) (none_there numbers is_none)) pick.within
        (subst (λ other. is_same (values_in table.key row) other ≡ true) (sym values) (is_same-refl (values_in table.key row)))
