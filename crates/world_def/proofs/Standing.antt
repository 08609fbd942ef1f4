-- the rows of a possible world stand over rows of the table: each fits the row with its number, and the numbers rise
use Rattle.std.proofs.Common.{◌≡◌, ◌≤◌, ◌<◌, ◌+◌, ℕ, zero, suc, Bool, true, false, ◌&&◌, List, [], ◌∷◌, ◌++◌, length, drop, map, get_or, refl, sym, ◌∙◌, ap, subst, arith, Option, Some, None, if◌then◌else◌}
use Rattle.std.specs.Prelude.{is_none}
use Rattle.std.specs.List.{list_any}
use Rattle.std.proofs.lemmas.Bool.{and_parts}
use Rattle.base_kit.specs.declared.value.Value.{Value}
use Rattle.tiql_query.specs.declared.relation.QHypo.{QHypo}
use Rattle.world_def.specs.Columns.{Rows}
use Rattle.world_def.specs.Worlds.{standing, count_of, row_fits, row_possible, are_none}
use Rattle.world_def.specs.Meaning.{may_change, cell_choice, presence_choice, choices, rows_choices, rows_can}
use Rattle.world_def.proofs.Restored.{cells_stay, standing_is}
use Rattle.world_def.proofs.Bounded.{AreBounded, bounded_first, bounded_second}

-- a row that may not be left out is there
no_presence : (hypo : ℕ) (table : QHypo) (at : ℕ) (base : List Value) → table.droppable ≡ false → list_any (λ c. is_none c.cell) (choices hypo table at base) ≡ false
unfolding choices
no_presence hypo table at base = by_test (may_change table.filter base) table.droppable
  where
    by_test : (b d : Bool) → d ≡ false → list_any (λ c. is_none c.cell) (if b then presence_choice hypo d at ++ map (cell_choice hypo table.droppable at base) table.set else []) ≡ false
    by_test true true e = cc
    by_test true false e = cells_stay hypo table.droppable at base table.set
    by_test false d e = refl

module _ (hypo : ℕ) (table : QHypo) (whole : Rows) where
  -- the row fits the row of the table with this number, whose bounds are small
  pub record IsStanding (row : List Value) (pick : ℕ) : Type 0 where
    pub within : pick < length whole
    pub fits : row_fits (choices hypo table pick (get_or whole pick [])) 0 (get_or whole pick []) row ≡ true
    pub bounded : AreBounded (choices hypo table pick (get_or whole pick []))

  -- the rows stand over rows of the table, from the one with this number on
  pub record AreStanding (at : ℕ) (picks : List ℕ) (rows : Rows) : Type 0 where
    pub count : length picks ≡ length rows
    pub few : at + length rows ≤ length whole
    pub each : (place : ℕ) → place < length rows → IsStanding (get_or rows place []) (get_or picks place 0)
    pub above : (place : ℕ) → place < length rows → at ≤ get_or picks place 0
    pub rising : (earlier place : ℕ) → earlier < place → place < length rows → get_or picks earlier 0 < get_or picks place 0
    pub placed : table.droppable ≡ false → (place : ℕ) → place < length rows → get_or picks place 0 ≡ at + place

  none_standing : (at : ℕ) → at ≤ length whole → AreStanding at [] []
  none_standing at le = record {
    count = refl;
    few = omega arith;
    each = λ place less. absurd (omega (arith, less));
    above = λ place less. absurd (omega (arith, less));
    rising = λ earlier place before less. absurd (omega (arith, less));
    placed = λ stays place less. absurd (omega (arith, less));
  }

  no_more : (at : ℕ) (picks : List ℕ) (rows : Rows) → at ≤ length whole → (are_none picks && are_none rows) ≡ true → AreStanding at picks rows
  no_more at [] [] le e = none_standing at le
  no_more at [] (row ∷ rows) le e = absurd (let k : false ≡ true = e in cc)
  no_more at (pick ∷ picks) rows le e = absurd (let k : false ≡ true = e in cc)

  -- the row of the table is left out
  skipped : (at : ℕ) (picks : List ℕ) (rows : Rows) → (table.droppable ≡ false → ⊥) → AreStanding (at + 1) picks rows → AreStanding at picks rows
  skipped at picks rows may are = record {
    count = are.count;
    few = let k = are.few in omega (arith, k);
    each = are.each;
    above = λ place less. let k = are.above place less in omega (arith, k);
    rising = are.rising;
    placed = λ stays. absurd (may stays);
  }

  -- and it is there
  taken : (at : ℕ) (picks : List ℕ) (row : List Value) (rows : Rows) → IsStanding row at → AreStanding (at + 1) picks rows → AreStanding at (at ∷ picks) (row ∷ rows)
  taken at picks row rows is are = record {
    count = ap suc are.count;
    few = let k = are.few in omega (arith, k);
    each = each;
    above = above;
    rising = rising;
    placed = placed;
  }
    where
      each : (place : ℕ) → place < length (row ∷ rows) → IsStanding (get_or (row ∷ rows) place []) (get_or (at ∷ picks) place 0)
      each zero less = is
      each (suc place) less = are.each place (omega (arith, less))

      above : (place : ℕ) → place < length (row ∷ rows) → at ≤ get_or (at ∷ picks) place 0
      above zero less = omega arith
      above (suc place) less = let k = are.above place (omega (arith, less)) in omega (arith, k)

      rising : (earlier place : ℕ) → earlier < place → place < length (row ∷ rows) → get_or (at ∷ picks) earlier 0 < get_or (at ∷ picks) place 0
      rising earlier zero before less = absurd (omega (arith, before))
      rising zero (suc place) before less = let k = are.above place (omega (arith, less)) in omega (arith, k)
      rising (suc earlier) (suc place) before less = are.rising earlier place (omega (arith, before)) (omega (arith, less))

      placed : table.droppable ≡ false → (place : ℕ) → place < length (row ∷ rows) → get_or (at ∷ picks) place 0 ≡ at + place
      placed stays zero less = omega arith
      placed stays (suc place) less = let k = are.placed stays place (omega (arith, less)) in omega (arith, k)

  -- the row of the table with this number, and what may be there of it
  one_standing : (at : ℕ) (base : List Value) (picks : List ℕ) (rows : Rows) → at < length whole → get_or whole at [] ≡ base → AreBounded (choices hypo table at base)
      → (here : Option (List Value)) → standing at picks rows ≡ here → row_possible (choices hypo table at base) base here ≡ true
      → AreStanding (at + 1) (drop (count_of here) picks) (drop (count_of here) rows) → AreStanding at picks rows
  unfolding row_possible count_of
  one_standing at base picks rows less is bounded None e possible are =
      skipped at picks rows (λ stays. let k : false ≡ true = sym (no_presence hypo table at base stays) ∙ possible in cc) are
  one_standing at base picks rows less is bounded (Some row) e possible are =
      let first = standing_is at picks rows row e in
      let stands : IsStanding row at = record {
        within = less;
        fits = subst (λ (b : List Value). row_fits (choices hypo table at b) 0 b row ≡ true) (sym is) possible;
        bounded = subst (λ (b : List Value). AreBounded (choices hypo table at b)) (sym is) bounded;
      } in
      subst (λ (p : List ℕ). AreStanding at p rows) (sym first.0)
      (subst (λ (r : Rows). AreStanding at (at ∷ drop 1 picks) r) (sym first.1) (taken at (drop 1 picks) row (drop 1 rows) stands are))

  -- the rows of the table from this number on
  pub rows_standing : (bases : Rows) (at : ℕ) (picks : List ℕ) (rows : Rows) → at + length bases ≡ length whole → ((k : ℕ) → k < length bases → get_or whole (at + k) [] ≡ get_or bases k [])
      → AreBounded (rows_choices hypo table at bases) → rows_can hypo table at bases picks rows ≡ true → AreStanding at picks rows
  unfolding rows_can rows_choices
  rows_standing [] at picks rows long same bounded can = no_more at picks rows (omega (arith, long)) can
  rows_standing (base ∷ bases) at picks rows long same bounded can =
      let here = standing at picks rows in
      let parts = and_parts (row_possible (choices hypo table at base) base here) (rows_can hypo table (at + 1) bases (drop (count_of here) picks) (drop (count_of here) rows)) can in
      let from : at + 0 ≡ at = omega arith in
      one_standing at base picks rows (omega (arith, long)) (ap (λ (n : ℕ). get_or whole n []) (sym from) ∙ same 0 (omega arith))
      (bounded_first (choices hypo table at base) (rows_choices hypo table (at + 1) bases) bounded) here refl parts.0
      (rows_standing bases (at + 1) (drop (count_of here) picks) (drop (count_of here) rows) (omega (arith, long))
      (λ k less. let next : (at + 1) + k ≡ at + suc k = omega arith in ap (λ (n : ℕ). get_or whole n []) next ∙ same (suc k) (omega (arith, less)))
      (bounded_second (choices hypo table at base) (rows_choices hypo table (at + 1) bases) bounded) parts.1)

-- the rows of a table of a possible world
pub table_standing : (hypo : ℕ) (table : QHypo) (bases : Rows) (picks : List ℕ) (rows : Rows) → AreBounded (rows_choices hypo table 0 bases) → rows_can hypo table 0 bases picks rows ≡ true
    → AreStanding hypo table bases 0 picks rows
table_standing hypo table bases picks rows bounded can =
    rows_standing hypo table bases bases 0 picks rows (let k : 0 + length bases ≡ length bases = omega arith in k) (λ k less. let same : 0 + k ≡ k = omega arith in ap (λ (n : ℕ). get_or bases n []) same) bounded can
