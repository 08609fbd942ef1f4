-- sections of worlds: one more, and the first that is wrong
use Rattle.std.proofs.Common.{◌≡◌, ◌∙◌, ◌+◌, ◌<◌, ◌≤◌, ◌++◌, ℕ, zero, suc, List, [], ◌∷◌, Option, Some, None, ap, sym, refl, subst, arith, length, take}
use Rattle.std.proofs.lemmas.List.{take_all, take_more}
use Rattle.std.proofs.lemmas.Option.{get_or_from_slice_get, same_Some, slice_get_past, slice_get_within}
use Rattle.std.specs.Prelude.{slice_get}
use Rattle.tiql_query.specs.declared.query.Query.{Query}
use Rattle.tiql_query.specs.declared.relation.QHypo.{QHypo}
use Rattle.tiql_query.specs.declared.relation.QTable.{QTable}
use Rattle.tables_csv.proofs.Outcomes.{table_one}
use Rattle.tiql_query.proofs.Rows.{table_has_rows}
use Rattle.tiql_query.specs.Rows.{AreRowsOf, AreTables}
use Rattle.tables_csv.specs.WholeTables.{IsTableOf}
use Rattle.world_def.specs.Columns.{Rows, Tables, rows_of}
use Rattle.world_def.specs.declared.world.World.{World}
use Rattle.world_def.specs.declared.world.WorldTable.{WorldTable}
use Rattle.answer_text.specs.declared.answer.WorldText.{WorldText}
use Rattle.answer_text.specs.declared.world.WorldFault.{WorldFault}
use Rattle.answer_text.specs.declared.world.WorldFault.TheVariants as fault
use Rattle.answer_text.specs.Worlds.{ArePicks, AreSections, Finds, IsFirstWrong, IsSection, IsSectionOf, IsWorldFault, IsWorldOf, IsWrong}
use Rattle.answer_text.proofs.Picks.{picks_one}

-- ---- one section

base_is_there : (tables : Tables) (n : ℕ) (base : Rows) → slice_get tables n ≡ Some base → rows_of tables n ≡ base
unfolding rows_of
base_is_there tables n base there = rw there

table_same : (one other : WorldTable) → one.rows ≡ other.rows → one.picks ≡ other.picks → one ≡ other
table_same one other rows picks = λ i. record { picks = picks i; rows = rows i }

module _ (query : Query) (tables : Tables) (are : AreTables query tables) (hypo : QHypo) (section : WorldText) where
  -- a hypothetical table over no table has no section
  pub no_table : slice_get query.tables hypo.table ≡ None → (found : WorldTable) → IsSectionOf query tables hypo section found → ⊥
  no_table none found is = let there = is.there in cc

  pub no_rows : slice_get tables hypo.table ≡ None → (found : WorldTable) → IsSectionOf query tables hypo section found → ⊥
  no_rows none found is = let has = table_has_rows query tables hypo.table is.table are is.there in let there = has.1 in cc

  module _ (table : QTable) (base : Rows) (there : slice_get query.tables hypo.table ≡ Some table) (rows : slice_get tables hypo.table ≡ Some base) where
    pub base_rows : AreRowsOf table base
    base_rows =
        let has = table_has_rows query tables hypo.table table are there in
        let same : has.0 ≡ base = same_Some has.0 base (sym has.1 ∙ rows) in
        subst (AreRowsOf table) same has.2

    base_is : rows_of tables hypo.table ≡ base
    base_is = base_is_there tables hypo.table base rows

    section_right : (found : WorldTable) → IsSection hypo.name table base section found → IsSectionOf query tables hypo section found
    section_right found is = record { table = table; there = there; right = subst (λ (r : Rows). IsSection hypo.name table r section found) (sym base_is) is }

    section_only : (found : WorldTable) → IsSectionOf query tables hypo section found → IsSection hypo.name table base section found
    section_only found is =
        let same : is.table ≡ table = same_Some is.table table (sym is.there ∙ there) in
        subst (λ (r : Rows). IsSection hypo.name table r section found) base_is (subst (λ (t : QTable). IsSection hypo.name t (rows_of tables hypo.table) section found) same is.right)

    pub section_found : (found : Option WorldTable) → Finds (IsSection hypo.name table base section) found → Finds (IsSectionOf query tables hypo section) found
    section_found None none = λ it is. none it (section_only it is)
    section_found (Some found) is = section_right found is

-- what is left to tell of a section whose bytes are a table
module _ (name : List ℕ) (table : QTable) (base : Rows) (section : WorldText) (rows : Rows) (is : IsTableOf section.bytes table rows) where
  same_rows : (found : WorldTable) → IsSection name table base section found → found.rows ≡ rows
  same_rows found right = table_one section.bytes table found.rows rows right.rows is

  pub other_count : (length rows ≡ section.rows → ⊥) → (found : WorldTable) → IsSection name table base section found → ⊥
  other_count other found right = other (ap length (sym (same_rows found right)) ∙ sym right.count)

  pub no_picks : ((picks : List ℕ) → ArePicks table.key base rows picks → ⊥) → (found : WorldTable) → IsSection name table base section found → ⊥
  no_picks none found right = none found.picks (subst (λ (r : Rows). ArePicks table.key base r found.picks) (same_rows found right) right.picks)

-- ---- sections

module _ (query : Query) (tables : Tables) where
  sections_push : (hypos : List QHypo) (sections : List WorldText) (founds : List WorldTable) (hypo : QHypo) (section : WorldText) (found : WorldTable)
      → AreSections query tables hypos sections founds → IsSectionOf query tables hypo section found
      → AreSections query tables (hypos ++ hypo ∷ []) (sections ++ section ∷ []) (founds ++ found ∷ [])
  sections_push [] [] [] hypo section found are is = (is, tt)
  sections_push [] [] (f ∷ founds) hypo section found are is = absurd are
  sections_push [] (s ∷ sections) founds hypo section found are is = absurd are
  sections_push (h ∷ hypos) [] founds hypo section found are is = absurd are
  sections_push (h ∷ hypos) (s ∷ sections) [] hypo section found are is = absurd are
  sections_push (h ∷ hypos) (s ∷ sections) (f ∷ founds) hypo section found are is = (are.0, sections_push hypos sections founds hypo section found are.1 is)

  pub sections-sizes : (hypos : List QHypo) (sections : List WorldText) (founds : List WorldTable) → AreSections query tables hypos sections founds → length sections ≡ length hypos
  sections-sizes [] [] [] are = refl
  sections-sizes [] [] (f ∷ founds) are = absurd are
  sections-sizes [] (s ∷ sections) founds are = absurd are
  sections-sizes (h ∷ hypos) [] founds are = absurd are
  sections-sizes (h ∷ hypos) (s ∷ sections) [] are = absurd are
  sections-sizes (h ∷ hypos) (s ∷ sections) (f ∷ founds) are = ap suc (sections-sizes hypos sections founds are.1)

  one_more : {A : Type 0} (xs : List A) (i : ℕ) (x : A) → slice_get xs i ≡ Some x → take (i + 1) xs ≡ take i xs ++ x ∷ []
  one_more xs i x is = take_more xs i x (slice_get_within xs i x is) ∙ ap (λ y. take i xs ++ y ∷ []) (get_or_from_slice_get xs i x x is)

  -- one section more
  pub sections_more : (hypos : List QHypo) (sections : List WorldText) (founds more : List WorldTable) (i : ℕ) (hypo : QHypo) (section : WorldText) (found : WorldTable)
      → AreSections query tables (take i hypos) (take i sections) founds → slice_get hypos i ≡ Some hypo → slice_get sections i ≡ Some section
      → IsSectionOf query tables hypo section found → more ≡ founds ++ found ∷ [] → AreSections query tables (take (i + 1) hypos) (take (i + 1) sections) more
  sections_more hypos sections founds more i hypo section found are hypo_is section_is is whole =
      rw (whole, one_more hypos i hypo hypo_is, one_more sections i section section_is) (sections_push (take i hypos) (take i sections) founds hypo section found are is)

-- ---- the first section that is wrong

module _ (query : Query) (tables : Tables) (sections : List WorldText) (number : ℕ) (before : List WorldTable)
    (right : AreSections query tables (take number query.hypos) (take number sections) before) (hypo : QHypo) (hypo_is : slice_get query.hypos number ≡ Some hypo) where
  pub missing : slice_get sections number ≡ None → IsFirstWrong query tables sections number
  missing none = record { before = before; right = right; wrong = rw (hypo_is, none) tt }

within_some : {A : Type 0} (xs : List A) (n : ℕ) → n < length xs → slice_get xs n ≡ None → ⊥
within_some [] n less none = absurd (omega arith)
within_some (x ∷ xs) zero less none = cc
within_some (x ∷ xs) (suc n) less none = within_some xs n (omega arith) none

surplus_wrong : (query : Query) (tables : Tables) (sections : List WorldText) (n : ℕ) (section : Option WorldText) → slice_get query.hypos n ≡ None → n < length sections
    → slice_get sections n ≡ section → IsWrong query tables (slice_get query.hypos n) section
surplus_wrong query tables sections n None none more is = absurd (within_some sections n more is)
surplus_wrong query tables sections n (Some section) none more is = rw none tt

-- all are right, and one section more follows
pub surplus : (query : Query) (tables : Tables) (sections : List WorldText) (found : List WorldTable)
    → AreSections query tables query.hypos (take (length query.hypos) sections) found → length query.hypos < length sections
    → IsFirstWrong query tables sections (length query.hypos)
surplus query tables sections found are more = record {
  before = found;
  right = subst (λ (h : List QHypo). AreSections query tables h (take (length query.hypos) sections) found) (sym (take_all (length query.hypos) query.hypos (omega arith))) are;
  wrong = surplus_wrong query tables sections (length query.hypos) (slice_get sections (length query.hypos)) (slice_get_past query.hypos (length query.hypos) (omega arith)) more refl;
}

-- all are right, and none follows
pub sections_all : (query : Query) (tables : Tables) (sections : List WorldText) (found : List WorldTable)
    → AreSections query tables query.hypos (take (length query.hypos) sections) found → length sections ≤ length query.hypos
    → AreSections query tables query.hypos sections found
sections_all query tables sections found are few =
    rw (take_all (length query.hypos) sections few) at are

-- ---- sections are one world or have one first that is wrong, and never both

module _ (query : Query) (tables : Tables) where
  wrong_nowhere : (hypos : List QHypo) (sections : List WorldText) (found : List WorldTable) (n : ℕ) → AreSections query tables hypos sections found
      → IsWrong query tables (slice_get hypos n) (slice_get sections n) → ⊥
  wrong_nowhere [] [] [] n are wrong = wrong
  wrong_nowhere [] [] (f ∷ found) n are wrong = absurd are
  wrong_nowhere [] (s ∷ sections) found n are wrong = absurd are
  wrong_nowhere (h ∷ hypos) [] found n are wrong = absurd are
  wrong_nowhere (h ∷ hypos) (s ∷ sections) [] n are wrong = absurd are
  wrong_nowhere (h ∷ hypos) (s ∷ sections) (f ∷ found) zero are wrong = wrong f are.0
  wrong_nowhere (h ∷ hypos) (s ∷ sections) (f ∷ found) (suc n) are wrong = wrong_nowhere hypos sections found n are.1 wrong

  pub world_no_fault : (sections : List WorldText) (world : World) (told : WorldFault) → IsWorldOf query tables sections world → IsWorldFault query tables sections told → ⊥
  world_no_fault sections world (fault.NoTable number) is wrong = wrong_nowhere query.hypos sections world.tables number is wrong.wrong
  world_no_fault sections world fault.Memory is wrong = wrong

  section_one : (are : AreTables query tables) (hypo : QHypo) (section : WorldText) (one other : WorldTable) → IsSectionOf query tables hypo section one
      → IsSectionOf query tables hypo section other → one ≡ other
  section_one are hypo section one other first second =
      let same : second.table ≡ first.table = same_Some second.table first.table (sym second.there ∙ first.there) in
      let right = subst (λ (t : QTable). IsSection hypo.name t (rows_of tables hypo.table) section other) same second.right in
      let has = table_has_rows query tables hypo.table first.table are first.there in
      let rows : one.rows ≡ other.rows = table_one section.bytes first.table one.rows other.rows first.right.rows right.rows in
      let picks = rw (base_is_there tables hypo.table has.0 has.1) at first.right.picks in
      let others = rw (base_is_there tables hypo.table has.0 has.1, ← rows) at right.picks in
      table_same one other rows (picks_one first.table.key has.0 one.rows one.picks other.picks has.2.keys picks others)

  sections_one : (are : AreTables query tables) (hypos : List QHypo) (sections : List WorldText) (one other : List WorldTable) → AreSections query tables hypos sections one
      → AreSections query tables hypos sections other → one ≡ other
  sections_one are [] [] [] [] first second = refl
  sections_one are [] [] [] (o ∷ other) first second = absurd second
  sections_one are [] [] (f ∷ one) other first second = absurd first
  sections_one are [] (s ∷ sections) one other first second = absurd first
  sections_one are (h ∷ hypos) [] one other first second = absurd first
  sections_one are (h ∷ hypos) (s ∷ sections) [] other first second = absurd first
  sections_one are (h ∷ hypos) (s ∷ sections) (f ∷ one) [] first second = absurd second
  sections_one are (h ∷ hypos) (s ∷ sections) (f ∷ one) (o ∷ other) first second =
      let head : f ≡ o = section_one are h s f o first.0 second.0 in
      let tail : one ≡ other = sections_one are hypos sections one other first.1 second.1 in
      ap (λ (x : WorldTable). x ∷ one) head ∙ ap (λ (xs : List WorldTable). o ∷ xs) tail

  -- sections are those of one world
  pub world_one : (are : AreTables query tables) (sections : List WorldText) (one other : World) → IsWorldOf query tables sections one → IsWorldOf query tables sections other
      → one ≡ other
  world_one are sections one other first second =
      ap (λ (found : List WorldTable). record { tables = found }) (sections_one are query.hypos sections one.tables other.tables first second)
