-- the records of a text, one after another
use Rattle.std.proofs.Common.{◌≡◌, ◌∙◌, ℕ, Bool, true, false, List, [], ◌∷◌, Some, None, ap, refl, subst, sym}
use Rattle.std.proofs.Common.{◌==◌, ◌&&◌, cond}
use Rattle.std.proofs.lemmas.Bool.{and_parts, eqb-true, false≢true}
use Rattle.csv.specs.Machine.{Read, next_record}
use Rattle.csv.specs.Reading.{AreRecords, Reached, is_bom, strip_bom}
use Rattle.csv.specs.declared.parser.Config.{Config}
use Rattle.csv.specs.declared.parser.State.{State}
use Rattle.tables_csv.specs.WholeTables.{is_marked}

-- where a text has a first record, its records are that one and then those after it
pub records_more : (cfg : Config) (s : State) (xs : List ℕ) (first : Read) (records : List (List (List ℕ))) → next_record cfg s [] [] xs ≡ Some first
    → AreRecords cfg s xs records → (rest : List (List (List ℕ))) × (records ≡ first.0 ∷ rest) × AreRecords cfg first.1 first.2 rest
unfolding Reached
records_more cfg s xs first [] is all =
    let end : next_record cfg s [] [] xs ≡ None =
    ap (λ (t : State). next_record cfg t [] [] xs) all.2.0 ∙ ap (λ (l : List ℕ). next_record cfg all.0 [] [] l) all.2.1 ∙ all.3 in
    cc
records_more cfg s xs first (fields ∷ rest) is all =
    let p = all.2.0 in let next = all.2.1 in
    let same : p ≡ first = cc in (
      rest,
      ap (λ (f : List (List ℕ)). f ∷ rest) (all.2.2 ∙ ap (λ (r : Read). r.0) same),
      subst (λ (r : Read). AreRecords cfg r.1 r.2 rest) same (all.0, all.1, all.2.3, all.3),
    )

pub records_cons : (cfg : Config) (s : State) (xs : List ℕ) (first : Read) (rest : List (List (List ℕ))) → next_record cfg s [] [] xs ≡ Some first
    → AreRecords cfg first.1 first.2 rest → AreRecords cfg s xs (first.0 ∷ rest)
unfolding Reached
records_cons cfg s xs first rest is all = (all.0, all.1, (first, is, refl, all.2), all.3)

-- where a text has no first record, it has none
pub records_none : (cfg : Config) (s : State) (xs : List ℕ) (records : List (List (List ℕ))) → next_record cfg s [] [] xs ≡ None
    → AreRecords cfg s xs records → records ≡ []
unfolding Reached
records_none cfg s xs [] none all = refl
records_none cfg s xs (fields ∷ rest) none all = let next = all.2.1 in cc

pub records_end : (cfg : Config) (s : State) (xs : List ℕ) → next_record cfg s [] [] xs ≡ None → AreRecords cfg s xs []
unfolding Reached
records_end cfg s xs none = (s, xs, (refl, refl), none)

pub records_ended : (cfg : Config) (s : State) (xs : List ℕ) → AreRecords cfg s xs [] → next_record cfg s [] [] xs ≡ None
unfolding Reached
records_ended cfg s xs all =
    ap (λ (t : State). next_record cfg t [] [] xs) all.2.0 ∙ ap (λ (l : List ℕ). next_record cfg all.0 [] [] l) all.2.1 ∙ all.3

-- a text has one list of records
pub records_one : (cfg : Config) (s : State) (xs : List ℕ) (records others : List (List (List ℕ))) → AreRecords cfg s xs records → AreRecords cfg s xs others
    → records ≡ others
unfolding Reached
records_one cfg s xs [] others all also = sym (records_none cfg s xs others (records_ended cfg s xs all) also)
records_one cfg s xs (fields ∷ rest) others all also =
    let first = all.2.0 in
    let more = records_more cfg s xs first others all.2.1 also in
    let head = all.2.2 in
    let tail = records_one cfg first.1 first.2 rest more.0 (all.0, all.1, all.2.3, all.3) more.2 in
    let whole = more.1 in
    cc

-- `csv` takes nothing off a text that begins with no byte order mark
pub unmarked_stays : (bytes : List ℕ) → is_marked bytes ≡ false → strip_bom bytes ≡ bytes
unfolding strip_bom
unmarked_stays [] unmarked = refl
unmarked_stays (a ∷ []) unmarked = refl
unmarked_stays (a ∷ b ∷ []) unmarked = refl
unmarked_stays (a ∷ b ∷ c ∷ rest) unmarked = by_test (is_bom a b c) refl
  where
    marked : is_bom a b c ≡ true → ⊥
    marked is =
        let front = and_parts ((a == 0xEF) && (b == 0xBB)) (c == 0xBF) is in
        let two = and_parts (a == 0xEF) (b == 0xBB) front.0 in
        let first = eqb-true a 0xEF two.0 in
        let second = eqb-true b 0xBB two.1 in
        let third = eqb-true c 0xBF front.1 in
        false≢true (sym (rw (first, second, third) at unmarked))

    by_test : (t : Bool) → is_bom a b c ≡ t → cond t rest (a ∷ b ∷ c ∷ rest) ≡ a ∷ b ∷ c ∷ rest
    by_test true is = absurd (marked is)
    by_test false is = refl
