-- lists of parts: their texts, trees, words and depths
use Rattle.std.proofs.Common.{◌≡◌, ℕ, ◌+◌, ◌<◌, ◌≤◌, max, List, [], ◌∷◌, ◌++◌, map, length, drop, flat_map, fold, refl, ◌∙◌, ap, arith}
use Rattle.std.specs.List.{AllByRecursion}
use Rattle.tiql_tree.specs.Words.{Word, Several, parts_of, with_between}
use Rattle.tiql_tree.specs.Trees.{Places, laid}
use Rattle.tiql_tree.specs.Printed.{written, several}
use Rattle.tiql_tree.specs.Bytes.{listed}
use Rattle.tiql_tree.proofs.GoodWords.{all_append, all_front, all_back}
use Rattle.tiql_tree.proofs.Making.{written-append}
use Rattle.tiql_tree.proofs.Written.{Good}

abbrev pub map_several : {A B : Type 0} → (A → B) → Several A → Several B
map_several f parts = record { first = f parts.first; more = map f parts.more }

module _ {A B : Type 0} (between : ℕ) (size : A → ℕ) (tree : Places → A → B) where
  -- the texts of the trees of texts
  pub texts_laid : {C : Type 0} (text : B → C) (neat : A → C) → ((ps : Places) (x : A) → text (tree ps x) ≡ neat x) → (ps : Places) (xs : List A) → map text (laid between size tree ps xs) ≡ map neat xs
  texts_laid {C} text neat same ps [] = refl
  texts_laid {C} text neat same ps (x ∷ xs) =
      ap (λ (c : C). c ∷ map text (laid between size tree (drop (size x + between) ps) xs)) (same ps x) ∙ ap (λ (l : List C). neat x ∷ l) (texts_laid text neat same (drop (size x + between) ps) xs)

  pub several_laid : {C : Type 0} (none : C) (text : B → C) (neat : A → C) → ((ps : Places) (x : A) → text (tree ps x) ≡ neat x) → (ps : Places) (parts : Several A) → several none text (laid between size tree ps (parts_of parts)) ≡ map_several neat parts
  several_laid {C} none text neat same ps parts =
      ap (λ (c : C). several_of c (map text (laid between size tree (drop (size parts.first + between) ps) parts.more))) (same ps parts.first)
      ∙ ap (several_of (neat parts.first)) (texts_laid text neat same _ parts.more)
    where
      several_of : C → List C → Several C
      several_of first more = record { first = first; more = more }

  -- the trees of other texts
  pub trees_laid : {D : Type 0} (only : B → D) (neat : A → A) (P : A → Type 0) → ((ps qs : Places) (x : A) → P x → only (tree ps (neat x)) ≡ only (tree qs x)) → (ps qs : Places) (xs : List A) → AllByRecursion P xs → map only (laid between size tree ps (map neat xs)) ≡ map only (laid between size tree qs xs)
  trees_laid {D} only neat P same ps qs [] all = refl
  trees_laid {D} only neat P same ps qs (x ∷ xs) all =
      ap (λ (d : D). d ∷ map only (laid between size tree (drop (size (neat x) + between) ps) (map neat xs))) (same ps qs x all.0)
      ∙ ap (λ (l : List D). only (tree qs x) ∷ l) (trees_laid only neat P same (drop (size (neat x) + between) ps) (drop (size x + between) qs) xs all.1)

-- no deeper
pub deepest_le : {A : Type 0} (one other : A → ℕ) (neat : A → A) → ((x : A) → one (neat x) ≤ other x) → (xs : List A) (m n : ℕ) → m ≤ n → fold max m (map one (map neat xs)) ≤ fold max n (map other xs)
deepest_le one other neat le [] m n h = h
deepest_le one other neat le (x ∷ xs) m n h = deepest_le one other neat le xs (max m (one (neat x))) (max n (other x)) (omega (arith, le x))

module _ {A : Type 0} (between : List Word) (words : A → List Word) where
  abbrev pub IsGoodPart : A → Type 0
  IsGoodPart x = AllByRecursion Good (words x)

  -- of good words each part has good words
  more_good : (xs : List A) → AllByRecursion Good (flat_map (λ x. between ++ words x) xs) → AllByRecursion IsGoodPart xs
  more_good [] good = tt
  more_good (x ∷ xs) good = (all_back between (words x) (all_front (between ++ words x) _ good), more_good xs (all_back (between ++ words x) _ good))

  pub parts_good : (parts : Several A) → AllByRecursion Good (with_between between words parts) → AllByRecursion IsGoodPart (parts_of parts)
  parts_good parts good = (all_front (words parts.first) _ good, more_good parts.more (all_back (words parts.first) _ good))

  -- good words of the parts make good words
  neat_more_good : (neat : A → A) → ((x : A) → AllByRecursion Good (words x) → AllByRecursion Good (words (neat x))) → (xs : List A) → AllByRecursion Good (flat_map (λ x. between ++ words x) xs) → AllByRecursion Good (flat_map (λ x. between ++ words x) (map neat xs))
  neat_more_good neat keeps [] good = tt
  neat_more_good neat keeps (x ∷ xs) good =
      let front = all_front (between ++ words x) _ good in
      all_append (between ++ words (neat x)) _ (all_append between (words (neat x)) (all_front between (words x) front) (keeps x (all_back between (words x) front))) (neat_more_good neat keeps xs (all_back (between ++ words x) _ good))

  pub neat_parts_good : (neat : A → A) → ((x : A) → AllByRecursion Good (words x) → AllByRecursion Good (words (neat x))) → (parts : Several A) → AllByRecursion Good (with_between between words parts) → AllByRecursion Good (with_between between words (map_several neat parts))
  neat_parts_good neat keeps parts good =
      all_append (words (neat parts.first)) _ (keeps parts.first (all_front (words parts.first) _ good)) (neat_more_good neat keeps parts.more (all_back (words parts.first) _ good))

module _ {X A : Type 0} (between : List Word) (words : A → List Word) (text : X → A) (bytes : X → List ℕ) (same : (x : X) → written (words (text x)) ≡ bytes x) where
  more_bytes : (xs : List X) → written (flat_map (λ a. between ++ words a) (map text xs)) ≡ flat_map (λ x. written between ++ bytes x) xs
  unfolding written
  more_bytes [] = refl
  more_bytes (x ∷ xs) =
      written-append (between ++ words (text x)) _
      ∙ ap (λ (l : List ℕ). l ++ written (flat_map (λ a. between ++ words a) (map text xs))) (written-append between (words (text x)) ∙ ap (λ (l : List ℕ). written between ++ l) (same x))
      ∙ ap (λ (l : List ℕ). (written between ++ bytes x) ++ l) (more_bytes xs)

  -- the bytes of parts, of which there are some
  pub listed_bytes : (none : A) (xs : List X) → 0 < length xs → written (with_between between words (several none text xs)) ≡ listed (written between) bytes xs
  listed_bytes none [] some = absurd (omega arith)
  listed_bytes none (x ∷ xs) some =
      written-append (words (text x)) _ ∙ ap (λ (l : List ℕ). l ++ written (flat_map (λ a. between ++ words a) (map text xs))) (same x) ∙ ap (λ (l : List ℕ). bytes x ++ l) (more_bytes xs)
