-- The columns of a part, one after another.
use Rattle.std.proofs.Common.{◌≡◌, ◌+◌, ◌^◌, ◌<◌, ◌≤◌, ℕ, zero, suc, Bool, true, false, not, cond, ◌&&◌, List, [], ◌∷◌, ◌++◌, length, refl, sym, ◌∙◌, ap, ap₂, arith, append_assoc, length-append, eqb, nat_lt, decimal, codes, slice_index, subst}
use Rattle.std.proofs.lemmas.List.Elements.{All-nil, All-cons}
use Rattle.std.specs.List.Sorted.{IsStrictlyIncreasing}
use Rattle.answer_text.specs.Text.{column_word}
use Rattle.std.proofs.lemmas.Bool.{false≢true, eqb-true, eq-eqb, ltb-false, le-ltb}
use Rattle.std.proofs.lemmas.List.{append-nil}
use Rattle.std.specs.Prelude.{Option, Some, None, All, flat_map}
use Rattle.std.specs.Option.{option_map}
use Rattle.answer_text.specs.Tokens.{cut, strip, number_of}
use Rattle.answer_text.specs.Lines.{◌>>=◌, column_of, columns_from, columns_of}
use Rattle.answer_text.proofs.Words.{lacks, lacks-both, cut_takes, cut_none, strip_takes}
use Rattle.answer_text.proofs.Numbers.{number_of-takes, number_of-again, decimal_lacks}

-- a word goes on up to the next space
columns_from-word : (least : ℕ) (word bytes rest : List ℕ) → lacks 32 bytes ≡ true → columns_from least word (bytes ++ rest) ≡ columns_from least (word ++ bytes) rest
unfolding columns_from
columns_from-word least word [] rest h = ap (λ (l : List ℕ). columns_from least l rest) (sym (append-nil word))
columns_from-word least word (byte ∷ bytes) rest h = by_test (eqb byte 32) (columns_from-word least (word ++ byte ∷ []) bytes rest) h
  where
    by_test : (b : Bool) → (lacks 32 bytes ≡ true → columns_from least (word ++ byte ∷ []) (bytes ++ rest) ≡ columns_from least (word ++ byte ∷ [] ++ bytes) rest) → (not b && lacks 32 bytes) ≡ true
        → cond b (column_of least word >>= (λ column. option_map (λ columns. column ∷ columns) (columns_from (column + 1) [] (bytes ++ rest)))) (columns_from least (word ++ byte ∷ []) (bytes ++ rest)) ≡ columns_from least (word ++ byte ∷ bytes) rest
    by_test true more h = absurd (false≢true h)
    by_test false more h = more h ∙ ap (λ (l : List ℕ). columns_from least l rest) (append_assoc word (byte ∷ []) bytes)

-- the column before a space, and those behind it
pub columns_from-cut : (least : ℕ) (bytes word after : List ℕ) → Some (word, after) ≡ cut 32 bytes → columns_from least [] bytes ≡ column_of least word >>= (λ column. option_map (λ columns. column ∷ columns) (columns_from (column + 1) [] after))
unfolding columns_from
columns_from-cut least bytes word after e =
    let split = cut_takes 32 bytes (word, after) (sym e) in
    ap (columns_from least []) split.0 ∙ columns_from-word least [] word (32 ∷ after) split.1

-- the last column
pub columns_from-last : (least : ℕ) (bytes : List ℕ) → None ≡ cut 32 bytes → columns_from least [] bytes ≡ option_map (λ column. column ∷ []) (column_of least bytes)
unfolding columns_from
columns_from-last least bytes e =
    ap (columns_from least []) (sym (append-nil bytes)) ∙ columns_from-word least [] bytes [] (cut_none 32 bytes (sym e))

-- a loop over the words, which keeps the columns so far
module _ (columns : List ℕ) (least : ℕ) (rest : List ℕ) (whole : Option (List ℕ)) (so : option_map (λ (more : List ℕ). columns ++ more) (columns_from least [] rest) ≡ whole) where
  pub columns_stop : (word after : List ℕ) → Some (word, after) ≡ cut 32 rest → None ≡ column_of least word → None ≡ whole
  columns_stop word after is none =
      sym (ap (option_map (λ (more : List ℕ). columns ++ more)) (columns_from-cut least rest word after is ∙ ap (λ (o : Option ℕ). o >>= (λ column. option_map (λ columns. column ∷ columns) (columns_from (column + 1) [] after))) (sym none))) ∙ so

  pub columns_next : (word after : List ℕ) (column next : ℕ) (more : List ℕ) → Some (word, after) ≡ cut 32 rest → Some column ≡ column_of least word → more ≡ columns ++ column ∷ [] → next ≡ column + 1
      → option_map (λ (l : List ℕ). more ++ l) (columns_from next [] after) ≡ whole
  columns_next word after column next more is some pushed less =
      rw (pushed, less) (pushed_on (columns_from (column + 1) [] after)
      ∙ sym (ap (option_map (λ (l : List ℕ). columns ++ l)) (columns_from-cut least rest word after is ∙ ap (λ (o : Option ℕ). o >>= (λ column. option_map (λ columns. column ∷ columns) (columns_from (column + 1) [] after))) (sym some))) ∙ so)
    where
      pushed_on : (o : Option (List ℕ)) → option_map (λ (l : List ℕ). columns ++ column ∷ [] ++ l) o ≡ option_map (λ (l : List ℕ). columns ++ l) (option_map (λ (l : List ℕ). column ∷ l) o)
      pushed_on None = refl
      pushed_on (Some l) = ap (λ (m : List ℕ). Some m) (append_assoc columns (column ∷ []) l)

  pub columns_last_stop : None ≡ cut 32 rest → None ≡ column_of least rest → None ≡ whole
  columns_last_stop is none =
      sym (ap (option_map (λ (more : List ℕ). columns ++ more)) (columns_from-last least rest is ∙ ap (option_map (λ (column : ℕ). column ∷ [])) (sym none))) ∙ so

  pub columns_end : (column : ℕ) (more : List ℕ) → None ≡ cut 32 rest → Some column ≡ column_of least rest → more ≡ columns ++ column ∷ [] → Some more ≡ whole
  columns_end column more is some pushed =
      rw pushed (sym (ap (option_map (λ (l : List ℕ). columns ++ l)) (columns_from-last least rest is ∙ ap (option_map (λ (c : ℕ). c ∷ [])) (sym some))) ∙ so)

-- what stands behind a space is shorter
pub cut_shorter : (mark : ℕ) (bytes word after : List ℕ) → Some (word, after) ≡ cut mark bytes → length after < length bytes
cut_shorter mark bytes word after e =
    let split = cut_takes mark bytes (word, after) (sym e) in
    omega (arith, ap length split.0, length-append word (mark ∷ after))

-- the columns of a part, by what stands behind their first space
pub columns_of-empty : (text columns : List ℕ) → true ≡ eqb (length text) 0 → columns ≡ [] → Some columns ≡ columns_of text
unfolding columns_of
columns_of-empty [] columns is none = ap (λ (l : List ℕ). Some l) none
columns_of-empty (byte ∷ bytes) columns is none = absurd (omega (arith, eqb-true (length (byte ∷ bytes)) 0 (sym is)))

pub columns_of-strip : (text rest : List ℕ) → Some rest ≡ strip (32 ∷ []) text → columns_of text ≡ columns_from 0 [] rest
unfolding columns_of
columns_of-strip text rest e = ap columns_of (strip_takes (32 ∷ []) text rest (sym e))

pub columns_of-none : (text : List ℕ) → false ≡ eqb (length text) 0 → None ≡ strip (32 ∷ []) text → None ≡ columns_of text
unfolding columns_of strip
columns_of-none [] some e = absurd (false≢true (some ∙ eq-eqb 0 0 refl))
columns_of-none (byte ∷ bytes) some e = by_test (eqb byte 32) e
  where
    by_test : (b : Bool) → None ≡ cond b (Some bytes) None → None ≡ cond b (columns_from 0 [] bytes) None
    by_test true e = cc
    by_test false e = refl

-- columns that rise from a least one on, and have 32 bits
abbrev pub RisesFrom : ℕ → List ℕ → Type 0
RisesFrom least [] = Unit {0}
RisesFrom least (column ∷ columns) = (least ≤ column) × (column < 2 ^ 32) × RisesFrom (column + 1) columns

column_of-takes : (least column : ℕ) (word : List ℕ) → column_of least word ≡ Some column → (least ≤ column) × (column < 2 ^ 32) × (word ≡ decimal column)
unfolding column_of
column_of-takes least column word e = by_number (number_of (2 ^ 32) word) (number_of-takes (2 ^ 32) word) e
  where
    by_test : (n : ℕ) (b : Bool) → nat_lt n least ≡ b → n < 2 ^ 32 → word ≡ decimal n → cond b None (Some n) ≡ Some column → (least ≤ column) × (column < 2 ^ 32) × (word ≡ decimal column)
    by_test n true is low spelled e = cc
    by_test n false is low spelled e = let same : n ≡ column = cc in (omega (arith, ltb-false n least is), omega arith, spelled ∙ ap decimal same)

    by_number : (o : Option ℕ) → ((n : ℕ) → o ≡ Some n → (n < 2 ^ 32) × (word ≡ decimal n)) → (o >>= λ n. cond (nat_lt n least) None (Some n)) ≡ Some column → (least ≤ column) × (column < 2 ^ 32) × (word ≡ decimal column)
    by_number None takes e = cc
    by_number (Some n) takes e = by_test n (nat_lt n least) refl (takes n refl).0 (takes n refl).1 e

column_of-gives : (least column : ℕ) → least ≤ column → column < 2 ^ 32 → column_of least (decimal column) ≡ Some column
unfolding column_of
column_of-gives least column from low = rw (number_of-again (2 ^ 32) column low (omega arith), le-ltb column least from)

columns_from-takes : (least : ℕ) (word bytes columns : List ℕ) → columns_from least word bytes ≡ Some columns → RisesFrom least columns × (32 ∷ (word ++ bytes) ≡ flat_map column_word columns)
unfolding columns_from
columns_from-takes least word [] columns e = by_column (column_of least word) refl e
  where
    by_column : (o : Option ℕ) → column_of least word ≡ o → option_map (λ c. c ∷ []) o ≡ Some columns → RisesFrom least columns × (32 ∷ (word ++ []) ≡ flat_map column_word columns)
    by_column None is e = cc
    by_column (Some c) is e =
        let took = column_of-takes least c word is in
        let same : c ∷ [] ≡ columns = cc in
        subst (λ (l : List ℕ). RisesFrom least l × (32 ∷ (word ++ []) ≡ flat_map column_word l)) same ((took.0, took.1, tt), ap (λ (l : List ℕ). 32 ∷ (l ++ [])) took.2)
columns_from-takes least word (byte ∷ bytes) columns e = by_test (eqb byte 32) refl (λ c more. columns_from-takes (c + 1) [] bytes more) (columns_from-takes least (word ++ byte ∷ []) bytes columns) e
  where
    joined : (c : ℕ) (more : List ℕ) → byte ≡ 32 → (least ≤ c) × (c < 2 ^ 32) × (word ≡ decimal c) → RisesFrom (c + 1) more × (32 ∷ bytes ≡ flat_map column_word more) → c ∷ more ≡ columns → RisesFrom least columns × (32 ∷ (word ++ byte ∷ bytes) ≡ flat_map column_word columns)
    joined c more space took rest same =
        subst (λ (l : List ℕ). RisesFrom least l × (32 ∷ (word ++ byte ∷ bytes) ≡ flat_map column_word l)) same
        ((took.0, took.1, rest.0), ap₂ (λ (w : List ℕ) (b : ℕ). 32 ∷ (w ++ b ∷ bytes)) took.2 space ∙ ap (λ (l : List ℕ). 32 ∷ (decimal c ++ l)) rest.1)

    by_more : (c : ℕ) → byte ≡ 32 → (least ≤ c) × (c < 2 ^ 32) × (word ≡ decimal c) → ((more : List ℕ) → columns_from (c + 1) [] bytes ≡ Some more → RisesFrom (c + 1) more × (32 ∷ bytes ≡ flat_map column_word more))
        → (o : Option (List ℕ)) → columns_from (c + 1) [] bytes ≡ o → option_map (λ l. c ∷ l) o ≡ Some columns → RisesFrom least columns × (32 ∷ (word ++ byte ∷ bytes) ≡ flat_map column_word columns)
    by_more c space took rest None is e = cc
    by_more c space took rest (Some more) is e = joined c more space took (rest more is) cc

    by_column : (o : Option ℕ) → column_of least word ≡ o → byte ≡ 32 → ((c : ℕ) (more : List ℕ) → columns_from (c + 1) [] bytes ≡ Some more → RisesFrom (c + 1) more × (32 ∷ bytes ≡ flat_map column_word more))
        → (o >>= (λ c. option_map (λ l. c ∷ l) (columns_from (c + 1) [] bytes))) ≡ Some columns → RisesFrom least columns × (32 ∷ (word ++ byte ∷ bytes) ≡ flat_map column_word columns)
    by_column None is space rest e = cc
    by_column (Some c) is space rest e = by_more c space (column_of-takes least c word is) (rest c) (columns_from (c + 1) [] bytes) refl e

    by_test : (b : Bool) → eqb byte 32 ≡ b → ((c : ℕ) (more : List ℕ) → columns_from (c + 1) [] bytes ≡ Some more → RisesFrom (c + 1) more × (32 ∷ bytes ≡ flat_map column_word more))
        → (columns_from least (word ++ byte ∷ []) bytes ≡ Some columns → RisesFrom least columns × (32 ∷ (word ++ byte ∷ [] ++ bytes) ≡ flat_map column_word columns))
        → cond b (column_of least word >>= (λ c. option_map (λ l. c ∷ l) (columns_from (c + 1) [] bytes))) (columns_from least (word ++ byte ∷ []) bytes) ≡ Some columns → RisesFrom least columns × (32 ∷ (word ++ byte ∷ bytes) ≡ flat_map column_word columns)
    by_test true is rest same e = by_column (column_of least word) refl (eqb-true byte 32 is) rest e
    by_test false is rest same e = let took = same e in (took.0, ap (λ (l : List ℕ). 32 ∷ l) (sym (append_assoc word (byte ∷ []) bytes)) ∙ took.1)

columns_from-gives : (least column : ℕ) (columns : List ℕ) → RisesFrom least (column ∷ columns) → columns_from least [] (decimal column ++ flat_map column_word columns) ≡ Some (column ∷ columns)
unfolding columns_from
columns_from-gives least column [] rises =
    columns_from-word least [] (decimal column) [] (decimal_lacks 32 column refl (omega (arith, rises.1))) ∙ ap (option_map (λ (c : ℕ). c ∷ [])) (column_of-gives least column rises.0 rises.1)
columns_from-gives least column (next ∷ columns) rises =
    columns_from-word least [] (decimal column) (32 ∷ (decimal next ++ flat_map column_word columns)) (decimal_lacks 32 column refl (omega (arith, rises.1)))
    ∙ ap (λ (o : Option ℕ). o >>= (λ c. option_map (λ l. c ∷ l) (columns_from (c + 1) [] (decimal next ++ flat_map column_word columns)))) (column_of-gives least column rises.0 rises.1)
    ∙ ap (option_map (λ (l : List ℕ). column ∷ l)) (columns_from-gives (column + 1) next columns rises.2)

-- the columns of a part have one spelling
pub columns_of-takes : (text columns : List ℕ) → columns_of text ≡ Some columns → RisesFrom 0 columns × (text ≡ flat_map column_word columns)
unfolding columns_of
columns_of-takes [] columns e = let same : [] ≡ columns = cc in subst (λ (l : List ℕ). RisesFrom 0 l × ([] ≡ flat_map column_word l)) same (tt, refl)
columns_of-takes (byte ∷ bytes) columns e = by_test (eqb byte 32) refl e
  where
    by_test : (b : Bool) → eqb byte 32 ≡ b → cond b (columns_from 0 [] bytes) None ≡ Some columns → RisesFrom 0 columns × (byte ∷ bytes ≡ flat_map column_word columns)
    by_test true is e = let took = columns_from-takes 0 [] bytes columns e in (took.0, ap (λ (b : ℕ). b ∷ bytes) (eqb-true byte 32 is) ∙ took.1)
    by_test false is e = cc

pub columns_of-gives : (columns : List ℕ) → RisesFrom 0 columns → columns_of (flat_map column_word columns) ≡ Some columns
unfolding columns_of
columns_of-gives [] rises = refl
columns_of-gives (column ∷ columns) rises = columns_from-gives 0 column columns rises

-- columns lack a line break
pub columns_lack : (least : ℕ) (columns : List ℕ) → RisesFrom least columns → lacks 10 (flat_map column_word columns) ≡ true
columns_lack least [] rises = refl
columns_lack least (column ∷ columns) rises =
    lacks-both 10 (column_word column) (flat_map column_word columns) (lacks-both 10 (codes " ") (decimal column) refl (decimal_lacks 10 column refl (omega (arith, rises.1)))) (columns_lack (column + 1) columns rises.2)

-- columns that rise, in the words of their places
pub rising : (least : ℕ) (columns : List ℕ) → RisesFrom least columns → All (λ column. column < 2 ^ 32) columns × IsStrictlyIncreasing columns
rising least columns rises = (bound least columns rises, steps least columns rises)
  where
    bound : (least : ℕ) (columns : List ℕ) → RisesFrom least columns → All (λ column. column < 2 ^ 32) columns
    bound least [] rises = All-nil (λ (column : ℕ). column < 2 ^ 32)
    bound least (column ∷ columns) rises = All-cons (λ (c : ℕ). c < 2 ^ 32) column columns rises.1 (bound (column + 1) columns rises.2)

    steps : (least : ℕ) (columns : List ℕ) → RisesFrom least columns → IsStrictlyIncreasing columns
    steps least [] rises k lt = absurd (omega arith)
    steps least (column ∷ []) rises k lt = absurd (omega arith)
    steps least (column ∷ next ∷ columns) rises zero lt = omega (arith, rises.2.0)
    steps least (column ∷ next ∷ columns) rises (suc k) lt =
        let one : suc k + 1 ≡ suc (k + 1) = omega arith in rw one (steps (column + 1) (next ∷ columns) rises.2 k (omega arith))

pub rises_from : (columns : List ℕ) → All (λ column. column < 2 ^ 32) columns → IsStrictlyIncreasing columns → RisesFrom 0 columns
rises_from columns bound steps = from 0 columns (λ some. omega arith) bound steps
  where
    from : (least : ℕ) (columns : List ℕ) → (0 < length columns → least ≤ slice_index columns 0) → All (λ column. column < 2 ^ 32) columns → IsStrictlyIncreasing columns → RisesFrom least columns
    from least [] first bound steps = tt
    from least (column ∷ columns) first bound steps =
        (first (omega arith), bound 0 column (omega arith), from (column + 1) columns (λ some. omega (arith, steps 0 (omega arith))) (λ k d lt. bound (suc k) d (omega arith)) (λ k lt. let one : suc k + 1 ≡ suc (k + 1) = omega arith in rw one at (steps (suc k) (omega arith))))
