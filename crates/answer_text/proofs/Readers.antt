-- Readers of bytes, which give a value and the bytes behind it, or else how many bytes are left from the begin of the line at
-- fault on: what it means that a reader reads exactly the texts of its values, and how such readers join.
use Rattle.std.proofs.Common.{◌≡◌, ◌⊎◌, inl, inr, ◌<◌, ◌≤◌, ℕ, zero, suc, Bool, true, false, not, cond, ◌&&◌, List, [], ◌∷◌, ◌++◌, length, refl, sym, ◌∙◌, ap, ap₂, subst, arith, append_assoc, length-append, eqb}
use Rattle.std.proofs.lemmas.Bool.{false≢true, not-true, eqb-true, eq-eqb}
use Rattle.std.proofs.lemmas.List.{append-nil}
use Rattle.std.proofs.lemmas.List.Elements.{All-nil, All-cons}
use Rattle.std.specs.Prelude.{Option, Some, None, is_some, Result, Ok, Err, All, flat_map}
use Rattle.answer_text.specs.Tokens.{cut, strip}
use Rattle.answer_text.specs.Blocks.{◌>>=◌, told, read_line, begins, items_at}
use Rattle.answer_text.proofs.Words.{lacks, cut_takes, cut_again}

-- where a reader has stopped: the front begins a text of some value, and whatever line stands behind it, the reader stops
-- there again, so that no text goes on with that line
pub record Stopped {A : Type 0} (read : List ℕ → Result (A × List ℕ) ℕ) (text : A → List ℕ) (meets : A → Type 0) (bytes : List ℕ) (left : ℕ) : Type 0 where
  pub front : List ℕ
  pub rest : List ℕ
  pub split : bytes ≡ front ++ rest
  pub left_is : left ≡ length rest
  pub value : A
  pub fits : meets value
  pub more : List ℕ
  pub begun : text value ≡ front ++ more
  pub again : (line tail other : List ℕ) → lacks 10 line ≡ true → rest ≡ line ++ 10 ∷ tail → read (front ++ (line ++ 10 ∷ other)) ≡ Err (length (line ++ 10 ∷ other))

-- the reader reads exactly the texts of the values that fit, where what follows is an end
pub record Reads {A : Type 0} (read : List ℕ → Result (A × List ℕ) ℕ) (text : A → List ℕ) (meets : A → Type 0) (ends : List ℕ → Bool) : Type 0 where
  pub takes : (bytes : List ℕ) (x : A × List ℕ) → read bytes ≡ Ok x → meets x.0 × (bytes ≡ text x.0 ++ x.1) × (ends x.1 ≡ true)
  pub gives : (value : A) (rest : List ℕ) → meets value → ends rest ≡ true → read (text value ++ rest) ≡ Ok (value, rest)
  pub stops : (bytes : List ℕ) (left : ℕ) → read bytes ≡ Err left → Stopped read text meets bytes left
  pub some : A
  pub some_fits : meets some
  pub local : (common one other : List ℕ) → ends (common ++ 10 ∷ one) ≡ ends (common ++ 10 ∷ other)

-- what follows is not longer than the bytes
pub rest_within : {A : Type 0} (read : List ℕ → Result (A × List ℕ) ℕ) (text : A → List ℕ) (meets : A → Type 0) (ends : List ℕ → Bool) → Reads read text meets ends → (bytes : List ℕ) (x : A × List ℕ) → read bytes ≡ Ok x → length x.1 ≤ length bytes
rest_within read text meets ends reads bytes x e =
    let took = reads.takes bytes x e in
    omega (arith, ap length took.1, length-append (text x.0) x.1)

-- what follows does not matter
abbrev pub any_end : List ℕ → Bool
any_end rest = true

-- a line that is read exactly
pub record ReadsLine {A : Type 0} (parse : List ℕ → Option A) (text : A → List ℕ) (meets : A → Type 0) : Type 0 where
  pub takes : (line : List ℕ) (value : A) → parse line ≡ Some value → meets value × (line ≡ text value)
  pub gives : (value : A) → meets value → parse (text value) ≡ Some value
  pub one_line : (value : A) → meets value → lacks 10 (text value) ≡ true

module _ {A : Type 0} (parse : List ℕ → Option A) (text : A → List ℕ) (meets : A → Type 0) (lines : ReadsLine parse text meets) where
  line_text : A → List ℕ
  line_text value = text value ++ 10 ∷ []

  line_takes : (bytes : List ℕ) (x : A × List ℕ) → read_line parse bytes ≡ Ok x → meets x.0 × (bytes ≡ line_text x.0 ++ x.1) × (any_end x.1 ≡ true)
  unfolding line_text
  line_takes bytes x e = by_cut (cut 10 bytes) refl e
    where
      by_value : (line rest : List ℕ) → bytes ≡ line ++ 10 ∷ rest → (o : Option A) → parse line ≡ o → ◌≡◌ {A = Result (A × List ℕ) ℕ} (told (length bytes) o >>= (λ value. Ok (value, rest))) (Ok x) → meets x.0 × (bytes ≡ line_text x.0 ++ x.1) × (any_end x.1 ≡ true)
      by_value line rest split None is e = cc
      by_value line rest split (Some value) is e =
          let took = lines.takes line value is in
          let same : value ≡ x.0 = cc in
          let behind : rest ≡ x.1 = cc in
          (subst meets same took.0, split ∙ ap₂ (λ (l r : List ℕ). l ++ 10 ∷ r) (took.1 ∙ ap text same) behind ∙ sym (append_assoc (text x.0) (10 ∷ []) x.1), refl)

      by_cut : (o : Option (List ℕ × List ℕ)) → cut 10 bytes ≡ o → ◌≡◌ {A = Result (A × List ℕ) ℕ} (told (length bytes) o >>= (λ y. told (length bytes) (parse y.0) >>= (λ value. Ok (value, y.1)))) (Ok x) → meets x.0 × (bytes ≡ line_text x.0 ++ x.1) × (any_end x.1 ≡ true)
      by_cut None is e = cc
      by_cut (Some y) is e = by_value y.0 y.1 (cut_takes 10 bytes y is).0 (parse y.0) refl e

  -- what is read of a line and its end
  read_line-is : (line rest : List ℕ) → lacks 10 line ≡ true → read_line parse (line ++ 10 ∷ rest) ≡ (told (length (line ++ 10 ∷ rest)) (parse line) >>= (λ value. Ok (value, rest)))
  read_line-is line rest one = ap (λ (o : Option (List ℕ × List ℕ)). told (length (line ++ 10 ∷ rest)) o >>= (λ y. told (length (line ++ 10 ∷ rest)) (parse y.0) >>= (λ value. Ok (value, y.1)))) (cut_again 10 line rest one)

  line_gives : (value : A) (rest : List ℕ) → meets value → any_end rest ≡ true → read_line parse (line_text value ++ rest) ≡ Ok (value, rest)
  unfolding line_text
  line_gives value rest fits end =
      ap (read_line parse) (append_assoc (text value) (10 ∷ []) rest) ∙ read_line-is (text value) rest (lines.one_line value fits)
      ∙ ap (λ (o : Option A). told (length (text value ++ 10 ∷ rest)) o >>= (λ v. Ok (v, rest))) (lines.gives value fits)

  -- a line that stops reading stops it whatever follows
  line_again : (line tail other : List ℕ) (left : ℕ) → lacks 10 line ≡ true → read_line parse (line ++ 10 ∷ tail) ≡ Err left → read_line parse (line ++ 10 ∷ other) ≡ Err (length (line ++ 10 ∷ other))
  line_again line tail other left one e = by_value (parse line) refl (sym (read_line-is line tail one) ∙ e)
    where
      by_value : (o : Option A) → parse line ≡ o → ◌≡◌ {A = Result (A × List ℕ) ℕ} (told (length (line ++ 10 ∷ tail)) o >>= (λ value. Ok (value, tail))) (Err left) → read_line parse (line ++ 10 ∷ other) ≡ Err (length (line ++ 10 ∷ other))
      by_value None is e = read_line-is line other one ∙ ap (λ (o : Option A). told (length (line ++ 10 ∷ other)) o >>= (λ v. Ok (v, other))) is
      by_value (Some value) is e = cc

  -- a line stops reading at its begin
  line_left : (bytes : List ℕ) (left : ℕ) → read_line parse bytes ≡ Err left → left ≡ length bytes
  line_left bytes left e = by_cut (cut 10 bytes) e
    where
      by_value : (rest : List ℕ) (o : Option A) → ◌≡◌ {A = Result (A × List ℕ) ℕ} (told (length bytes) o >>= (λ value. Ok (value, rest))) (Err left) → left ≡ length bytes
      by_value rest None e = cc
      by_value rest (Some value) e = cc

      by_cut : (o : Option (List ℕ × List ℕ)) → ◌≡◌ {A = Result (A × List ℕ) ℕ} (told (length bytes) o >>= (λ y. told (length bytes) (parse y.0) >>= (λ value. Ok (value, y.1)))) (Err left) → left ≡ length bytes
      by_cut None e = cc
      by_cut (Some y) e = by_value y.1 (parse y.0) e

  line_stops : (some : A) → meets some → (bytes : List ℕ) (left : ℕ) → read_line parse bytes ≡ Err left → Stopped (read_line parse) line_text meets bytes left
  line_stops some fits bytes left e = record {
    front = [];
    rest = bytes;
    split = refl;
    left_is = line_left bytes left e;
    value = some;
    fits = fits;
    more = line_text some;
    begun = refl;
    again = λ line tail other one is. line_again line tail other left one (sym (ap (read_line parse) is) ∙ e);
  }

  -- a line that is read exactly makes a reader that reads exactly
  pub reads_line : (some : A) → meets some → Reads (read_line parse) (λ value. text value ++ 10 ∷ []) meets any_end
  unfolding line_text
  reads_line some fits = record {
    takes = line_takes;
    gives = line_gives;
    stops = line_stops some fits;
    some = some;
    some_fits = fits;
    local = λ common one other. refl;
  }

-- one reader and then another, whose value has that of the first as its part
module _ {A B : Type 0} (read : List ℕ → Result (A × List ℕ) ℕ) (text : A → List ℕ) (meets : A → Type 0) (ends : List ℕ → Bool) (first : Reads read text meets ends)
    (next : A → List ℕ → Result (B × List ℕ) ℕ) (rest_text : A → B → List ℕ) (rest_meets : A → B → Type 0) (rest_ends : List ℕ → Bool) (second : (value : A) → meets value → Reads (next value) (rest_text value) (rest_meets value) rest_ends)
    (part : B → A) (part_is : (value : A) (whole : B) → rest_meets value whole → part whole ≡ value)
    (rest_local : (common one other : List ℕ) → rest_ends (common ++ 10 ∷ one) ≡ rest_ends (common ++ 10 ∷ other))
    (joins : (value : A) (whole : B) (rest : List ℕ) → meets value → rest_meets value whole → rest_ends rest ≡ true → ends (rest_text value whole ++ rest) ≡ true) where
  read_both : List ℕ → Result (B × List ℕ) ℕ
  read_both bytes = read bytes >>= (λ x. next x.0 x.1)

  text_both : B → List ℕ
  text_both whole = text (part whole) ++ rest_text (part whole) whole

  meets_both : B → Type 0
  meets_both whole = meets (part whole) × rest_meets (part whole) whole

  -- what the first reader gives, with what the second does
  both_ok : (bytes : List ℕ) (x : A × List ℕ) → read bytes ≡ Ok x → read_both bytes ≡ next x.0 x.1
  unfolding read_both
  both_ok bytes x e = ap (λ (r : Result (A × List ℕ) ℕ). r >>= (λ y. next y.0 y.1)) e

  both_err : (bytes : List ℕ) (left : ℕ) → read bytes ≡ Err left → read_both bytes ≡ Err left
  unfolding read_both
  both_err bytes left e = ap (λ (r : Result (A × List ℕ) ℕ). r >>= (λ y. next y.0 y.1)) e

  both_takes : (bytes : List ℕ) (x : B × List ℕ) → read_both bytes ≡ Ok x → meets_both x.0 × (bytes ≡ text_both x.0 ++ x.1) × (rest_ends x.1 ≡ true)
  unfolding text_both meets_both
  both_takes bytes x e = by_first (read bytes) refl
    where
      by_first : (r : Result (A × List ℕ) ℕ) → read bytes ≡ r → meets_both x.0 × (bytes ≡ text_both x.0 ++ x.1) × (rest_ends x.1 ≡ true)
      by_first (Err left) is = let stopped : ◌≡◌ {A = Result (B × List ℕ) ℕ} (Err left) (Ok x) = sym (both_err bytes left is) ∙ e in cc
      by_first (Ok y) is =
          let one = first.takes bytes y is in
          let two = (second y.0 one.0).takes y.1 x (sym (both_ok bytes y is) ∙ e) in
          let same : y.0 ≡ part x.0 = sym (part_is y.0 x.0 two.0) in (
            subst (λ (a : A). meets a × rest_meets a x.0) same (one.0, two.0),
            one.1 ∙ ap (λ (l : List ℕ). text y.0 ++ l) two.1 ∙ sym (append_assoc (text y.0) (rest_text y.0 x.0) x.1) ∙ ap (λ (a : A). text a ++ rest_text a x.0 ++ x.1) same,
            two.2,
          )

  both_gives : (whole : B) (rest : List ℕ) → meets_both whole → rest_ends rest ≡ true → read_both (text_both whole ++ rest) ≡ Ok (whole, rest)
  unfolding text_both meets_both
  both_gives whole rest fits end =
      let behind = rest_text (part whole) whole ++ rest in
      ap read_both (append_assoc (text (part whole)) (rest_text (part whole) whole) rest)
      ∙ both_ok (text (part whole) ++ behind) (part whole, behind) (first.gives (part whole) behind fits.0 (joins (part whole) whole rest fits.0 fits.1 end))
      ∙ (second (part whole) fits.0).gives whole rest fits.1 end

  -- the first reader stops
  first_stops : (bytes : List ℕ) (left : ℕ) → Stopped read text meets bytes left → Stopped read_both text_both meets_both bytes left
  unfolding text_both meets_both
  first_stops bytes left at =
      let then = second at.value at.fits in
      let same : at.value ≡ part then.some = sym (part_is at.value then.some then.some_fits) in
      record {
        front = at.front;
        rest = at.rest;
        split = at.split;
        left_is = at.left_is;
        value = then.some;
        fits = subst (λ (a : A). meets a × rest_meets a then.some) same (at.fits, then.some_fits);
        more = at.more ++ rest_text at.value then.some;
        begun = sym (ap (λ (a : A). text a ++ rest_text a then.some) same) ∙ ap (λ (l : List ℕ). l ++ rest_text at.value then.some) at.begun ∙ append_assoc at.front at.more (rest_text at.value then.some);
        again = λ line tail other one is. both_err (at.front ++ (line ++ 10 ∷ other)) (length (line ++ 10 ∷ other)) (at.again line tail other one is);
      }

  -- the second reader stops behind what the first has read
  second_stops : (bytes : List ℕ) (left : ℕ) (x : A × List ℕ) → meets x.0 → bytes ≡ text x.0 ++ x.1 → ends x.1 ≡ true → Stopped (next x.0) (rest_text x.0) (rest_meets x.0) x.1 left → Stopped read_both text_both meets_both bytes left
  unfolding text_both meets_both
  second_stops bytes left x fits split end at =
      let same : x.0 ≡ part at.value = sym (part_is x.0 at.value at.fits) in
      record {
        front = text x.0 ++ at.front;
        rest = at.rest;
        split = split ∙ ap (λ (l : List ℕ). text x.0 ++ l) at.split ∙ sym (append_assoc (text x.0) at.front at.rest);
        left_is = at.left_is;
        value = at.value;
        fits = subst (λ (a : A). meets a × rest_meets a at.value) same (fits, at.fits);
        more = at.more;
        begun = sym (ap (λ (a : A). text a ++ rest_text a at.value) same) ∙ ap (λ (l : List ℕ). text x.0 ++ l) at.begun ∙ sym (append_assoc (text x.0) at.front at.more);
        again = λ line tail other one is.
            let behind = at.front ++ (line ++ 10 ∷ other) in
            let ended : ends behind ≡ true = ap ends (sym (append_assoc at.front line (10 ∷ other))) ∙ first.local (at.front ++ line) other tail
            ∙ ap ends (append_assoc at.front line (10 ∷ tail) ∙ ap (λ (l : List ℕ). at.front ++ l) (sym is) ∙ sym at.split) ∙ end in
            ap read_both (append_assoc (text x.0) at.front (line ++ 10 ∷ other))
            ∙ both_ok (text x.0 ++ behind) (x.0, behind) (first.gives x.0 behind fits ended)
            ∙ at.again line tail other one is;
      }

  both_stops : (bytes : List ℕ) (left : ℕ) → read_both bytes ≡ Err left → Stopped read_both text_both meets_both bytes left
  both_stops bytes left e = by_first (read bytes) refl
    where
      by_first : (r : Result (A × List ℕ) ℕ) → read bytes ≡ r → Stopped read_both text_both meets_both bytes left
      by_first (Err at) is =
          let same : ◌≡◌ {A = Result (B × List ℕ) ℕ} (Err at) (Err left) = sym (both_err bytes at is) ∙ e in
          let left_is : at ≡ left = cc in
          subst (λ (n : ℕ). Stopped read_both text_both meets_both bytes n) left_is (first_stops bytes at (first.stops bytes at is))
      by_first (Ok y) is =
          let one = first.takes bytes y is in
          second_stops bytes left y one.0 one.1 one.2 ((second y.0 one.0).stops y.1 left (sym (both_ok bytes y is) ∙ e))

  pub reads_both : Reads (λ bytes. read bytes >>= (λ x. next x.0 x.1)) (λ whole. text (part whole) ++ rest_text (part whole) whole) (λ whole. meets (part whole) × rest_meets (part whole) whole) rest_ends
  unfolding read_both text_both meets_both
  reads_both =
      let then = second first.some first.some_fits in
      record {
        takes = both_takes;
        gives = both_gives;
        stops = both_stops;
        some = then.some;
        some_fits = subst (λ (a : A). meets a × rest_meets a then.some) (sym (part_is first.some then.some then.some_fits)) (first.some_fits, then.some_fits);
        local = rest_local;
      }

-- a reader that takes nothing
pub reads_nothing : {B : Type 0} (whole : B) → Reads (λ bytes. Ok (whole, bytes)) (λ (value : B). []) (λ (value : B). value ≡ whole) any_end
reads_nothing {B} whole = record {
  takes = λ bytes x e. let same : whole ≡ x.0 = cc in let behind : bytes ≡ x.1 = cc in (sym same, behind, refl);
  gives = λ value rest is end. ap (λ (v : B). Ok (v, rest)) (sym is);
  stops = λ bytes left e. cc;
  some = whole;
  some_fits = refl;
  local = λ common one other. refl;
}

-- the same reader, of texts that are written in another way, and values that fit by other words
module _ {A : Type 0} (read : List ℕ → Result (A × List ℕ) ℕ) (text other_text : A → List ℕ) (meets other_meets : A → Type 0) (ends : List ℕ → Bool)
    (same_text : (value : A) → meets value → text value ≡ other_text value) (there : (value : A) → meets value → other_meets value) (back : (value : A) → other_meets value → meets value) (reads : Reads read text meets ends) where
  as_stopped : (bytes : List ℕ) (left : ℕ) → Stopped read text meets bytes left → Stopped read other_text other_meets bytes left
  as_stopped bytes left at = record {
    front = at.front;
    rest = at.rest;
    split = at.split;
    left_is = at.left_is;
    value = at.value;
    fits = there at.value at.fits;
    more = at.more;
    begun = sym (same_text at.value at.fits) ∙ at.begun;
    again = at.again;
  }

  pub reads_as : Reads read other_text other_meets ends
  reads_as = record {
    takes = λ bytes x e. let took = reads.takes bytes x e in (there x.0 took.0, took.1 ∙ ap (λ (l : List ℕ). l ++ x.1) (same_text x.0 took.0), took.2);
    gives = λ value rest fits end. ap (λ (l : List ℕ). read (l ++ rest)) (sym (same_text value (back value fits))) ∙ reads.gives value rest (back value fits) end;
    stops = λ bytes left e. as_stopped bytes left (reads.stops bytes left e);
    some = reads.some;
    some_fits = there reads.some reads.some_fits;
    local = reads.local;
  }

-- whether a line begins with a word is seen before its end
pub begins-local : (word common one other : List ℕ) → lacks 10 word ≡ true → begins word (common ++ 10 ∷ one) ≡ begins word (common ++ 10 ∷ other)
unfolding strip
begins-local [] common one other h = refl
begins-local (letter ∷ word) [] one other h = by_test (eqb 10 letter) refl h
  where
    by_test : (b : Bool) → eqb 10 letter ≡ b → (not (eqb letter 10) && lacks 10 word) ≡ true → is_some (cond b (strip word one) None) ≡ is_some (cond b (strip word other) None)
    by_test true is h = let same : eqb letter 10 ≡ true = eq-eqb letter 10 (sym (eqb-true 10 letter is)) in absurd (false≢true (rw same at h))
    by_test false is h = refl
begins-local (letter ∷ word) (byte ∷ common) one other h = by_test (eqb byte letter) (begins-local word common one other (rest_lacks (eqb letter 10) h))
  where
    rest_lacks : (b : Bool) → (not b && lacks 10 word) ≡ true → lacks 10 word ≡ true
    rest_lacks true h = absurd (false≢true h)
    rest_lacks false h = h

    by_test : (b : Bool) → is_some (strip word (common ++ 10 ∷ one)) ≡ is_some (strip word (common ++ 10 ∷ other)) → is_some (cond b (strip word (common ++ 10 ∷ one)) None) ≡ is_some (cond b (strip word (common ++ 10 ∷ other)) None)
    by_test true more = more
    by_test false more = refl

-- one reader where the bytes begin with a word, and else another, whose texts do not begin with it
module _ {A : Type 0} (word : List ℕ) (one_line : lacks 10 word ≡ true) (text : A → List ℕ) (ends : List ℕ → Bool)
    (read : List ℕ → Result (A × List ℕ) ℕ) (meets : A → Type 0) (reads : Reads read text meets ends) (with_word : (value : A) (rest : List ℕ) → meets value → begins word (text value ++ rest) ≡ true)
    (other_read : List ℕ → Result (A × List ℕ) ℕ) (other_meets : A → Type 0) (other_reads : Reads other_read text other_meets ends) (without_word : (value : A) (rest : List ℕ) → other_meets value → begins word (text value ++ rest) ≡ false) where
  read_either : List ℕ → Result (A × List ℕ) ℕ
  read_either bytes = cond (begins word bytes) (read bytes) (other_read bytes)

  meets_either : A → Type 0
  meets_either value = meets value ⊎ other_meets value

  either_true : (bytes : List ℕ) → begins word bytes ≡ true → read_either bytes ≡ read bytes
  unfolding read_either
  either_true bytes is = ap (λ (b : Bool). cond b (read bytes) (other_read bytes)) is

  either_false : (bytes : List ℕ) → begins word bytes ≡ false → read_either bytes ≡ other_read bytes
  unfolding read_either
  either_false bytes is = ap (λ (b : Bool). cond b (read bytes) (other_read bytes)) is

  -- the bytes go on to begin with the word, or not to, whatever stands behind the line
  keeps : (front line tail other : List ℕ) (bytes rest : List ℕ) (b : Bool) → bytes ≡ front ++ rest → rest ≡ line ++ 10 ∷ tail → begins word bytes ≡ b → begins word (front ++ (line ++ 10 ∷ other)) ≡ b
  keeps front line tail other bytes rest b split is so =
      ap (begins word) (sym (append_assoc front line (10 ∷ other))) ∙ begins-local word (front ++ line) other tail one_line
      ∙ ap (begins word) (append_assoc front line (10 ∷ tail) ∙ ap (λ (l : List ℕ). front ++ l) (sym is) ∙ sym split) ∙ so

  pub reads_either : Reads (λ bytes. cond (begins word bytes) (read bytes) (other_read bytes)) text (λ value. meets value ⊎ other_meets value) ends
  unfolding read_either meets_either
  reads_either = record {
    takes = λ bytes x e. takes_by bytes x (begins word bytes) refl e;
    gives = λ value rest fits end. gives_by value rest fits end;
    stops = λ bytes left e. stops_by bytes left (begins word bytes) refl e;
    some = reads.some;
    some_fits = inl reads.some_fits;
    local = reads.local;
  }
    where
      takes_by : (bytes : List ℕ) (x : A × List ℕ) (b : Bool) → begins word bytes ≡ b → cond b (read bytes) (other_read bytes) ≡ Ok x → (meets x.0 ⊎ other_meets x.0) × (bytes ≡ text x.0 ++ x.1) × (ends x.1 ≡ true)
      takes_by bytes x true is e = let took = reads.takes bytes x e in (inl took.0, took.1, took.2)
      takes_by bytes x false is e = let took = other_reads.takes bytes x e in (inr took.0, took.1, took.2)

      gives_by : (value : A) (rest : List ℕ) → meets value ⊎ other_meets value → ends rest ≡ true → cond (begins word (text value ++ rest)) (read (text value ++ rest)) (other_read (text value ++ rest)) ≡ Ok (value, rest)
      gives_by value rest (inl fits) end = rw (with_word value rest fits) (reads.gives value rest fits end)
      gives_by value rest (inr fits) end = rw (without_word value rest fits) (other_reads.gives value rest fits end)

      stops_by : (bytes : List ℕ) (left : ℕ) (b : Bool) → begins word bytes ≡ b → cond b (read bytes) (other_read bytes) ≡ Err left → Stopped read_either text meets_either bytes left
      stops_by bytes left true is e = let at = reads.stops bytes left e in record {
        front = at.front;
        rest = at.rest;
        split = at.split;
        left_is = at.left_is;
        value = at.value;
        fits = inl at.fits;
        more = at.more;
        begun = at.begun;
        again = λ line tail other one line_is. either_true (at.front ++ (line ++ 10 ∷ other)) (keeps at.front line tail other bytes at.rest true at.split line_is is) ∙ at.again line tail other one line_is;
      }
      stops_by bytes left false is e = let at = other_reads.stops bytes left e in record {
        front = at.front;
        rest = at.rest;
        split = at.split;
        left_is = at.left_is;
        value = at.value;
        fits = inr at.fits;
        more = at.more;
        begun = at.begun;
        again = λ line tail other one line_is. either_false (at.front ++ (line ++ 10 ∷ other)) (keeps at.front line tail other bytes at.rest false at.split line_is is) ∙ at.again line tail other one line_is;
      }

-- what is given is one thing
pub ok_same : {B : Type 0} (x y : B) → ◌≡◌ {A = Result B ℕ} (Ok x) (Ok y) → x ≡ y
ok_same x y e = cc

-- items one after another, as long as the bytes begin with their word
module _ {A : Type 0} (word : List ℕ) (one_line : lacks 10 word ≡ true) (some_word : begins word [] ≡ false)
    (item : List ℕ → Result (A × List ℕ) ℕ) (text : A → List ℕ) (meets : A → Type 0) (reads : Reads item text meets any_end) (with_word : (value : A) (rest : List ℕ) → meets value → begins word (text value ++ rest) ≡ true) where
  -- an item has a byte at least
  text_some : (value : A) → meets value → 0 < length (text value)
  text_some value fits = by_text (text value) (with_word value [] fits)
    where
      by_text : (l : List ℕ) → begins word (l ++ []) ≡ true → 0 < length l
      by_text [] is = absurd (false≢true (sym some_word ∙ is))
      by_text (byte ∷ bytes) is = omega arith

  -- what follows an item is shorter
  pub item_shorter : (bytes : List ℕ) (x : A × List ℕ) → item bytes ≡ Ok x → length x.1 < length bytes
  item_shorter bytes x e =
      let took = reads.takes bytes x e in
      omega (arith, text_some x.0 took.0, ap length took.1, length-append (text x.0) x.1)

  abbrev with_item : A → Result (List A × List ℕ) ℕ → Result (List A × List ℕ) ℕ
  with_item value r = r >>= (λ xs. Ok (value ∷ xs.0, xs.1))

  one_more : (List ℕ → Result (List A × List ℕ) ℕ) → List ℕ → Result (List A × List ℕ) ℕ
  one_more more bytes = cond (begins word bytes) (item bytes >>= (λ x. with_item x.0 (more x.1))) (Ok ([], bytes))

  -- how many items there may be does not matter, where the bytes have no more
  items_most : (most other : ℕ) (bytes : List ℕ) → length bytes ≤ most → length bytes ≤ other → items_at word item most bytes ≡ items_at word item other bytes
  items_most zero zero bytes low high = refl
  items_most zero (suc other) [] low high = rw some_word
  items_most zero (suc other) (byte ∷ bytes) low high = absurd (omega arith)
  items_most (suc most) zero [] low high = rw some_word
  items_most (suc most) zero (byte ∷ bytes) low high = absurd (omega arith)
  items_most (suc most) (suc other) bytes low high = ap (λ (r : Result (List A × List ℕ) ℕ). cond (begins word bytes) r (Ok ([], bytes))) (by_item (item bytes) refl (items_most most other))
    where
      by_item : (r : Result (A × List ℕ) ℕ) → item bytes ≡ r → ((rest : List ℕ) → length rest ≤ most → length rest ≤ other → items_at word item most rest ≡ items_at word item other rest)
          → (r >>= (λ x. with_item x.0 (items_at word item most x.1))) ≡ (r >>= (λ x. with_item x.0 (items_at word item other x.1)))
      by_item (Err left) is more = refl
      by_item (Ok x) is more =
          let shorter = item_shorter bytes x is in
          ap (with_item x.0) (more x.1 (omega arith) (omega arith))

  all_items : List ℕ → Result (List A × List ℕ) ℕ
  all_items bytes = items_at word item (length bytes) bytes

  -- one item, and those behind it
  unroll : (bytes : List ℕ) → all_items bytes ≡ one_more all_items bytes
  unfolding all_items one_more
  unroll bytes = items_most (length bytes) (suc (length bytes)) bytes (omega arith) (omega arith) ∙ ap (λ (r : Result (List A × List ℕ) ℕ). cond (begins word bytes) r (Ok ([], bytes))) (by_item (item bytes) refl)
    where
      by_item : (r : Result (A × List ℕ) ℕ) → item bytes ≡ r → (r >>= (λ x. with_item x.0 (items_at word item (length bytes) x.1))) ≡ (r >>= (λ x. with_item x.0 (items_at word item (length x.1) x.1)))
      by_item (Err left) is = refl
      by_item (Ok x) is =
          let shorter = item_shorter bytes x is in
          ap (with_item x.0) (items_most (length bytes) (length x.1) x.1 (omega arith) (omega arith))

  -- at the end of the items
  pub items_end : (bytes : List ℕ) → begins word bytes ≡ false → items_at word item (length bytes) bytes ≡ Ok ([], bytes)
  unfolding all_items one_more
  items_end bytes is = unroll bytes ∙ rw is

  -- behind an item
  pub items_on : (bytes : List ℕ) (x : A × List ℕ) → begins word bytes ≡ true → item bytes ≡ Ok x → items_at word item (length bytes) bytes ≡ (items_at word item (length x.1) x.1 >>= (λ xs. Ok (x.0 ∷ xs.0, xs.1)))
  unfolding all_items one_more
  items_on bytes x is e = unroll bytes ∙ rw (is, e)

  -- at an item that stops
  pub items_stop : (bytes : List ℕ) (left : ℕ) → begins word bytes ≡ true → item bytes ≡ Err left → items_at word item (length bytes) bytes ≡ Err left
  unfolding all_items one_more
  items_stop bytes left is e = unroll bytes ∙ rw (is, e)

  -- the items that are read fit, their texts are the bytes, and no item follows
  record Took (bytes : List ℕ) (items : List A) (rest : List ℕ) : Type 0 where
    each : All meets items
    split : bytes ≡ flat_map text items ++ rest
    end : begins word rest ≡ false

  took_none : (bytes : List ℕ) → begins word bytes ≡ false → Took bytes [] bytes
  took_none bytes is = record { each = All-nil meets; split = refl; end = is }

  took_more : (bytes : List ℕ) (value : A) (items : List A) (rest behind : List ℕ) → meets value → bytes ≡ text value ++ behind → Took behind items rest → Took bytes (value ∷ items) rest
  took_more bytes value items rest behind fits split took = record {
    each = All-cons meets value items fits took.each;
    split = split ∙ ap (λ (l : List ℕ). text value ++ l) took.split ∙ sym (append_assoc (text value) (flat_map text items) rest);
    end = took.end;
  }

  taken : (bytes : List ℕ) (x : List A × List ℕ) → ((rest : List ℕ) (z : List A × List ℕ) → length rest < length bytes → items_at word item (length rest) rest ≡ Ok z → Took rest z.0 z.1)
      → items_at word item (length bytes) bytes ≡ Ok x → Took bytes x.0 x.1
  taken bytes x more e = by_word (begins word bytes) refl
    where
      behind : (y : A × List ℕ) → item bytes ≡ Ok y → (r : Result (List A × List ℕ) ℕ) → items_at word item (length y.1) y.1 ≡ r → with_item y.0 r ≡ Ok x → Took bytes x.0 x.1
      behind y is (Err left) so f = cc
      behind y is (Ok z) so f =
          let took = reads.takes bytes y is in
          let same = ok_same (y.0 ∷ z.0, z.1) x f in
          subst (λ (w : List A × List ℕ). Took bytes w.0 w.1) same (took_more bytes y.0 z.0 z.1 y.1 took.0 took.1 (more y.1 z (item_shorter bytes y is) so))

      by_item : begins word bytes ≡ true → (r : Result (A × List ℕ) ℕ) → item bytes ≡ r → Took bytes x.0 x.1
      by_item is (Err left) so = let same : ◌≡◌ {A = Result (List A × List ℕ) ℕ} (Err left) (Ok x) = sym (items_stop bytes left is so) ∙ e in cc
      by_item is (Ok y) so = behind y so (items_at word item (length y.1) y.1) refl (sym (items_on bytes y is so) ∙ e)

      by_word : (b : Bool) → begins word bytes ≡ b → Took bytes x.0 x.1
      by_word false is =
          subst (λ (y : List A × List ℕ). Took bytes y.0 y.1) (ok_same ([], bytes) x (sym (items_end bytes is) ∙ e)) (took_none bytes is)
      by_word true is = by_item is (item bytes) refl

  items_take : (most : ℕ) (bytes : List ℕ) (x : List A × List ℕ) → length bytes ≤ most → items_at word item (length bytes) bytes ≡ Ok x → Took bytes x.0 x.1
  items_take zero bytes x low e = taken bytes x (λ rest z short so. absurd (omega arith)) e
  items_take (suc most) bytes x low e = taken bytes x (λ rest z short so. items_take most rest z (omega arith) so) e

  -- items that fit are read
  items_give : (items : List A) (rest : List ℕ) → All meets items → begins word rest ≡ false → items_at word item (length (flat_map text items ++ rest)) (flat_map text items ++ rest) ≡ Ok (items, rest)
  items_give [] rest each end = items_end rest end
  items_give (value ∷ items) rest each end =
      let behind = flat_map text items ++ rest in
      let fits : meets value = each 0 value (omega arith) in
      let others : All meets items = λ k d lt. each (suc k) d (omega arith) in
      ap (λ (l : List ℕ). items_at word item (length l) l) (append_assoc (text value) (flat_map text items) rest)
      ∙ items_on (text value ++ behind) (value, behind) (with_word value behind fits) (reads.gives value behind fits refl)
      ∙ ap (with_item value) (items_give items rest others end)

  -- an item that stops, and one that stops behind another
  stop_first : (bytes : List ℕ) (left : ℕ) → begins word bytes ≡ true → Stopped item text meets bytes left → Stopped (λ l. items_at word item (length l) l) (flat_map text) (All meets) bytes left
  stop_first bytes left is at = record {
    front = at.front;
    rest = at.rest;
    split = at.split;
    left_is = at.left_is;
    value = at.value ∷ [];
    fits = All-cons meets at.value [] at.fits (All-nil meets);
    more = at.more;
    begun = append-nil (text at.value) ∙ at.begun;
    again = λ line tail other one line_is.
        let again_word : begins word (at.front ++ (line ++ 10 ∷ other)) ≡ true = ap (begins word) (sym (append_assoc at.front line (10 ∷ other))) ∙ begins-local word (at.front ++ line) other tail one_line
        ∙ ap (begins word) (append_assoc at.front line (10 ∷ tail) ∙ ap (λ (l : List ℕ). at.front ++ l) (sym line_is) ∙ sym at.split) ∙ is in
        items_stop (at.front ++ (line ++ 10 ∷ other)) (length (line ++ 10 ∷ other)) again_word (at.again line tail other one line_is);
  }

  stop_next : (bytes : List ℕ) (left : ℕ) (value : A) (behind : List ℕ) → meets value → bytes ≡ text value ++ behind → Stopped (λ l. items_at word item (length l) l) (flat_map text) (All meets) behind left → Stopped (λ l. items_at word item (length l) l) (flat_map text) (All meets) bytes left
  stop_next bytes left value behind fits split at = record {
    front = text value ++ at.front;
    rest = at.rest;
    split = split ∙ ap (λ (l : List ℕ). text value ++ l) at.split ∙ sym (append_assoc (text value) at.front at.rest);
    left_is = at.left_is;
    value = value ∷ at.value;
    fits = All-cons meets value at.value fits at.fits;
    more = at.more;
    begun = ap (λ (l : List ℕ). text value ++ l) at.begun ∙ sym (append_assoc (text value) at.front at.more);
    again = λ line tail other one line_is.
        let on = at.front ++ (line ++ 10 ∷ other) in
        ap (λ (l : List ℕ). items_at word item (length l) l) (append_assoc (text value) at.front (line ++ 10 ∷ other))
        ∙ items_on (text value ++ on) (value, on) (with_word value on fits) (reads.gives value on fits refl)
        ∙ ap (with_item value) (at.again line tail other one line_is);
  }

  stopped : (bytes : List ℕ) (left : ℕ) → ((rest : List ℕ) → length rest < length bytes → items_at word item (length rest) rest ≡ Err left → Stopped (λ l. items_at word item (length l) l) (flat_map text) (All meets) rest left)
      → items_at word item (length bytes) bytes ≡ Err left → Stopped (λ l. items_at word item (length l) l) (flat_map text) (All meets) bytes left
  stopped bytes left more e = by_word (begins word bytes) refl
    where
      behind : (y : A × List ℕ) → item bytes ≡ Ok y → (r : Result (List A × List ℕ) ℕ) → items_at word item (length y.1) y.1 ≡ r → with_item y.0 r ≡ Err left → Stopped (λ l. items_at word item (length l) l) (flat_map text) (All meets) bytes left
      behind y is (Ok z) so f = cc
      behind y is (Err at) so f =
          let took = reads.takes bytes y is in
          let same : at ≡ left = cc in
          stop_next bytes left y.0 y.1 took.0 took.1 (more y.1 (item_shorter bytes y is) (so ∙ ap (λ (n : ℕ). Err n) same))

      by_item : begins word bytes ≡ true → (r : Result (A × List ℕ) ℕ) → item bytes ≡ r → Stopped (λ l. items_at word item (length l) l) (flat_map text) (All meets) bytes left
      by_item is (Err at) so =
          let same : ◌≡◌ {A = Result (List A × List ℕ) ℕ} (Err at) (Err left) = sym (items_stop bytes at is so) ∙ e in
          let left_is : at ≡ left = cc in
          stop_first bytes left is (reads.stops bytes left (so ∙ ap (λ (n : ℕ). Err n) left_is))
      by_item is (Ok y) so = behind y so (items_at word item (length y.1) y.1) refl (sym (items_on bytes y is so) ∙ e)

      by_word : (b : Bool) → begins word bytes ≡ b → Stopped (λ l. items_at word item (length l) l) (flat_map text) (All meets) bytes left
      by_word false is = let never : ◌≡◌ {A = Result (List A × List ℕ) ℕ} (Ok ([], bytes)) (Err left) = sym (items_end bytes is) ∙ e in cc
      by_word true is = by_item is (item bytes) refl

  items_stopped : (most : ℕ) (bytes : List ℕ) (left : ℕ) → length bytes ≤ most → items_at word item (length bytes) bytes ≡ Err left → Stopped (λ l. items_at word item (length l) l) (flat_map text) (All meets) bytes left
  items_stopped zero bytes left low e = stopped bytes left (λ rest short so. absurd (omega arith)) e
  items_stopped (suc most) bytes left low e = stopped bytes left (λ rest short so. items_stopped most rest left (omega arith) so) e

  -- a list of items is read exactly, where no item follows
  pub reads_items : Reads (λ bytes. items_at word item (length bytes) bytes) (flat_map text) (All meets) (λ rest. not (begins word rest))
  reads_items = record {
    takes = λ bytes x e. let took = items_take (length bytes) bytes x (omega arith) e in (took.each, took.split, rw took.end);
    gives = λ items rest each end. items_give items rest each (not-true (begins word rest) end);
    stops = λ bytes left e. items_stopped (length bytes) bytes left (omega arith) e;
    some = [];
    some_fits = All-nil meets;
    local = λ common one other. ap (λ (b : Bool). not b) (begins-local word common one other one_line);
  }
