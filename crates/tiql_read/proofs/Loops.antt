-- loops that read parts as long as one begins: what is left to read behind the parts so far
use Rattle.std.proofs.Common.{◌≡◌, ℕ, zero, suc, ◌+◌, ◌-◌, ◌<◌, ◌≤◌, Bool, true, false, cond, List, [], ◌∷◌, ◌++◌, length, refl, sym, ◌∙◌, ap, append_assoc, arith}
use Rattle.std.specs.Prelude.{Ok, Err}
use Rattle.std.proofs.lemmas.Bool.{false≢true}
use Rattle.std.proofs.lemmas.List.{append-nil}
use Rattle.std.specs.declared.option.Option.{Option}
use Rattle.std.specs.declared.option.Option.TheVariants.{None, Some}
use Rattle.tiql_tree.specs.Words.{Word}
use Rattle.tiql_read.specs.declared.word.Stop.{Stop}
use Rattle.tiql_read.specs.declared.word.Stop.TheVariants.{Wrong}
use Rattle.tiql_read.specs.Steps.{Words, Reading, behind, begins, need, told, next_at, more_at, many_at, word_of, ◌>>=◌}
use Rattle.tiql_read.specs.Outcomes.{with_front, ReadsAs}
use Rattle.base_kit.proofs.Results.{same_Ok}

-- the part, and then these
abbrev ahead : {A : Type 0} → A → List A × Words → Reading (List A)
ahead x y = Ok (x ∷ y.0, y.1)

abbrev ok_list : {A : Type 0} → List A → Words → Reading (List A)
ok_list l words = Ok (l, words)

-- the parts so far, and those that are read in so many steps
unfoldable pub left : {A : Type 0} → (Word → Bool) → (Words → Reading A) → List A → ℕ → Words → Reading (List A)
left test part front room words = with_front front (more_at test part room words)

ended : {A : Type 0} (front : List A) (words : Words) → ◌≡◌ {A = Reading (List A)} (Ok (front ++ [], words)) (Ok (front, words))
ended {A} front words = ap (λ (l : List A). ok_list l words) (append-nil front)

module _ {A : Type 0} (test : Word → Bool) (part : Words → Reading A) where
  pub left_init : (front : List A) (words : Words) → left test part front (length words - 0) words ≡ with_front front (many_at test part words)
  unfolding left many_at
  left_init front words = let all : length words - 0 ≡ length words = omega arith in ap (λ n. with_front front (more_at test part n words)) all

  pub left_none : (words : Words) → left test part [] (length words - 0) words ≡ many_at test part words
  unfolding left many_at
  left_none words = let all : length words - 0 ≡ length words = omega arith in ap (λ n. with_front [] (more_at test part n words)) all ∙ by_more (more_at test part (length words) words)
    where
      by_more : (r : Reading (List A)) → with_front [] r ≡ r
      by_more (Ok more) = refl
      by_more (Err n) = refl

  one_less : (n i : ℕ) → i < n → (m : ℕ) × (n - i ≡ suc m) × (n - (i + 1) ≡ m)
  one_less n i lt = (n - (i + 1), omega arith, refl)

  rolled_on : (front : List A) (x : A) (m : Reading (List A)) → with_front (front ++ x ∷ []) m ≡ with_front front (m >>= ahead x)
  rolled_on front x (Ok y) = ap (λ (l : List A). ok_list l y.1) (append_assoc front (x ∷ []) y.0)
  rolled_on front x (Err n) = refl

  -- a part is read
  pub left_on : (front more : List A) (n i : ℕ) (words : Words) (x : A) (rest : Words) (r : Reading (List A)) → i < n → begins test words ≡ true → part words ≡ Ok (x, rest) → more ≡ front ++ x ∷ [] → left test part front (n - i) words ≡ r → left test part more (n - (i + 1)) rest ≡ r
  unfolding left more_at
  left_on front more n i words x rest r lt first is grown h =
      let m = one_less n i lt in
      rw (m.2, grown) (rolled_on front x (more_at test part m.0 rest) ∙ rw (m.1, first, is) at h)

  -- no part begins
  pub left_stop : (front : List A) (room : ℕ) (words : Words) (r : Reading (List A)) → begins test words ≡ false → left test part front room words ≡ r → r ≡ Ok (front, words)
  unfolding left more_at
  left_stop front zero words r none h = sym h ∙ ended front words
  left_stop front (suc room) words r none h = sym (rw none at h) ∙ ended front words

  -- all steps are done
  pub left_end : (front : List A) (n i : ℕ) (words : Words) (r : Reading (List A)) → n ≤ i → left test part front (n - i) words ≡ r → r ≡ Ok (front, words)
  unfolding left more_at
  left_end front n i words r done h = let z : n - i ≡ 0 = omega arith in sym (rw z at h) ∙ ended front words

  -- a part that begins is wrong
  pub left_wrong : (front : List A) (n i : ℕ) (words : Words) (left_over : ℕ) (r : Reading (List A)) → i < n → begins test words ≡ true → part words ≡ Err left_over → left test part front (n - i) words ≡ r → r ≡ Err left_over
  unfolding left more_at
  left_wrong front n i words left_over r lt first is h = let m = one_less n i lt in sym (rw (m.1, first, is) at h)

  pub left_gives : (front : List A) (n i : ℕ) (words : Words) (stop : Stop) (r : Reading (List A)) → i < n → begins test words ≡ true → ((k : ℕ) → stop ≡ Wrong k → part words ≡ Err k) → left test part front (n - i) words ≡ r → ReadsAs (Err stop) r
  left_gives front n i words stop r lt first is h = λ k e. left_wrong front n i words k r lt first (is k e) h

  -- the first part of all that are read, where one begins
  pub many_some : (words : Words) (more : List A) (rest : Words) → begins test words ≡ true → many_at test part words ≡ Ok (more, rest) → 0 < length more
  unfolding many_at more_at
  many_some [] more rest first is = absurd (false≢true first)
  many_some (seen ∷ words) more rest first is = by_part (part (seen ∷ words)) (rw first at is)
    where
      by_more : (x : A) (m : Reading (List A)) → (m >>= ahead x) ≡ Ok (more, rest) → 0 < length more
      by_more x (Ok y) e = let same : 1 + length y.0 ≡ length more = omega (arith, ap (λ (p : List A × Words). length p.0) (same_Ok (x ∷ y.0, y.1) (more, rest) e)) in omega (arith, same)
      by_more x (Err n) e = cc

      by_part : (p : Reading A) → (p >>= λ x. more_at test part (length words) x.1 >>= ahead x.0) ≡ Ok (more, rest) → 0 < length more
      by_part (Ok x) e = by_more x.0 (more_at test part (length words) x.1) e
      by_part (Err n) e = cc

  pub many_none : (words : Words) → begins test words ≡ false → many_at test part words ≡ Ok ([], words)
  unfolding many_at more_at
  many_none [] none = refl
  many_none (seen ∷ words) none = rw none refl

-- behind a word that stands here
pub next_on : {A : Type 0} (test : Word → Bool) (part : Words → Reading A) (words : Words) (rest : Words) → behind test words ≡ Some rest → (begins test words ≡ true) × (next_at test part words ≡ part rest)
unfolding next_at need
next_on test part [] rest is = cc
next_on {A} test part (seen ∷ words) rest is = by_test (test (word_of seen)) is
  where
    by_test : (t : Bool) → cond t (Some words) None ≡ Some rest → (t ≡ true) × ((told (seen ∷ words) (cond t (Some words) None) >>= part) ≡ part rest)
    by_test true e = let same : words ≡ rest = cc in (refl, ap part same)
    by_test false e = cc

pub next_none : (test : Word → Bool) (words : Words) → behind test words ≡ None → begins test words ≡ false
next_none test [] is = refl
next_none test (seen ∷ words) is = by_test (test (word_of seen)) is
  where
    by_test : (t : Bool) → ◌≡◌ {A = Option Words} (cond t (Some words) None) None → t ≡ false
    by_test true e = cc
    by_test false e = refl

-- the same where a word stands before each part
module _ {A : Type 0} (test : Word → Bool) (part : Words → Reading A) where
  pub next_left_on : (front more : List A) (n i : ℕ) (words behind_it : Words) (x : A) (rest : Words) (r : Reading (List A)) → i < n → Some behind_it ≡ behind test words → part behind_it ≡ Ok (x, rest) → more ≡ front ++ x ∷ [] → left test (next_at test part) front (n - i) words ≡ r → left test (next_at test part) more (n - (i + 1)) rest ≡ r
  next_left_on front more n i words behind_it x rest r lt stands is grown h =
      let next = next_on test part words behind_it (sym stands) in
      left_on test (next_at test part) front more n i words x rest r lt next.0 (next.1 ∙ is) grown h

  pub next_left_gives : (front : List A) (n i : ℕ) (words behind_it : Words) (stop : Stop) (r : Reading (List A)) → i < n → Some behind_it ≡ behind test words → ((k : ℕ) → stop ≡ Wrong k → part behind_it ≡ Err k) → left test (next_at test part) front (n - i) words ≡ r → ReadsAs (Err stop) r
  next_left_gives front n i words behind_it stop r lt stands is h =
      let next = next_on test part words behind_it (sym stands) in
      left_gives test (next_at test part) front n i words stop r lt next.0 (λ k e. next.1 ∙ is k e) h

  pub next_left_stop : (front : List A) (room : ℕ) (words : Words) (r : Reading (List A)) → None ≡ behind test words → left test (next_at test part) front room words ≡ r → r ≡ Ok (front, words)
  next_left_stop front room words r none h = left_stop test (next_at test part) front room words r (next_none test words (sym none)) h
