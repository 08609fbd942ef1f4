-- What stands before a mark, and what stands behind a word.
use Rattle.std.proofs.Common.{◌≡◌, ◌+◌, ◌-◌, ℕ, suc, Bool, true, false, not, cond, ◌&&◌, List, [], ◌∷◌, ◌++◌, length, take, drop, refl, sym, ◌∙◌, ap, ap₂, arith, nat_lt, eqb, Bor}
use Rattle.std.proofs.lemmas.Bool.{eqb-true, eq-eqb, ltb-true, ltb-false, lt-ltb, le-ltb, false≢true}
use Rattle.std.proofs.lemmas.List.{take_rest}
use Rattle.std.specs.Prelude.{Option, Some, None, position}
use Rattle.std.specs.Option.{option_map, MatchOption}
use Rattle.std.specs.List.{list_all, prefix_len}
use Rattle.answer_text.specs.Tokens.{cut, strip}

-- none of the bytes is the mark
abbrev pub lacks : ℕ → List ℕ → Bool
lacks mark bytes = list_all (λ byte. not (eqb byte mark)) bytes

-- the mark is in neither of two lists
pub lacks-both : (mark : ℕ) (xs ys : List ℕ) → lacks mark xs ≡ true → lacks mark ys ≡ true → lacks mark (xs ++ ys) ≡ true
lacks-both mark [] ys front back = back
lacks-both mark (x ∷ xs) ys front back = by_test (eqb x mark) (lacks-both mark xs ys) front
  where
    by_test : (b : Bool) → (lacks mark xs ≡ true → lacks mark ys ≡ true → lacks mark (xs ++ ys) ≡ true) → (not b && lacks mark xs) ≡ true → (not b && lacks mark (xs ++ ys)) ≡ true
    by_test true more h = h
    by_test false more h = more h back

-- what is cut off is what stands before the first mark
pub cut_takes : (mark : ℕ) (bytes : List ℕ) (x : List ℕ × List ℕ) → cut mark bytes ≡ Some x → (bytes ≡ x.0 ++ mark ∷ x.1) × (lacks mark x.0 ≡ true)
unfolding cut
cut_takes mark [] x e = cc
cut_takes mark (byte ∷ bytes) x e = by_test (eqb byte mark) refl (cut mark bytes) (cut_takes mark bytes) e
  where
    by_more : (found : Option (List ℕ × List ℕ)) → eqb byte mark ≡ false → ((y : List ℕ × List ℕ) → found ≡ Some y → (bytes ≡ y.0 ++ mark ∷ y.1) × (lacks mark y.0 ≡ true))
        → option_map (λ (y : List ℕ × List ℕ). (byte ∷ y.0, y.1)) found ≡ Some x → (byte ∷ bytes ≡ x.0 ++ mark ∷ x.1) × (lacks mark x.0 ≡ true)
    by_more None apart more e = cc
    by_more (Some y) apart more e =
        let split = more y refl in
        let front : byte ∷ y.0 ≡ x.0 = cc in
        let back : y.1 ≡ x.1 = cc in
        (ap (λ (l : List ℕ). byte ∷ l) split.0 ∙ ap₂ (λ (l m : List ℕ). l ++ mark ∷ m) front back, ap (lacks mark) (sym front) ∙ rw apart split.1)

    by_test : (b : Bool) → eqb byte mark ≡ b → (found : Option (List ℕ × List ℕ)) → ((y : List ℕ × List ℕ) → found ≡ Some y → (bytes ≡ y.0 ++ mark ∷ y.1) × (lacks mark y.0 ≡ true))
        → cond {A = Option (List ℕ × List ℕ)} b (Some ([], bytes)) (option_map (λ (y : List ℕ × List ℕ). (byte ∷ y.0, y.1)) found) ≡ Some x → (byte ∷ bytes ≡ x.0 ++ mark ∷ x.1) × (lacks mark x.0 ≡ true)
    by_test true is found more e =
        let front : [] ≡ x.0 = cc in
        let back : bytes ≡ x.1 = cc in
        (ap₂ (λ (b : ℕ) (l : List ℕ). b ∷ l) (eqb-true byte mark is) back ∙ ap (λ (l : List ℕ). l ++ mark ∷ x.1) front, ap (lacks mark) (sym front))
    by_test false is found more e = by_more found is more e

-- where nothing is cut off there is no mark
pub cut_none : (mark : ℕ) (bytes : List ℕ) → cut mark bytes ≡ None → lacks mark bytes ≡ true
unfolding cut
cut_none mark [] e = refl
cut_none mark (byte ∷ bytes) e = by_test (eqb byte mark) (cut mark bytes) (cut_none mark bytes) e
  where
    by_test : (b : Bool) (found : Option (List ℕ × List ℕ)) → (found ≡ None → lacks mark bytes ≡ true)
        → cond {A = Option (List ℕ × List ℕ)} b (Some ([], bytes)) (option_map (λ (y : List ℕ × List ℕ). (byte ∷ y.0, y.1)) found) ≡ None → (not b && lacks mark bytes) ≡ true
    by_test true found more e = cc
    by_test false None more e = more refl
    by_test false (Some y) more e = cc

-- what stands before the first mark is cut off
pub cut_again : (mark : ℕ) (xs rest : List ℕ) → lacks mark xs ≡ true → cut mark (xs ++ mark ∷ rest) ≡ Some (xs, rest)
unfolding cut
cut_again mark [] rest h = rw (eq-eqb mark mark refl)
cut_again mark (x ∷ xs) rest h = by_test (eqb x mark) (cut_again mark xs rest) h
  where
    by_test : (b : Bool) → (lacks mark xs ≡ true → cut mark (xs ++ mark ∷ rest) ≡ Some (xs, rest)) → (not b && lacks mark xs) ≡ true
        → cond {A = Option (List ℕ × List ℕ)} b (Some ([], xs ++ mark ∷ rest)) (option_map (λ (y : List ℕ × List ℕ). (x ∷ y.0, y.1)) (cut mark (xs ++ mark ∷ rest))) ≡ Some (x ∷ xs, rest)
    by_test true more h = absurd (false≢true h)
    by_test false more h = ap (option_map (λ (y : List ℕ × List ℕ). (x ∷ y.0, y.1))) (more h)

-- a list without the mark has nothing that is cut off
pub cut_lacks : (mark : ℕ) (xs : List ℕ) → lacks mark xs ≡ true → cut mark xs ≡ None
unfolding cut
cut_lacks mark [] h = refl
cut_lacks mark (x ∷ xs) h = by_test (eqb x mark) (cut_lacks mark xs) h
  where
    by_test : (b : Bool) → (lacks mark xs ≡ true → cut mark xs ≡ None) → (not b && lacks mark xs) ≡ true
        → cond {A = Option (List ℕ × List ℕ)} b (Some ([], xs)) (option_map (λ (y : List ℕ × List ℕ). (x ∷ y.0, y.1)) (cut mark xs)) ≡ None
    by_test true more h = absurd (false≢true h)
    by_test false more h = ap (option_map (λ (y : List ℕ × List ℕ). (x ∷ y.0, y.1))) (more h)

-- the cut at the first place where the test passes
pub cut-position : (mark : ℕ) (bytes : List ℕ) → cut mark bytes ≡ option_map (λ (at : ℕ). (take at bytes, drop (at + 1) bytes)) (position (λ byte. eqb byte mark) bytes)
unfolding cut
cut-position mark [] = refl
cut-position mark (byte ∷ bytes) = by_test (eqb byte mark) (cut-position mark bytes)
  where
    k : ℕ
    k = prefix_len (λ b. not (eqb b mark)) bytes

    place : List ℕ → ℕ → List ℕ × List ℕ
    place l at = (take at l, drop (at + 1) l)

    shifted : (b : Bool) → nat_lt k (length bytes) ≡ b → option_map (λ (x : List ℕ × List ℕ). (byte ∷ x.0, x.1)) (option_map (place bytes) (cond b (Some k) None)) ≡ option_map (place (byte ∷ bytes)) (cond (nat_lt (1 + k) (suc (length bytes))) (Some (1 + k)) None)
    shifted true is =
        let one : 1 + k ≡ suc k = omega arith in
        let two : suc k + 1 ≡ suc (k + 1) = omega arith in
        let below : nat_lt (1 + k) (suc (length bytes)) ≡ true = lt-ltb _ _ (omega (arith, ltb-true k (length bytes) is)) in
        rw (below, one, two)
    shifted false is =
        let above : nat_lt (1 + k) (suc (length bytes)) ≡ false = le-ltb _ _ (omega (arith, ltb-false k (length bytes) is)) in
        rw above

    by_test : (b : Bool) → cut mark bytes ≡ option_map (place bytes) (cond (nat_lt k (length bytes)) (Some k) None)
        → cond {A = Option (List ℕ × List ℕ)} b (Some ([], bytes)) (option_map (λ (x : List ℕ × List ℕ). (byte ∷ x.0, x.1)) (cut mark bytes)) ≡ option_map (place (byte ∷ bytes)) (cond (nat_lt (cond (not b) (1 + k) 0) (suc (length bytes))) (Some (cond (not b) (1 + k) 0)) None)
    by_test true more = rw (lt-ltb 0 (suc (length bytes)) (omega arith))
    by_test false more = ap (option_map (λ (x : List ℕ × List ℕ). (byte ∷ x.0, x.1))) more ∙ shifted (nat_lt k (length bytes)) refl

-- what a search for the mark finds
pub cut_at : (mark : ℕ) (bytes : List ℕ) (at : ℕ) → Some at ≡ position (λ byte. eqb byte mark) bytes → Some (take at bytes, take (length bytes - (at + 1)) (drop (at + 1) bytes)) ≡ cut mark bytes
cut_at mark bytes at e = rw (take_rest bytes (at + 1)) (ap (option_map (λ (i : ℕ). (take i bytes, drop (i + 1) bytes))) e ∙ sym (cut-position mark bytes))

pub cut_nowhere : (mark : ℕ) (bytes : List ℕ) → None ≡ position (λ byte. eqb byte mark) bytes → None ≡ cut mark bytes
cut_nowhere mark bytes e = ap (option_map (λ (i : ℕ). (take i bytes, drop (i + 1) bytes))) e ∙ sym (cut-position mark bytes)

-- what stands behind a word
pub strip_takes : (word bytes rest : List ℕ) → strip word bytes ≡ Some rest → bytes ≡ word ++ rest
unfolding strip
strip_takes [] bytes rest e = cc
strip_takes (letter ∷ word) [] rest e = cc
strip_takes (letter ∷ word) (byte ∷ bytes) rest e = by_test (eqb byte letter) refl (strip_takes word bytes rest) e
  where
    by_test : (b : Bool) → eqb byte letter ≡ b → (strip word bytes ≡ Some rest → bytes ≡ word ++ rest) → cond b (strip word bytes) None ≡ Some rest → byte ∷ bytes ≡ letter ∷ (word ++ rest)
    by_test true is more e = ap₂ (λ (b : ℕ) (l : List ℕ). b ∷ l) (eqb-true byte letter is) (more e)
    by_test false is more e = cc

pub strip_again : (word rest : List ℕ) → strip word (word ++ rest) ≡ Some rest
unfolding strip
strip_again [] rest = refl
strip_again (letter ∷ word) rest = rw (eq-eqb letter letter refl) (strip_again word rest)

-- what std says of `strip_prefix`
pub strip_is : (word bytes : List ℕ) (found : Option (Bor (List ℕ))) → MatchOption found ((rest : List ℕ) → bytes ≡ word ++ rest → ⊥) (λ x. bytes ≡ word ++ x.now) → option_map (λ (x : Bor (List ℕ)). x.now) found ≡ strip word bytes
strip_is word bytes None h = none (strip word bytes) (strip_takes word bytes)
  where
    none : (o : Option (List ℕ)) → ((rest : List ℕ) → o ≡ Some rest → bytes ≡ word ++ rest) → None ≡ o
    none None takes = refl
    none (Some rest) takes = absurd (h rest (takes rest refl))
strip_is word bytes (Some x) h = sym (ap (strip word) h ∙ strip_again word x.now)
