-- a reader that goes on by the first word, and readers of the same told otherwise
use Rattle.std.proofs.Common.{◌≡◌, ℕ, suc, Bool, true, false, cond, List, [], ◌∷◌, ◌++◌, length, map, refl, sym, ◌∙◌, ap, arith, Ok, Err}
use Rattle.std.proofs.lemmas.List.{length-append}
use Rattle.tiql_tree.specs.Words.{Word}
use Rattle.tiql_tree.specs.Trees.{Places}
use Rattle.tiql_read.specs.declared.word.Seen.{Seen}
use Rattle.tiql_read.specs.Steps.{Words, Reading, word_of, begins}
use Rattle.tiql_read.proofs.Exact.{ws, ps, fixed, Fine, starts, Repaired, Stopped, Made, Exact, ws-append, err_left, err_ok}

-- a derivation of the one kind or the other
pub data Either (D E : Type 0) : Type 0 where
  one_way : D → Either D E
  other_way : E → Either D E

abbrev pub either_words : {D E : Type 0} → (D → List Word) → (E → List Word) → Either D E → List Word
either_words w1 w2 (one_way d) = w1 d
either_words w1 w2 (other_way d) = w2 d

abbrev pub either_ok : {D E : Type 0} → (D → Type 0) → (E → Type 0) → Either D E → Type 0
either_ok ok1 ok2 (one_way d) = ok1 d
either_ok ok1 ok2 (other_way d) = ok2 d

abbrev pub either_tree : {X A D E : Type 0} → (X → Places → D → A) → (X → Places → E → A) → X → Places → Either D E → A
either_tree t1 t2 e p (one_way d) = t1 e p d
either_tree t1 t2 e p (other_way d) = t2 e p d

pub begins_starts : (test : Word → Bool) (v : Words) → begins test v ≡ starts test (ws v)
begins_starts test [] = refl
begins_starts test (s ∷ v) = refl

fine_words : (c : Words) (w : List Word) → ws c ≡ w → Fine c → map fixed w ≡ w
fine_words c w same fine = ap (map fixed) (sym same) ∙ all_fine c fine ∙ same
  where
    all_fine : (c : Words) → Fine c → map fixed (ws c) ≡ ws c
    all_fine [] fine = refl
    all_fine (s ∷ c) fine = ap (λ (x : Word). x ∷ map fixed (ws c)) fine.0 ∙ ap (λ (l : List Word). word_of s ∷ l) (all_fine c fine.1)

-- the first word stays when the words behind one change
pub begins_same : (test : Word → Bool) (front : Words) (s : Seen) (more others : Words) → begins test (front ++ s ∷ more) ≡ begins test (front ++ s ∷ others)
begins_same test [] s more others = refl
begins_same test (f ∷ front) s more others = refl

pub begins_both : (test : Word → Bool) (c u : Words) (w : List Word) → ws c ≡ w → begins test (c ++ u) ≡ starts test (w ++ ws u)
begins_both test c u w same = begins_starts test (c ++ u) ∙ ap (starts test) (ws-append c u ∙ ap (λ (y : List Word). y ++ ws u) same)

module _ {X A D E : Type 0} {r1 r2 : X → Words → Reading A} {w1 : D → List Word} {w2 : E → List Word} {ok1 : D → Type 0} {ok2 : E → Type 0} {t1 : X → Places → D → A} {t2 : X → Places → E → A} {ext1 ext2 : Word → Bool} (one : Exact r1 w1 ok1 t1 ext1) (two : Exact r2 w2 ok2 t2 ext2) (test ext : Word → Bool) where
  chosen : Bool → X → Words → Reading A
  chosen b e v = cond b (r1 e v) (r2 e v)

  branch_some : (e : X) (v u : Words) (x : A) → cond (begins test v) (r1 e v) (r2 e v) ≡ Ok (x, u) → Made (either_words w1 w2) (either_ok ok1 ok2) (either_tree t1 t2 e) v u x
  branch_some e v u x eq = by_test (begins test v) eq
    where
      by_test : (b : Bool) → cond b (r1 e v) (r2 e v) ≡ Ok (x, u) → Made (either_words w1 w2) (either_ok ok1 ok2) (either_tree t1 t2 e) v u x
      by_test true eq = let k = one.some e v u x eq in record { front = k.front; split = k.split; derived = one_way k.derived; good = k.good; words = k.words; value = k.value }
      by_test false eq = let k = two.some e v u x eq in record { front = k.front; split = k.split; derived = other_way k.derived; good = k.good; words = k.words; value = k.value }

  branch_stop : (e : X) (v : Words) (left : ℕ) → cond (begins test v) (r1 e v) (r2 e v) ≡ Err left → Stopped (either_words w1 w2) (either_ok ok1 ok2) v left
  branch_stop e v left eq = by_test (begins test v) eq
    where
      by_test : (b : Bool) → cond b (r1 e v) (r2 e v) ≡ Err left → Stopped (either_words w1 w2) (either_ok ok1 ok2) v left
      by_test true eq = let k = one.stop e v left eq in record { front = k.front; rest = k.rest; split = k.split; size = k.size; more = k.more; derived = one_way k.derived; good = k.good; words = k.words }
      by_test false eq = let k = two.stop e v left eq in record { front = k.front; rest = k.rest; split = k.split; size = k.size; more = k.more; derived = other_way k.derived; good = k.good; words = k.words }

  branch_whole : ((d : D) (us : List Word) → ok1 d → map fixed (w1 d) ≡ w1 d → starts test (w1 d ++ us) ≡ true) → ((d : E) (us : List Word) → ok2 d → starts ext us ≡ false → starts test (w2 d ++ us) ≡ false) → ((us : List Word) → starts ext us ≡ false → starts ext1 us ≡ false) → ((us : List Word) → starts ext us ≡ false → starts ext2 us ≡ false) →
      (e : X) (d : Either D E) (c u : Words) → either_ok ok1 ok2 d → ws c ≡ either_words w1 w2 d → Fine c → starts ext (ws u) ≡ false → cond (begins test (c ++ u)) (r1 e (c ++ u)) (r2 e (c ++ u)) ≡ Ok (either_tree t1 t2 e (ps (c ++ u)) d, u)
  branch_whole first others ends1 ends2 e (one_way d) c u good same fine end = rw (begins_both test c u (w1 d) same ∙ first d (ws u) good (fine_words c (w1 d) same fine)) (one.whole e d c u good same fine (ends1 (ws u) end))
  branch_whole first others ends1 ends2 e (other_way d) c u good same fine end = rw (begins_both test c u (w2 d) same ∙ others d (ws u) good end) (two.whole e d c u good same fine (ends2 (ws u) end))

  branch_repaired : (d : Either D E) → either_ok ok1 ok2 d → Repaired (either_words w1 w2) (either_ok ok1 ok2) d
  branch_repaired (one_way d) good = let k = one.repaired d good in record { other = one_way k.other; good = k.good; words = k.words }
  branch_repaired (other_way d) good = let k = two.repaired d good in record { other = other_way k.other; good = k.good; words = k.words }

  branch_same : (e : X) (front : Words) (s : Seen) (more others : Words) → cond (begins test (front ++ s ∷ more)) (r1 e (front ++ s ∷ more)) (r2 e (front ++ s ∷ more)) ≡ Err (suc (length more)) → cond (begins test (front ++ s ∷ others)) (r1 e (front ++ s ∷ others)) (r2 e (front ++ s ∷ others)) ≡ Err (suc (length others))
  branch_same e front s more others eq = by_test (begins test (front ++ s ∷ more)) (sym (begins_same test front s more others)) eq
    where
      by_test : (b : Bool) → begins test (front ++ s ∷ others) ≡ b → cond b (r1 e (front ++ s ∷ more)) (r2 e (front ++ s ∷ more)) ≡ Err (suc (length more)) → cond (begins test (front ++ s ∷ others)) (r1 e (front ++ s ∷ others)) (r2 e (front ++ s ∷ others)) ≡ Err (suc (length others))
      by_test true is eq = rw is (one.same e front s more others eq)
      by_test false is eq = rw is (two.same e front s more others eq)

  branch_steady : (e : X) (front : Words) (s : Seen) (more others : Words) (x : A) → cond (begins test (front ++ s ∷ more)) (r1 e (front ++ s ∷ more)) (r2 e (front ++ s ∷ more)) ≡ Ok (x, s ∷ more) → cond (begins test (front ++ s ∷ others)) (r1 e (front ++ s ∷ others)) (r2 e (front ++ s ∷ others)) ≡ Ok (x, s ∷ others)
  branch_steady e front s more others x eq = by_test (begins test (front ++ s ∷ more)) (sym (begins_same test front s more others)) eq
    where
      by_test : (b : Bool) → begins test (front ++ s ∷ others) ≡ b → cond b (r1 e (front ++ s ∷ more)) (r2 e (front ++ s ∷ more)) ≡ Ok (x, s ∷ more) → cond (begins test (front ++ s ∷ others)) (r1 e (front ++ s ∷ others)) (r2 e (front ++ s ∷ others)) ≡ Ok (x, s ∷ others)
      by_test true is eq = rw is (one.steady e front s more others x eq)
      by_test false is eq = rw is (two.steady e front s more others x eq)

  -- one reader where the first word passes the test, as it does where the words are some tokens, else the other one
  pub branch_fine : ((d : D) (us : List Word) → ok1 d → map fixed (w1 d) ≡ w1 d → starts test (w1 d ++ us) ≡ true) → ((d : E) (us : List Word) → ok2 d → starts ext us ≡ false → starts test (w2 d ++ us) ≡ false) → ((us : List Word) → starts ext us ≡ false → starts ext1 us ≡ false) → ((us : List Word) → starts ext us ≡ false → starts ext2 us ≡ false) →
      Exact {X = X} {A = A} {D = Either D E} (λ e v. cond (begins test v) (r1 e v) (r2 e v)) (either_words w1 w2) (either_ok ok1 ok2) (either_tree t1 t2) ext
  branch_fine first others ends1 ends2 = record {
    any = one_way one.any;
    any_ok = one.any_ok;
    some = branch_some;
    stop = branch_stop;
    whole = branch_whole first others ends1 ends2;
    repaired = branch_repaired;
    same = branch_same;
    steady = branch_steady;
  }

  -- one reader where the first word passes the test, else the other one
  pub branch : ((d : D) (us : List Word) → ok1 d → starts test (w1 d ++ us) ≡ true) → ((d : E) (us : List Word) → ok2 d → starts ext us ≡ false → starts test (w2 d ++ us) ≡ false) → ((us : List Word) → starts ext us ≡ false → starts ext1 us ≡ false) → ((us : List Word) → starts ext us ≡ false → starts ext2 us ≡ false) →
      Exact {X = X} {A = A} {D = Either D E} (λ e v. cond (begins test v) (r1 e v) (r2 e v)) (either_words w1 w2) (either_ok ok1 ok2) (either_tree t1 t2) ext
  branch first others ends1 ends2 = branch_fine (λ d us good fine. first d us good) others ends1 ends2

module _ {X A E : Type 0} {r2 : X → Words → Reading A} {w2 : E → List Word} {ok2 : E → Type 0} {t2 : X → Places → E → A} {ext2 : Word → Bool} (two : Exact r2 w2 ok2 t2 ext2) (test : Word → Bool) where
  barred_some : (e : X) (v u : Words) (x : A) → cond (begins test v) (Err (length v)) (r2 e v) ≡ Ok (x, u) → Made w2 ok2 (t2 e) v u x
  barred_some e v u x eq = by_test (begins test v) eq
    where
      by_test : (b : Bool) → cond b (Err (length v)) (r2 e v) ≡ Ok (x, u) → Made w2 ok2 (t2 e) v u x
      by_test true eq = absurd (err_ok (length v) (x, u) eq)
      by_test false eq = two.some e v u x eq

  barred_stop : (e : X) (v : Words) (left : ℕ) → cond (begins test v) (Err (length v)) (r2 e v) ≡ Err left → Stopped w2 ok2 v left
  barred_stop e v left eq = by_test (begins test v) eq
    where
      by_test : (b : Bool) → cond b (Err (length v)) (r2 e v) ≡ Err left → Stopped w2 ok2 v left
      by_test true eq = record { front = []; rest = v; split = refl; size = err_left {B = A × Words} (length v) left eq; more = w2 two.any; derived = two.any; good = two.any_ok; words = refl }
      by_test false eq = two.stop e v left eq

  barred_same : (e : X) (front : Words) (s : Seen) (more others : Words) → cond (begins test (front ++ s ∷ more)) (Err (length (front ++ s ∷ more))) (r2 e (front ++ s ∷ more)) ≡ Err (suc (length more)) → cond (begins test (front ++ s ∷ others)) (Err (length (front ++ s ∷ others))) (r2 e (front ++ s ∷ others)) ≡ Err (suc (length others))
  barred_same e front s more others eq = by_test (begins test (front ++ s ∷ more)) (sym (begins_same test front s more others)) eq
    where
      by_test : (b : Bool) → begins test (front ++ s ∷ others) ≡ b → cond b (Err (length (front ++ s ∷ more))) (r2 e (front ++ s ∷ more)) ≡ Err (suc (length more)) → cond (begins test (front ++ s ∷ others)) (Err (length (front ++ s ∷ others))) (r2 e (front ++ s ∷ others)) ≡ Err (suc (length others))
      by_test true is eq =
          let l = err_left {B = A × Words} (length (front ++ s ∷ more)) (suc (length more)) eq in
          let n : length (front ++ s ∷ others) ≡ suc (length others) = omega (arith, l, length-append front (s ∷ more), length-append front (s ∷ others)) in
          rw (is, n) refl
      by_test false is eq = rw is (two.same e front s more others eq)

  barred_steady : (e : X) (front : Words) (s : Seen) (more others : Words) (x : A) → cond (begins test (front ++ s ∷ more)) (Err (length (front ++ s ∷ more))) (r2 e (front ++ s ∷ more)) ≡ Ok (x, s ∷ more) → cond (begins test (front ++ s ∷ others)) (Err (length (front ++ s ∷ others))) (r2 e (front ++ s ∷ others)) ≡ Ok (x, s ∷ others)
  barred_steady e front s more others x eq = by_test (begins test (front ++ s ∷ more)) (sym (begins_same test front s more others)) eq
    where
      by_test : (b : Bool) → begins test (front ++ s ∷ others) ≡ b → cond b (Err (length (front ++ s ∷ more))) (r2 e (front ++ s ∷ more)) ≡ Ok (x, s ∷ more) → cond (begins test (front ++ s ∷ others)) (Err (length (front ++ s ∷ others))) (r2 e (front ++ s ∷ others)) ≡ Ok (x, s ∷ others)
      by_test true is eq = absurd (err_ok (length (front ++ s ∷ more)) (x, s ∷ more) eq)
      by_test false is eq = rw is (two.steady e front s more others x eq)

  -- a reader that stops where the first word passes the test
  pub barred : ((d : E) (us : List Word) → ok2 d → starts ext2 us ≡ false → starts test (w2 d ++ us) ≡ false) → Exact {X = X} {A = A} {D = E} (λ e v. cond (begins test v) (Err (length v)) (r2 e v)) w2 ok2 t2 ext2
  barred others = record {
    any = two.any;
    any_ok = two.any_ok;
    some = barred_some;
    stop = barred_stop;
    whole = λ e d c u good same fine end. rw (begins_both test c u (w2 d) same ∙ others d (ws u) good end) (two.whole e d c u good same fine end);
    repaired = two.repaired;
    same = barred_same;
    steady = barred_steady;
  }

-- other derivations of the same words, of which these are some telling
pub recast : {X A D E : Type 0} {r : X → Words → Reading A} {w : D → List Word} {ok : D → Type 0} {t : X → Places → D → A} {ext : Word → Bool} → Exact r w ok t ext →
    (w2 : E → List Word) (ok2 : E → Type 0) (t2 : X → Places → E → A) (ext2 : Word → Bool) (to : D → E) (back : E → D) →
    ((d : D) → w2 (to d) ≡ w d) → ((d : D) → ok d → ok2 (to d)) → ((d : E) → ok2 d → ok (back d)) → ((e : X) (p : Places) (d : D) → t2 e p (to d) ≡ t e p d) → ((d : E) → ok2 d → to (back d) ≡ d) → ((us : List Word) → starts ext2 us ≡ false → starts ext us ≡ false) →
    Exact r w2 ok2 t2 ext2
recast {X} {A} {D} {E} {r} {w} {ok} {t} {ext} one w2 ok2 t2 ext2 to back words goods oks values onto ends = record {
  any = to one.any;
  any_ok = goods one.any one.any_ok;
  some = λ e v u x eq. let k = one.some e v u x eq in record { front = k.front; split = k.split; derived = to k.derived; good = goods k.derived k.good; words = k.words ∙ sym (words k.derived); value = k.value ∙ sym (values e (ps v) k.derived) };
  stop = λ e v left eq. let k = one.stop e v left eq in record { front = k.front; rest = k.rest; split = k.split; size = k.size; more = k.more; derived = to k.derived; good = goods k.derived k.good; words = k.words ∙ sym (words k.derived) };
  whole = λ e d c u good same fine end.
      let k = one.whole e (back d) c u (oks d good) (same ∙ sym (back_words d good)) fine (ends (ws u) end) in
      k ∙ ap (λ (a : A). Ok (a, u)) (sym (values e (ps (c ++ u)) (back d)) ∙ ap (t2 e (ps (c ++ u))) (onto d good));
  repaired = λ d good. let k = one.repaired (back d) (oks d good) in record { other = to k.other; good = goods k.other k.good; words = words k.other ∙ k.words ∙ ap (map fixed) (back_words d good) };
  same = one.same;
  steady = one.steady;
}
  where
    back_words : (d : E) → ok2 d → w (back d) ≡ w2 d
    back_words d good = sym (words (back d)) ∙ ap w2 (onto d good)

-- the same with more that is not to follow
pub wider : {X A D : Type 0} {r : X → Words → Reading A} {w : D → List Word} {ok : D → Type 0} {t : X → Places → D → A} {ext : Word → Bool} → Exact r w ok t ext → (ext2 : Word → Bool) → ((us : List Word) → starts ext2 us ≡ false → starts ext us ≡ false) → Exact r w ok t ext2
wider one ext2 ends = record { any = one.any; any_ok = one.any_ok; some = one.some; stop = one.stop; whole = λ e d c u good same fine end. one.whole e d c u good same fine (ends (ws u) end); repaired = one.repaired; same = one.same; steady = one.steady }
