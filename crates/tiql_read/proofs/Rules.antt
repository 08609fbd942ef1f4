-- readers that are put together of others
use Rattle.std.proofs.Common.{◌≡◌, ℕ, suc, Bool, true, false, List, [], ◌∷◌, ◌++◌, length, drop, refl, sym, ◌∙◌, ap, arith, Result, Ok, Err}
use Rattle.std.proofs.lemmas.List.{length-append}
use Rattle.std.specs.declared.option.Option.{Option}
use Rattle.std.specs.declared.option.Option.TheVariants.{None, Some}
use Rattle.base_kit.specs.declared.place.Place.{Place}
use Rattle.tiql_tree.specs.Words.{Word}
use Rattle.tiql_tree.specs.Trees.{Places, place}
use Rattle.tiql_read.specs.declared.word.Seen.{Seen}
use Rattle.tiql_read.specs.Steps.{Words, Reading, word_of, ◌>>=◌, need, take_as}
use Rattle.tiql_read.proofs.Exact.{ws, ps, fixed, Fine, starts, none, Stopped, Made, Exact, seam, ok_value, ok_rest, err_left, err_ok}
use Rattle.base_kit.proofs.Results.{Ok-Err}

-- nothing is read
pub done : {X A : Type 0} (f : X → A) → Exact {X = X} {A = A} {D = Unit {0}} (λ e v. Ok (f e, v)) (λ d. []) (λ d. Unit {0}) (λ e p d. f e) none
done {X} {A} f = record {
  any = tt;
  any_ok = tt;
  some = λ e v u x eq. record { front = []; split = ok_rest (f e) x v u eq; derived = tt; good = tt; words = refl; value = sym (ok_value (f e) x v u eq) };
  stop = λ e v left eq. absurd (Ok-Err (f e, v) left eq);
  whole = whole;
  repaired = λ d ok. record { other = tt; good = tt; words = refl };
  same = λ e front s more others eq. absurd (Ok-Err (f e, front ++ s ∷ more) (suc (length more)) eq);
  steady = steady;
}
  where
    whole : (e : X) (d : Unit {0}) (c u : Words) → Unit {0} → ws c ≡ [] → Fine c → starts none (ws u) ≡ false → ◌≡◌ {A = Reading A} (Ok (f e, c ++ u)) (Ok (f e, u))
    whole e d [] u ok same fine end = refl
    whole e d (s ∷ c) u ok same fine end = absurd cc

    steady : (e : X) (front : Words) (s : Seen) (more others : Words) (x : A) → ◌≡◌ {A = Reading A} (Ok (f e, front ++ s ∷ more)) (Ok (x, s ∷ more)) → ◌≡◌ {A = Reading A} (Ok (f e, front ++ s ∷ others)) (Ok (x, s ∷ others))
    steady e [] s more others x eq = let v : f e ≡ x = ok_value (f e) x (s ∷ more) (s ∷ more) eq in ap (λ (y : A). Ok (y, s ∷ others)) v
    steady e (y ∷ front) s more others x eq = let l = ok_rest (f e) x (y ∷ front ++ s ∷ more) (s ∷ more) eq in absurd (omega (arith, ap length l, length-append front (s ∷ more)))

-- a word that one test alone finds
pub record Needs (test : Word → Bool) (key : Word) : Type 0 where
  pub hit : test key ≡ true
  pub only : (word : Word) → test word ≡ true → word ≡ key
  pub fine : fixed key ≡ key

need_hit : {B : Type 0} (test : Word → Bool) (s : Seen) (v : Words) (f : Words → Result B ℕ) → test (word_of s) ≡ true → (need test (s ∷ v) >>= f) ≡ f v
unfolding need
need_hit test s v f hit = rw hit refl

need_miss : {B : Type 0} (test : Word → Bool) (s : Seen) (v : Words) (f : Words → Result B ℕ) → test (word_of s) ≡ false → (need test (s ∷ v) >>= f) ≡ Err (suc (length v))
unfolding need
need_miss test s v f miss = rw miss refl

need_none : {B : Type 0} (test : Word → Bool) (f : Words → Result B ℕ) → (need test [] >>= f) ≡ Err 0
unfolding need
need_none test f = refl

-- reading goes on behind the word
pub word : {X A D : Type 0} {r : X → Words → Reading A} {w : D → List Word} {ok : D → Type 0} {t : X → Places → D → A} {ext : Word → Bool} {test : Word → Bool} {key : Word} → Needs test key → Exact r w ok t ext → Exact {X = X} {A = A} {D = D} (λ e v. need test v >>= λ u. r e u) (λ d. key ∷ w d) ok (λ e p d. t e (drop 1 p) d) ext
word {X} {A} {D} {r} {w} {ok} {t} {ext} {test} {key} needs one = record {
  any = one.any;
  any_ok = one.any_ok;
  some = some;
  stop = stop;
  whole = whole;
  repaired = λ d good. let k = one.repaired d good in record { other = k.other; good = k.good; words = let a = k.words in let b = needs.fine in cc };
  same = same;
  steady = steady;
}
  where
    reader : X → Words → Reading A
    reader e v = need test v >>= λ u. r e u

    some : (e : X) (v u : Words) (x : A) → reader e v ≡ Ok (x, u) → Made (λ d. key ∷ w d) ok (λ p d. t e (drop 1 p) d) v u x
    some e [] u x eq = absurd (err_ok 0 (x, u) (sym (need_none test (r e)) ∙ eq))
    some e (s ∷ v) u x eq = by_test (test (word_of s)) refl
      where
        by_test : (b : Bool) → test (word_of s) ≡ b → Made (λ d. key ∷ w d) ok (λ p d. t e (drop 1 p) d) (s ∷ v) u x
        by_test true hit =
            let k = one.some e v u x (sym (need_hit test s v (r e) hit) ∙ eq) in
            record { front = s ∷ k.front; split = ap (λ (l : Words). s ∷ l) k.split; derived = k.derived; good = k.good; words = let a = k.words in let b = needs.only (word_of s) hit in cc; value = k.value }
        by_test false miss = absurd (err_ok (suc (length v)) (x, u) (sym (need_miss test s v (r e) miss) ∙ eq))

    stop : (e : X) (v : Words) (left : ℕ) → reader e v ≡ Err left → Stopped (λ d. key ∷ w d) ok v left
    stop e [] left eq = record { front = []; rest = []; split = refl; size = err_left 0 left (sym (need_none test (r e)) ∙ eq); more = key ∷ w one.any; derived = one.any; good = one.any_ok; words = refl }
    stop e (s ∷ v) left eq = by_test (test (word_of s)) refl
      where
        by_test : (b : Bool) → test (word_of s) ≡ b → Stopped (λ d. key ∷ w d) ok (s ∷ v) left
        by_test true hit =
            let k = one.stop e v left (sym (need_hit test s v (r e) hit) ∙ eq) in
            record { front = s ∷ k.front; rest = k.rest; split = ap (λ (l : Words). s ∷ l) k.split; size = k.size; more = k.more; derived = k.derived; good = k.good; words = let a = k.words in let b = needs.only (word_of s) hit in cc }
        by_test false miss = record { front = []; rest = s ∷ v; split = refl; size = err_left (suc (length v)) left (sym (need_miss test s v (r e) miss) ∙ eq); more = key ∷ w one.any; derived = one.any; good = one.any_ok; words = refl }

    whole : (e : X) (d : D) (c u : Words) → ok d → ws c ≡ key ∷ w d → Fine c → starts ext (ws u) ≡ false → reader e (c ++ u) ≡ Ok (t e (drop 1 (ps (c ++ u))) d, u)
    whole e d [] u good same fine end = absurd cc
    whole e d (s ∷ c) u good same fine end =
        let first : word_of s ≡ key = cc in
        need_hit test s (c ++ u) (r e) (ap test first ∙ needs.hit) ∙ one.whole e d c u good (cc) fine.1 end

    same : (e : X) (front : Words) (s : Seen) (more others : Words) → reader e (front ++ s ∷ more) ≡ Err (suc (length more)) → reader e (front ++ s ∷ others) ≡ Err (suc (length others))
    same e [] s more others eq = by_test (test (word_of s)) refl
      where
        by_test : (b : Bool) → test (word_of s) ≡ b → reader e (s ∷ others) ≡ Err (suc (length others))
        by_test true hit =
            let k = one.stop e more (suc (length more)) (sym (need_hit test s more (r e) hit) ∙ eq) in
            absurd (omega (arith, ap length k.split, length-append k.front k.rest, k.size))
        by_test false miss = need_miss test s others (r e) miss
    same e (f ∷ front) s more others eq = by_test (test (word_of f)) refl
      where
        by_test : (b : Bool) → test (word_of f) ≡ b → reader e (f ∷ front ++ s ∷ others) ≡ Err (suc (length others))
        by_test true hit = need_hit test f (front ++ s ∷ others) (r e) hit ∙ one.same e front s more others (sym (need_hit test f (front ++ s ∷ more) (r e) hit) ∙ eq)
        by_test false miss =
            let l = err_left (suc (length (front ++ s ∷ more))) (suc (length more)) (sym (need_miss test f (front ++ s ∷ more) (r e) miss) ∙ eq) in
            absurd (omega (arith, l, length-append front (s ∷ more)))

    steady : (e : X) (front : Words) (s : Seen) (more others : Words) (x : A) → reader e (front ++ s ∷ more) ≡ Ok (x, s ∷ more) → reader e (front ++ s ∷ others) ≡ Ok (x, s ∷ others)
    steady e [] s more others x eq = by_test (test (word_of s)) refl
      where
        by_test : (b : Bool) → test (word_of s) ≡ b → reader e (s ∷ others) ≡ Ok (x, s ∷ others)
        by_test true hit =
            let k = one.some e more (s ∷ more) x (sym (need_hit test s more (r e) hit) ∙ eq) in
            absurd (omega (arith, ap length k.split, length-append k.front (s ∷ more)))
        by_test false miss = absurd (err_ok (suc (length more)) (x, s ∷ more) (sym (need_miss test s more (r e) miss) ∙ eq))
    steady e (f ∷ front) s more others x eq = by_test (test (word_of f)) refl
      where
        by_test : (b : Bool) → test (word_of f) ≡ b → reader e (f ∷ front ++ s ∷ others) ≡ Ok (x, s ∷ others)
        by_test true hit = need_hit test f (front ++ s ∷ others) (r e) hit ∙ one.steady e front s more others x (sym (need_hit test f (front ++ s ∷ more) (r e) hit) ∙ eq)
        by_test false miss = absurd (err_ok (suc (length (front ++ s ∷ more))) (x, s ∷ more) (sym (need_miss test f (front ++ s ∷ more) (r e) miss) ∙ eq))

-- a value of one word
pub record Takes {A D : Type 0} (value : Seen → Option A) (key : D → Word) (t : Place → D → A) : Type 0 where
  pub any : D
  pub some : (s : Seen) (a : A) → value s ≡ Some a → (d : D) × (word_of s ≡ key d) × (a ≡ t s.place d)
  pub again : (s : Seen) (d : D) → word_of s ≡ key d → fixed (key d) ≡ key d → value s ≡ Some (t s.place d)
  pub repaired : (d : D) → (other : D) × (key other ≡ fixed (key d))

take_hit : {A : Type 0} (value : Seen → Option A) (s : Seen) (v : Words) (a : A) → value s ≡ Some a → take_as value (s ∷ v) ≡ Ok (a, v)
unfolding take_as
take_hit value s v a hit = rw hit refl

take_miss : {A : Type 0} (value : Seen → Option A) (s : Seen) (v : Words) → value s ≡ None → take_as value (s ∷ v) ≡ Err (suc (length v))
unfolding take_as
take_miss value s v miss = rw miss refl

take_none : {A : Type 0} (value : Seen → Option A) → take_as value [] ≡ Err 0
unfolding take_as
take_none value = refl

-- one word
pub one : {X A D : Type 0} {value : Seen → Option A} {key : D → Word} {t : Place → D → A} → Takes value key t → Exact {X = X} {A = A} {D = D} (λ e v. take_as value v) (λ d. key d ∷ []) (λ d. Unit {0}) (λ e p d. t (place 0 p) d) none
one {X} {A} {D} {value} {key} {t} takes = record {
  any = takes.any;
  any_ok = tt;
  some = λ e v u x eq. some v u x eq;
  stop = λ e v left eq. stop v left eq;
  whole = λ e d c u good same fine end. whole d c u same fine;
  repaired = λ d good. let k = takes.repaired d in record { other = k.0; good = tt; words = ap (λ (l : Word). l ∷ []) k.1 };
  same = λ e front s more others eq. same front s more others eq;
  steady = λ e front s more others x eq. steady front s more others x eq;
}
  where
    some : (v u : Words) (x : A) → take_as value v ≡ Ok (x, u) → Made (λ d. key d ∷ []) (λ d. Unit {0}) (λ p d. t (place 0 p) d) v u x
    some [] u x eq = absurd (err_ok 0 (x, u) (sym (take_none value) ∙ eq))
    some (s ∷ v) u x eq = by_value (value s) refl
      where
        by_value : (o : Option A) → value s ≡ o → Made (λ d. key d ∷ []) (λ d. Unit {0}) (λ p d. t (place 0 p) d) (s ∷ v) u x
        by_value None miss = absurd (err_ok (suc (length v)) (x, u) (sym (take_miss value s v miss) ∙ eq))
        by_value (Some a) hit =
            let k = takes.some s a hit in
            let same = sym (take_hit value s v a hit) ∙ eq in
            record { front = s ∷ []; split = ap (λ (l : Words). s ∷ l) (ok_rest a x v u same); derived = k.0; good = tt; words = ap (λ (l : Word). l ∷ []) k.1; value = sym (ok_value a x v u same) ∙ k.2 }

    stop : (v : Words) (left : ℕ) → take_as value v ≡ Err left → Stopped (λ d. key d ∷ []) (λ d. Unit {0}) v left
    stop [] left eq = record { front = []; rest = []; split = refl; size = err_left 0 left (sym (take_none value) ∙ eq); more = key takes.any ∷ []; derived = takes.any; good = tt; words = refl }
    stop (s ∷ v) left eq = by_value (value s) refl
      where
        by_value : (o : Option A) → value s ≡ o → Stopped (λ d. key d ∷ []) (λ d. Unit {0}) (s ∷ v) left
        by_value (Some a) hit = absurd (Ok-Err (a, v) left (sym (take_hit value s v a hit) ∙ eq))
        by_value None miss = record { front = []; rest = s ∷ v; split = refl; size = err_left (suc (length v)) left (sym (take_miss value s v miss) ∙ eq); more = key takes.any ∷ []; derived = takes.any; good = tt; words = refl }

    whole : (d : D) (c u : Words) → ws c ≡ key d ∷ [] → Fine c → take_as value (c ++ u) ≡ Ok (t (place 0 (ps (c ++ u))) d, u)
    whole d [] u same fine = absurd cc
    whole d (s ∷ []) u same fine = let first : word_of s ≡ key d = cc in take_hit value s u (t s.place d) (takes.again s d first (sym (ap fixed first) ∙ fine.0 ∙ first))
    whole d (s ∷ f ∷ c) u same fine = absurd cc

    same : (front : Words) (s : Seen) (more others : Words) → take_as value (front ++ s ∷ more) ≡ Err (suc (length more)) → take_as value (front ++ s ∷ others) ≡ Err (suc (length others))
    same [] s more others eq = by_value (value s) refl
      where
        by_value : (o : Option A) → value s ≡ o → take_as value (s ∷ others) ≡ Err (suc (length others))
        by_value (Some a) hit = absurd (Ok-Err (a, more) (suc (length more)) (sym (take_hit value s more a hit) ∙ eq))
        by_value None miss = take_miss value s others miss
    same (f ∷ front) s more others eq = by_value (value f) refl
      where
        by_value : (o : Option A) → value f ≡ o → take_as value (f ∷ front ++ s ∷ others) ≡ Err (suc (length others))
        by_value (Some a) hit = absurd (Ok-Err (a, front ++ s ∷ more) (suc (length more)) (sym (take_hit value f (front ++ s ∷ more) a hit) ∙ eq))
        by_value None miss =
            let l = err_left (suc (length (front ++ s ∷ more))) (suc (length more)) (sym (take_miss value f (front ++ s ∷ more) miss) ∙ eq) in
            absurd (omega (arith, l, length-append front (s ∷ more)))

    steady : (front : Words) (s : Seen) (more others : Words) (x : A) → take_as value (front ++ s ∷ more) ≡ Ok (x, s ∷ more) → take_as value (front ++ s ∷ others) ≡ Ok (x, s ∷ others)
    steady [] s more others x eq = by_value (value s) refl
      where
        by_value : (o : Option A) → value s ≡ o → take_as value (s ∷ others) ≡ Ok (x, s ∷ others)
        by_value (Some a) hit = let l = ok_rest a x more (s ∷ more) (sym (take_hit value s more a hit) ∙ eq) in absurd (omega (arith, ap length l))
        by_value None miss = absurd (err_ok (suc (length more)) (x, s ∷ more) (sym (take_miss value s more miss) ∙ eq))
    steady (f ∷ front) s more others x eq = by_value (value f) refl
      where
        by_value : (o : Option A) → value f ≡ o → take_as value (f ∷ front ++ s ∷ others) ≡ Ok (x, s ∷ others)
        by_value (Some a) hit =
            let e = sym (take_hit value f (front ++ s ∷ more) a hit) ∙ eq in
            let l = ok_rest a x (front ++ s ∷ more) (s ∷ more) e in
            let k = seam front (s ∷ more) [] (s ∷ more) l refl in
            take_hit value f (front ++ s ∷ others) a hit ∙ (let a1 = ok_value a x (front ++ s ∷ more) (s ∷ more) e in let f1 = k.fronts in rw (a1, f1) refl)
        by_value None miss = absurd (err_ok (suc (length (front ++ s ∷ more))) (x, s ∷ more) (sym (take_miss value f (front ++ s ∷ more) miss) ∙ eq))
