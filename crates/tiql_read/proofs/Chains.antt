-- a reader behind another one
use Rattle.std.proofs.Common.{◌≡◌, ℕ, suc, Bool, false, List, [], ◌∷◌, ◌++◌, length, map, drop, refl, sym, ◌∙◌, ap, subst, append_assoc, Ok, Err}
use Rattle.tiql_tree.specs.Words.{Word}
use Rattle.tiql_tree.specs.Trees.{Places}
use Rattle.tiql_read.specs.declared.word.Seen.{Seen}
use Rattle.tiql_read.specs.Steps.{Words, Reading, ◌>>=◌}
use Rattle.tiql_read.proofs.Exact.{ws, ps, fixed, Fine, starts, Stopped, Made, Exact, ws-append, behind_ps, fixed-append, fine_front, fine_back, halves, seam, err_left, err_ok}

bind_ok : {A B : Type 0} (q : Reading A) (a : A) (m : Words) (f : A × Words → Reading B) → q ≡ Ok (a, m) → (q >>= f) ≡ f (a, m)
bind_ok q a m f e = ap (λ (y : Reading _). y >>= f) e

bind_err : {A B : Type 0} (q : Reading A) (left : ℕ) (f : A × Words → Reading B) → q ≡ Err left → (q >>= f) ≡ Err left
bind_err q left f e = ap (λ (y : Reading _). y >>= f) e

-- the front of a list whose end is read by another reader
pub record Within (front : Words) (s : Seen) (more front1 m : Words) : Type 0 where
  pub inner : Words
  pub outer : front ≡ front1 ++ inner
  pub rest : m ≡ inner ++ s ∷ more

pub within : (front : Words) (s : Seen) (more front1 m front2 rest : Words) → front ++ s ∷ more ≡ front1 ++ m → m ≡ front2 ++ rest → length rest ≡ suc (length more) → Within front s more front1 m
within front s more front1 m front2 rest split split2 size =
    let whole : front ++ s ∷ more ≡ (front1 ++ front2) ++ rest = split ∙ ap (λ (l : Words). front1 ++ l) split2 ∙ sym (append_assoc front1 front2 rest) in
    let k = seam front (s ∷ more) (front1 ++ front2) rest whole (sym size) in
    record { inner = front2; outer = k.fronts; rest = split2 ∙ ap (λ (l : Words). front2 ++ l) (sym k.backs) }

module _ {X A B D E : Type 0} {r1 : X → Words → Reading A} {r2 : X × A → Words → Reading B} {w1 : D → List Word} {w2 : E → List Word} {ok1 : D → Type 0} {ok2 : E → Type 0} {t1 : X → Places → D → A} {t2 : X × A → Places → E → B} {ext1 ext2 : Word → Bool} (one : Exact r1 w1 ok1 t1 ext1) (two : Exact r2 w2 ok2 t2 ext2) where
  reader : X → Words → Reading B
  reader e v = r1 e v >>= λ x. r2 (e, x.0) x.1

  both_words : D × E → List Word
  both_words d = w1 d.0 ++ w2 d.1

  both_ok : D × E → Type 0
  both_ok d = ok1 d.0 × ok2 d.1

  both_tree : X → Places → D × E → B
  both_tree e p d = t2 (e, t1 e p d.0) (drop (length (w1 d.0)) p) d.1

  bind_some : (e : X) (v u : Words) (x : B) → reader e v ≡ Ok (x, u) → Made both_words both_ok (both_tree e) v u x
  unfolding reader both_words both_ok both_tree
  bind_some e v u x eq = go (r1 e v) refl
    where
      go : (q : Reading A) → r1 e v ≡ q → Made (λ (d : D × E). w1 d.0 ++ w2 d.1) (λ d. ok1 d.0 × ok2 d.1) (λ p d. t2 (e, t1 e p d.0) (drop (length (w1 d.0)) p) d.1) v u x
      go (Err left) is = absurd (err_ok left (x, u) (sym (bind_err (r1 e v) left (λ y. r2 (e, y.0) y.1) is) ∙ eq))
      go (Ok (a, m)) is =
          let k = one.some e v m a is in
          let l = two.some (e, a) m u x (sym (bind_ok (r1 e v) a m (λ y. r2 (e, y.0) y.1) is) ∙ eq) in
          let places = behind_ps v k.front m (w1 k.derived) k.split k.words in
          record {
            front = k.front ++ l.front;
            split = k.split ∙ ap (λ (y : Words). k.front ++ y) l.split ∙ sym (append_assoc k.front l.front u);
            derived = (k.derived, l.derived);
            good = (k.good, l.good);
            words = ws-append k.front l.front ∙ ap (λ (y : List Word). y ++ ws l.front) k.words ∙ ap (λ (y : List Word). w1 k.derived ++ y) l.words;
            value = l.value ∙ ap (λ (y : A). t2 (e, y) (ps m) l.derived) k.value ∙ ap (λ (y : Places). t2 (e, t1 e (ps v) k.derived) y l.derived) (sym places);
          }

  bind_stop : (e : X) (v : Words) (left : ℕ) → reader e v ≡ Err left → Stopped both_words both_ok v left
  unfolding reader both_words both_ok
  bind_stop e v left eq = go (r1 e v) refl
    where
      go : (q : Reading A) → r1 e v ≡ q → Stopped (λ (d : D × E). w1 d.0 ++ w2 d.1) (λ d. ok1 d.0 × ok2 d.1) v left
      go (Err at) is =
          let k = one.stop e v at is in
          record {
            front = k.front;
            rest = k.rest;
            split = k.split;
            size = k.size ∙ err_left at left (sym (bind_err (r1 e v) at (λ y. r2 (e, y.0) y.1) is) ∙ eq);
            more = k.more ++ w2 two.any;
            derived = (k.derived, two.any);
            good = (k.good, two.any_ok);
            words = sym (append_assoc (ws k.front) k.more (w2 two.any)) ∙ ap (λ (y : List Word). y ++ w2 two.any) k.words;
          }
      go (Ok (a, m)) is =
          let k = one.some e v m a is in
          let l = two.stop (e, a) m left (sym (bind_ok (r1 e v) a m (λ y. r2 (e, y.0) y.1) is) ∙ eq) in
          record {
            front = k.front ++ l.front;
            rest = l.rest;
            split = k.split ∙ ap (λ (y : Words). k.front ++ y) l.split ∙ sym (append_assoc k.front l.front l.rest);
            size = l.size;
            more = l.more;
            derived = (k.derived, l.derived);
            good = (k.good, l.good);
            words = ap (λ (y : List Word). y ++ l.more) (ws-append k.front l.front) ∙ append_assoc (ws k.front) (ws l.front) l.more ∙ ap (λ (y : List Word). y ++ (ws l.front ++ l.more)) k.words ∙ ap (λ (y : List Word). w1 k.derived ++ y) l.words;
          }

  bind_whole : ((d : E) (us : List Word) → ok2 d → starts ext2 us ≡ false → starts ext1 (w2 d ++ us) ≡ false) → (e : X) (d : D × E) (c u : Words) → both_ok d → ws c ≡ both_words d → Fine c → starts ext2 (ws u) ≡ false → reader e (c ++ u) ≡ Ok (both_tree e (ps (c ++ u)) d, u)
  unfolding reader both_words both_ok both_tree
  bind_whole ends e d c u good same fine end =
      let h = halves c (w1 d.0) (w2 d.1) same in
      let line : c ++ u ≡ h.front ++ (h.back ++ u) = ap (λ (y : Words). y ++ u) h.split ∙ append_assoc h.front h.back u in
      let fine2 : Fine (h.front ++ h.back) = subst Fine h.split fine in
      let apart : starts ext1 (ws (h.back ++ u)) ≡ false = ap (starts ext1) (ws-append h.back u ∙ ap (λ (y : List Word). y ++ ws u) h.second) ∙ ends d.1 (ws u) good.1 end in
      let k = one.whole e d.0 h.front (h.back ++ u) good.0 h.first (fine_front h.front h.back fine2) apart in
      let l = two.whole (e, t1 e (ps (h.front ++ (h.back ++ u))) d.0) d.1 h.back u good.1 h.second (fine_back h.front h.back fine2) end in
      let places = behind_ps (h.front ++ (h.back ++ u)) h.front (h.back ++ u) (w1 d.0) refl h.first in
      let all : (r1 e (h.front ++ (h.back ++ u)) >>= λ y. r2 (e, y.0) y.1) ≡ Ok (t2 (e, t1 e (ps (h.front ++ (h.back ++ u))) d.0) (drop (length (w1 d.0)) (ps (h.front ++ (h.back ++ u)))) d.1, u) =
      bind_ok (r1 e (h.front ++ (h.back ++ u))) (t1 e (ps (h.front ++ (h.back ++ u))) d.0) (h.back ++ u) (λ y. r2 (e, y.0) y.1) k
      ∙ l ∙ ap (λ (y : Places). ok (t2 (e, t1 e (ps (h.front ++ (h.back ++ u))) d.0) y d.1)) (sym places) in
      subst (λ (y : Words). (r1 e y >>= λ z. r2 (e, z.0) z.1) ≡ Ok (t2 (e, t1 e (ps y) d.0) (drop (length (w1 d.0)) (ps y)) d.1, u)) (sym line) all
    where
      ok : B → Reading B
      ok b = Ok (b, u)

  bind_same : (e : X) (front : Words) (s : Seen) (more others : Words) → reader e (front ++ s ∷ more) ≡ Err (suc (length more)) → reader e (front ++ s ∷ others) ≡ Err (suc (length others))
  unfolding reader
  bind_same e front s more others eq = go (r1 e (front ++ s ∷ more)) refl
    where
      f : A × Words → Reading B
      f y = r2 (e, y.0) y.1

      inside : (a : A) (front1 inner : Words) → r1 e (front1 ++ (inner ++ s ∷ more)) ≡ Ok (a, inner ++ s ∷ more) → r2 (e, a) (inner ++ s ∷ more) ≡ Err (suc (length more)) → (r1 e (front1 ++ (inner ++ s ∷ others)) >>= λ y. r2 (e, y.0) y.1) ≡ Err (suc (length others))
      inside a front1 [] is wrong =
          bind_ok (r1 e (front1 ++ s ∷ others)) a (s ∷ others) (λ y. r2 (e, y.0) y.1) (one.steady e front1 s more others a is) ∙ two.same (e, a) [] s more others wrong
      inside a front1 (y ∷ inner) is wrong =
          bind_ok (r1 e (front1 ++ y ∷ (inner ++ s ∷ others))) a (y ∷ (inner ++ s ∷ others)) (λ y. r2 (e, y.0) y.1) (one.steady e front1 y (inner ++ s ∷ more) (inner ++ s ∷ others) a is)
          ∙ two.same (e, a) (y ∷ inner) s more others wrong

      go : (q : Reading A) → r1 e (front ++ s ∷ more) ≡ q → (r1 e (front ++ s ∷ others) >>= λ y. r2 (e, y.0) y.1) ≡ Err (suc (length others))
      go (Err at) is =
          let l = err_left at (suc (length more)) (sym (bind_err (r1 e (front ++ s ∷ more)) at (λ y. r2 (e, y.0) y.1) is) ∙ eq) in
          bind_err (r1 e (front ++ s ∷ others)) (suc (length others)) (λ y. r2 (e, y.0) y.1) (one.same e front s more others (is ∙ ap (λ n. Err n) l))
      go (Ok (a, m)) is =
          let k = one.some e (front ++ s ∷ more) m a is in
          let wrong = sym (bind_ok (r1 e (front ++ s ∷ more)) a m (λ y. r2 (e, y.0) y.1) is) ∙ eq in
          let l = two.stop (e, a) m (suc (length more)) wrong in
          let n = within front s more k.front m l.front l.rest k.split l.split l.size in
          let there : front ++ s ∷ more ≡ k.front ++ (n.inner ++ s ∷ more) = k.split ∙ ap (λ (y : Words). k.front ++ y) n.rest in
          let is2 : r1 e (k.front ++ (n.inner ++ s ∷ more)) ≡ Ok (a, n.inner ++ s ∷ more) = ap (r1 e) (sym there) ∙ is ∙ ap (λ (y : Words). ok a y) n.rest in
          let other : front ++ s ∷ others ≡ k.front ++ (n.inner ++ s ∷ others) = ap (λ (y : Words). y ++ s ∷ others) n.outer ∙ append_assoc k.front n.inner (s ∷ others) in
          ap (λ (y : Words). r1 e y >>= λ z. r2 (e, z.0) z.1) other ∙ inside a k.front n.inner is2 (ap (r2 (e, a)) (sym n.rest) ∙ wrong)
        where
          ok : A → Words → Reading A
          ok a y = Ok (a, y)

  bind_steady : (e : X) (front : Words) (s : Seen) (more others : Words) (x : B) → reader e (front ++ s ∷ more) ≡ Ok (x, s ∷ more) → reader e (front ++ s ∷ others) ≡ Ok (x, s ∷ others)
  unfolding reader
  bind_steady e front s more others x eq = go (r1 e (front ++ s ∷ more)) refl
    where
      inside : (a : A) (front1 inner : Words) → r1 e (front1 ++ (inner ++ s ∷ more)) ≡ Ok (a, inner ++ s ∷ more) → r2 (e, a) (inner ++ s ∷ more) ≡ Ok (x, s ∷ more) → (r1 e (front1 ++ (inner ++ s ∷ others)) >>= λ y. r2 (e, y.0) y.1) ≡ Ok (x, s ∷ others)
      inside a front1 [] is right =
          bind_ok (r1 e (front1 ++ s ∷ others)) a (s ∷ others) (λ y. r2 (e, y.0) y.1) (one.steady e front1 s more others a is) ∙ two.steady (e, a) [] s more others x right
      inside a front1 (y ∷ inner) is right =
          bind_ok (r1 e (front1 ++ y ∷ (inner ++ s ∷ others))) a (y ∷ (inner ++ s ∷ others)) (λ y. r2 (e, y.0) y.1) (one.steady e front1 y (inner ++ s ∷ more) (inner ++ s ∷ others) a is)
          ∙ two.steady (e, a) (y ∷ inner) s more others x right

      ok : A → Words → Reading A
      ok a y = Ok (a, y)

      go : (q : Reading A) → r1 e (front ++ s ∷ more) ≡ q → (r1 e (front ++ s ∷ others) >>= λ y. r2 (e, y.0) y.1) ≡ Ok (x, s ∷ others)
      go (Err at) is = absurd (err_ok at (x, s ∷ more) (sym (bind_err (r1 e (front ++ s ∷ more)) at (λ y. r2 (e, y.0) y.1) is) ∙ eq))
      go (Ok (a, m)) is =
          let k = one.some e (front ++ s ∷ more) m a is in
          let right = sym (bind_ok (r1 e (front ++ s ∷ more)) a m (λ y. r2 (e, y.0) y.1) is) ∙ eq in
          let l = two.some (e, a) m (s ∷ more) x right in
          let n = within front s more k.front m l.front (s ∷ more) k.split l.split refl in
          let there : front ++ s ∷ more ≡ k.front ++ (n.inner ++ s ∷ more) = k.split ∙ ap (λ (y : Words). k.front ++ y) n.rest in
          let is2 : r1 e (k.front ++ (n.inner ++ s ∷ more)) ≡ Ok (a, n.inner ++ s ∷ more) = ap (r1 e) (sym there) ∙ is ∙ ap (λ (y : Words). ok a y) n.rest in
          let other : front ++ s ∷ others ≡ k.front ++ (n.inner ++ s ∷ others) = ap (λ (y : Words). y ++ s ∷ others) n.outer ∙ append_assoc k.front n.inner (s ∷ others) in
          ap (λ (y : Words). r1 e y >>= λ z. r2 (e, z.0) z.1) other ∙ inside a k.front n.inner is2 (ap (r2 (e, a)) (sym n.rest) ∙ right)

  -- what the second reader reads stands behind what the first one reads, which it does not lengthen
  pub bind : ((d : E) (us : List Word) → ok2 d → starts ext2 us ≡ false → starts ext1 (w2 d ++ us) ≡ false) → Exact {X = X} {A = B} {D = D × E} (λ e v. r1 e v >>= λ x. r2 (e, x.0) x.1) (λ d. w1 d.0 ++ w2 d.1) (λ d. ok1 d.0 × ok2 d.1) (λ e p d. t2 (e, t1 e p d.0) (drop (length (w1 d.0)) p) d.1) ext2
  unfolding reader both_words both_ok both_tree
  bind ends = record {
    any = (one.any, two.any);
    any_ok = (one.any_ok, two.any_ok);
    some = bind_some;
    stop = bind_stop;
    whole = bind_whole ends;
    repaired = λ d good.
        let k = one.repaired d.0 good.0 in let l = two.repaired d.1 good.1 in
        record { other = (k.other, l.other); good = (k.good, l.good); words = ap (λ (y : List Word). y ++ w2 l.other) k.words ∙ ap (λ (y : List Word). map fixed (w1 d.0) ++ y) l.words ∙ sym (fixed-append (w1 d.0) (w2 d.1)) };
    same = bind_same;
    steady = bind_steady;
  }
