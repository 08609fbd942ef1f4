-- a reader of parts, as many as there are
use Rattle.std.proofs.Common.{◌≡◌, ℕ, ◌+◌, ◌≤◌, zero, suc, Bool, true, false, cond, List, [], ◌∷◌, ◌++◌, length, drop, refl, sym, ◌∙◌, ap, append_assoc, arith, Ok, Err}
use Rattle.std.proofs.lemmas.List.{append-nil, length-append}
use Rattle.tiql_tree.specs.Words.{Word}
use Rattle.tiql_tree.specs.Trees.{Places}
use Rattle.tiql_read.specs.Steps.{Words, Reading, ◌>>=◌, begins}
use Rattle.tiql_read.proofs.Exact.{ws, starts, none, Exact, length-ws}
use Rattle.std.specs.List.{flat_map}
use Rattle.tiql_read.specs.Steps.{more_at, many_at}
use Rattle.tiql_read.proofs.Rules.{done}
use Rattle.tiql_read.proofs.Chains.{bind}
use Rattle.tiql_read.proofs.Branches.Either.{one_way, other_way}
use Rattle.tiql_read.proofs.Branches.{Either, either_words, either_ok, either_tree, branch, recast, wider}

-- in an environment with more in it
pub under : {X Y A D : Type 0} {r : X → Words → Reading A} {w : D → List Word} {ok : D → Type 0} {t : X → Places → D → A} {ext : Word → Bool} (f : Y → X) → Exact r w ok t ext → Exact {X = Y} {A = A} {D = D} (λ y v. r (f y) v) w ok (λ y p d. t (f y) p d) ext
under f one = record {
  any = one.any;
  any_ok = one.any_ok;
  some = λ y v u x eq. one.some (f y) v u x eq;
  stop = λ y v left eq. one.stop (f y) v left eq;
  whole = λ y d c u good same fine end. one.whole (f y) d c u good same fine end;
  repaired = one.repaired;
  same = λ y front s more others eq. one.same (f y) front s more others eq;
  steady = λ y front s more others x eq. one.steady (f y) front s more others x eq;
}

abbrev pub many_ok : {D : Type 0} → (D → Type 0) → List D → Type 0
many_ok ok [] = Unit {0}
many_ok ok (d ∷ ds) = ok d × many_ok ok ds

abbrev pub many_tree : {X A D : Type 0} → (D → List Word) → (X → Places → D → A) → X → Places → List D → List A
many_tree w t e p [] = []
many_tree w t e p (d ∷ ds) = t e p d ∷ many_tree w t e (drop (length (w d)) p) ds

-- good parts, of which there are at most so many
abbrev upto : {D : Type 0} → (D → Type 0) → ℕ → List D → Type 0
upto ok n [] = Unit {0}
upto ok zero (d ∷ ds) = ⊥
upto ok (suc n) (d ∷ ds) = ok d × upto ok n ds

upto_many : {D : Type 0} (ok : D → Type 0) (n : ℕ) (ds : List D) → upto ok n ds → many_ok ok ds
upto_many ok n [] good = tt
upto_many ok zero (d ∷ ds) good = absurd good
upto_many ok (suc n) (d ∷ ds) good = (good.0, upto_many ok n ds good.1)

abbrev ahead : {A : Type 0} → A → List A × Words → Reading (List A)
ahead a y = Ok (a ∷ y.0, y.1)

long : (test : Word → Bool) (w : List Word) → starts test (w ++ []) ≡ true → 1 ≤ length w
long test [] h = absurd cc
long test (x ∷ w) h = omega arith

longer : (test : Word → Bool) (front : Words) (w : List Word) → ws front ≡ w → starts test (w ++ []) ≡ true → 1 ≤ length front
longer test front w same h = let l = long test w h in omega (arith, l, length-ws front, ap length same)

module _ {X A D : Type 0} {r1 : X → Words → Reading A} {w1 : D → List Word} {ok1 : D → Type 0} {t1 : X → Places → D → A} {ext1 : Word → Bool} (part : Exact r1 w1 ok1 t1 ext1) (test ext : Word → Bool)
    (first : (d : D) (us : List Word) → ok1 d → starts test (w1 d ++ us) ≡ true) (apart : (d : D) (us : List Word) → ok1 d → starts ext1 (w1 d ++ us) ≡ false) (ends0 : (us : List Word) → starts ext us ≡ false → starts test us ≡ false) (ends1 : (us : List Word) → starts ext us ≡ false → starts ext1 us ≡ false) where
  at : ℕ → X → Words → Reading (List A)
  at n e v = more_at test (r1 e) n v

  to_list : Either (D × (List D × Unit {0})) (Unit {0}) → List D
  to_list (one_way d) = d.0 ∷ d.1.0
  to_list (other_way d) = []

  of_list : List D → Either (D × (List D × Unit {0})) (Unit {0})
  of_list [] = other_way tt
  of_list (d ∷ ds) = one_way (d, (ds, tt))

  -- the parts behind a part do not go on with it
  parted : (n : ℕ) (d : List D × Unit {0}) (us : List Word) → upto ok1 n d.0 × Unit {0} → starts ext us ≡ false → starts ext1 ((flat_map w1 d.0 ++ []) ++ us) ≡ false
  parted n d us good end = by_parts n d.0 good.0
    where
      by_parts : (n : ℕ) (ds : List D) → upto ok1 n ds → starts ext1 ((flat_map w1 ds ++ []) ++ us) ≡ false
      by_parts n [] good = ends1 us end
      by_parts zero (d ∷ ds) good = absurd good
      by_parts (suc n) (d ∷ ds) good =
          ap (starts ext1) (append_assoc (w1 d ++ flat_map w1 ds) [] us ∙ append_assoc (w1 d) (flat_map w1 ds) us) ∙ apart d (flat_map w1 ds ++ us) good.0

  step : (n : ℕ) → Exact {X = X} {A = List A} {D = List D} (at n) (flat_map w1) (upto ok1 n) (many_tree w1 t1) ext →
      Exact {X = X} {A = List A} {D = Either (D × (List D × Unit {0})) (Unit {0})} (λ e v. cond (begins test v) (r1 e v >>= λ x. at n e x.1 >>= λ y. Ok (x.0 ∷ y.0, y.1)) (Ok ([], v)))
      (either_words (λ (d : D × (List D × Unit {0})). w1 d.0 ++ (flat_map w1 d.1.0 ++ [])) (λ d. [])) (either_ok (λ (d : D × (List D × Unit {0})). ok1 d.0 × (upto ok1 n d.1.0 × Unit {0})) (λ d. Unit {0}))
      (either_tree (λ e p d. t1 e p d.0 ∷ many_tree w1 t1 e (drop (length (w1 d.0)) p) d.1.0) (λ e p d. [])) ext
  step n more =
      branch (bind part (bind (under (λ (e : X × A). e.0) more) (wider (done (λ (e : (X × A) × List A). e.0.1 ∷ e.1)) ext (λ us h. no_end us)) (λ d us good end. end)) (parted n))
      (done (λ (e : X). [])) test ext
      (λ d us good. ap (starts test) (append_assoc (w1 d.0) (flat_map w1 d.1.0 ++ []) us) ∙ first d.0 ((flat_map w1 d.1.0 ++ []) ++ us) good.0)
      (λ d us good end. ends0 us end) (λ us end. end) (λ us end. no_end us)
    where
      no_end : (us : List Word) → starts none us ≡ false
      no_end [] = refl
      no_end (u ∷ us) = refl

  list_words : (d : Either (D × (List D × Unit {0})) (Unit {0})) → flat_map w1 (to_list d) ≡ either_words (λ (d : D × (List D × Unit {0})). w1 d.0 ++ (flat_map w1 d.1.0 ++ [])) (λ d. []) d
  unfolding to_list
  list_words (one_way d) = ap (λ (y : List Word). w1 d.0 ++ y) (sym (append-nil (flat_map w1 d.1.0)))
  list_words (other_way d) = refl

  list_ok : (n : ℕ) (d : Either (D × (List D × Unit {0})) (Unit {0})) → either_ok (λ (d : D × (List D × Unit {0})). ok1 d.0 × (upto ok1 n d.1.0 × Unit {0})) (λ d. Unit {0}) d → upto ok1 (suc n) (to_list d)
  unfolding to_list
  list_ok n (one_way d) good = (good.0, good.1.0)
  list_ok n (other_way d) good = tt

  ok_list : (n : ℕ) (d : List D) → upto ok1 (suc n) d → either_ok (λ (d : D × (List D × Unit {0})). ok1 d.0 × (upto ok1 n d.1.0 × Unit {0})) (λ d. Unit {0}) (of_list d)
  unfolding of_list
  ok_list n [] good = tt
  ok_list n (d ∷ ds) good = (good.0, (good.1, tt))

  list_tree : (e : X) (p : Places) (d : Either (D × (List D × Unit {0})) (Unit {0})) → many_tree w1 t1 e p (to_list d) ≡ either_tree (λ e p d. t1 e p d.0 ∷ many_tree w1 t1 e (drop (length (w1 d.0)) p) d.1.0) (λ e p d. []) e p d
  unfolding to_list
  list_tree e p (one_way d) = refl
  list_tree e p (other_way d) = refl

  list_onto : (n : ℕ) (d : List D) → upto ok1 n d → to_list (of_list d) ≡ d
  unfolding to_list of_list
  list_onto n [] good = refl
  list_onto n (d ∷ ds) good = refl

  nothing : Exact {X = X} {A = List A} {D = List D} (λ e v. Ok ([], v)) (flat_map w1) (upto ok1 0) (many_tree w1 t1) ext
  nothing = recast (done (λ (e : X). [])) (flat_map w1) (upto ok1 0) (many_tree w1 t1) ext (λ (d : Unit {0}). []) (λ d. tt) (λ d. refl) (λ d good. tt) (λ d good. tt) (λ e p d. refl) onto (λ us end. no_end us)
    where
      no_end : (us : List Word) → starts none us ≡ false
      no_end [] = refl
      no_end (u ∷ us) = refl

      onto : (d : List D) → upto ok1 0 d → [] ≡ d
      onto [] good = refl
      onto (d ∷ ds) good = absurd good

  at_most : (n : ℕ) → Exact {X = X} {A = List A} {D = List D} (at n) (flat_map w1) (upto ok1 n) (many_tree w1 t1) ext
  unfolding at more_at
  at_most zero = nothing
  at_most (suc n) = recast (step n (at_most n)) (flat_map w1) (upto ok1 (suc n)) (many_tree w1 t1) ext to_list of_list list_words (list_ok n) (ok_list n) list_tree (list_onto (suc n)) (λ us end. end)

  -- so many parts are enough where there are no more words
  same_room : (n m : ℕ) (e : X) (v : Words) → length v ≤ n → length v ≤ m → at n e v ≡ at m e v
  unfolding at more_at
  same_room zero zero e v le le2 = refl
  same_room zero (suc m) e [] le le2 = refl
  same_room zero (suc m) e (s ∷ v) le le2 = absurd (omega arith)
  same_room (suc n) zero e [] le le2 = refl
  same_room (suc n) zero e (s ∷ v) le le2 = absurd (omega arith)
  same_room (suc n) (suc m) e v le le2 = by_test (begins test v) refl (λ u small. same_room n m e u (omega arith) (omega arith))
    where
      by_test : (b : Bool) → begins test v ≡ b → ((u : Words) → suc (length u) ≤ length v → more_at test (r1 e) n u ≡ more_at test (r1 e) m u) →
          cond b (r1 e v >>= λ x. more_at test (r1 e) n x.1 >>= ahead x.0) (Ok ([], v)) ≡ cond b (r1 e v >>= λ x. more_at test (r1 e) m x.1 >>= ahead x.0) (Ok ([], v))
      by_test false is deeper = refl
      by_test true is deeper = go (r1 e v) refl
        where
          go : (q : Reading A) → r1 e v ≡ q → (q >>= λ x. more_at test (r1 e) n x.1 >>= ahead x.0) ≡ (q >>= λ x. more_at test (r1 e) m x.1 >>= ahead x.0)
          go (Err left) read = refl
          go (Ok x) read =
              let k = part.some e v x.1 x.0 read in
              let l = longer test k.front (w1 k.derived) k.words (first k.derived [] k.good) in
              ap (λ (z : Reading (List A)). z >>= ahead x.0) (deeper x.1 (omega (arith, l, ap length k.split, length-append k.front x.1)))

  all_upto : (n : ℕ) (ds : List D) → many_ok ok1 ds → length (flat_map w1 ds) ≤ n → upto ok1 n ds
  all_upto n [] good le = tt
  all_upto zero (d ∷ ds) good le = absurd (omega (arith, long test (w1 d) (first d [] good.0), length-append (w1 d) (flat_map w1 ds)))
  all_upto (suc n) (d ∷ ds) good le = (good.0, all_upto n ds good.1 (omega (arith, long test (w1 d) (first d [] good.0), length-append (w1 d) (flat_map w1 ds))))

  -- all the parts that follow
  pub many : Exact {X = X} {A = List A} {D = List D} (λ e v. many_at test (r1 e) v) (flat_map w1) (many_ok ok1) (many_tree w1 t1) ext
  unfolding at many_at
  many = record {
    any = [];
    any_ok = tt;
    some = λ e v u x eq. let k = (at_most (length v)).some e v u x eq in record { front = k.front; split = k.split; derived = k.derived; good = upto_many ok1 (length v) k.derived k.good; words = k.words; value = k.value };
    stop = λ e v left eq. let k = (at_most (length v)).stop e v left eq in record { front = k.front; rest = k.rest; split = k.split; size = k.size; more = k.more; derived = k.derived; good = upto_many ok1 (length v) k.derived k.good; words = k.words };
    whole = λ e d c u good same fine end. (at_most (length (c ++ u))).whole e d c u (all_upto (length (c ++ u)) d good (omega (arith, length-append c u, length-ws c, ap length same))) same fine end;
    repaired = λ d good.
        let k = (at_most (length (flat_map w1 d))).repaired d (all_upto (length (flat_map w1 d)) d good (omega arith)) in
        record { other = k.other; good = upto_many ok1 (length (flat_map w1 d)) k.other k.good; words = k.words };
    same = λ e front s more others eq.
        let n : ℕ = length (front ++ s ∷ more) + length (front ++ s ∷ others) in
        same_room (length (front ++ s ∷ others)) n e (front ++ s ∷ others) (omega arith) (omega arith)
        ∙ (at_most n).same e front s more others (same_room n (length (front ++ s ∷ more)) e (front ++ s ∷ more) (omega arith) (omega arith) ∙ eq);
    steady = λ e front s more others x eq.
        let n : ℕ = length (front ++ s ∷ more) + length (front ++ s ∷ others) in
        same_room (length (front ++ s ∷ others)) n e (front ++ s ∷ others) (omega arith) (omega arith)
        ∙ (at_most n).steady e front s more others x (same_room n (length (front ++ s ∷ more)) e (front ++ s ∷ more) (omega arith) (omega arith) ∙ eq);
  }
