-- parts that may be missing, and parts between words
use Rattle.std.proofs.Common.{◌≡◌, ℕ, ◌+◌, Bool, true, false, cond, List, [], ◌∷◌, ◌++◌, length, drop, codes, refl, sym, ◌∙◌, ap, append_assoc, arith, Ok}
use Rattle.std.proofs.lemmas.List.{append-nil, length-append}
use Rattle.std.specs.declared.option.Option.{Option}
use Rattle.std.specs.declared.option.Option.TheVariants.{None, Some}
use Rattle.tiql_tree.specs.Words.{Word}
use Rattle.tiql_tree.specs.Trees.{Places}
use Rattle.tiql_read.specs.Steps.{Words, Reading, ◌>>=◌, need, begins}
use Rattle.tiql_read.proofs.Exact.{starts, none, Exact}
use Rattle.std.proofs.Common.{◌||◌}
use Rattle.std.proofs.lemmas.List.{drop-drop}
use Rattle.std.specs.List.{flat_map}
use Rattle.tiql_tree.specs.Words.{Several, parts_of, with_between, sign}
use Rattle.tiql_tree.specs.Grammar.{comma, optional}
use Rattle.tiql_tree.specs.Trees.{laid}
use Rattle.tiql_read.specs.Steps.{is_sign, many_at, next_at, list_at}
use Rattle.tiql_read.proofs.Rules.{Needs, done, word}
use Rattle.tiql_read.proofs.Chains.{bind}
use Rattle.tiql_read.proofs.Branches.Either.{one_way, other_way}
use Rattle.tiql_read.proofs.Branches.{Either, either_words, either_ok, either_tree, branch, recast, wider}
use Rattle.tiql_read.proofs.Many.{under, many, many_ok, many_tree}
use Rattle.tiql_read.proofs.WordTests.{sign_needs}
use Rattle.std.proofs.lemmas.Bool.{or_parts}

abbrev pub or_else : (Word → Bool) → (Word → Bool) → Word → Bool
or_else p q word = p word || q word

pub or_first : (p q : Word → Bool) (us : List Word) → starts (or_else p q) us ≡ false → starts p us ≡ false
or_first p q [] h = refl
or_first p q (u ∷ us) h = (or_parts (p u) (q u) h).0

pub or_second : (p q : Word → Bool) (us : List Word) → starts (or_else p q) us ≡ false → starts q us ≡ false
or_second p q [] h = refl
or_second p q (u ∷ us) h = (or_parts (p u) (q u) h).1

pub no_end : (us : List Word) → starts none us ≡ false
no_end [] = refl
no_end (u ∷ us) = refl

-- a value of what was read before, which nothing may follow that goes on with it
pub value : {X A : Type 0} (f : X → A) (ext : Word → Bool) → Exact {X = X} {A = A} {D = Unit {0}} (λ e v. Ok (f e, v)) (λ d. []) (λ d. Unit {0}) (λ e p d. f e) ext
value f ext = wider (done f) ext (λ us h. no_end us)

abbrev pub maybe_ok : {D : Type 0} → (D → Type 0) → Option D → Type 0
maybe_ok ok None = Unit {0}
maybe_ok ok (Some d) = ok d

abbrev pub maybe_tree : {X A D : Type 0} → (X → A) → (X → Places → D → A) → X → Places → Option D → A
maybe_tree f t e p None = f e
maybe_tree f t e p (Some d) = t e p d

-- a part where the first word passes the test, else a value
pub maybe : {X A D : Type 0} {r : X → Words → Reading A} {w : D → List Word} {ok : D → Type 0} {t : X → Places → D → A} {ext1 : Word → Bool} → Exact r w ok t ext1 → (test ext : Word → Bool) (f : X → A) →
    ((d : D) (us : List Word) → ok d → starts test (w d ++ us) ≡ true) → ((us : List Word) → starts ext us ≡ false → starts test us ≡ false) → ((us : List Word) → starts ext us ≡ false → starts ext1 us ≡ false) →
    Exact {X = X} {A = A} {D = Option D} (λ e v. cond (begins test v) (r e v) (Ok (f e, v))) (optional w) (maybe_ok ok) (maybe_tree f t) ext
maybe {X} {A} {D} {r} {w} {ok} {t} {ext1} part test ext f first ends0 ends1 =
    recast (branch part (done f) test ext first (λ d us good end. ends0 us end) ends1 (λ us end. no_end us)) (optional w) (maybe_ok ok) (maybe_tree f t) ext to back words goods oks values onto (λ us end. end)
  where
    to : Either D (Unit {0}) → Option D
    to (one_way d) = Some d
    to (other_way d) = None

    back : Option D → Either D (Unit {0})
    back None = other_way tt
    back (Some d) = one_way d

    words : (d : Either D (Unit {0})) → optional w (to d) ≡ either_words w (λ d. []) d
    words (one_way d) = refl
    words (other_way d) = refl

    goods : (d : Either D (Unit {0})) → either_ok ok (λ d. Unit {0}) d → maybe_ok ok (to d)
    goods (one_way d) good = good
    goods (other_way d) good = tt

    oks : (d : Option D) → maybe_ok ok d → either_ok ok (λ d. Unit {0}) (back d)
    oks None good = tt
    oks (Some d) good = good

    values : (e : X) (p : Places) (d : Either D (Unit {0})) → maybe_tree f t e p (to d) ≡ either_tree t (λ e p d. f e) e p d
    values e p (one_way d) = refl
    values e p (other_way d) = refl

    onto : (d : Option D) → maybe_ok ok d → to (back d) ≡ d
    onto None good = refl
    onto (Some d) good = refl

abbrev pub several_ok : {D : Type 0} → (D → Type 0) → Several D → Type 0
several_ok ok parts = ok parts.first × many_ok ok parts.more

abbrev pub several_tree : {X A D : Type 0} → ℕ → (D → List Word) → (X → Places → D → A) → X → Places → Several D → List A
several_tree between w t e p parts = laid between (λ d. length (w d)) (t e) p (parts_of parts)

-- the trees of parts behind words that part them
pub laid_many : {X A D : Type 0} (b : List Word) (w : D → List Word) (t : X → Places → D → A) (e : X) (q : Places) (ds : List D) →
    many_tree (λ d. b ++ w d) (λ e p d. t e (drop (length b) p) d) e q ds ≡ laid (length b) (λ d. length (w d)) (t e) (drop (length b) q) ds
laid_many b w t e q [] = refl
laid_many {X} {A} b w t e q (d ∷ ds) =
    let size : length (b ++ w d) + length b ≡ length b + (length (w d) + length b) = omega (arith, length-append b (w d)) in
    let places : drop (length b) (drop (length (b ++ w d)) q) ≡ drop (length (w d) + length b) (drop (length b) q) =
    drop-drop (length b) (length (b ++ w d)) q ∙ ap (λ n. drop n q) size ∙ sym (drop-drop (length (w d) + length b) (length b) q) in
    ap (λ (l : List A). t e (drop (length b) q) d ∷ l) (laid_many b w t e (drop (length (b ++ w d)) q) ds ∙ ap (λ (p : Places). laid (length b) (λ d. length (w d)) (t e) p ds) places)

-- one part and more of them behind words that part them
pub several : {X A D : Type 0} {r : X → Words → Reading A} {w : D → List Word} {ok : D → Type 0} {t : X → Places → D → A} {ext1 : Word → Bool} → Exact r w ok t ext1 →
    (b : List Word) (test : Word → Bool) (next : X → Words → Reading A) → Exact {X = X} {A = A} {D = D} next (λ d. b ++ w d) ok (λ e p d. t e (drop (length b) p) d) ext1 →
    ((d : D) (us : List Word) → ok d → starts test ((b ++ w d) ++ us) ≡ true) → ((d : D) (us : List Word) → ok d → starts ext1 ((b ++ w d) ++ us) ≡ false) →
    Exact {X = X} {A = List A} {D = Several D} (λ e v. r e v >>= λ x. many_at test (next e) x.1 >>= λ y. Ok (x.0 ∷ y.0, y.1)) (with_between b w) (several_ok ok) (several_tree (length b) w t) (or_else test ext1)
several {X} {A} {D} {r} {w} {ok} {t} {ext1} part b test next rest first apart =
    recast (bind part (bind (under (λ (e : X × A). e.0) (many rest test (or_else test ext1) first apart (or_first test ext1) (or_second test ext1))) (value (λ (e : (X × A) × List A). e.0.1 ∷ e.1) (or_else test ext1)) (λ d us good end. end)) ends)
    (with_between b w) (several_ok ok) (several_tree (length b) w t) (or_else test ext1) to back words goods oks values onto (λ us end. end)
  where
    ends : (d : List D × Unit {0}) (us : List Word) → many_ok ok d.0 × Unit {0} → starts (or_else test ext1) us ≡ false → starts ext1 ((flat_map (λ d. b ++ w d) d.0 ++ []) ++ us) ≡ false
    ends d us good end = by_parts d.0 good.0
      where
        by_parts : (ds : List D) → many_ok ok ds → starts ext1 ((flat_map (λ d. b ++ w d) ds ++ []) ++ us) ≡ false
        by_parts [] good = or_second test ext1 us end
        by_parts (d ∷ ds) good = ap (starts ext1) (append_assoc ((b ++ w d) ++ flat_map (λ d. b ++ w d) ds) [] us ∙ append_assoc (b ++ w d) (flat_map (λ d. b ++ w d) ds) us) ∙ apart d (flat_map (λ d. b ++ w d) ds ++ us) good.0

    to : D × (List D × Unit {0}) → Several D
    to d = record { first = d.0; more = d.1.0 }

    back : Several D → D × (List D × Unit {0})
    back d = (d.first, (d.more, tt))

    words : (d : D × (List D × Unit {0})) → with_between b w (to d) ≡ w d.0 ++ (flat_map (λ d. b ++ w d) d.1.0 ++ [])
    words d = ap (λ (l : List Word). w d.0 ++ l) (sym (append-nil (flat_map (λ d. b ++ w d) d.1.0)))

    goods : (d : D × (List D × Unit {0})) → ok d.0 × (many_ok ok d.1.0 × Unit {0}) → several_ok ok (to d)
    goods d good = (good.0, good.1.0)

    oks : (d : Several D) → several_ok ok d → ok d.first × (many_ok ok d.more × Unit {0})
    oks d good = (good.0, (good.1, tt))

    values : (e : X) (p : Places) (d : D × (List D × Unit {0})) → several_tree (length b) w t e p (to d) ≡ t e p d.0 ∷ many_tree (λ d. b ++ w d) (λ e p d. t e (drop (length b) p) d) e (drop (length (w d.0)) p) d.1.0
    values e p d =
        ap (λ (l : List A). t e p d.0 ∷ l) (ap (λ (q : Places). laid (length b) (λ d. length (w d)) (t e) q d.1.0) (sym (drop-drop (length b) (length (w d.0)) p)) ∙ sym (laid_many b w t e (drop (length (w d.0)) p) d.1.0))

    onto : (d : Several D) → several_ok ok d → to (back d) ≡ d
    onto d good = refl

-- one part and more of them behind commas
pub listed : {X A D : Type 0} {part : Words → Reading A} {w : D → List Word} {ok : D → Type 0} {t : X → Places → D → A} {ext1 : Word → Bool} → Exact {X = X} {A = A} {D = D} (λ e v. part v) w ok t ext1 →
    ((us : List Word) → starts ext1 (sign (codes ",") ∷ us) ≡ false) →
    Exact {X = X} {A = List A} {D = Several D} (λ e v. list_at part v) (with_between comma w) (several_ok ok) (several_tree 1 w t) (or_else (is_sign (codes ",")) ext1)
unfolding list_at next_at
listed {X} {A} {D} {part} {w} {ok} {t} {ext1} one apart =
    several one comma (is_sign (codes ",")) (λ e. next_at (is_sign (codes ",")) part) (word (sign_needs (codes ",")) one) (λ d us good. (sign_needs (codes ",")).hit) (λ d us good. apart (w d ++ us))

-- a value made of what was read
pub mapped : {X A B D : Type 0} {r : X → Words → Reading A} {w : D → List Word} {ok : D → Type 0} {t : X → Places → D → A} {ext : Word → Bool} → Exact r w ok t ext → (f : X × A → B) →
    Exact {X = X} {A = B} {D = D} (λ e v. r e v >>= λ x. Ok (f (e, x.0), x.1)) w ok (λ e p d. f (e, t e p d)) ext
mapped {X} {A} {B} {D} {r} {w} {ok} {t} {ext} one f =
    recast (bind one (value (λ (e : X × A). f e) ext) (λ d us good end. end)) w ok (λ e p d. f (e, t e p d)) ext (λ (d : D × Unit {0}). d.0) (λ d. (d, tt)) (λ d. sym (append-nil (w d.0))) (λ d good. good.0) (λ d good. (good, tt)) (λ e p d. refl) (λ d good. refl) (λ us end. end)

-- the same, of which other conditions and trees are told
pub retold : {X A D : Type 0} {r : X → Words → Reading A} {w : D → List Word} {ok : D → Type 0} {t : X → Places → D → A} {ext : Word → Bool} → Exact r w ok t ext → (w2 : D → List Word) (ok2 : D → Type 0) (t2 : X → Places → D → A) (ext2 : Word → Bool) →
    ((d : D) → w2 d ≡ w d) → ((d : D) → ok d → ok2 d) → ((d : D) → ok2 d → ok d) → ((e : X) (p : Places) (d : D) → t2 e p d ≡ t e p d) → ((us : List Word) → starts ext2 us ≡ false → starts ext us ≡ false) → Exact r w2 ok2 t2 ext2
retold one w2 ok2 t2 ext2 words goods oks values ends = recast one w2 ok2 t2 ext2 (λ d. d) (λ d. d) words goods oks values (λ d good. refl) ends

-- a part and a word behind it
pub followed : {X A B D : Type 0} {r : X → Words → Reading A} {w : D → List Word} {ok : D → Type 0} {t : X → Places → D → A} {ext : Word → Bool} {test : Word → Bool} {key : Word} → Exact r w ok t ext → Needs test key → ext key ≡ false → (f : X × A → B) →
    Exact {X = X} {A = B} {D = D} (λ e v. r e v >>= λ x. need test x.1 >>= λ u. Ok (f (e, x.0), u)) (λ d. w d ++ key ∷ []) ok (λ e p d. f (e, t e p d)) none
followed {X} {A} {B} {D} {r} {w} {ok} {t} {ext} {test} {key} one needs end f =
    recast (bind one (word needs (value (λ (e : X × A). f e) none)) (λ d us good h. end)) (λ d. w d ++ key ∷ []) ok (λ e p d. f (e, t e p d)) none (λ (d : D × Unit {0}). d.0) (λ d. (d, tt)) (λ d. refl) (λ d good. good.0) (λ d good. (good, tt)) (λ e p d. refl) (λ d good. refl) (λ us h. h)

pub all_units : {A : Type 0} (ds : List A) → many_ok (λ d. Unit {0}) ds
all_units [] = tt
all_units (d ∷ ds) = (tt, all_units ds)
