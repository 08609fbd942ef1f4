-- whole queries are read exactly, and where reading stops is the first wrong word
use Rattle.std.proofs.Common.{◌≡◌, ℕ, ◌+◌, ◌-◌, ◌<◌, ◌≤◌, suc, Bool, true, false, cond, List, [], ◌∷◌, ◌++◌, length, map, take, codes, refl, sym, ◌∙◌, ap, subst, append_assoc, arith, Result, Ok, Err}
use Rattle.std.proofs.lemmas.List.{append-nil, length-append}
use Rattle.std.specs.declared.option.Option.{Option}
use Rattle.std.specs.declared.option.Option.TheVariants.{None, Some}
use Rattle.tiql_tree.specs.Words.{Word}
use Rattle.tiql_read.specs.declared.word.Seen.{Seen}
use Rattle.tiql_read.specs.Steps.{Words, Reading, word_of, ◌>>=◌}
use Rattle.tiql_read.proofs.Exact.{ws, ps, fixed, Fine, none, ws-append, length-ws, fixed-append, fine_front, ok_rest, err_left, err_ok}
use Rattle.std.proofs.Common.{nat_eq}
use Rattle.std.proofs.lemmas.Bool.Decides.{Decides-eqb, nat_tests}
use Rattle.std.proofs.lemmas.Str.{is_utf8-from_IsUtf8}
use Rattle.std.specs.Prelude.{nat_le}
use Rattle.std.specs.List.{AllByRecursion}
use Rattle.std.specs.Str.{is_utf8}
use Rattle.base_kit.specs.Keywords as reserved
use Rattle.base_kit.specs.Names.{is_name}
use Rattle.tiql_lex.specs.declared.token.TokenKind.{TokenKind}
use Rattle.tiql_lex.specs.declared.token.TokenKind.TheVariants.{Name, Keyword, Number, Text, Sign}
use Rattle.tiql_lex.specs.Kinds.{is_number, quoted, kind_of, Fits}
use Rattle.tiql_lex.specs.Scan.{value_from}
use Rattle.tiql_lex.proofs.KindFacts.{kind_name, kind_number}
use Rattle.tiql_lex.proofs.Texts.{same_value, value_some, value_none}
use Rattle.tiql_tree.specs.declared.tree.Tree.{Tree}
use Rattle.tiql_tree.specs.declared.tree.Decl.{Decl}
use Rattle.tiql_tree.specs.declared.tree.TreeGoal.{TreeGoal}
use Rattle.tiql_tree.specs.Words.{named, digits}
use Rattle.tiql_tree.specs.Texts.{QueryText}
use Rattle.tiql_tree.specs.Grammar.{query_words}
use Rattle.tiql_tree.specs.Trees.{query_tree}
use Rattle.tiql_tree.specs.Spelled.{AreWordsOf, Begins}
use Rattle.tiql_tree.proofs.Written.{Good}
use Rattle.tiql_read.specs.Steps.{many_at}
use Rattle.tiql_read.specs.Expressions.{value_of_text, short_text}
use Rattle.tiql_read.specs.Queries.{declares, decl_at, goal_at, ended, query_at}
use Rattle.tiql_read.proofs.Exact.{text_or, fixed_by}
use Rattle.tiql_read.proofs.WholeQueries.{whole_at, query_exact}
use Rattle.base_kit.proofs.Results.{Ok-Err}

-- of these words so many are left from the first wrong one on: those before it begin a query, and with it they begin none
pub record StopsAt (words : List Word) (left : ℕ) : Type 0 where
  pub inside : left ≤ length words
  pub before : Begins (take (length words - left) words)
  pub wrong : 0 < left → Begins (take (length words - left + 1) words) → ⊥

take_front : (b : ℕ) (bs : List ℕ) → bs ≡ take (length (b ∷ bs) - 1) bs
take_front b bs = let n : length (b ∷ bs) - 1 ≡ length bs = omega arith in sym (rw n (all bs))
  where
    all : (bs : List ℕ) → take (length bs) bs ≡ bs
    all [] = refl
    all (b ∷ bs) = ap (λ (l : List ℕ). b ∷ l) (all bs)

-- a text in quotes says its value
value_is : (text value : List ℕ) → text ≡ quoted value → is_utf8 value ≡ true → nat_le (length value) 1000 ≡ true → value_of_text text ≡ Some value
unfolding value_of_text
value_is [] value whole utf8 short = absurd cc
value_is (b ∷ bs) value whole utf8 short = found (value_from [] false bs) refl
  where
    first : b ≡ 39
    first = ap (head_or b) whole
      where
        head_or : ℕ → List ℕ → ℕ
        head_or n [] = n
        head_or n (m ∷ ms) = m

    found : (o : Option (List ℕ)) → value_from [] false bs ≡ o → cond (nat_eq b 39) (short_text (value_from [] false bs)) None ≡ Some value
    found None is = absurd (value_none (b ∷ bs) bs (take_front b bs) is value whole)
    found (Some other) is =
        let same : other ≡ value = same_value other value (sym (value_some (b ∷ bs) bs other (omega arith) first (take_front b bs) is) ∙ whole) in
        rw ((Decides-eqb b 39).1 first, is, same, utf8, short) refl

short_test : (n : ℕ) → n ≤ 1000 → nat_le n 1000 ≡ true
short_test n le = grind (arith, nat_tests)

-- a word that is a token is kept
good_fixed : (w : Word) → Good w → fixed w ≡ w
good_fixed w good = by_kind w.kind good.kind good.fits
  where
    by_kind : (k : TokenKind) → k ≡ kind_of w.text → Fits k w.text → fixed_by k w ≡ w
    by_kind Name is fits = rw (kind_name w.text good.shape (sym is) fits) refl
    by_kind Keyword is fits = refl
    by_kind Number is fits = rw (kind_number w.text good.shape (sym is) fits) refl
    by_kind Text is fits = rw (value_is w.text fits.value fits.whole (is_utf8-from_IsUtf8 fits.value fits.utf8) (short_test (length fits.value) fits.short)) refl
    by_kind Sign is fits = refl

good_fine : (words : Words) → AllByRecursion Good (ws words) → Fine words
good_fine [] good = tt
good_fine (s ∷ words) good = (good_fixed (word_of s) good.0, good_fine words good.1)

-- words that are made tokens are kept
fixed_again : (w : Word) → fixed (fixed w) ≡ fixed w
unfolding is_name reserved.is_keyword
fixed_again w = by_kind w.kind refl
  where
    by_name : (b : Bool) → is_name w.text ≡ b → w.kind ≡ Name → fixed (cond b w (named (codes "a"))) ≡ cond b w (named (codes "a"))
    by_name true is kind = ap (λ k. fixed_by k w) kind ∙ rw is refl
    by_name false is kind = refl

    by_number : (b : Bool) → is_number w.text ≡ b → w.kind ≡ Number → fixed (cond b w (digits (codes "0"))) ≡ cond b w (digits (codes "0"))
    by_number true is kind = ap (λ k. fixed_by k w) kind ∙ rw is refl
    by_number false is kind = refl

    by_text : (o : Option (List ℕ)) → value_of_text w.text ≡ o → w.kind ≡ Text → fixed (text_or w o) ≡ text_or w o
    by_text (Some value) is kind = ap (λ k. fixed_by k w) kind ∙ rw is refl
    by_text None is kind = rw (value_is (quoted []) [] refl (is_utf8-from_IsUtf8 [] ([], (refl, refl))) refl) refl

    by_kind : (k : TokenKind) → w.kind ≡ k → fixed (fixed_by k w) ≡ fixed_by k w
    by_kind Name is = by_name (is_name w.text) refl is
    by_kind Keyword is = ap (λ k. fixed_by k w) is
    by_kind Number is = by_number (is_number w.text) refl is
    by_kind Text is = by_text (value_of_text w.text) refl is
    by_kind Sign is = ap (λ k. fixed_by k w) is

-- tokens of these words, which stand nowhere
lifted : List Word → Words
lifted [] = []
lifted (w ∷ us) = record { kind = w.kind; text = w.text; place = record { line = 0; column = 0 } } ∷ lifted us

lifted_words : (us : List Word) → ws (lifted us) ≡ us
unfolding lifted
lifted_words [] = refl
lifted_words (w ∷ us) = ap (λ (l : List Word). w ∷ l) (lifted_words us)

lifted_fine : (us : List Word) → Fine (lifted (map fixed us))
unfolding lifted
lifted_fine [] = tt
lifted_fine (w ∷ us) = (fixed_again w, lifted_fine us)

fine_both : (a b : Words) → Fine a → Fine b → Fine (a ++ b)
fine_both [] b one other = other
fine_both (s ∷ a) b one other = (one.0, fine_both a b one.1 other)

fixed_ws : (words : Words) → Fine words → map fixed (ws words) ≡ ws words
fixed_ws [] fine = refl
fixed_ws (s ∷ words) fine = ap (λ (l : Word). l ∷ map fixed (ws words)) fine.0 ∙ ap (λ (l : List Word). word_of s ∷ l) (fixed_ws words fine.1)

-- words that further words complete to a query are read with other words behind them, to their end
completed : (words : Words) → Fine words → Begins (ws words) → (others : Words) × (tree : Tree) × (whole_at (words ++ others) ≡ Ok (tree, []))
completed words fine begun =
    let more = begun.0 in let query = begun.1 in let are = begun.2 in
    let k = query_exact.repaired query are.depth in
    let others : Words = lifted (map fixed more) in
    let told : ws (words ++ others) ≡ query_words k.other =
    ws-append words others ∙ ap (λ (l : List Word). ws words ++ l) (lifted_words (map fixed more)) ∙ ap (λ (l : List Word). l ++ map fixed more) (sym (fixed_ws words fine))
    ∙ sym (fixed-append (ws words) more) ∙ ap (map fixed) (sym are.spelling) ∙ sym k.words in
    let read = query_exact.whole tt k.other (words ++ others) [] k.good told (fine_both words others fine (lifted_fine more)) refl in
    (others, query_tree (ps ((words ++ others) ++ [])) k.other, ap whole_at (sym (append-nil (words ++ others))) ∙ read)

finish : Reading Tree → Result Tree ℕ
finish q = q >>= λ x. ended x.0 x.1

query_is : (words : Words) → query_at words ≡ finish (whole_at words)
unfolding query_at whole_at finish
query_is words = by_decls (many_at declares decl_at words)
  where
    ok : Tree → Words → Reading Tree
    ok t l = Ok (t, l)

    by_goal : (decls : List Decl × Words) (q : Reading TreeGoal) → (q >>= λ goal. ended (record { decls = decls.0; goal = goal.0 }) goal.1) ≡ ((q >>= λ goal. ok (record { decls = decls.0; goal = goal.0 }) goal.1) >>= λ x. ended x.0 x.1)
    by_goal decls (Ok goal) = refl
    by_goal decls (Err left) = refl

    by_decls : (q : Reading (List Decl)) → (q >>= λ decls. goal_at decls.1 >>= λ goal. ended (record { decls = decls.0; goal = goal.0 }) goal.1) ≡ ((q >>= λ decls. goal_at decls.1 >>= λ goal. ok (record { decls = decls.0; goal = goal.0 }) goal.1) >>= λ x. ended x.0 x.1)
    by_decls (Ok decls) = by_goal decls (goal_at decls.1)
    by_decls (Err left) = refl

finish_ok : (q : Reading Tree) (tree : Tree) → finish q ≡ Ok tree → q ≡ Ok (tree, [])
unfolding finish
finish_ok (Ok (t, [])) tree eq = let same : t ≡ tree = ap (tree_or t) eq in ap (λ (x : Tree). Ok (x, [])) same
  where
    tree_or : Tree → Result Tree ℕ → Tree
    tree_or t (Ok x) = x
    tree_or t (Err left) = t
finish_ok (Ok (t, s ∷ rest)) tree eq = absurd (err_ok (suc (length rest)) tree eq)
finish_ok (Err left) tree eq = absurd (err_ok left tree eq)

by_finish : (other left : ℕ) → finish (Err other) ≡ Err left → other ≡ left
unfolding finish
by_finish other left end = err_left {B = Tree} other left end

finish_done : (t : Tree) (left : ℕ) → finish (Ok (t, [])) ≡ Err left → ⊥
unfolding finish
finish_done t left end = Ok-Err t left end

finish_more : (t : Tree) (s : Seen) (rest : Words) (left : ℕ) → finish (Ok (t, s ∷ rest)) ≡ Err left → suc (length rest) ≡ left
unfolding finish
finish_more t s rest left end = err_left {B = Tree} (suc (length rest)) left end

-- what is read is a query
pub reads : (words : Words) (tree : Tree) → query_at words ≡ Ok tree → (query : QueryText) × AreWordsOf query (ws words) × (tree ≡ query_tree (ps words) query)
reads words tree eq =
    let k = query_exact.some tt words [] tree (finish_ok (whole_at words) tree (sym (query_is words) ∙ eq)) in
    (k.derived, record { spelling = sym k.words ∙ ap ws (sym (k.split ∙ append-nil k.front)); depth = k.good }, k.value)

-- a query is read
pub only : (words : Words) (query : QueryText) → AllByRecursion Good (ws words) → AreWordsOf query (ws words) → query_at words ≡ Ok (query_tree (ps words) query)
unfolding finish
only words query good are =
    let read = query_exact.whole tt query words [] are.depth (sym are.spelling) (good_fine words good) refl in
    let here : whole_at words ≡ Ok (query_tree (ps words) query, []) = subst (λ (v : Words). whole_at v ≡ Ok (query_tree (ps v) query, [])) (append-nil words) read in
    query_is words ∙ ap finish here

take_ws : (words front rest : Words) → words ≡ front ++ rest → take (length (ws words) - length rest) (ws words) ≡ ws front
take_ws words front rest split =
    let size : length (ws words) - length rest ≡ length (ws front) = omega (arith, length-ws words, ap length split, length-append front rest, length-ws front) in
    ap (λ n. take n (ws words)) size ∙ ap (λ (l : List Word). take (length (ws front)) l) (ap ws split ∙ ws-append front rest) ∙ front_of (ws front) (ws rest)
  where
    front_of : (a b : List Word) → take (length a) (a ++ b) ≡ a
    front_of [] b = refl
    front_of (x ∷ a) b = ap (λ (l : List Word). x ∷ l) (front_of a b)

-- one word more
take_more : (words front : Words) (s : Seen) (rest : Words) → words ≡ front ++ s ∷ rest → take (length (ws words) - suc (length rest) + 1) (ws words) ≡ ws (front ++ s ∷ [])
take_more words front s rest split =
    let size : length (ws words) - suc (length rest) + 1 ≡ length (ws words) - length rest = omega (arith, length-ws words, ap length split, length-append front (s ∷ rest)) in
    ap (λ n. take n (ws words)) size ∙ take_ws words (front ++ s ∷ []) rest (split ∙ sym (append_assoc front (s ∷ []) rest))

-- the first wrong word, where something before it is told
wrong_at : (words front : Words) (s : Seen) (rest : Words) → words ≡ front ++ s ∷ rest → AllByRecursion Good (ws words) → ((others : Words) (tree : Tree) → whole_at (front ++ s ∷ others) ≡ Ok (tree, []) → ⊥) → Begins (take (length (ws words) - suc (length rest) + 1) (ws words)) → ⊥
wrong_at words front s rest split good none begun =
    let fine : Fine ((front ++ s ∷ []) ++ rest) = subst Fine (split ∙ sym (append_assoc front (s ∷ []) rest)) (good_fine words good) in
    let k = completed (front ++ s ∷ []) (fine_front (front ++ s ∷ []) rest fine) (subst Begins (take_more words front s rest split) begun) in
    none k.0 k.1 (ap whole_at (sym (append_assoc front (s ∷ []) k.0)) ∙ k.2)

-- reading stops at the first wrong word
pub stops : (words : Words) (left : ℕ) → AllByRecursion Good (ws words) → query_at words ≡ Err left → StopsAt (ws words) left
stops words left good eq = go (whole_at words) refl (sym (query_is words) ∙ eq)
  where
    at_rest : (front rest : Words) → words ≡ front ++ rest → length rest ≡ left → Begins (ws front) → ((s : Seen) (more : Words) → rest ≡ s ∷ more → (others : Words) (tree : Tree) → whole_at (front ++ s ∷ others) ≡ Ok (tree, []) → ⊥) → StopsAt (ws words) left
    at_rest front [] split size begun none = record {
      inside = omega (arith, size);
      before = subst Begins (sym (ap (λ n. take (length (ws words) - n) (ws words)) (sym size) ∙ take_ws words front [] split)) begun;
      wrong = λ some. absurd (omega (arith, size, some));
    }
    at_rest front (s ∷ rest) split size begun none = record {
      inside = omega (arith, size, length-ws words, ap length split, length-append front (s ∷ rest));
      before = subst Begins (sym (ap (λ n. take (length (ws words) - n) (ws words)) (sym size) ∙ take_ws words front (s ∷ rest) split)) begun;
      wrong = λ some more. wrong_at words front s rest split good (none s rest refl) (subst (λ n. Begins (take (length (ws words) - n + 1) (ws words))) (sym size) more);
    }

    go : (q : Reading Tree) → whole_at words ≡ q → finish q ≡ Err left → StopsAt (ws words) left
    go (Err other) is end =
        let k = query_exact.stop tt words other is in
        at_rest k.front k.rest k.split (k.size ∙ same other end) (k.more, k.derived, record { spelling = sym k.words; depth = k.good })
        (λ s more at others tree read.
        let stopped = query_exact.same tt k.front s more others (ap whole_at (sym (k.split ∙ ap (λ (l : Words). k.front ++ l) at)) ∙ is ∙ ap (λ n. err n) (sym k.size ∙ ap length at)) in
        err_ok (suc (length others)) (tree, []) (sym stopped ∙ read))
      where
        err : ℕ → Reading Tree
        err n = Err n

        same : (other : ℕ) → finish (Err other) ≡ Err left → other ≡ left
        same other end = by_finish other left end
    go (Ok (t, [])) is end = absurd (finish_done t left end)
    go (Ok (t, s ∷ rest)) is end =
        let k = query_exact.some tt words (s ∷ rest) t is in
        at_rest k.front (s ∷ rest) k.split (finish_more t s rest left end) ([], k.derived, record { spelling = sym k.words ∙ sym (append-nil (ws k.front)); depth = k.good })
        (λ r more at others tree read.
        let head : s ≡ r = ap (head_or s) at in
        let went = query_exact.steady tt k.front s rest others t (ap whole_at (sym k.split) ∙ is) in
        let still : whole_at (k.front ++ s ∷ others) ≡ Ok (tree, []) = subst (λ (x : Seen). whole_at (k.front ++ x ∷ others) ≡ Ok (tree, [])) (sym head) read in
        let ends = ok_rest t tree (s ∷ others) [] (sym went ∙ still) in
        omega (arith, ap length ends))
      where
        head_or : Seen → Words → Seen
        head_or x [] = x
        head_or x (y ∷ l) = y
