-- an item that is a column alone, or an expression with a name
use Rattle.std.proofs.Common.{◌≡◌, ℕ, ◌≤◌, suc, Bool, true, false, cond, List, [], ◌∷◌, ◌++◌, length, drop, codes, refl, sym, ◌∙◌, ap, subst, append_assoc, arith, Ok, Err}
use Rattle.std.proofs.lemmas.List.{append-nil}
use Rattle.tiql_tree.specs.Words.{Word}
use Rattle.tiql_tree.specs.Trees.{Places, place}
use Rattle.tiql_read.specs.declared.word.Seen.{Seen}
use Rattle.tiql_read.specs.Steps.{Words, Reading, ◌>>=◌, need, begins}
use Rattle.tiql_read.proofs.Exact.{ws, ps, Fine, starts, none, Repaired, Stopped, Made, Exact, ws-append, fine_front, halves, seam, ok_value, ok_rest, err_left, err_ok}
use Rattle.std.proofs.Common.{nat_eq}
use Rattle.std.proofs.Common.{bytes_eq}
use Rattle.std.proofs.lemmas.Bool.{false≢true}
use Rattle.std.proofs.lemmas.Bool.Decides.{Decides-eqb}
use Rattle.tiql_lex.specs.declared.token.TokenKind.{TokenKind}
use Rattle.tiql_lex.specs.declared.token.TokenKind.TheVariants.{Name, Keyword, Number, Text, Sign}
use Rattle.tiql_tree.specs.declared.tree.Spot.{Spot}
use Rattle.tiql_tree.specs.declared.tree.TreeItem.{TreeItem}
use Rattle.tiql_tree.specs.declared.tree.TreeValue.TheVariants as values
use Rattle.tiql_tree.specs.declared.expression.TreeExpr.{TreeExpr}
use Rattle.tiql_tree.specs.declared.expression.TreeForm.TheVariants.{Ref}
use Rattle.tiql_tree.specs.Words.{key, sign, named, digits, in_quotes}
use Rattle.tiql_tree.specs.Texts.{RefText, FactorText, TermText, ExprText}
use Rattle.tiql_tree.specs.Texts.RefText.{alone, qualified}
use Rattle.tiql_tree.specs.Texts.FactorText.{negated, numeral, value_text, reference, absolute, grouped}
use Rattle.tiql_tree.specs.Texts.TermText.{last_factor, next_factor}
use Rattle.tiql_tree.specs.Texts.ExprText.{last_term, next_term}
use Rattle.tiql_tree.specs.Grammar.{ref_words, factor_words, term_words, expr_words, alias_words}
use Rattle.tiql_tree.specs.Nesting.{expr_depth}
use Rattle.tiql_tree.specs.Trees.{spot, expr_at, ref_tree, ref_name, expr_tree}
use Rattle.tiql_read.specs.Steps.{is_key, is_sign}
use Rattle.tiql_read.specs.Expressions.{place_of, adds, expression_at, ref_name_at}
use Rattle.tiql_read.specs.Selects.{alias_at, ends_at, lone_name, name_at, item_of, plain_at}
use Rattle.tiql_read.proofs.Chains.{Within, within}
use Rattle.tiql_read.proofs.Branches.Either.{one_way, other_way}
use Rattle.tiql_read.proofs.Branches.{Either, either_words, either_ok, either_tree, begins_same, begins_starts}
use Rattle.tiql_read.proofs.Lists.{or_else, or_first, or_second}
use Rattle.tiql_read.proofs.Leaves.{ref_name_exact}
use Rattle.tiql_read.proofs.Sums.{expr_ext}
use Rattle.tiql_read.proofs.Factors.{expression_exact}
use Rattle.tiql_read.proofs.Items.{alias_exact, plain_words, plain_tree, with_alias_at, with_alias_exact}
use Rattle.base_kit.proofs.Results.{Ok-Err}

abbrev lone : RefText → ExprText
lone ref = last_term (last_factor (reference ref))

-- the words of a column are those of no other expression
abbrev first_word : Word → List Word → Word
first_word other [] = other
first_word other (w ∷ us) = w

ref_again : (r s : RefText) → ref_words s ≡ ref_words r → s ≡ r
unfolding ref_words
ref_again (alone n) (alone m) e = ap (λ (l : List Word). alone (first_word (named n) l).text) e
ref_again (alone n) (qualified m k) e = absurd (omega (arith, ap length e))
ref_again (qualified n k) (alone m) e = absurd (omega (arith, ap length e))
ref_again (qualified n k) (qualified m j) e = ap (λ (l : List Word). qualified (first_word (named n) l).text (first_word (named n) (drop 2 l)).text) e

-- no expression goes on behind these words as a column does
behind_ref : (r s : RefText) (other : Word) (us : List Word) → (other ≡ sign (codes ".") → ⊥) → ref_words s ++ other ∷ us ≡ ref_words r → ⊥
unfolding ref_words
behind_ref (alone n) (alone m) other us differ e = omega (arith, ap length e)
behind_ref (alone n) (qualified m k) other us differ e = omega (arith, ap length e)
behind_ref (qualified n k) (alone m) other us differ e = differ (ap (λ (l : List Word). first_word other (drop 1 l)) e)
behind_ref (qualified n k) (qualified m j) other us differ e = omega (arith, ap length e)

abbrev is_name_kind : Word → Bool
is_name_kind word = by_kind word.kind
  where
    by_kind : TokenKind → Bool
    by_kind Name = true
    by_kind Keyword = false
    by_kind Number = false
    by_kind Text = false
    by_kind Sign = false

named_first : (r : RefText) (w : Word) (us : List Word) → w ∷ us ≡ ref_words r → is_name_kind w ≡ true
unfolding ref_words
named_first (alone n) w us e = ap (λ (l : List Word). is_name_kind (first_word w l)) e
named_first (qualified n k) w us e = ap (λ (l : List Word). is_name_kind (first_word w l)) e

factor_ref : (r : RefText) (f : FactorText) → factor_words f ≡ ref_words r → f ≡ reference r
unfolding factor_words
factor_ref r (negated f) e = absurd (false≢true (named_first r (sign (codes "-")) (factor_words f) e))
factor_ref r (numeral m) e = absurd (false≢true (named_first r (digits m) [] e))
factor_ref r (value_text v) e = absurd (false≢true (named_first r (in_quotes v) [] e))
factor_ref r (reference s) e = ap (λ (k : RefText). reference k) (ref_again r s e)
factor_ref r (absolute x) e = absurd (false≢true (named_first r (key (codes "ABS")) (sign (codes "(") ∷ (expr_words x ++ sign (codes ")") ∷ [])) e))
factor_ref r (grouped x) e = absurd (false≢true (named_first r (sign (codes "(")) (expr_words x ++ sign (codes ")") ∷ []) e))

-- a factor with a word behind it that is no point
factor_more : (r : RefText) (f : FactorText) (other : Word) (us : List Word) → (other ≡ sign (codes ".") → ⊥) → factor_words f ++ other ∷ us ≡ ref_words r → ⊥
unfolding factor_words
factor_more r (negated f) other us differ e = false≢true (named_first r (sign (codes "-")) (factor_words f ++ other ∷ us) e)
factor_more r (numeral m) other us differ e = false≢true (named_first r (digits m) (other ∷ us) e)
factor_more r (value_text v) other us differ e = false≢true (named_first r (in_quotes v) (other ∷ us) e)
factor_more r (reference s) other us differ e = behind_ref r s other us differ e
factor_more r (absolute x) other us differ e = false≢true (named_first r (key (codes "ABS")) (sign (codes "(") ∷ ((expr_words x ++ sign (codes ")") ∷ []) ++ other ∷ us)) e)
factor_more r (grouped x) other us differ e = false≢true (named_first r (sign (codes "(")) ((expr_words x ++ sign (codes ")") ∷ []) ++ other ∷ us) e)

no_point : (text : List ℕ) → bytes_eq text (codes ".") ≡ false → sign text ≡ sign (codes ".") → ⊥
no_point text differ e = false≢true (sym differ ∙ ap (λ (w : Word). bytes_eq w.text (codes ".")) e)

term_ref : (r : RefText) (d : TermText) → term_words d ≡ ref_words r → d ≡ last_factor (reference r)
unfolding term_words
term_ref r (last_factor f) e = ap (λ (g : FactorText). last_factor g) (factor_ref r f e)
term_ref r (next_factor f m) e = absurd (factor_more r f (sign (codes "*")) (term_words m) (no_point (codes "*") refl) e)

term_more : (r : RefText) (d : TermText) (other : Word) (us : List Word) → (other ≡ sign (codes ".") → ⊥) → term_words d ++ other ∷ us ≡ ref_words r → ⊥
unfolding term_words
term_more r (last_factor f) other us differ e = factor_more r f other us differ e
term_more r (next_factor f m) other us differ e = factor_more r f (sign (codes "*")) (term_words m ++ other ∷ us) (no_point (codes "*") refl) (sym (append_assoc (factor_words f) (sign (codes "*") ∷ term_words m) (other ∷ us)) ∙ e)

expr_ref : (r : RefText) (d : ExprText) → expr_words d ≡ ref_words r → d ≡ lone r
unfolding expr_words
expr_ref r (last_term f) e = ap (λ (g : TermText). last_term g) (term_ref r f e)
expr_ref r (next_term f minus m) e = absurd (term_more r f (sign (cond minus (codes "-") (codes "+"))) (expr_words m) (no_operator minus) e)
  where
    no_operator : (minus : Bool) → sign (cond minus (codes "-") (codes "+")) ≡ sign (codes ".") → ⊥
    no_operator true e = no_point (codes "-") refl e
    no_operator false e = no_point (codes "+") refl e

-- how an item is read, by what its expression is and whether AS follows
abbrev item_reading : TreeExpr → Reading Spot → Reading TreeItem
item_reading t name = name >>= λ y. Ok (item_of (place_of t) (values.Plain t) y.0, y.1)

abbrev by_expression : Words → Reading TreeExpr → Reading TreeItem
by_expression v q = q >>= λ part. name_at v part.1 >>= λ name. Ok (item_of (place_of part.0) (values.Plain part.0) name.0, name.1)

plain_is : (v : Words) → plain_at v ≡ by_expression v (expression_at 64 v)
unfolding plain_at
plain_is v = refl

plain_err : (v : Words) (left : ℕ) → expression_at 64 v ≡ Err left → plain_at v ≡ Err left
plain_err v left is = plain_is v ∙ ap (by_expression v) is

abbrev named_by : Bool → Words → Words → Reading Spot
named_by b v m = cond b (alias_at m) (ends_at m (ref_name_at v))

plain_ok : (v m : Words) (t : TreeExpr) (b : Bool) → expression_at 64 v ≡ Ok (t, m) → begins (is_key (codes "AS")) m ≡ b → plain_at v ≡ item_reading t (named_by b v m)
unfolding name_at lone_name
plain_ok v m t b is test = plain_is v ∙ ap (by_expression v) is ∙ ap (λ (c : Bool). item_reading t (cond c (alias_at m) (ends_at m (ref_name_at v)))) test

alias_ok : (v m : Words) (t : TreeExpr) → expression_at 64 v ≡ Ok (t, m) → with_alias_at v ≡ item_reading t (alias_at m)
unfolding with_alias_at
alias_ok v m t is = ap (λ (q : Reading TreeExpr). q >>= λ part. item_reading part.0 (alias_at part.1)) is

alias_err : (v : Words) (left : ℕ) → expression_at 64 v ≡ Err left → with_alias_at v ≡ Err left
unfolding with_alias_at
alias_err v left is = ap (λ (q : Reading TreeExpr). q >>= λ part. item_reading part.0 (alias_at part.1)) is

alias_miss : (m : Words) → begins (is_key (codes "AS")) m ≡ false → alias_at m ≡ Err (length m)
unfolding alias_at need
alias_miss [] miss = refl
alias_miss (s ∷ m) miss = rw miss refl

-- where AS follows or the reading stops, it is as with a name behind AS
same_as : (v m : Words) (t : TreeExpr) → expression_at 64 v ≡ Ok (t, m) → begins (is_key (codes "AS")) m ≡ true → plain_at v ≡ with_alias_at v
same_as v m t is test = plain_ok v m t true is test ∙ sym (alias_ok v m t is)

alias_stop : (m : Words) (left : ℕ) → alias_at m ≡ Err left → Stopped alias_words (λ d. Unit {0}) m left
alias_stop m left eq = (alias_exact {X = Unit {0}}).stop tt m left eq

alias_some : (m u : Words) (y : Spot) → alias_at m ≡ Ok (y, u) → Made alias_words (λ d. Unit {0}) (λ p d. spot 0 (drop 1 p) d) m u y
alias_some m u y eq = (alias_exact {X = Unit {0}}).some tt m u y eq

-- what goes on with an item
abbrev pub item_ext : Word → Bool
item_ext = or_else (is_key (codes "AS")) expr_ext

abbrev pub Plain : Type 0
Plain = Either RefText (ExprText × List ℕ)

abbrev pub item_words_of : Plain → List Word
item_words_of d = either_words ref_words plain_words d

abbrev pub item_ok_of : Plain → Type 0
item_ok_of d = either_ok (λ (r : RefText). Unit {0}) (λ (d : ExprText × List ℕ). expr_depth d.0 ≤ 64) d

abbrev pub lone_tree : Places → RefText → TreeItem
lone_tree p ref = item_of (place 0 p) (values.Plain (expr_at (place 0 p) (Ref (ref_tree p ref)))) (ref_name p ref)

abbrev pub item_tree_of : Unit {0} → Places → Plain → TreeItem
item_tree_of e p d = either_tree {X = Unit {0}} (λ e p d. lone_tree p d) (λ e p d. plain_tree p d) e p d

expr : Exact {X = Unit {0}} {A = TreeExpr} {D = ExprText} (λ e v. expression_at 64 v) expr_words (λ d. expr_depth d ≤ 64) (λ e p d. expr_tree p d) expr_ext
expr = expression_exact {X = Unit {0}} 64

last_name : Exact {X = Unit {0}} {A = Spot} {D = RefText} (λ e v. ref_name_at v) ref_words (λ d. Unit {0}) (λ e p d. ref_name p d) (is_sign (codes "."))
last_name = ref_name_exact {X = Unit {0}}

with_alias : Exact {X = Unit {0}} {A = TreeItem} {D = ExprText × List ℕ} (λ e v. with_alias_at v) plain_words (λ d. expr_depth d.0 ≤ 64) (λ e p d. plain_tree p d) none
with_alias = with_alias_exact {X = Unit {0}}

lone_expr : (p : Places) (r : RefText) → expr_tree p (lone r) ≡ expr_at (place 0 p) (Ref (ref_tree p r))
unfolding expr_tree
lone_expr p r = refl

lone_words : (r : RefText) → expr_words (lone r) ≡ ref_words r
unfolding expr_words
lone_words r = refl

lone_depth : (r : RefText) → expr_depth (lone r) ≤ 64
unfolding expr_depth
lone_depth r = omega arith

-- the two ways in which a name is found there or is not
ends_ok : (m : Words) (y : Spot) (k : Words) → length k ≡ length m → ends_at m (Ok (y, k)) ≡ Ok (y, k)
ends_ok m y k same = rw ((Decides-eqb (length k) (length m)).1 same) refl

ends_else : (m : Words) (y : Spot) (k : Words) → nat_eq (length k) (length m) ≡ false → ends_at m (Ok (y, k)) ≡ Err (length m)
ends_else m y k differ = rw differ refl

reading_err : (t : TreeExpr) (q : Reading Spot) (left : ℕ) → q ≡ Err left → item_reading t q ≡ Err left
reading_err t q left is = ap (item_reading t) is

reading_ok : (t : TreeExpr) (q : Reading Spot) (y : Spot) (k : Words) → q ≡ Ok (y, k) → item_reading t q ≡ Ok (item_of (place_of t) (values.Plain t) y, k)
reading_ok t q y k is = ap (item_reading t) is

-- a column alone was read
lone_made : (v m k u : Words) (t : TreeExpr) (y : Spot) (x : TreeItem) → expression_at 64 v ≡ Ok (t, m) → ref_name_at v ≡ Ok (y, k) → length k ≡ length m → ◌≡◌ {A = Reading TreeItem} (Ok (item_of (place_of t) (values.Plain t) y, k)) (Ok (x, u)) → Made item_words_of item_ok_of (item_tree_of tt) v u x
lone_made v m k u t y x is found same eq =
    let a = expr.some tt v m t is in
    let b = last_name.some tt v k y found in
    let ends : k ≡ u = ok_rest (item_of (place_of t) (values.Plain t) y) x k u eq in
    let fronts = seam b.front k a.front m (sym b.split ∙ a.split) same in
    let words : expr_words a.derived ≡ ref_words b.derived = sym a.words ∙ ap ws (sym fronts.fronts) ∙ b.words in
    let tree : t ≡ expr_at (place 0 (ps v)) (Ref (ref_tree (ps v) b.derived)) = a.value ∙ ap (expr_tree (ps v)) (expr_ref b.derived a.derived words) ∙ lone_expr (ps v) b.derived in
    record {
      front = b.front;
      split = b.split ∙ ap (λ (l : Words). b.front ++ l) ends;
      derived = one_way b.derived;
      good = tt;
      words = b.words;
      value = sym (ok_value (item_of (place_of t) (values.Plain t) y) x k u eq) ∙ ap (λ (z : TreeExpr). item_of (place_of z) (values.Plain z) y) tree ∙ ap (λ (z : Spot). item_of (place 0 (ps v)) (values.Plain (expr_at (place 0 (ps v)) (Ref (ref_tree (ps v) b.derived)))) z) b.value;
    }

plain_some : (e : Unit {0}) (v u : Words) (x : TreeItem) → plain_at v ≡ Ok (x, u) → Made item_words_of item_ok_of (item_tree_of e) v u x
plain_some e v u x eq = go (expression_at 64 v) refl
  where
    named : (m : Words) (t : TreeExpr) → expression_at 64 v ≡ Ok (t, m) → (b : Bool) → begins (is_key (codes "AS")) m ≡ b → Made item_words_of item_ok_of (item_tree_of e) v u x
    named m t is true test = let k = with_alias.some tt v u x (sym (same_as v m t is test) ∙ eq) in record { front = k.front; split = k.split; derived = other_way k.derived; good = k.good; words = k.words; value = k.value }
    named m t is false test = found (ref_name_at v) refl
      where
        line : item_reading t (ends_at m (ref_name_at v)) ≡ Ok (x, u)
        line = sym (plain_ok v m t false is test) ∙ eq

        found : (q : Reading Spot) → ref_name_at v ≡ q → Made item_words_of item_ok_of (item_tree_of e) v u x
        found (Err left) of = absurd (err_ok (length m) (x, u) (sym (reading_err t (ends_at m (ref_name_at v)) (length m) (ap (ends_at m) of)) ∙ line))
        found (Ok y) of = by_size (nat_eq (length y.1) (length m)) refl
          where
            by_size : (b : Bool) → nat_eq (length y.1) (length m) ≡ b → Made item_words_of item_ok_of (item_tree_of e) v u x
            by_size false size = absurd (err_ok (length m) (x, u) (sym (reading_err t (ends_at m (ref_name_at v)) (length m) (ap (ends_at m) of ∙ ends_else m y.0 y.1 size)) ∙ line))
            by_size true size =
                let same = (Decides-eqb (length y.1) (length m)).0 size in
                lone_made v m y.1 u t y.0 x is of same (sym (reading_ok t (ends_at m (ref_name_at v)) y.0 y.1 (ap (ends_at m) of ∙ ends_ok m y.0 y.1 same)) ∙ line)

    go : (q : Reading TreeExpr) → expression_at 64 v ≡ q → Made item_words_of item_ok_of (item_tree_of e) v u x
    go (Err left) is = absurd (err_ok left (x, u) (sym (plain_err v left is) ∙ eq))
    go (Ok t) is = named t.1 t.0 is (begins (is_key (codes "AS")) t.1) refl

-- no AS and no column alone: the reading stops behind the expression
lone_left : (v m : Words) (t : TreeExpr) (left : ℕ) → item_reading t (ends_at m (ref_name_at v)) ≡ Err left → left ≡ length m
lone_left v m t left eq = found (ref_name_at v) eq
  where
    found : (q : Reading Spot) → item_reading t (ends_at m q) ≡ Err left → left ≡ length m
    found (Err other) eq = sym (err_left {B = TreeItem × Words} (length m) left eq)
    found (Ok y) eq = by_size (nat_eq (length y.1) (length m)) eq
      where
        by_size : (b : Bool) → item_reading t (cond b (Ok y) (Err (length m))) ≡ Err left → left ≡ length m
        by_size true eq = absurd (Ok-Err (item_of (place_of t) (values.Plain t) y.0, y.1) left eq)
        by_size false eq = sym (err_left {B = TreeItem × Words} (length m) left eq)

-- where an item stops, an item with AS stops
plain_left : (v : Words) (left : ℕ) → plain_at v ≡ Err left → with_alias_at v ≡ Err left
plain_left v left eq = go (expression_at 64 v) refl
  where
    named : (m : Words) (t : TreeExpr) → expression_at 64 v ≡ Ok (t, m) → (b : Bool) → begins (is_key (codes "AS")) m ≡ b → with_alias_at v ≡ Err left
    named m t is true test = sym (same_as v m t is test) ∙ eq
    named m t is false test =
        alias_ok v m t is ∙ reading_err t (alias_at m) (length m) (alias_miss m test)
        ∙ ap (λ n. Err n) (sym (lone_left v m t left (sym (plain_ok v m t false is test) ∙ eq)))

    go : (q : Reading TreeExpr) → expression_at 64 v ≡ q → with_alias_at v ≡ Err left
    go (Err other) is = alias_err v other is ∙ sym (plain_err v other is) ∙ eq
    go (Ok t) is = named t.1 t.0 is (begins (is_key (codes "AS")) t.1) refl

plain_stop : (e : Unit {0}) (v : Words) (left : ℕ) → plain_at v ≡ Err left → Stopped item_words_of item_ok_of v left
plain_stop e v left eq = let k = with_alias.stop tt v left (plain_left v left eq) in record { front = k.front; rest = k.rest; split = k.split; size = k.size; more = k.more; derived = other_way k.derived; good = k.good; words = k.words }

point_ends : (us : List Word) → starts expr_ext us ≡ false → starts (is_sign (codes ".")) us ≡ false
point_ends us end = or_second (is_sign (codes "*")) (is_sign (codes ".")) us (or_second adds (or_else (is_sign (codes "*")) (is_sign (codes "."))) us end)

as_first : (name : List ℕ) (us : List Word) → starts (is_key (codes "AS")) (alias_words name ++ us) ≡ true
unfolding is_key
as_first name us = refl

as_no_expr : (name : List ℕ) (us : List Word) → starts expr_ext (alias_words name ++ us) ≡ false
unfolding is_sign adds
as_no_expr name us = refl

plain_whole : (e : Unit {0}) (d : Plain) (c u : Words) → item_ok_of d → ws c ≡ item_words_of d → Fine c → starts item_ext (ws u) ≡ false → plain_at (c ++ u) ≡ Ok (item_tree_of e (ps (c ++ u)) d, u)
plain_whole e (one_way r) c u good same fine end =
    let no_as = begins_starts (is_key (codes "AS")) u ∙ or_first (is_key (codes "AS")) expr_ext (ws u) end in
    let no_expr = or_second (is_key (codes "AS")) expr_ext (ws u) end in
    let p = ps (c ++ u) in
    let is = expr.whole tt (lone r) c u (lone_depth r) (same ∙ sym (lone_words r)) fine no_expr in
    let name = last_name.whole tt r c u tt same fine (point_ends (ws u) no_expr) in
    plain_ok (c ++ u) u (expr_tree p (lone r)) false is no_as
    ∙ reading_ok (expr_tree p (lone r)) (ends_at u (ref_name_at (c ++ u))) (ref_name p r) u (ap (ends_at u) name ∙ ends_ok u (ref_name p r) u refl)
    ∙ ap (λ (z : TreeExpr). told_item z) (lone_expr p r)
  where
    told_item : TreeExpr → Reading TreeItem
    told_item z = Ok (item_of (place_of z) (values.Plain z) (ref_name (ps (c ++ u)) r), u)
plain_whole e (other_way d) c u good same fine end =
    let h = halves c (expr_words d.0) (alias_words d.1) same in
    let line : c ++ u ≡ h.front ++ (h.back ++ u) = ap (λ (l : Words). l ++ u) h.split ∙ append_assoc h.front h.back u in
    let behind : ws (h.back ++ u) ≡ alias_words d.1 ++ ws u = ws-append h.back u ∙ ap (λ (l : List Word). l ++ ws u) h.second in
    let is = expr.whole tt d.0 h.front (h.back ++ u) good h.first (fine_front h.front h.back (subst Fine h.split fine)) (ap (starts expr_ext) behind ∙ as_no_expr d.1 (ws u)) in
    let test = begins_starts (is_key (codes "AS")) (h.back ++ u) ∙ ap (starts (is_key (codes "AS"))) behind ∙ as_first d.1 (ws u) in
    let there = same_as (h.front ++ (h.back ++ u)) (h.back ++ u) (expr_tree (ps (h.front ++ (h.back ++ u))) d.0) is test in
    ap plain_at line ∙ there ∙ ap with_alias_at (sym line) ∙ with_alias.whole tt d c u good same fine (none_ends (ws u))
  where
    none_ends : (us : List Word) → starts none us ≡ false
    none_ends [] = refl
    none_ends (w ∷ us) = refl

-- the expression is read alike when what stands behind it changes
expr_moved : (g inner : Words) (s : Seen) (more others : Words) (t : TreeExpr) → expression_at 64 (g ++ (inner ++ s ∷ more)) ≡ Ok (t, inner ++ s ∷ more) → expression_at 64 (g ++ (inner ++ s ∷ others)) ≡ Ok (t, inner ++ s ∷ others)
expr_moved g [] s more others t is = expr.steady tt g s more others t is
expr_moved g (y ∷ inner) s more others t is = expr.steady tt g y (inner ++ s ∷ more) (inner ++ s ∷ others) t is

-- the same of a text that is parted elsewhere
expr_there : (front : Words) (s : Seen) (more others g m : Words) (t : TreeExpr) (n : Within front s more g m) → front ++ s ∷ more ≡ g ++ m → expression_at 64 (front ++ s ∷ more) ≡ Ok (t, m) → expression_at 64 (front ++ s ∷ others) ≡ Ok (t, n.inner ++ s ∷ others)
expr_there front s more others g m t n split is =
    let there : front ++ s ∷ more ≡ g ++ (n.inner ++ s ∷ more) = split ∙ ap (λ (l : Words). g ++ l) n.rest in
    let other : front ++ s ∷ others ≡ g ++ (n.inner ++ s ∷ others) = ap (λ (l : Words). l ++ s ∷ others) n.outer ∙ append_assoc g n.inner (s ∷ others) in
    ap (expression_at 64) other ∙ expr_moved g n.inner s more others t (ap (expression_at 64) (sym there) ∙ is ∙ ap (λ (l : Words). ok l) n.rest)
  where
    ok : Words → Reading TreeExpr
    ok l = Ok (t, l)

test_moved : (inner : Words) (s : Seen) (more others m : Words) (b : Bool) → m ≡ inner ++ s ∷ more → begins (is_key (codes "AS")) m ≡ b → begins (is_key (codes "AS")) (inner ++ s ∷ others) ≡ b
test_moved inner s more others m b rest test = sym (begins_same (is_key (codes "AS")) inner s more others) ∙ ap (begins (is_key (codes "AS"))) (sym rest) ∙ test

plain_same : (e : Unit {0}) (front : Words) (s : Seen) (more others : Words) → plain_at (front ++ s ∷ more) ≡ Err (suc (length more)) → plain_at (front ++ s ∷ others) ≡ Err (suc (length others))
plain_same e front s more others eq = go (expression_at 64 (front ++ s ∷ more)) refl
  where
    named : (m : Words) (t : TreeExpr) → expression_at 64 (front ++ s ∷ more) ≡ Ok (t, m) → (b : Bool) → begins (is_key (codes "AS")) m ≡ b → plain_at (front ++ s ∷ others) ≡ Err (suc (length others))
    named m t is true test =
        let stopped = sym (same_as (front ++ s ∷ more) m t is test) ∙ eq in
        let a = expr.some tt (front ++ s ∷ more) m t is in
        let l = alias_stop m (suc (length more)) (t_err stopped) in
        let n = within front s more a.front m l.front l.rest a.split l.split l.size in
        let is2 = expr_there front s more others a.front m t n a.split is in
        same_as (front ++ s ∷ others) (n.inner ++ s ∷ others) t is2 (test_moved n.inner s more others m true n.rest test)
        ∙ with_alias.same tt front s more others stopped
      where
        t_err : with_alias_at (front ++ s ∷ more) ≡ Err (suc (length more)) → alias_at m ≡ Err (suc (length more))
        t_err stopped = by_alias (alias_at m) refl
          where
            by_alias : (q : Reading Spot) → alias_at m ≡ q → alias_at m ≡ Err (suc (length more))
            by_alias (Err left) of = of ∙ ap (λ k. Err k) (err_left {B = TreeItem × Words} left (suc (length more)) (sym (reading_err t (alias_at m) left of) ∙ sym (alias_ok (front ++ s ∷ more) m t is) ∙ stopped))
            by_alias (Ok y) of = absurd (Ok-Err (item_of (place_of t) (values.Plain t) y.0, y.1) (suc (length more)) (sym (reading_ok t (alias_at m) y.0 y.1 of) ∙ sym (alias_ok (front ++ s ∷ more) m t is) ∙ stopped))
    named m t is false test =
        let line = sym (plain_ok (front ++ s ∷ more) m t false is test) ∙ eq in
        let size = lone_left (front ++ s ∷ more) m t (suc (length more)) line in
        let a = expr.some tt (front ++ s ∷ more) m t is in
        let k = seam front (s ∷ more) a.front m a.split size in
        let n : Within front s more a.front m = record { inner = []; outer = k.fronts ∙ sym (append-nil a.front); rest = sym k.backs } in
        let is2 = expr_there front s more others a.front m t n a.split is in
        plain_ok (front ++ s ∷ others) (s ∷ others) t false is2 (test_moved [] s more others m false (sym k.backs) test)
        ∙ reading_err t (ends_at (s ∷ others) (ref_name_at (front ++ s ∷ others))) (suc (length others)) (found (sym k.backs) line (ref_name_at (front ++ s ∷ others)) refl)
      where
        found : m ≡ s ∷ more → item_reading t (ends_at m (ref_name_at (front ++ s ∷ more))) ≡ Err (suc (length more)) → (q : Reading Spot) → ref_name_at (front ++ s ∷ others) ≡ q → ends_at (s ∷ others) q ≡ Err (suc (length others))
        found back line (Err left) of = refl
        found back line (Ok y) of = by_size (nat_eq (length y.1) (suc (length others))) refl
          where
            by_size : (b : Bool) → nat_eq (length y.1) (suc (length others)) ≡ b → cond b (Ok y) (Err (suc (length others))) ≡ Err (suc (length others))
            by_size false size = refl
            by_size true size =
                let same = (Decides-eqb (length y.1) (suc (length others))).0 size in
                let a = last_name.some tt (front ++ s ∷ others) y.1 y.0 of in
                let k = seam front (s ∷ others) a.front y.1 a.split (sym same) in
                let there = last_name.steady tt front s others more y.0 (of ∙ ap (λ (l : Words). ok l) (sym k.backs)) in
                let still : ends_at m (ref_name_at (front ++ s ∷ more)) ≡ Ok (y.0, s ∷ more) = ap (ends_at m) there ∙ ends_ok m y.0 (s ∷ more) (ap length (sym back)) in
                absurd (Ok-Err (item_of (place_of t) (values.Plain t) y.0, s ∷ more) (suc (length more)) (sym (reading_ok t (ends_at m (ref_name_at (front ++ s ∷ more))) y.0 (s ∷ more) still) ∙ line))
              where
                ok : Words → Reading Spot
                ok l = Ok (y.0, l)

    go : (q : Reading TreeExpr) → expression_at 64 (front ++ s ∷ more) ≡ q → plain_at (front ++ s ∷ others) ≡ Err (suc (length others))
    go (Err left) is =
        let size = err_left {B = TreeItem × Words} left (suc (length more)) (sym (plain_err (front ++ s ∷ more) left is) ∙ eq) in
        plain_err (front ++ s ∷ others) (suc (length others)) (expr.same tt front s more others (is ∙ ap (λ k. Err k) size))
    go (Ok t) is = named t.1 t.0 is (begins (is_key (codes "AS")) t.1) refl

plain_steady : (e : Unit {0}) (front : Words) (s : Seen) (more others : Words) (x : TreeItem) → plain_at (front ++ s ∷ more) ≡ Ok (x, s ∷ more) → plain_at (front ++ s ∷ others) ≡ Ok (x, s ∷ others)
plain_steady e front s more others x eq = go (expression_at 64 (front ++ s ∷ more)) refl
  where
    named : (m : Words) (t : TreeExpr) → expression_at 64 (front ++ s ∷ more) ≡ Ok (t, m) → (b : Bool) → begins (is_key (codes "AS")) m ≡ b → plain_at (front ++ s ∷ others) ≡ Ok (x, s ∷ others)
    named m t is true test =
        let went = sym (same_as (front ++ s ∷ more) m t is test) ∙ eq in
        let a = expr.some tt (front ++ s ∷ more) m t is in
        let l = t_ok went (alias_at m) refl in
        let n = within front s more a.front m l.0 (s ∷ more) a.split l.1 refl in
        let is2 = expr_there front s more others a.front m t n a.split is in
        same_as (front ++ s ∷ others) (n.inner ++ s ∷ others) t is2 (test_moved n.inner s more others m true n.rest test)
        ∙ with_alias.steady tt front s more others x went
      where
        t_ok : with_alias_at (front ++ s ∷ more) ≡ Ok (x, s ∷ more) → (q : Reading Spot) → alias_at m ≡ q → (l : Words) × (m ≡ l ++ s ∷ more)
        t_ok went (Err left) of = absurd (err_ok left (x, s ∷ more) (sym (reading_err t (alias_at m) left of) ∙ sym (alias_ok (front ++ s ∷ more) m t is) ∙ went))
        t_ok went (Ok y) of =
            let k = alias_some m y.1 y.0 of in
            let ends : y.1 ≡ s ∷ more = ok_rest (item_of (place_of t) (values.Plain t) y.0) x y.1 (s ∷ more) (sym (reading_ok t (alias_at m) y.0 y.1 of) ∙ sym (alias_ok (front ++ s ∷ more) m t is) ∙ went) in
            (k.front, k.split ∙ ap (λ (l : Words). k.front ++ l) ends)
    named m t is false test = found (ref_name_at (front ++ s ∷ more)) refl
      where
        line : item_reading t (ends_at m (ref_name_at (front ++ s ∷ more))) ≡ Ok (x, s ∷ more)
        line = sym (plain_ok (front ++ s ∷ more) m t false is test) ∙ eq

        found : (q : Reading Spot) → ref_name_at (front ++ s ∷ more) ≡ q → plain_at (front ++ s ∷ others) ≡ Ok (x, s ∷ others)
        found (Err left) of = absurd (err_ok (length m) (x, s ∷ more) (sym (reading_err t (ends_at m (ref_name_at (front ++ s ∷ more))) (length m) (ap (ends_at m) of)) ∙ line))
        found (Ok y) of = by_size (nat_eq (length y.1) (length m)) refl
          where
            by_size : (b : Bool) → nat_eq (length y.1) (length m) ≡ b → plain_at (front ++ s ∷ others) ≡ Ok (x, s ∷ others)
            by_size false size = absurd (err_ok (length m) (x, s ∷ more) (sym (reading_err t (ends_at m (ref_name_at (front ++ s ∷ more))) (length m) (ap (ends_at m) of ∙ ends_else m y.0 y.1 size)) ∙ line))
            by_size true size =
                let same = (Decides-eqb (length y.1) (length m)).0 size in
                let whole = sym (reading_ok t (ends_at m (ref_name_at (front ++ s ∷ more))) y.0 y.1 (ap (ends_at m) of ∙ ends_ok m y.0 y.1 same)) ∙ line in
                let ends : y.1 ≡ s ∷ more = ok_rest (item_of (place_of t) (values.Plain t) y.0) x y.1 (s ∷ more) whole in
                let value : item_of (place_of t) (values.Plain t) y.0 ≡ x = ok_value (item_of (place_of t) (values.Plain t) y.0) x y.1 (s ∷ more) whole in
                let a = expr.some tt (front ++ s ∷ more) m t is in
                let k = seam front (s ∷ more) a.front m a.split (sym (ap length ends) ∙ same) in
                let n : Within front s more a.front m = record { inner = []; outer = k.fronts ∙ sym (append-nil a.front); rest = sym k.backs } in
                let is2 = expr_there front s more others a.front m t n a.split is in
                let there = last_name.steady tt front s more others y.0 (of ∙ ap (λ (l : Words). ok l) ends) in
                plain_ok (front ++ s ∷ others) (s ∷ others) t false is2 (test_moved [] s more others m false (sym k.backs) test)
                ∙ reading_ok t (ends_at (s ∷ others) (ref_name_at (front ++ s ∷ others))) y.0 (s ∷ others) (ap (ends_at (s ∷ others)) there ∙ ends_ok (s ∷ others) y.0 (s ∷ others) refl)
                ∙ ap (λ (z : TreeItem). item z) value
              where
                ok : Words → Reading Spot
                ok l = Ok (y.0, l)

                item : TreeItem → Reading TreeItem
                item z = Ok (z, s ∷ others)

    go : (q : Reading TreeExpr) → expression_at 64 (front ++ s ∷ more) ≡ q → plain_at (front ++ s ∷ others) ≡ Ok (x, s ∷ others)
    go (Err left) is = absurd (err_ok left (x, s ∷ more) (sym (plain_err (front ++ s ∷ more) left is) ∙ eq))
    go (Ok t) is = named t.1 t.0 is (begins (is_key (codes "AS")) t.1) refl

-- a column alone, or an expression with a name
pub plain_exact : Exact {X = Unit {0}} {A = TreeItem} {D = Plain} (λ e v. plain_at v) item_words_of item_ok_of item_tree_of item_ext
plain_exact = record {
  any = one_way (alone []);
  any_ok = tt;
  some = plain_some;
  stop = plain_stop;
  whole = plain_whole;
  repaired = repaired;
  same = plain_same;
  steady = plain_steady;
}
  where
    repaired : (d : Plain) → item_ok_of d → Repaired item_words_of item_ok_of d
    repaired (one_way r) good = let k = last_name.repaired r tt in record { other = one_way k.other; good = tt; words = k.words }
    repaired (other_way d) good = let k = with_alias.repaired d good in record { other = other_way k.other; good = k.good; words = k.words }
