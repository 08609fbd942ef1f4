-- what tests of one word find
use Rattle.std.proofs.Common.{◌≡◌, ℕ, ◌-◌, Bool, true, false, cond, List, [], ◌∷◌, length, take, codes, refl, sym, ◌∙◌, ap, arith}
use Rattle.std.specs.declared.option.Option.{Option}
use Rattle.std.specs.declared.option.Option.TheVariants.{None, Some}
use Rattle.base_kit.specs.declared.place.Place.{Place}
use Rattle.tiql_tree.specs.Words.{Word}
use Rattle.tiql_read.specs.declared.word.Seen.{Seen}
use Rattle.tiql_read.specs.Steps.{word_of}
use Rattle.tiql_read.proofs.Exact.{fixed}
use Rattle.std.proofs.Common.{◌&&◌, bytes_eq, nat_eq}
use Rattle.std.proofs.lemmas.Bool.Decides.{Decides-eqb}
use Rattle.std.specs.Prelude.{nat_le}
use Rattle.std.specs.Str.{is_utf8}
use Rattle.std.proofs.lemmas.Str.{is_utf8-from_IsUtf8}
use Rattle.tiql_lex.specs.Scan.{value_from}
use Rattle.std.proofs.lemmas.Bool.{and_parts}
use Rattle.std.proofs.lemmas.Option.{same_Some, none-some}
use Rattle.std.proofs.lemmas.Slice.Eq.{bytes_eq-Decides}
use Rattle.std.specs.Prelude.{pos}
use Rattle.std.specs.Str.Parse.{digits_value}
use Rattle.base_kit.specs.Names.{is_name}
use Rattle.base_kit.specs.Keywords as reserved
use Rattle.tiql_lex.specs.declared.token.TokenKind.{TokenKind}
use Rattle.tiql_lex.specs.declared.token.TokenKind.TheVariants.{Name, Keyword, Number, Text, Sign}
use Rattle.tiql_lex.specs.Kinds.{is_number, quoted}
use Rattle.tiql_lex.proofs.Texts.{same_value, value_some}
use Rattle.tiql_tree.specs.declared.tree.Spot.{Spot}
use Rattle.tiql_tree.specs.declared.expression.TreeExpr.{TreeExpr}
use Rattle.tiql_tree.specs.declared.expression.TreeForm.TheVariants as forms
use Rattle.tiql_tree.specs.Words.{key, sign, named, digits, in_quotes}
use Rattle.tiql_tree.specs.Trees.{expr_at}
use Rattle.tiql_read.specs.Steps.{is_kind, is_key, is_sign, is_named, spot_of, mark_of}
use Rattle.tiql_read.specs.Expressions.{literal_of, value_of_text, text_expr, short_text}
use Rattle.tiql_read.proofs.Exact.{text_or}
use Rattle.tiql_read.proofs.Rules.{Needs, Takes}
use Rattle.tiql_read.proofs.Branches.{Either}
use Rattle.tiql_read.proofs.Branches.Either.{one_way, other_way}

same_kind : (one other : TokenKind) → is_kind one other ≡ true → one ≡ other
same_kind Name Name h = refl
same_kind Keyword Keyword h = refl
same_kind Number Number h = refl
same_kind Text Text h = refl
same_kind Sign Sign h = refl
same_kind Name Keyword h = absurd cc
same_kind Name Number h = absurd cc
same_kind Name Text h = absurd cc
same_kind Name Sign h = absurd cc
same_kind Keyword Name h = absurd cc
same_kind Keyword Number h = absurd cc
same_kind Keyword Text h = absurd cc
same_kind Keyword Sign h = absurd cc
same_kind Number Name h = absurd cc
same_kind Number Keyword h = absurd cc
same_kind Number Text h = absurd cc
same_kind Number Sign h = absurd cc
same_kind Text Name h = absurd cc
same_kind Text Keyword h = absurd cc
same_kind Text Number h = absurd cc
same_kind Text Sign h = absurd cc
same_kind Sign Name h = absurd cc
same_kind Sign Keyword h = absurd cc
same_kind Sign Number h = absurd cc
same_kind Sign Text h = absurd cc

abbrev word_at : TokenKind → List ℕ → Word
word_at kind text = record { kind = kind; text = text }

-- the word is of this kind and has these bytes
one_word : (kind : TokenKind) (text : List ℕ) (word : Word) → (is_kind kind word.kind && bytes_eq word.text text) ≡ true → word ≡ word_at kind text
one_word kind text word h =
    let k = sym (same_kind kind word.kind (and_parts (is_kind kind word.kind) (bytes_eq word.text text) h).0) in
    let b = (bytes_eq-Decides word.text text).0 (and_parts (is_kind kind word.kind) (bytes_eq word.text text) h).1 in
    ap (λ (x : TokenKind). word_at x word.text) k ∙ ap (λ (x : List ℕ). word_at kind x) b

itself : (text : List ℕ) → bytes_eq text text ≡ true
itself text = (bytes_eq-Decides text text).1 refl

pub key_needs : (text : List ℕ) → Needs (is_key text) (key text)
unfolding is_key
key_needs text = record { hit = itself text; only = one_word Keyword text; fine = refl }

pub sign_needs : (text : List ℕ) → Needs (is_sign text) (sign text)
unfolding is_sign
sign_needs text = record { hit = itself text; only = one_word Sign text; fine = refl }

-- a word that one test finds
pub last_takes : {A : Type 0} (test : Word → Bool) (k : Word) (f : Place → A) → Needs test k → Takes {A = A} {D = Unit {0}} (λ s. cond (test (word_of s)) (Some (f s.place)) None) (λ d. k) (λ p d. f p)
last_takes {A} test k f needs = record { any = tt; some = some; again = again; repaired = λ d. (tt, sym needs.fine) }
  where
    some : (s : Seen) (a : A) → cond (test (word_of s)) (Some (f s.place)) None ≡ Some a → (d : Unit {0}) × (word_of s ≡ k) × (a ≡ f s.place)
    some s a eq = by_test (test (word_of s)) refl eq
      where
        by_test : (b : Bool) → test (word_of s) ≡ b → cond b (Some (f s.place)) None ≡ Some a → (d : Unit {0}) × (word_of s ≡ k) × (a ≡ f s.place)
        by_test true hit eq = (tt, needs.only (word_of s) hit, sym (same_Some (f s.place) a eq))
        by_test false miss eq = absurd (none-some a eq)

    again : (s : Seen) (d : Unit {0}) → word_of s ≡ k → fixed k ≡ k → cond (test (word_of s)) (Some (f s.place)) None ≡ Some (f s.place)
    again s d is fine = rw (ap test is ∙ needs.hit) refl

abbrev pub either_key : {D : Type 0} → Word → (D → Word) → Either (Unit {0}) D → Word
either_key k key2 (one_way d) = k
either_key k key2 (other_way d) = key2 d

abbrev pub either_value : {A D : Type 0} → (Place → A) → (Place → D → A) → Place → Either (Unit {0}) D → A
either_value f t2 p (one_way d) = f p
either_value f t2 p (other_way d) = t2 p d

-- a word that one test finds, or another one
pub or_takes : {A D : Type 0} (test : Word → Bool) (k : Word) (f : Place → A) → Needs test k → {value : Seen → Option A} {key2 : D → Word} {t2 : Place → D → A} → Takes value key2 t2 → ((d : D) → test (key2 d) ≡ false) →
    Takes {A = A} {D = Either (Unit {0}) D} (λ s. cond (test (word_of s)) (Some (f s.place)) (value s)) (either_key k key2) (either_value f t2)
or_takes {A} {D} test k f needs {value} {key2} {t2} takes apart = record { any = one_way tt; some = some; again = again; repaired = repaired }
  where
    some : (s : Seen) (a : A) → cond (test (word_of s)) (Some (f s.place)) (value s) ≡ Some a → (d : Either (Unit {0}) D) × (word_of s ≡ either_key k key2 d) × (a ≡ either_value f t2 s.place d)
    some s a eq = by_test (test (word_of s)) refl eq
      where
        by_test : (b : Bool) → test (word_of s) ≡ b → cond b (Some (f s.place)) (value s) ≡ Some a → (d : Either (Unit {0}) D) × (word_of s ≡ either_key k key2 d) × (a ≡ either_value f t2 s.place d)
        by_test true hit eq = (one_way tt, needs.only (word_of s) hit, sym (same_Some (f s.place) a eq))
        by_test false miss eq = let x = takes.some s a eq in (other_way x.0, x.1, x.2)

    again : (s : Seen) (d : Either (Unit {0}) D) → word_of s ≡ either_key k key2 d → fixed (either_key k key2 d) ≡ either_key k key2 d → cond (test (word_of s)) (Some (f s.place)) (value s) ≡ Some (either_value f t2 s.place d)
    again s (one_way d) is fine = rw (ap test is ∙ needs.hit) refl
    again s (other_way d) is fine = rw (ap test is ∙ apart d) (takes.again s d is fine)

    repaired : (d : Either (Unit {0}) D) → (other : Either (Unit {0}) D) × (either_key k key2 other ≡ fixed (either_key k key2 d))
    repaired (one_way d) = (one_way tt, sym needs.fine)
    repaired (other_way d) = let x = takes.repaired d in (other_way x.0, x.1)

-- the same of other derivations
pub retake : {A D E : Type 0} {value : Seen → Option A} {k : D → Word} {t : Place → D → A} → Takes value k t → (k2 : E → Word) (t2 : Place → E → A) (to : D → E) (back : E → D) → ((d : D) → k2 (to d) ≡ k d) → ((p : Place) (d : D) → t2 p (to d) ≡ t p d) → ((d : E) → to (back d) ≡ d) → Takes value k2 t2
retake {A} {D} {E} {value} {k} {t} takes k2 t2 to back keys values onto = record {
  any = to takes.any;
  some = λ s a eq. let x = takes.some s a eq in (to x.0, x.1 ∙ sym (keys x.0), x.2 ∙ sym (values s.place x.0));
  again = λ s d is fine.
      let same = back_key d in
      takes.again s (back d) (is ∙ sym same) (ap fixed same ∙ fine ∙ sym same) ∙ ap (λ (a : A). Some a) (sym (values s.place (back d)) ∙ ap (t2 s.place) (onto d));
  repaired = λ d. let x = takes.repaired (back d) in (to x.0, keys x.0 ∙ x.1 ∙ ap fixed (back_key d));
}
  where
    back_key : (d : E) → k (back d) ≡ k2 d
    back_key d = sym (keys (back d)) ∙ ap k2 (onto d)

-- one of two words
pub two_takes : (yes_test no_test : Word → Bool) (yes_key no_key : Word) → Needs yes_test yes_key → Needs no_test no_key → yes_test no_key ≡ false → Takes {A = Bool} {D = Bool} (λ s. cond (yes_test (word_of s)) (Some true) (cond (no_test (word_of s)) (Some false) None)) (λ b. cond b yes_key no_key) (λ p b. b)
two_takes yes_test no_test yes_key no_key one two apart =
    retake (or_takes yes_test yes_key (λ p. true) one (last_takes no_test no_key (λ p. false) two) (λ d. apart)) (λ b. cond b yes_key no_key) (λ p b. b) to back keys values onto
  where
    to : Either (Unit {0}) (Unit {0}) → Bool
    to (one_way d) = true
    to (other_way d) = false

    back : Bool → Either (Unit {0}) (Unit {0})
    back true = one_way tt
    back false = other_way tt

    keys : (d : Either (Unit {0}) (Unit {0})) → cond (to d) yes_key no_key ≡ either_key yes_key (λ d. no_key) d
    keys (one_way d) = refl
    keys (other_way d) = refl

    values : (p : Place) (d : Either (Unit {0}) (Unit {0})) → to d ≡ either_value (λ p. true) (λ p d. false) p d
    values p (one_way d) = refl
    values p (other_way d) = refl

    onto : (d : Bool) → to (back d) ≡ d
    onto true = refl
    onto false = refl

-- the place of one word
pub mark_takes : (test : Word → Bool) (k : Word) → Needs test k → Takes {A = Place} {D = Unit {0}} (mark_of test) (λ d. k) (λ p d. p)
mark_takes test k needs = last_takes test k (λ p. p) needs

abbrev spot : Place → List ℕ → Spot
spot p name = record { name = name; place = p }

name_only : (s : Seen) → is_named (word_of s) ≡ true → word_of s ≡ named s.text
unfolding is_named
name_only s h = ap (λ (x : TokenKind). word_at x s.text) (sym (same_kind Name s.kind (and_parts (is_kind Name s.kind) (is_name s.text) h).0))

-- a name that is no other one when it is made a token
pub fixed_name : (name : List ℕ) → fixed (named name) ≡ named name → is_name name ≡ true
unfolding is_name reserved.is_keyword
fixed_name name fine = by_test (is_name name) refl fine
  where
    by_test : (b : Bool) → is_name name ≡ b → cond b (named name) (named (codes "a")) ≡ named name → is_name name ≡ true
    by_test true is fine = is
    by_test false is fine = let same : codes "a" ≡ name = ap (λ (w : Word). w.text) fine in ap is_name (sym same)

pub named_name : (name : List ℕ) → is_name name ≡ true → is_named (named name) ≡ true
unfolding is_named
named_name name h = h

pub spot_takes : Takes {A = Spot} {D = List ℕ} spot_of named spot
unfolding spot_of
spot_takes = record { any = codes "a"; some = some; again = again; repaired = repaired }
  where
    some : (s : Seen) (a : Spot) → cond (is_named (word_of s)) (Some (spot s.place s.text)) None ≡ Some a → (d : List ℕ) × (word_of s ≡ named d) × (a ≡ spot s.place d)
    some s a eq = by_test (is_named (word_of s)) refl eq
      where
        by_test : (b : Bool) → is_named (word_of s) ≡ b → cond b (Some (spot s.place s.text)) None ≡ Some a → (d : List ℕ) × (word_of s ≡ named d) × (a ≡ spot s.place d)
        by_test true hit eq = (s.text, name_only s hit, sym (same_Some (spot s.place s.text) a eq))
        by_test false miss eq = absurd (none-some a eq)

    again : (s : Seen) (d : List ℕ) → word_of s ≡ named d → fixed (named d) ≡ named d → cond (is_named (word_of s)) (Some (spot s.place s.text)) None ≡ Some (spot s.place d)
    again s d is fine = rw (ap is_named is ∙ named_name d (fixed_name d fine)) (ap (λ (n : List ℕ). Some (spot s.place n)) (ap (λ (w : Word). w.text) is))

    repaired : (d : List ℕ) → (other : List ℕ) × (named other ≡ fixed (named d))
    repaired d = by_test (is_name d)
      where
        by_test : (b : Bool) → (other : List ℕ) × (named other ≡ cond b (named d) (named (codes "a")))
        by_test true = (d, refl)
        by_test false = (codes "a", refl)

abbrev pub lit_key : Either (List ℕ) (List ℕ) → Word
lit_key (one_way number) = digits number
lit_key (other_way value) = in_quotes value

abbrev pub lit_tree : Place → Either (List ℕ) (List ℕ) → TreeExpr
lit_tree p (one_way number) = expr_at p (forms.Number (pos (digits_value 10 number)))
lit_tree p (other_way value) = expr_at p (forms.Text value)

fixed_number : (number : List ℕ) → fixed (digits number) ≡ digits number → is_number number ≡ true
fixed_number number fine = by_test (is_number number) refl fine
  where
    by_test : (b : Bool) → is_number number ≡ b → cond b (digits number) (digits (codes "0")) ≡ digits number → is_number number ≡ true
    by_test true is fine = is
    by_test false is fine = let same : codes "0" ≡ number = ap (λ (w : Word). w.text) fine in ap is_number (sym same)

empty : value_of_text (quoted []) ≡ Some []
unfolding value_of_text
empty = rw (is_utf8-from_IsUtf8 [] ([], (refl, refl))) refl

take_all : (bs : List ℕ) → take (length bs) bs ≡ bs
take_all [] = refl
take_all (b ∷ bs) = ap (λ (l : List ℕ). b ∷ l) (take_all bs)

front : (b : ℕ) (bs : List ℕ) → bs ≡ take (length (b ∷ bs) - 1) bs
front b bs = let n : length (b ∷ bs) - 1 ≡ length bs = omega arith in sym (rw n (take_all bs))

same_byte : (b : ℕ) → nat_eq b 39 ≡ true → b ≡ 39
same_byte b e = (Decides-eqb b 39).0 e

-- the text is that of the value
quoted_takes : (text value : List ℕ) → value_of_text text ≡ Some value → text ≡ quoted value
unfolding value_of_text
quoted_takes [] value e = absurd (none-some value e)
quoted_takes (b ∷ bs) value e = by_quote (nat_eq b 39) refl e
  where
    kept : (o : Option (List ℕ)) → value_from [] false bs ≡ o → short_text o ≡ Some value → nat_eq b 39 ≡ true → b ∷ bs ≡ quoted value
    kept None is e quote = absurd (none-some value e)
    kept (Some found) is e quote = by_short (is_utf8 found && nat_le (length found) 1000) e
      where
        by_short : (t : Bool) → cond t (Some found) None ≡ Some value → b ∷ bs ≡ quoted value
        by_short false e = absurd (none-some value e)
        by_short true e = value_some (b ∷ bs) bs value (omega arith) (same_byte b quote) (front b bs) (is ∙ e)

    by_quote : (t : Bool) → nat_eq b 39 ≡ t → cond t (short_text (value_from [] false bs)) None ≡ Some value → b ∷ bs ≡ quoted value
    by_quote false quote e = absurd (none-some value e)
    by_quote true quote e = kept (value_from [] false bs) refl e quote

fixed_text : (value : List ℕ) → fixed (in_quotes value) ≡ in_quotes value → value_of_text (quoted value) ≡ Some value
fixed_text value fine = by_value (value_of_text (quoted value)) refl fine
  where
    by_value : (o : Option (List ℕ)) → value_of_text (quoted value) ≡ o → text_or (in_quotes value) o ≡ in_quotes value → value_of_text (quoted value) ≡ Some value
    by_value (Some found) is fine = is ∙ ap (λ (v : List ℕ). Some v) (sym (same_value value found (quoted_takes (quoted value) found is)))
    by_value None is fine = let none : value ≡ [] = sym (same_value [] value (ap (λ (w : Word). w.text) fine)) in absurd (none-some [] (sym is ∙ ap (λ (v : List ℕ). value_of_text (quoted v)) none ∙ empty))

abbrev lit_by_word : Place → Word → Option TreeExpr
lit_by_word p w = cond (is_kind Number w.kind) (cond (is_number w.text) (Some (expr_at p (forms.Number (pos (digits_value 10 w.text))))) None) (cond (is_kind Text w.kind) (text_expr p (value_of_text w.text)) None)

word_value : (s : Seen) (w : Word) → word_of s ≡ w → lit_by_word s.place (word_of s) ≡ lit_by_word s.place w
word_value s w is = ap (lit_by_word s.place) is

pub lit_takes : Takes {A = TreeExpr} {D = Either (List ℕ) (List ℕ)} literal_of lit_key lit_tree
unfolding literal_of
lit_takes = record { any = one_way (codes "0"); some = some; again = again; repaired = repaired }
  where
    some : (s : Seen) (a : TreeExpr) → cond (is_kind Number s.kind) (cond (is_number s.text) (Some (expr_at s.place (forms.Number (pos (digits_value 10 s.text))))) None) (cond (is_kind Text s.kind) (text_expr s.place (value_of_text s.text)) None) ≡ Some a → (d : Either (List ℕ) (List ℕ)) × (word_of s ≡ lit_key d) × (a ≡ lit_tree s.place d)
    some s a eq = by_number (is_kind Number s.kind) refl (is_number s.text) (is_kind Text s.kind) refl (value_of_text s.text) refl eq
      where
        by_number : (n : Bool) → is_kind Number s.kind ≡ n → (m : Bool) (t : Bool) → is_kind Text s.kind ≡ t → (o : Option (List ℕ)) → value_of_text s.text ≡ o →
            cond n (cond m (Some (expr_at s.place (forms.Number (pos (digits_value 10 s.text))))) None) (cond t (text_expr s.place o) None) ≡ Some a → (d : Either (List ℕ) (List ℕ)) × (word_of s ≡ lit_key d) × (a ≡ lit_tree s.place d)
        by_number true n true t is o of eq =
            (one_way s.text, ap (λ (x : TokenKind). word_at x s.text) (sym (same_kind Number s.kind n)), sym (same_Some (expr_at s.place (forms.Number (pos (digits_value 10 s.text)))) a eq))
        by_number true n false t is o of eq = absurd (none-some a eq)
        by_number false n m true is (Some value) of eq =
            (other_way value, ap (λ (x : TokenKind). word_at x s.text) (sym (same_kind Text s.kind is)) ∙ ap (λ (x : List ℕ). word_at Text x) (quoted_takes s.text value of), sym (same_Some (expr_at s.place (forms.Text value)) a eq))
        by_number false n m true is None of eq = absurd (none-some a eq)
        by_number false n m false is o of eq = absurd (none-some a eq)

    again : (s : Seen) (d : Either (List ℕ) (List ℕ)) → word_of s ≡ lit_key d → fixed (lit_key d) ≡ lit_key d → cond (is_kind Number s.kind) (cond (is_number s.text) (Some (expr_at s.place (forms.Number (pos (digits_value 10 s.text))))) None) (cond (is_kind Text s.kind) (text_expr s.place (value_of_text s.text)) None) ≡ Some (lit_tree s.place d)
    again s (one_way number) is fine = word_value s (digits number) is ∙ rw (fixed_number number fine) refl
    again s (other_way value) is fine = word_value s (in_quotes value) is ∙ rw (fixed_text value fine) refl

    repaired : (d : Either (List ℕ) (List ℕ)) → (other : Either (List ℕ) (List ℕ)) × (lit_key other ≡ fixed (lit_key d))
    repaired (one_way number) = by_test (is_number number)
      where
        by_test : (b : Bool) → (other : Either (List ℕ) (List ℕ)) × (lit_key other ≡ cond b (digits number) (digits (codes "0")))
        by_test true = (one_way number, refl)
        by_test false = (one_way (codes "0"), refl)
    repaired (other_way value) = by_value (value_of_text (quoted value))
      where
        by_value : (o : Option (List ℕ)) → (other : Either (List ℕ) (List ℕ)) × (lit_key other ≡ text_or (in_quotes value) o)
        by_value (Some found) = (other_way value, refl)
        by_value None = (other_way [], refl)
