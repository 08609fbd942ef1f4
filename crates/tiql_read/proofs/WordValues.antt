-- what single words say
use Rattle.std.proofs.Common.{◌≡◌, ℕ, ◌-◌, ◌<◌, ◌≤◌, Bool, true, false, cond, not, ◌&&◌, List, [], ◌∷◌, ◌++◌, length, take, drop, nat_eq, refl, sym, ◌∙◌, ap, subst, arith}
use Rattle.std.specs.Prelude.{nat_le, Result, Ok, Err, IfOk}
use Rattle.base_kit.specs.declared.memory.Memory.{Memory}
use Rattle.std.specs.declared.option.Option.{Option}
use Rattle.std.specs.declared.option.Option.TheVariants.{None, Some}
use Rattle.std.proofs.lemmas.Bool.{and_parts, false_from_ne_true, false≢true, lt-leb}
use Rattle.std.proofs.lemmas.Bool.Decides.{nat_tests}
use Rattle.std.proofs.lemmas.List.{take_all}
use Rattle.std.proofs.lemmas.Str.{IsUtf8-from_ascii, IsUtf8-from_is_utf8, is_utf8-from_IsUtf8}
use Rattle.std.proofs.lemmas.Str.Ascii.{IsAscii-nil, IsAscii-cons}
use Rattle.std.specs.List.{list_all}
use Rattle.std.specs.Str.{IsUtf8, IsAscii, is_utf8}
use Rattle.base_kit.specs.Names.{starts_name, continues_name, is_word, is_name}
use Rattle.base_kit.specs.Keywords.{is_keyword}
use Rattle.tiql_lex.specs.declared.token.TokenKind.TheVariants as kinds
use Rattle.tiql_lex.specs.Kinds.{doubled, quoted}
use Rattle.tiql_lex.specs.Scan.{value_from}
use Rattle.tiql_lex.proofs.Texts.{same_value, value_some, value_none}
use Rattle.tiql_tree.specs.declared.tree.Spot.{Spot}
use Rattle.tiql_read.specs.declared.word.Seen.{Seen}
use Rattle.tiql_read.specs.Steps.{is_kind, is_named, spot_of}
use Rattle.tiql_read.specs.Expressions.{short_text, value_of_text}

byte_ascii : (c : ℕ) → continues_name c ≡ true → c < 128
byte_ascii c e = grind (arith, nat_tests)

first_ascii : (c : ℕ) → starts_name c ≡ true → c < 128
first_ascii c e = grind (arith, nat_tests)

rest_ascii : (bytes : List ℕ) → list_all continues_name bytes ≡ true → IsAscii bytes
rest_ascii [] e = IsAscii-nil
rest_ascii (c ∷ cs) e = let both = and_parts (continues_name c) (list_all continues_name cs) e in IsAscii-cons c cs (byte_ascii c both.0) (rest_ascii cs both.1)

name_utf8 : (bytes : List ℕ) → is_name bytes ≡ true → IsUtf8 bytes
unfolding is_name
name_utf8 bytes e = of_word bytes (and_parts (is_word bytes) (nat_le (length bytes) 64) (and_parts (is_word bytes && nat_le (length bytes) 64) (not (is_keyword bytes)) e).0).0
  where
    of_word : (word : List ℕ) → is_word word ≡ true → IsUtf8 word
    of_word [] e = absurd (false≢true e)
    of_word (c ∷ cs) e =
        let both = and_parts (starts_name c) (list_all continues_name cs) e in
        IsUtf8-from_ascii (c ∷ cs) (IsAscii-cons c cs (first_ascii c both.0) (rest_ascii cs both.1))

-- bytes that are no UTF-8 are no name
pub no_name : (bytes : List ℕ) → (IsUtf8 bytes → ⊥) → is_name bytes ≡ false
no_name bytes none = false_from_ne_true (is_name bytes) (λ e. none (name_utf8 bytes e))

-- a word whose bytes are no name
pub no_spot : (seen : Seen) → is_name seen.text ≡ false → ◌≡◌ {A = Option Spot} None (spot_of seen)
unfolding spot_of is_named
no_spot seen e = rw e (by_kind (is_kind kinds.Name seen.kind))
  where
    by_kind : (t : Bool) → ◌≡◌ {A = Option Spot} None (cond (t && false) (Some (record { name = seen.text; place = seen.place })) None)
    by_kind true = refl
    by_kind false = refl

behind_first : (b : ℕ) (bs : List ℕ) → bs ≡ take (length (b ∷ bs) - 1) (drop 1 (b ∷ bs))
behind_first b bs =
    let back : length (b ∷ bs) - 1 ≡ length bs = omega arith in
    sym (ap (λ n. take n bs) back ∙ take_all (length bs) bs (omega arith))

-- a value in quotes is read again
again : (value : List ℕ) → value_from [] false (doubled value ++ 39 ∷ []) ≡ Some value
again value = by_value (value_from [] false (doubled value ++ 39 ∷ [])) refl
  where
    by_value : (o : Option (List ℕ)) → value_from [] false (doubled value ++ 39 ∷ []) ≡ o → o ≡ Some value
    by_value None e = absurd (value_none (quoted value) (doubled value ++ 39 ∷ []) (behind_first 39 (doubled value ++ 39 ∷ [])) e value refl)
    by_value (Some v) e = ap Some (same_value v value (sym (value_some (quoted value) (doubled value ++ 39 ∷ []) v (omega arith) refl (behind_first 39 (doubled value ++ 39 ∷ [])) e)))

-- what a text in quotes says, if it is one that may be
pub said : (text value : List ℕ) → text ≡ quoted value → value_of_text text ≡ short_text (Some value)
unfolding value_of_text
said text value whole = ap value_of_text whole ∙ ap short_text (again value)

-- nothing but a text in quotes says anything
pub says_nothing : (text : List ℕ) → ((value : List ℕ) → text ≡ quoted value → ⊥) → None ≡ value_of_text text
unfolding value_of_text
says_nothing [] none = refl
says_nothing (b ∷ bs) none = by_quote (nat_eq b 39) refl
  where
    by_value : b ≡ 39 → (o : Option (List ℕ)) → value_from [] false bs ≡ o → None ≡ short_text o
    by_value quote None e = refl
    by_value quote (Some v) e = absurd (none v (value_some (b ∷ bs) bs v (omega arith) quote (behind_first b bs) e))

    by_quote : (t : Bool) → nat_eq b 39 ≡ t → None ≡ cond t (short_text (value_from [] false bs)) None
    by_quote true q = by_value (grind (arith, nat_tests)) (value_from [] false bs) refl
    by_quote false q = refl

-- bytes that are no UTF-8 are no text
pub not_utf8 : (value : List ℕ) → (IsUtf8 value → ⊥) → None ≡ short_text (Some value)
not_utf8 value none = rw (false_from_ne_true (is_utf8 value) (λ e. none (IsUtf8-from_is_utf8 value e))) refl

pub too_long : (value : List ℕ) → 1000 < length value → None ≡ short_text (Some value)
too_long value long = rw (lt-leb (length value) 1000 long) (by_test (is_utf8 value))
  where
    by_test : (t : Bool) → ◌≡◌ {A = Option (List ℕ)} None (cond (t && false) (Some value) None)
    by_test true = refl
    by_test false = refl

pub short_enough : (value : List ℕ) → IsUtf8 value → length value ≤ 1000 → Some value ≡ short_text (Some value)
short_enough value utf8 short =
    let le : nat_le (length value) 1000 ≡ true = grind (arith, nat_tests) in
    rw (is_utf8-from_IsUtf8 value utf8, le) refl

pub no_fault : {A E : Type 0} (a : A) (e : E) → ◌≡◌ {A = Result A E} (Ok a) (Err e) → ⊥
no_fault a e same = cc

pub made_text : (made lent value : List ℕ) → made ≡ lent → lent ≡ value → IsUtf8 value → (1000 < length lent → ⊥) → Some made ≡ short_text (Some value)
made_text made lent value is same utf8 short =
    ap Some (is ∙ same) ∙ short_enough value utf8 (omega (arith, short, ap length same))

-- the same of what a function gives
pub text_said : (r : Result (Option (List ℕ)) Memory) (text value lent : List ℕ) → text ≡ quoted value → lent ≡ value → IfOk r (λ made. made ≡ short_text (Some lent)) → IfOk r (λ made. made ≡ value_of_text text)
text_said r text value lent whole same h =
    subst (λ (o : Option (List ℕ)). IfOk r (λ made. made ≡ o)) (ap (λ (v : List ℕ). short_text (Some v)) same ∙ sym (said text value whole)) h
