-- a text in quotes says what is read of it
use Rattle.std.proofs.Common.{◌≡◌, ℕ, ◌-◌, ◌≤◌, Bool, true, false, cond, nat_eq, List, [], ◌∷◌, ◌++◌, length, get_or, take, drop, take_all, refl, sym, ◌∙◌, ap, subst, append_assoc, arith, Result, Ok, Err, IfOk, IfSome, IfNone, option_map}
use Rattle.std.proofs.lemmas.Bool.Decides.{nat_tests}
use Rattle.std.proofs.lemmas.List.{append-nil}
use Rattle.std.proofs.lemmas.Option.{none-some, same_Some}
use Rattle.std.specs.declared.option.Option.{Option}
use Rattle.std.specs.declared.option.Option.TheVariants.{None, Some}
use Rattle.std.specs.Str.{IsUtf8}
use Rattle.base_kit.specs.declared.memory.Memory.{Memory}
use Rattle.tiql_lex.specs.Kinds.{doubled, quoted, IsText}
use Rattle.tiql_lex.specs.Scan.{value_from}

is_quote : (b : ℕ) → nat_eq b 39 ≡ true → b ≡ 39
is_quote b e = grind (arith, nat_tests)

-- the bytes go on a text of which this was read, up to its last quote
record Spells (read bytes value : List ℕ) : Type 0 where
  more : List ℕ
  whole : value ≡ read ++ more
  spelling : bytes ≡ doubled more ++ 39 ∷ []

-- a byte that is no quote stands for itself
plain_spells : (b : ℕ) (read bytes value : List ℕ) → nat_eq b 39 ≡ false → Spells (read ++ b ∷ []) bytes value → Spells read (b ∷ bytes) value
plain_spells b read bytes value q s = record {
  more = b ∷ s.more;
  whole = s.whole ∙ append_assoc read (b ∷ []) s.more;
  spelling = rw q (ap (λ (l : List ℕ). b ∷ l) s.spelling);
}

-- two quotes stand for one
quote_spells : (b : ℕ) (read bytes value : List ℕ) → nat_eq b 39 ≡ true → Spells (read ++ b ∷ []) bytes value → Spells read (39 ∷ b ∷ bytes) value
quote_spells b read bytes value q s = record {
  more = b ∷ s.more;
  whole = s.whole ∙ append_assoc read (b ∷ []) s.more;
  spelling = rw q (ap (λ (c : ℕ). 39 ∷ c ∷ bytes) (is_quote b q) ∙ ap (λ (l : List ℕ). 39 ∷ 39 ∷ l) s.spelling);
}

-- behind a quote that may end the text it stands before the bytes
bytes_behind : Bool → List ℕ → List ℕ
bytes_behind true bytes = 39 ∷ bytes
bytes_behind false bytes = bytes

value_takes : (read : List ℕ) (ended : Bool) (bytes value : List ℕ) → value_from read ended bytes ≡ Some value → Spells read (bytes_behind ended bytes) value
unfolding bytes_behind
value_takes read false [] value e = absurd (none-some value e)
value_takes read true [] value e = record { more = []; whole = sym (same_Some read value e) ∙ sym (append-nil read); spelling = refl }
value_takes read false (b ∷ bytes) value e = by_quote (nat_eq b 39) refl (value_takes read true bytes value) (value_takes (read ++ b ∷ []) false bytes value) e
  where
    by_quote : (t : Bool) → nat_eq b 39 ≡ t → (value_from read true bytes ≡ Some value → Spells read (39 ∷ bytes) value) → (value_from (read ++ b ∷ []) false bytes ≡ Some value → Spells (read ++ b ∷ []) bytes value) → cond t (value_from read true bytes) (value_from (read ++ b ∷ []) false bytes) ≡ Some value → Spells read (b ∷ bytes) value
    by_quote true q ended inside e = subst (λ (c : ℕ). Spells read (c ∷ bytes) value) (sym (is_quote b q)) (ended e)
    by_quote false q ended inside e = plain_spells b read bytes value q (inside e)
value_takes read true (b ∷ bytes) value e = by_quote (nat_eq b 39) refl (value_takes (read ++ b ∷ []) false bytes value) e
  where
    by_quote : (t : Bool) → nat_eq b 39 ≡ t → (value_from (read ++ b ∷ []) false bytes ≡ Some value → Spells (read ++ b ∷ []) bytes value) → cond t (value_from (read ++ b ∷ []) false bytes) None ≡ Some value → Spells read (39 ∷ b ∷ bytes) value
    by_quote true q inside e = quote_spells b read bytes value q (inside e)
    by_quote false q inside e = absurd (none-some value e)

value_again : (read value : List ℕ) → value_from read false (doubled value ++ 39 ∷ []) ≡ Some (read ++ value)
value_again read [] = ap Some (sym (append-nil read))
value_again read (b ∷ value) = by_quote (nat_eq b 39) refl (value_again (read ++ b ∷ []) value)
  where
    by_quote : (t : Bool) → nat_eq b 39 ≡ t → value_from (read ++ b ∷ []) false (doubled value ++ 39 ∷ []) ≡ Some ((read ++ b ∷ []) ++ value) → value_from read false (cond t (39 ∷ 39 ∷ doubled value) (b ∷ doubled value) ++ 39 ∷ []) ≡ Some (read ++ b ∷ value)
    by_quote true q e = ap (λ (c : ℕ). value_from (read ++ c ∷ []) false (doubled value ++ 39 ∷ [])) (sym (is_quote b q)) ∙ e ∙ ap Some (append_assoc read (b ∷ []) value)
    by_quote false q e = rw q (e ∙ ap Some (append_assoc read (b ∷ []) value))

-- the value of a text in quotes is read
value_of_text : List ℕ → Option (List ℕ)
value_of_text [] = None
value_of_text (b ∷ bs) = value_from [] false bs

quoted_again : (value : List ℕ) → value_of_text (quoted value) ≡ Some value
unfolding value_of_text
quoted_again value = value_again [] value

-- a value has one spelling
pub same_value : (one other : List ℕ) → quoted one ≡ quoted other → one ≡ other
same_value one other same = same_Some one other (sym (quoted_again one) ∙ ap value_of_text same ∙ quoted_again other)

-- behind the first quote
pub value_some : (text rest value : List ℕ) → 1 ≤ length text → get_or text 0 0 ≡ 39 → rest ≡ take (length text - 1) (drop 1 text) → value_from [] false rest ≡ Some value → text ≡ quoted value
unfolding bytes_behind
value_some [] rest value long first is e = absurd (omega arith)
value_some (b ∷ bs) rest value long first is e =
    let back : length (b ∷ bs) - 1 ≡ length bs = omega arith in
    let all : rest ≡ bs = is ∙ ap (λ n. take n bs) back ∙ take_all (length bs) bs (omega arith) in
    let s = value_takes [] false bs value (ap (value_from [] false) (sym all) ∙ e) in
    ap (λ (c : ℕ). c ∷ bs) first ∙ ap (λ (l : List ℕ). 39 ∷ l) (s.spelling ∙ ap (λ (v : List ℕ). doubled v ++ 39 ∷ []) (sym s.whole))

pub value_none : (text rest : List ℕ) → rest ≡ take (length text - 1) (drop 1 text) → value_from [] false rest ≡ None → (value : List ℕ) → text ≡ quoted value → ⊥
value_none text rest is none value whole =
    let back : length (quoted value) - 1 ≡ length (doubled value ++ 39 ∷ []) = omega arith in
    let all : rest ≡ doubled value ++ 39 ∷ [] = is ∙ ap (λ (l : List ℕ). take (length l - 1) (drop 1 l)) whole ∙ ap (λ n. take n (doubled value ++ 39 ∷ [])) back ∙ take_all (length (doubled value ++ 39 ∷ [])) (doubled value ++ 39 ∷ []) (omega arith) in
    none-some value (sym none ∙ ap (value_from [] false) all ∙ value_again [] value)

pub is_text_yes : (lexeme value : List ℕ) → lexeme ≡ quoted value → IsUtf8 value × (length value ≤ 1000) → IsText lexeme
is_text_yes lexeme value whole good = record { value = value; whole = whole; utf8 = good.0; short = good.1 }

pub is_text_no : (lexeme value : List ℕ) → lexeme ≡ quoted value → (IsUtf8 value × (length value ≤ 1000) → ⊥) → IsText lexeme → ⊥
is_text_no lexeme value whole bad t =
    bad (subst (λ (v : List ℕ). IsUtf8 v × (length v ≤ 1000)) (same_value t.value value (sym t.whole ∙ whole)) (t.utf8, t.short))

-- the clauses of the call that reads a text, by what it reads behind the first quote
pub reads_some : {V : Type 0} (items : V → List ℕ) (text rest : List ℕ) → 1 ≤ length text → get_or text 0 0 ≡ 39 → rest ≡ take (length text - 1) (drop 1 text) → (r : Result (Option V) Memory) → IfOk r (λ found. option_map items found ≡ value_from [] false rest) → IfOk r (λ found. IfSome found (λ value. text ≡ quoted (items value)))
reads_some items text rest long first is (Ok (Some value)) e = value_some text rest (items value) long first is (sym e)
reads_some items text rest long first is (Ok None) e = tt
reads_some items text rest long first is (Err fault) e = e

pub reads_none : {V : Type 0} (items : V → List ℕ) (text rest : List ℕ) → rest ≡ take (length text - 1) (drop 1 text) → (r : Result (Option V) Memory) → IfOk r (λ found. option_map items found ≡ value_from [] false rest) → IfOk r (λ found. IfNone found ((value : List ℕ) → text ≡ quoted value → ⊥))
reads_none items text rest is (Ok (Some value)) e = tt
reads_none items text rest is (Ok None) e = value_none text rest is (sym e)
reads_none items text rest is (Err fault) e = e

pub no_text : {V : Type 0} (lexeme : List ℕ) (found : Option V) → found ≡ None → IfNone found ((value : List ℕ) → lexeme ≡ quoted value → ⊥) → IsText lexeme → ⊥
no_text lexeme found is none t = subst (λ (o : Option _). IfNone o ((value : List ℕ) → lexeme ≡ quoted value → ⊥)) is none t.value t.whole
