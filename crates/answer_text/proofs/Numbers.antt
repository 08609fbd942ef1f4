-- Whole numbers and their one spelling.
use Rattle.std.proofs.Common.{◌≡◌, ◌≢◌, ◌+◌, ◌-◌, ◌*◌, ◌/◌, ◌%◌, ◌^◌, ◌<◌, ◌≤◌, ℕ, Bool, true, false, cond, ◌&&◌, List, [], ◌∷◌, ◌++◌, length, refl, sym, ◌∙◌, ap, ap₂, arith, append_assoc, get_or, drop, nat_lt, eqb, decimal}
use Rattle.std.proofs.lemmas.Bool.{eqb-true, eqb-false, ltb-true, lt-ltb, le-ltb, ne_eqb, true≢false, false≢true}
use Rattle.std.proofs.lemmas.Bool.Decides.{nat_tests}
use Rattle.std.proofs.lemmas.List.{append-nil, drop_more, drop_all}
use Rattle.std.proofs.lemmas.Fmt.{decimal_by_steps_wide, decimal_step_wide, decimal_digit}
use Rattle.std.proofs.lemmas.Slice.Eq.{bytes_eq-Decides}
use Rattle.std.specs.Prelude.{Option, Some, None}
use Rattle.std.specs.Char.{is_ascii_digit}
use Rattle.std.specs.List.{list_all}
use Rattle.std.specs.Str.{bytes_eq}
use Rattle.answer_text.specs.Tokens.{are_digits, is_numeral, value_after, number_of}
use Rattle.answer_text.proofs.Words.{lacks}

-- a digit is a byte from 48 to 57
digit_within : (byte : ℕ) → is_ascii_digit byte ≡ true → (48 ≤ byte) × (byte ≤ 57)
digit_within byte h = grind (arith, nat_tests)

digit_test : (byte : ℕ) → 48 ≤ byte → byte ≤ 57 → is_ascii_digit byte ≡ true
digit_test byte low high = grind (arith, nat_tests)

-- a test of two lists together
all_both : (p : ℕ → Bool) (xs ys : List ℕ) → list_all p xs ≡ true → list_all p ys ≡ true → list_all p (xs ++ ys) ≡ true
all_both p [] ys front back = back
all_both p (x ∷ xs) ys front back = by_test (p x) (all_both p xs ys) front
  where
    by_test : (b : Bool) → (list_all p xs ≡ true → list_all p ys ≡ true → list_all p (xs ++ ys) ≡ true) → (b && list_all p xs) ≡ true → (b && list_all p (xs ++ ys)) ≡ true
    by_test true more h = more h back
    by_test false more h = h

pub all_head : (p : ℕ → Bool) (x : ℕ) (xs : List ℕ) → list_all p (x ∷ xs) ≡ true → p x ≡ true
all_head p x xs h = by_test (p x) h
  where
    by_test : (b : Bool) → (b && list_all p xs) ≡ true → b ≡ true
    by_test true h = refl
    by_test false h = h

all_tail : (p : ℕ → Bool) (x : ℕ) (xs : List ℕ) → list_all p (x ∷ xs) ≡ true → list_all p xs ≡ true
all_tail p x xs h = by_test (p x) h
  where
    by_test : (b : Bool) → (b && list_all p xs) ≡ true → list_all p xs ≡ true
    by_test true h = h
    by_test false h = absurd (false≢true h)

value_after-append : (n : ℕ) (xs ys : List ℕ) → value_after n (xs ++ ys) ≡ value_after (value_after n xs) ys
unfolding value_after
value_after-append n [] ys = refl
value_after-append n (x ∷ xs) ys = value_after-append (n * 10 + (x - 48)) xs ys

-- more digits make no number less
pub value_after-le : (n : ℕ) (xs : List ℕ) → n ≤ value_after n xs
unfolding value_after
value_after-le n [] = omega arith
value_after-le n (x ∷ xs) = omega (arith, value_after-le (n * 10 + (x - 48)) xs)

-- what the spelling of a number is
pub record Spells (n : ℕ) (digits : List ℕ) : Type 0 where
  pub all : are_digits digits ≡ true
  pub value : value_after 0 digits ≡ n
  pub numeral : is_numeral digits ≡ true

-- no zero stands in front of a numeral that goes on
numeral_more : (digits : List ℕ) (last : ℕ) → 0 < value_after 0 digits → is_numeral digits ≡ true → are_digits (digits ++ last ∷ []) ≡ true → is_numeral (digits ++ last ∷ []) ≡ true
unfolding is_numeral value_after
numeral_more [] last some numeral all = absurd (omega arith)
numeral_more (first ∷ digits) last some numeral all = by_test (eqb first 48) refl numeral
  where
    zero_alone : (rest : List ℕ) → first ≡ 48 → eqb (length rest) 0 ≡ true → 0 < value_after (0 * 10 + (first - 48)) rest → ⊥
    zero_alone [] is alone some = let none : first - 48 ≡ 0 = omega arith in absurd (omega arith)
    zero_alone (next ∷ rest) is alone some = absurd (omega (arith, eqb-true (length (next ∷ rest)) 0 alone))

    by_test : (b : Bool) → eqb first 48 ≡ b → cond b (eqb (length digits) 0) (are_digits (first ∷ digits)) ≡ true → cond b (eqb (length (digits ++ last ∷ [])) 0) (are_digits (first ∷ digits ++ last ∷ [])) ≡ true
    by_test true is alone = absurd (zero_alone digits (eqb-true first 48 is) alone some)
    by_test false is h = all

spells_one : (n : ℕ) → n < 10 → Spells n ((48 + n) ∷ [])
unfolding is_numeral value_after
spells_one n low = record {
  all = rw (digit_test (48 + n) (omega arith) (omega arith));
  value = omega arith;
  numeral = either_way (eqb (48 + n) 48);
}
  where
    either_way : (b : Bool) → cond b true (is_ascii_digit (48 + n) && true) ≡ true
    either_way true = refl
    either_way false = rw (digit_test (48 + n) (omega arith) (omega arith))

value_last : (front n : ℕ) → front ≡ n / 10 → value_after front ((48 + n % 10) ∷ []) ≡ n
unfolding value_after
value_last front n is = omega arith

spells_more : (n : ℕ) (digits : List ℕ) → 10 ≤ n → Spells (n / 10) digits → Spells n (digits ++ (48 + n % 10) ∷ [])
spells_more n digits high spells =
    let last : are_digits ((48 + n % 10) ∷ []) ≡ true = rw (digit_test (48 + n % 10) (omega arith) (omega arith)) in
    let all = all_both is_ascii_digit digits ((48 + n % 10) ∷ []) spells.all last in
    record {
      all = all;
      value = value_after-append 0 digits ((48 + n % 10) ∷ []) ∙ value_last (value_after 0 digits) n spells.value;
      numeral = numeral_more digits (48 + n % 10) (omega (arith, spells.value)) spells.numeral all;
    }

pub decimal_spells : (n : ℕ) → n < 10 ^ 64 → Spells n (decimal n)
decimal_spells n low = decimal_by_steps_wide Spells spells_one spells_more n low

-- a number of more digits than one is spelled by its front and its last digit
decimal_grows : (n digit : ℕ) → 0 < n → 48 ≤ digit → digit ≤ 57 → n * 10 + (digit - 48) < 10 ^ 64 → decimal (n * 10 + (digit - 48)) ≡ decimal n ++ digit ∷ []
decimal_grows n digit some low high small =
    let whole = n * 10 + (digit - 48) in
    let front : whole / 10 ≡ n = omega arith in
    let last : 48 + whole % 10 ≡ digit = omega arith in
    decimal_step_wide whole (omega arith) small ∙ ap₂ (λ (m d : ℕ). decimal m ++ d ∷ []) front last

-- digits behind a number that is not 0
grow : (digits : List ℕ) (n : ℕ) (front : List ℕ) → 0 < n → decimal n ≡ front → are_digits digits ≡ true → value_after n digits < 10 ^ 64 → decimal (value_after n digits) ≡ front ++ digits
unfolding value_after
grow [] n front some spelled all small = spelled ∙ sym (append-nil front)
grow (digit ∷ digits) n front some spelled all small =
    let within = digit_within digit (all_head is_ascii_digit digit digits all) in
    let next = n * 10 + (digit - 48) in
    let below : next < 10 ^ 64 = omega (arith, value_after-le next digits) in
    grow digits next (front ++ digit ∷ []) (omega arith) (decimal_grows n digit some within.0 within.1 below ∙ ap (λ (l : List ℕ). l ++ digit ∷ []) spelled) (all_tail is_ascii_digit digit digits all) small
    ∙ append_assoc front (digit ∷ []) digits

-- a numeral is the spelling of its value
pub numeral_spelled : (text : List ℕ) → is_numeral text ≡ true → value_after 0 text < 10 ^ 64 → decimal (value_after 0 text) ≡ text
unfolding is_numeral value_after
numeral_spelled [] numeral small = cc
numeral_spelled (digit ∷ digits) numeral small = by_test (eqb digit 48) refl numeral
  where
    zero_alone : (rest : List ℕ) → digit ≡ 48 → eqb (length rest) 0 ≡ true → decimal (value_after (0 * 10 + (digit - 48)) rest) ≡ digit ∷ rest
    zero_alone [] is alone = rw is (decimal_digit 0 (omega arith))
    zero_alone (next ∷ rest) is alone = absurd (omega (arith, eqb-true (length (next ∷ rest)) 0 alone))

    by_test : (b : Bool) → eqb digit 48 ≡ b → cond b (eqb (length digits) 0) (are_digits (digit ∷ digits)) ≡ true → decimal (value_after (0 * 10 + (digit - 48)) digits) ≡ digit ∷ digits
    by_test true is alone = zero_alone digits (eqb-true digit 48 is) alone
    by_test false is all =
        let within = digit_within digit (all_head is_ascii_digit digit digits all) in
        let apart : digit ≢ 48 = eqb-false digit 48 is in
        let same : 48 + (0 * 10 + (digit - 48)) ≡ digit = omega arith in
        let one : decimal (0 * 10 + (digit - 48)) ≡ digit ∷ [] = decimal_digit (0 * 10 + (digit - 48)) (omega arith) ∙ ap (λ (d : ℕ). d ∷ []) same in
        grow digits (0 * 10 + (digit - 48)) (digit ∷ []) (omega arith) one (all_tail is_ascii_digit digit digits all) small

-- a number below a limit has one spelling, which is read as that number
pub number_of-takes : (limit : ℕ) (text : List ℕ) (n : ℕ) → number_of limit text ≡ Some n → (n < limit) × (text ≡ decimal n)
unfolding number_of
number_of-takes limit text n e = by_tests (nat_lt (value_after 0 text) limit) refl (bytes_eq text (decimal (value_after 0 text))) refl e
  where
    by_tests : (low : Bool) → nat_lt (value_after 0 text) limit ≡ low → (same : Bool) → bytes_eq text (decimal (value_after 0 text)) ≡ same → cond (low && same) (Some (value_after 0 text)) None ≡ Some n → (n < limit) × (text ≡ decimal n)
    by_tests true low true same e =
        let is : value_after 0 text ≡ n = cc in
        (omega (arith, ltb-true (value_after 0 text) limit low), (bytes_eq-Decides text (decimal (value_after 0 text))).0 same ∙ ap decimal is)
    by_tests true low false same e = cc
    by_tests false low same is e = cc

pub number_of-again : (limit n : ℕ) → n < limit → limit ≤ 2 ^ 127 → number_of limit (decimal n) ≡ Some n
unfolding number_of
number_of-again limit n low small =
    let is : value_after 0 (decimal n) ≡ n = (decimal_spells n (omega arith)).value in
    let test : bytes_eq (decimal n) (decimal n) ≡ true = (bytes_eq-Decides (decimal n) (decimal n)).1 refl in
    rw (is, lt-ltb n limit low, test)

-- what is no numeral is the spelling of no number
pub number_of-no_numeral : (limit : ℕ) (text : List ℕ) → limit ≤ 2 ^ 127 → is_numeral text ≡ false → None ≡ number_of limit text
number_of-no_numeral limit text small apart = none (number_of limit text) (number_of-takes limit text)
  where
    none : (o : Option ℕ) → ((n : ℕ) → o ≡ Some n → (n < limit) × (text ≡ decimal n)) → None ≡ o
    none None takes = refl
    none (Some n) takes =
        let is = takes n refl in
        absurd (true≢false (sym (decimal_spells n (omega (arith, is.0))).numeral ∙ ap is_numeral (sym is.1) ∙ apart))

-- what is a numeral is the spelling of its value, where that is below the limit
pub number_of-numeral : (limit : ℕ) (text : List ℕ) (n : ℕ) → limit ≤ 2 ^ 127 → is_numeral text ≡ true → n ≡ value_after 0 text → n < limit → Some n ≡ number_of limit text
number_of-numeral limit text n small numeral is low =
    let spelled : decimal (value_after 0 text) ≡ text = numeral_spelled text numeral (omega arith) in
    sym (number_of-again limit n low small) ∙ ap (number_of limit) (ap decimal is ∙ spelled)

pub number_of-above : (limit : ℕ) (text : List ℕ) → limit ≤ value_after 0 text → None ≡ number_of limit text
unfolding number_of
number_of-above limit text high = rw (le-ltb (value_after 0 text) limit high)

-- a numeral has digits alone
pub numeral_digits : (text : List ℕ) → is_numeral text ≡ true → are_digits text ≡ true
unfolding is_numeral
numeral_digits [] numeral = refl
numeral_digits (digit ∷ digits) numeral = by_test (eqb digit 48) refl numeral
  where
    zero_alone : (rest : List ℕ) → digit ≡ 48 → eqb (length rest) 0 ≡ true → are_digits (digit ∷ rest) ≡ true
    zero_alone [] is alone = rw (digit_test digit (omega arith) (omega arith))
    zero_alone (next ∷ rest) is alone = absurd (omega (arith, eqb-true (length (next ∷ rest)) 0 alone))

    by_test : (b : Bool) → eqb digit 48 ≡ b → cond b (eqb (length digits) 0) (are_digits (digit ∷ digits)) ≡ true → are_digits (digit ∷ digits) ≡ true
    by_test true is alone = zero_alone digits (eqb-true digit 48 is) alone
    by_test false is all = all

-- digits lack every mark that is no digit
digits_lack : (mark : ℕ) → is_ascii_digit mark ≡ false → (digits : List ℕ) → are_digits digits ≡ true → lacks mark digits ≡ true
digits_lack mark other [] all = refl
digits_lack mark other (digit ∷ digits) all =
    let apart : eqb digit mark ≡ false = ne_eqb digit mark (λ same. true≢false (sym (all_head is_ascii_digit digit digits all) ∙ ap is_ascii_digit same ∙ other)) in
    rw apart (digits_lack mark other digits (all_tail is_ascii_digit digit digits all))

pub decimal_lacks : (mark n : ℕ) → is_ascii_digit mark ≡ false → n < 2 ^ 127 → lacks mark (decimal n) ≡ true
decimal_lacks mark n other low = digits_lack mark other (decimal n) (decimal_spells n (omega arith)).all

-- one turn of the loop that reads digits
pub digits_next : (text : List ℕ) (i : ℕ) → i < length text → are_digits (drop i text) ≡ true → (48 ≤ get_or text i 0) × (are_digits (drop (i + 1) text) ≡ true)
digits_next text i lt all =
    let first : are_digits (get_or text i 0 ∷ drop (i + 1) text) ≡ true = ap are_digits (sym (drop_more text i 0 lt)) ∙ all in
    ((digit_within (get_or text i 0) (all_head is_ascii_digit (get_or text i 0) (drop (i + 1) text) first)).0, all_tail is_ascii_digit (get_or text i 0) (drop (i + 1) text) first)

pub value_next : (text : List ℕ) (i n next value : ℕ) → i < length text → value_after n (drop i text) ≡ value → next ≡ n * 10 + (get_or text i 0 - 48) → value_after next (drop (i + 1) text) ≡ value
unfolding value_after
value_next text i n next value lt so more =
    ap (λ (m : ℕ). value_after m (drop (i + 1) text)) more ∙ ap (value_after n) (sym (drop_more text i 0 lt)) ∙ so

-- digits so far that make too great a number are too great with what follows
pub value_great : (text : List ℕ) (i n limit value : ℕ) → i < length text → value_after n (drop i text) ≡ value → (n * 10 + (get_or text i 0 - 48) < limit → ⊥) → value < limit → ⊥
unfolding value_after
value_great text i n limit value lt so great low =
    let next = n * 10 + (get_or text i 0 - 48) in
    let is : value_after next (drop (i + 1) text) ≡ value = value_next text i n next value lt so refl in
    great (omega (arith, value_after-le next (drop (i + 1) text)))

-- at the end of the text the digits are all read
pub value_end : (text : List ℕ) (i n value : ℕ) → length text ≤ i → value_after n (drop i text) ≡ value → n ≡ value
unfolding value_after
value_end text i n value end so = ap (value_after n) (sym (drop_all i text end)) ∙ so
