-- what digits write
use Rattle.std.proofs.Common.{◌≡◌, ℕ, ◌+◌, ◌-◌, ◌*◌, ◌<◌, ◌≤◌, true, false, List, [], ◌∷◌, length, get_or, drop, sym, ◌∙◌, ap, arith}
use Rattle.std.specs.Prelude.{nat_le}
use Rattle.std.proofs.lemmas.Bool.{lt-leb}
use Rattle.std.proofs.lemmas.Bool.Decides.{nat_tests}
use Rattle.std.proofs.lemmas.List.{drop_more}
use Rattle.std.specs.Char.{digit_value, is_ascii_digit}
use Rattle.std.specs.Str.Parse.{digits_value, digits_value_after}

digit_value_is : (c : ℕ) → is_ascii_digit c ≡ true → digit_value c ≡ c - 48
digit_value_is c digit = grind (arith, nat_tests)

-- digits behind a number make it no less
digits_value_after-ge : (n : ℕ) (digits : List ℕ) → n ≤ digits_value_after 10 n digits
digits_value_after-ge n [] = omega arith
digits_value_after-ge n (c ∷ cs) = omega (arith, digits_value_after-ge (n * 10 + digit_value c) cs)

-- once the digits so far pass the most, all of them do
pub past_most : (text : List ℕ) (i n most : ℕ) → i < length text → is_ascii_digit (get_or text i 0) ≡ true → digits_value_after 10 n (drop i text) ≡ digits_value 10 text → most < n * 10 + (get_or text i 0 - 48) → nat_le (digits_value 10 text) most ≡ false
past_most text i n most lt digit value past =
    let c = get_or text i 0 in
    let rest = drop (i + 1) text in
    let all : digits_value_after 10 (n * 10 + digit_value c) rest ≡ digits_value 10 text = sym (ap (digits_value_after 10 n) (drop_more text i 0 lt)) ∙ value in
    lt-leb (digits_value 10 text) most (omega (arith, digit_value_is c digit, digits_value_after-ge (n * 10 + digit_value c) rest, all))
