-- words that are tokens
use Rattle.std.proofs.Common.{◌≡◌, ℕ, ◌<◌, ◌≤◌, ◌^◌, true, false, List, [], ◌∷◌, ◌++◌, length, codes, decimal, refl, arith}
use Rattle.std.proofs.lemmas.Bool.Decides.{nat_tests}
use Rattle.std.proofs.lemmas.Fmt.{digits_decimal, digits_value-decimal, decimal_nonempty}
use Rattle.std.proofs.lemmas.Str.Parse.{numerals_by_value, tells_digits}
use Rattle.std.specs.Char.{is_ascii_digit}
use Rattle.std.specs.List.{list_all, AllByRecursion}
use Rattle.std.specs.Int.{IsInRange}
use Rattle.std.specs.Str.Parse.{digits_value, AllDigits}
use Rattle.base_kit.specs.Keywords.{is_keyword}
use Rattle.base_kit.specs.Names.{starts_name}
use Rattle.tiql_tree.specs.Words.{Word, sign, key, digits}
use Rattle.tiql_tree.proofs.Written.{Good}

pub all_append : (xs ys : List Word) → AllByRecursion Good xs → AllByRecursion Good ys → AllByRecursion Good (xs ++ ys)
all_append [] ys one other = other
all_append (x ∷ xs) ys one other = (one.0, all_append xs ys one.1 other)

pub all_front : (xs ys : List Word) → AllByRecursion Good (xs ++ ys) → AllByRecursion Good xs
all_front [] ys all = tt
all_front (x ∷ xs) ys all = (all.0, all_front xs ys all.1)

pub all_back : (xs ys : List Word) → AllByRecursion Good (xs ++ ys) → AllByRecursion Good ys
all_back [] ys all = all
all_back (x ∷ xs) ys all = all_back xs ys all.1

pub open_good : Good (sign (codes "("))
open_good = record { shape = refl; kind = refl; fits = tt }

pub close_good : Good (sign (codes ")"))
close_good = record { shape = refl; kind = refl; fits = tt }

pub bracket_good : Good (sign (codes "["))
bracket_good = record { shape = refl; kind = refl; fits = tt }

pub end_bracket_good : Good (sign (codes "]"))
end_bracket_good = record { shape = refl; kind = refl; fits = tt }

pub as_good : Good (key (codes "AS"))
unfolding is_keyword
as_good = record { shape = refl; kind = refl; fits = tt }

pub decimal_again : (n : ℕ) → n ≤ 10 ^ 15 → digits_value 10 (decimal n) ≡ n
decimal_again n small = digits_value-decimal (numerals_by_value _ tells_digits) n (omega arith)

digit_test : (c : ℕ) → IsInRange 48 57 c → is_ascii_digit c ≡ true
digit_test c range = grind (arith, nat_tests)

digit_no_name : (c : ℕ) → IsInRange 48 57 c → starts_name c ≡ false
digit_no_name c range = grind (arith, nat_tests)

all_digits : (ds : List ℕ) → AllDigits 10 ds → list_all is_ascii_digit ds ≡ true
all_digits [] all = refl
all_digits (c ∷ cs) all = let k = tells_digits.parts c cs all in rw (digit_test c k.0) (all_digits cs k.1)

digits_good : (ds : List ℕ) → AllDigits 10 ds → 0 < length ds → digits_value 10 ds ≤ 10 ^ 15 → Good (digits ds)
digits_good [] all long small = absurd (omega arith)
digits_good (c ∷ cs) all long small =
    let k = tells_digits.parts c cs all in
    record { shape = rw (digit_no_name c k.0, digit_test c k.0) (all_digits cs k.1); kind = rw (digit_no_name c k.0, digit_test c k.0) refl; fits = small }

pub decimal_good : (n : ℕ) → n ≤ 10 ^ 15 → Good (digits (decimal n))
decimal_good n small =
    digits_good (decimal n) (digits_decimal (numerals_by_value _ tells_digits) n (omega arith)) (decimal_nonempty n (omega arith)) (omega (arith, decimal_again n small))
