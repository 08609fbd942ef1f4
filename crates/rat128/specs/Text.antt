-- The one spelling of a fraction.
use Rattle.std.specs.Prelude.{ℕ, zero, suc, List, [], ◌++◌, codes, decimal}
use Rattle.std.specs.Fmt.{signed_decimal}
use Rattle.rat128.specs.Fractions.{Fraction}

-- what follows the numerator: nothing where the denominator is 1, else a slash and the denominator
abbrev pub den_text : ℕ → List ℕ
den_text zero = []
den_text (suc n) = codes "/" ++ decimal (suc (suc n))

-- the numerator, and what follows it
abbrev pub rat_text : Fraction → List ℕ
rat_text p = signed_decimal p.num ++ den_text p.less_one
