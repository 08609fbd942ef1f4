-- Spellings: the digits of numbers of 127 bits, and that a fraction's spelling names it alone.
use Rattle.std.proofs.Common.{◌≡◌, ◌≢◌, ◌⊎◌, inl, inr, ℕ, zero, suc, ◌+◌, ◌-◌, ◌*◌, ◌/◌, ◌%◌, ◌^◌, ◌<◌, ◌≤◌, List, [], ◌∷◌, ◌++◌, length, take, drop, get_or, decimal, Option, Some, None, MatchOption, IfSome, IfNone, ℤ, pos, negsuc, neg_ℤ, unsigned_abs, refl, sym, ap, ap₂, ◌∙◌, subst, arith, lt-ltb, le-ltb, append-nil, length-take, length-append, length-drop, take_all, take-append-drop}
use Rattle.std.proofs.lemmas.Bool.{cases_order}
use Rattle.std.proofs.Math.Seq.{take-append_seam, drop-append-add}
use Rattle.std.proofs.lemmas.Bool.Decides.{nat_tests}
use Rattle.std.proofs.lemmas.List.{take_more, drop_more}
use Rattle.std.specs.Fmt.{signed_decimal}
use Rattle.std.specs.Int.{IsInRange}
use Rattle.std.specs.Char.{digit_value}
use Rattle.std.specs.Str.Parse.{digits_value, AllDigits}
use Rattle.std.proofs.lemmas.Fmt.{decimal_is_IsNumeral_wide, decimal_digit, decimal_step_wide, decimal_by_steps_wide}
use Rattle.std.proofs.lemmas.Int.Digits.{digits_value_more}
use Rattle.std.proofs.lemmas.Str.Parse.{digit_at, digits_value-take-le}
use Rattle.rat128.specs.Fractions.{Fraction, den}
use Rattle.rat128.specs.Text.{rat_text, den_text}
use Rattle.rat128.specs.Operations.{IsNarrow}
use Rattle.rat128.specs.Steps.{AreTexts, seen}
use Rattle.rat128.specs.Divisors.{gcd}
use Rattle.rat128.proofs.Lowest.{unsigned_abs-neg}
use Rattle.rat128.proofs.Operations.{suc-less}

-- ---- digits
small_wide : (n : ℕ) → n < 2 ^ 127 → n < 10 ^ 64
small_wide n h = omega arith

pub nonempty : (n : ℕ) → n < 2 ^ 127 → 0 < length (decimal n)
nonempty n h = (decimal_is_IsNumeral_wide n (small_wide n h)).0.0

pub all_digits : (n : ℕ) → n < 2 ^ 127 → AllDigits 10 (decimal n)
all_digits n h = (decimal_is_IsNumeral_wide n (small_wide n h)).0.1

pub value_of_decimal : (n : ℕ) → n < 2 ^ 127 → digits_value 10 (decimal n) ≡ n
value_of_decimal n h = (decimal_is_IsNumeral_wide n (small_wide n h)).1

pub decimal_injective : (m n : ℕ) → m < 2 ^ 127 → n < 2 ^ 127 → decimal m ≡ decimal n → m ≡ n
decimal_injective m n h k e =
    sym (value_of_decimal m h) ∙ ap (digits_value 10) e ∙ value_of_decimal n k

pub digit_of : (n i : ℕ) → n < 2 ^ 127 → i < length (decimal n) → IsInRange 48 57 (get_or (decimal n) i 0)
digit_of n i h lt = digit_at (decimal n) i (all_digits n h) lt

-- a number above 0 does not begin with the digit 0
first_digit : (n : ℕ) → n < 2 ^ 127 → (0 < length (decimal n)) × (0 < n → 48 < get_or (decimal n) 0 0)
first_digit n h =
    decimal_by_steps_wide (λ n ds. (0 < length ds) × (0 < n → 48 < get_or ds 0 0)) (λ n _. (omega arith, λ some. omega arith)) (λ n ds ten p. (more n ds, λ some. subst (λ x. 48 < x) (sym (front ds (48 + n % 10) p.0)) (p.1 (omega arith)))) n (small_wide n h)
  where
    more : (n : ℕ) (ds : List ℕ) → 0 < length (ds ++ (48 + n % 10) ∷ [])
    more n [] = omega arith
    more n (d ∷ ds) = omega arith

    front : (ds : List ℕ) (d : ℕ) → 0 < length ds → get_or (ds ++ d ∷ []) 0 0 ≡ get_or ds 0 0
    front [] d some = absurd (omega arith)
    front (c ∷ ds) d some = refl

pub decimal_zero : decimal 0 ≡ 48 ∷ []
decimal_zero = decimal_digit 0 (omega arith)

-- no number is spelled by nothing, or by a zero before another digit
pub not_empty : (n : ℕ) (ds : List ℕ) → n < 2 ^ 127 → length ds < 1 → decimal n ≢ ds
not_empty n ds h none e = absurd (omega (arith, nonempty n h, ap length e))

pub no_leading_zero : (n : ℕ) (ds : List ℕ) → n < 2 ^ 127 → 1 < length ds → get_or ds 0 0 ≡ 48 → decimal n ≢ ds
no_leading_zero zero ds h long first e =
    absurd (omega (arith, ap length (sym decimal_zero ∙ e)))
no_leading_zero (suc n) ds h long first e =
    let above = (first_digit (suc n) h).1 (omega arith) in
    absurd (omega (arith, ap (λ ds. get_or ds 0 0) e))

pub single_zero : (ds : List ℕ) → length ds ≡ 1 → get_or ds 0 0 ≡ 48 → decimal 0 ≡ ds
single_zero [] one first = absurd (omega arith)
single_zero (x ∷ []) one first = decimal_zero ∙ ap (λ x. x ∷ []) (sym first)
single_zero (x ∷ y ∷ ds) one first = absurd (omega arith)

-- ---- reading digit by digit
-- the digits of a number, and none of 0
abbrev pub digits_so_far : ℕ → List ℕ
digits_so_far zero = []
digits_so_far (suc n) = decimal (suc n)

so_far_positive : (n : ℕ) → 0 < n → digits_so_far n ≡ decimal n
so_far_positive zero some = absurd (omega arith)
so_far_positive (suc n) some = refl

value_so_far : (n : ℕ) → n < 2 ^ 127 → digits_value 10 (digits_so_far n) ≡ n
value_so_far zero h = refl
value_so_far (suc n) h = value_of_decimal (suc n) h

-- one more digit, which is not a 0 at the front
pub one_more : (v d : ℕ) → v < 2 ^ 127 → d < 10 → 0 < v + d → digits_so_far (v * 10 + d) ≡ digits_so_far v ++ (48 + d) ∷ []
one_more zero d h ten some =
    let n : zero * 10 + d ≡ d = omega arith in
    ap digits_so_far n ∙ so_far_positive d (omega arith) ∙ decimal_digit d ten
one_more (suc v) d h ten some =
    let n = suc v * 10 + d in
    let front : n / 10 ≡ suc v = omega arith in
    let last : n % 10 ≡ d = omega arith in
    so_far_positive n (omega arith) ∙ decimal_step_wide n (omega arith) (omega arith) ∙ ap₂ (λ m d. decimal m ++ (48 + d) ∷ []) front last

digit_value_is : (c : ℕ) → IsInRange 48 57 c → digit_value c ≡ c - 48
digit_value_is c h =
    let low = le-ltb c 48 h.0 in
    let high = lt-ltb c 58 (omega arith) in
    grind (arith, nat_tests)

-- the loop stops where no number can have these digits
pub read_stops : (ds : List ℕ) (i v : ℕ) → i < length ds → take i ds ≡ digits_so_far v → v < 2 ^ 127 → (IsInRange 48 57 (get_or ds i 0) → 2 ^ 127 ≤ v * 10 + (get_or ds i 0 - 48)) → (n : ℕ) → n < 2 ^ 127 → decimal n ≢ ds
read_stops ds i v lt front small stop n h e =
    let digit : IsInRange 48 57 (get_or ds i 0) = subst (λ ds. IsInRange 48 57 (get_or ds i 0)) e (digit_of n i h (subst (λ ds. i < length ds) (sym e) lt)) in
    let so_far : digits_value 10 (take (i + 1) ds) ≡ v * 10 + (get_or ds i 0 - 48) = digits_value_more 10 ds i lt ∙ ap₂ (λ m d. m * 10 + d) (ap (digits_value 10) front ∙ value_so_far v small) (digit_value_is (get_or ds i 0) digit) in
    let whole : digits_value 10 ds ≡ n = ap (digits_value 10) (sym e) ∙ value_of_decimal n h in
    let at_most = digits_value-take-le 10 ds (i + 1) (omega arith) in
    let above = stop digit in
    absurd (omega arith)

-- else it has one digit more
pub read_goes_on : (ds : List ℕ) (i v m : ℕ) → i < length ds → take i ds ≡ digits_so_far v → v < 2 ^ 127 → get_or ds 0 0 ≢ 48 → IsInRange 48 57 (get_or ds i 0) → m ≡ v * 10 + (get_or ds i 0 - 48) → take (i + 1) ds ≡ digits_so_far m
read_goes_on ds i v m lt front small first digit is =
    let x = get_or ds i 0 in
    let back : 48 + (x - 48) ≡ x = omega (arith, digit.0) in
    let ten : x - 48 < 10 = omega (arith, digit.1) in
    take_more ds i 0 lt ∙ ap₂ (λ front x. front ++ x ∷ []) front (sym back) ∙ sym (one_more v (x - 48) small ten (some v front)) ∙ ap digits_so_far (sym is)
  where
    some : (v : ℕ) → take i ds ≡ digits_so_far v → 0 < v + (get_or ds i 0 - 48)
    some zero none = at_front (i_is_zero none)
      where
        i_is_zero : take i ds ≡ [] → i ≡ 0
        i_is_zero none = omega (arith, ap length none, length-take i ds)

        at_front : i ≡ 0 → 0 < zero + (get_or ds i 0 - 48)
        at_front z = let other : get_or ds i 0 ≢ 48 = subst (λ i. get_or ds i 0 ≢ 48) (sym z) first in omega (arith, digit.0)
    some (suc v) front = omega arith

-- and at the end it has read the number
pub read_ends : (ds : List ℕ) (i v : ℕ) → length ds ≤ i → 0 < length ds → take i ds ≡ digits_so_far v → decimal v ≡ ds
read_ends ds i zero all some e =
    absurd (omega (arith, ap length (sym (take_all i ds all) ∙ e)))
read_ends ds i (suc v) all some e = sym e ∙ take_all i ds all

-- ---- whole numbers
-- a spelling begins with a digit or a `-`
pub digit_first : (n : ℕ) → n < 2 ^ 127 → 48 ≤ get_or (decimal n) 0 0
digit_first n h = (digit_of n 0 h (nonempty n h)).0

pub no_slash : (z : ℤ) → unsigned_abs z < 2 ^ 127 → (k : ℕ) → k < length (signed_decimal z) → get_or (signed_decimal z) k 0 ≢ 47
no_slash (pos n) h k lt e = absurd (omega (arith, (digit_of n k h lt).0))
no_slash (negsuc n) h zero lt e = absurd (omega (arith, e))
no_slash (negsuc n) h (suc k) lt e =
    absurd (omega (arith, (digit_of (suc n) k h (omega arith)).0))

pub signed_injective : (y z : ℤ) → unsigned_abs y < 2 ^ 127 → unsigned_abs z < 2 ^ 127 → signed_decimal y ≡ signed_decimal z → y ≡ z
signed_injective (pos m) (pos n) h k e = ap pos (decimal_injective m n h k e)
signed_injective (pos m) (negsuc n) h k e =
    absurd (omega (arith, digit_first m h, ap (λ ds. get_or ds 0 0) e))
signed_injective (negsuc m) (pos n) h k e =
    absurd (omega (arith, digit_first n k, ap (λ ds. get_or ds 0 0) e))
signed_injective (negsuc m) (negsuc n) h k e =
    let same = decimal_injective (suc m) (suc n) h k (ap (drop 1) e) in ap negsuc (omega arith)

-- what follows a `-` is a number above 0
minus_front : (bs : List ℕ) → 0 < length bs → get_or bs 0 0 ≡ 45 → 45 ∷ drop 1 bs ≡ bs
minus_front [] some first = absurd (omega arith)
minus_front (b ∷ bs) some first = ap (λ b. b ∷ bs) (sym first)

pub after_minus_none : (bs : List ℕ) → get_or bs 0 0 ≡ 45 → ((n : ℕ) → n < 2 ^ 127 → decimal n ≢ drop 1 bs) → (z : ℤ) → unsigned_abs z < 2 ^ 127 → signed_decimal z ≢ bs
after_minus_none bs first none (pos n) h e =
    absurd (omega (arith, digit_first n h, ap (λ ds. get_or ds 0 0) e))
after_minus_none bs first none (negsuc n) h e = none (suc n) h (ap (drop 1) e)

pub after_minus_zero : (bs : List ℕ) (m : ℕ) → get_or bs 0 0 ≡ 45 → decimal m ≡ drop 1 bs → m ≡ 0 → (z : ℤ) → unsigned_abs z < 2 ^ 127 → signed_decimal z ≢ bs
after_minus_zero bs m first is none (pos n) h e =
    absurd (omega (arith, digit_first n h, ap (λ ds. get_or ds 0 0) e))
after_minus_zero bs m first is none (negsuc n) h e =
    let same = decimal_injective (suc n) 0 h (omega arith) (ap (drop 1) e ∙ sym is ∙ ap decimal none) in
    absurd (omega arith)

pub after_minus_some : (bs : List ℕ) (m : ℕ) (z : ℤ) → 0 < length bs → get_or bs 0 0 ≡ 45 → decimal m ≡ drop 1 bs → m < 2 ^ 127 → 0 < m → z ≡ neg_ℤ (pos m) → (unsigned_abs z < 2 ^ 127) × (signed_decimal z ≡ bs)
after_minus_some bs m z long first is small some e =
    (subst (λ z. unsigned_abs z < 2 ^ 127) (sym e) (subst (λ k. k < 2 ^ 127) (sym (unsigned_abs-neg m)) small), ap signed_decimal e ∙ spelled m some ∙ ap (λ ds. 45 ∷ ds) is ∙ minus_front bs long first)
  where
    spelled : (m : ℕ) → 0 < m → signed_decimal (neg_ℤ (pos m)) ≡ 45 ∷ decimal m
    spelled zero some = absurd (omega arith)
    spelled (suc m) some = refl

pub no_minus_none : (ds : List ℕ) → get_or ds 0 0 ≢ 45 → ((n : ℕ) → n < 2 ^ 127 → decimal n ≢ ds) → (z : ℤ) → unsigned_abs z < 2 ^ 127 → signed_decimal z ≢ ds
no_minus_none ds first none (pos n) h e = none n h e
no_minus_none ds first none (negsuc n) h e = first (sym (ap (λ ds. get_or ds 0 0) e))

-- ---- the slash
seam : (xs ys : List ℕ) → get_or (xs ++ 47 ∷ ys) (length xs) 0 ≡ 47
seam [] ys = refl
seam (x ∷ xs) ys = seam xs ys

in_front : (xs ys : List ℕ) (k : ℕ) → k < length xs → get_or (xs ++ ys) k 0 ≡ get_or xs k 0
in_front [] ys k lt = absurd (omega arith)
in_front (x ∷ xs) ys zero lt = refl
in_front (x ∷ xs) ys (suc k) lt = in_front xs ys k (omega arith)

-- the first slash parts the two texts
slash_splits : (xs ys bytes : List ℕ) (at : ℕ) → xs ++ 47 ∷ ys ≡ bytes → ((k : ℕ) → k < length xs → get_or xs k 0 ≢ 47) → ((k : ℕ) → k < at → get_or bytes k 0 ≢ 47) → at < length bytes → get_or bytes at 0 ≡ 47 → (xs ≡ take at bytes) × (ys ≡ drop (at + 1) bytes)
slash_splits xs ys bytes at e none before lt is = split (here (cases_order (length xs) at))
  where
    here : (length xs ≡ at) ⊎ ((length xs < at) ⊎ (at < length xs)) → length xs ≡ at
    here (inl same) = same
    here (inr (inl less)) = absurd (before (length xs) less (ap (λ bs. get_or bs (length xs) 0) (sym e) ∙ seam xs ys))
    here (inr (inr more)) = absurd (none at more (sym (in_front xs (47 ∷ ys) at more) ∙ ap (λ bs. get_or bs at 0) e ∙ is))

    split : length xs ≡ at → (xs ≡ take at bytes) × (ys ≡ drop (at + 1) bytes)
    split same = (sym (take-append_seam xs (47 ∷ ys)) ∙ ap₂ take same e, sym (drop-append-add xs (47 ∷ ys) 1) ∙ ap₂ (λ n bs. drop (n + 1) bs) same e)

-- the spelling of a fraction that is not whole
text_of_both : (r : Fraction) → 0 < r.less_one → rat_text r ≡ signed_decimal r.num ++ 47 ∷ decimal (den r)
text_of_both r some = parted r.less_one some
  where
    parted : (n : ℕ) → 0 < n → signed_decimal r.num ++ den_text n ≡ signed_decimal r.num ++ 47 ∷ decimal (suc n)
    parted zero some = absurd (omega arith)
    parted (suc n) some = refl

-- a spelling with no slash
pub alone_some : (r : Fraction) (bytes : List ℕ) → r.less_one ≡ 0 → signed_decimal r.num ≡ bytes → rat_text r ≡ bytes
alone_some r bytes e f =
    ap (λ n. signed_decimal r.num ++ den_text n) e ∙ append-nil (signed_decimal r.num) ∙ f

pub alone_none : (bytes : List ℕ) → ((k : ℕ) → k < length bytes → get_or bytes k 0 ≢ 47) → ((z : ℤ) → unsigned_abs z < 2 ^ 127 → signed_decimal z ≢ bytes) → (r : Fraction) → IsNarrow r → rat_text r ≢ bytes
alone_none bytes before none r narrow e = decided (cases_order r.less_one 0)
  where
    decided : (r.less_one ≡ 0) ⊎ ((r.less_one < 0) ⊎ (0 < r.less_one)) → ⊥
    decided (inl z) = none r.num narrow.num_small (sym (append-nil (signed_decimal r.num)) ∙ ap (λ n. signed_decimal r.num ++ den_text n) (sym z) ∙ e)
    decided (inr (inl less)) = absurd (omega arith)
    decided (inr (inr some)) = let whole = sym (text_of_both r some) ∙ e in before (length (signed_decimal r.num)) (omega (arith, ap length (sym whole), length-append (signed_decimal r.num) (47 ∷ decimal (den r)))) (ap (λ bs. get_or bs (length (signed_decimal r.num)) 0) (sym whole) ∙ seam (signed_decimal r.num) (decimal (den r)))

-- a spelling with one
pub both_some : (r : Fraction) (bytes : List ℕ) (at : ℕ) → at < length bytes → get_or bytes at 0 ≡ 47 → 0 < r.less_one → AreTexts r (take at bytes) (drop (at + 1) bytes) → rat_text r ≡ bytes
both_some r bytes at lt is some texts =
    let rest : drop at bytes ≡ 47 ∷ drop (at + 1) bytes = drop_more bytes at 0 lt ∙ ap (λ b. b ∷ drop (at + 1) bytes) is in
    text_of_both r some ∙ ap₂ (λ xs ys. xs ++ 47 ∷ ys) texts.num_text texts.den_text ∙ ap (λ ys. take at bytes ++ ys) (sym rest) ∙ take-append-drop at bytes

pub both_none : (bytes : List ℕ) (at : ℕ) → ((k : ℕ) → k < at → get_or bytes k 0 ≢ 47) → at < length bytes → get_or bytes at 0 ≡ 47 → ((r : Fraction) → IsNarrow r → 0 < r.less_one → AreTexts r (take at bytes) (drop (at + 1) bytes) → ⊥) → (r : Fraction) → IsNarrow r → rat_text r ≢ bytes
both_none bytes at before lt is none r narrow e = decided (cases_order r.less_one 0)
  where
    decided : (r.less_one ≡ 0) ⊎ ((r.less_one < 0) ⊎ (0 < r.less_one)) → ⊥
    decided (inl z) = let whole = sym (append-nil (signed_decimal r.num)) ∙ ap (λ n. signed_decimal r.num ++ den_text n) (sym z) ∙ e in no_slash r.num narrow.num_small at (subst (λ bs. at < length bs) (sym whole) lt) (ap (λ bs. get_or bs at 0) whole ∙ is)
    decided (inr (inl less)) = absurd (omega arith)
    decided (inr (inr some)) = let parts = slash_splits (signed_decimal r.num) (decimal (den r)) bytes at (sym (text_of_both r some) ∙ e) (no_slash r.num narrow.num_small) before lt is in none r narrow some (record { num_text = parts.0; den_text = parts.1 })

-- ---- a spelling names one fraction
text_alone : (r : Fraction) → r.less_one ≡ 0 → rat_text r ≡ signed_decimal r.num
text_alone r z =
    ap (λ n. signed_decimal r.num ++ den_text n) z ∙ append-nil (signed_decimal r.num)

apart : (p q : Fraction) → IsNarrow p → p.less_one ≡ 0 → 0 < q.less_one → rat_text p ≢ rat_text q
apart p q u z some e =
    let whole : signed_decimal p.num ≡ signed_decimal q.num ++ 47 ∷ decimal (den q) = sym (text_alone p z) ∙ e ∙ text_of_both q some in
    let at = length (signed_decimal q.num) in
    no_slash p.num u.num_small at (omega (arith, ap length whole, length-append (signed_decimal q.num) (47 ∷ decimal (den q)))) (ap (λ bs. get_or bs at 0) whole ∙ seam (signed_decimal q.num) (decimal (den q)))

pub rat_text_injective : (p q : Fraction) → IsNarrow p → IsNarrow q → rat_text p ≡ rat_text q → p ≡ q
rat_text_injective p q u v e =
    decided (cases_order p.less_one 0) (cases_order q.less_one 0)
  where
    same : p.num ≡ q.num → p.less_one ≡ q.less_one → p ≡ q
    same f g = λ i. record { num = f i; less_one = g i }

    decided : (p.less_one ≡ 0) ⊎ ((p.less_one < 0) ⊎ (0 < p.less_one)) → (q.less_one ≡ 0) ⊎ ((q.less_one < 0) ⊎ (0 < q.less_one)) → p ≡ q
    decided (inl y) (inl z) = same (signed_injective p.num q.num u.num_small v.num_small (sym (text_alone p y) ∙ e ∙ text_alone q z)) (y ∙ sym z)
    decided (inl y) (inr (inr some)) = absurd (apart p q u y some e)
    decided (inr (inr some)) (inl z) = absurd (apart q p v z some (sym e))
    decided (inr (inr some)) (inr (inr more)) = let at = length (signed_decimal q.num) in let whole = text_of_both q more in let parts = slash_splits (signed_decimal p.num) (decimal (den p)) (signed_decimal q.num ++ 47 ∷ decimal (den q)) at (sym (text_of_both p some) ∙ e ∙ whole) (no_slash p.num u.num_small) (λ k lt f. no_slash q.num v.num_small k lt (sym (in_front (signed_decimal q.num) (47 ∷ decimal (den q)) k lt) ∙ f)) (omega (arith, length-append (signed_decimal q.num) (47 ∷ decimal (den q)))) (seam (signed_decimal q.num) (decimal (den q))) in let tops = signed_injective p.num q.num u.num_small v.num_small (parts.0 ∙ take-append_seam (signed_decimal q.num) (47 ∷ decimal (den q))) in let bottoms = decimal_injective (den p) (den q) u.den_small v.den_small (parts.1 ∙ drop-append-add (signed_decimal q.num) (47 ∷ decimal (den q)) 1) in same tops (omega arith)
    decided (inr (inl less)) b = absurd (omega arith)
    decided a (inr (inl less)) = absurd (omega arith)

-- ---- two texts as a fraction
-- no fraction has these texts where the denominator is below 2
pub small_den_none : (num bottom : List ℕ) (d : ℕ) → d < 2 ^ 127 → decimal d ≡ bottom → d < 2 → (r : Fraction) → IsNarrow r → 0 < r.less_one → AreTexts r num bottom → ⊥
small_den_none num bottom d small is two r narrow some texts =
    let same = decimal_injective (den r) d narrow.den_small small (texts.den_text ∙ sym is) in
    omega arith

-- or where the two numbers have a divisor in common
pub common_none : (num bottom : List ℕ) (z : ℤ) (d : ℕ) → unsigned_abs z < 2 ^ 127 → d < 2 ^ 127 → signed_decimal z ≡ num → decimal d ≡ bottom → gcd (unsigned_abs z) d ≢ 1 → (r : Fraction) → IsNarrow r → 0 < r.less_one → AreTexts r num bottom → ⊥
common_none num bottom z d above below top is common r narrow some texts =
    let tops = signed_injective r.num z narrow.num_small above (texts.num_text ∙ sym top) in
    let bottoms = decimal_injective (den r) d narrow.den_small below (texts.den_text ∙ sym is) in
    common (sym (ap₂ (λ z d. gcd (unsigned_abs z) d) tops bottoms) ∙ narrow.coprime)

pub both_texts : (num bottom : List ℕ) (z : ℤ) (d : ℕ) (r : Fraction) → signed_decimal z ≡ num → decimal d ≡ bottom → 2 ≤ d → r ≡ seen z d → (0 < r.less_one) × AreTexts r num bottom
both_texts num bottom z d r top is two e =
    (subst (λ r. 0 < r.less_one) (sym e) (omega arith), subst (λ r. AreTexts r num bottom) (sym e) (record { num_text = top; den_text = ap decimal (suc-less d (omega arith)) ∙ is }))

-- ---- options, by cases
pub match_weaker : {A : Type 0} {P P' : Type 0} {Q Q' : A → Type 0} (o : Option A) → (P → P') → ((x : A) → Q x → Q' x) → MatchOption o P Q → MatchOption o P' Q'
match_weaker None f g m = f m
match_weaker (Some x) f g m = g x m

pub if_none : {A : Type 0} {P P' : Type 0} (Q : A → Type 0) (o : Option A) → (P → P') → MatchOption o P Q → IfNone o P'
if_none Q None f m = f m
if_none Q (Some x) f m = tt

pub if_some_match : {A : Type 0} (P : Type 0) {Q Q' : A → Type 0} (o : Option A) → ((x : A) → Q x → Q' x) → MatchOption o P Q → IfSome o Q'
if_some_match P None g m = tt
if_some_match P (Some x) g m = g x m

-- ---- parts of a slice, as the code has them
pub rest_is : (n : ℕ) (bs : List ℕ) → take (length bs - n) (drop n bs) ≡ drop n bs
rest_is n bs = take_all (length bs - n) (drop n bs) (omega (arith, length-drop n bs))

pub front_is : (n : ℕ) (bs : List ℕ) → take (n - 0) bs ≡ take n bs
front_is n bs = ap (λ n. take n bs) (omega arith)
