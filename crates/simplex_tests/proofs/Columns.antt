-- How the part of many columns is made, and that it may be relaxed.
use Rattle.std.proofs.Common.{◌≡◌, ◌+◌, ◌++◌, ℕ, ℤ, suc, true, List, [], ◌∷◌, length, refl, sym, ◌∙◌, ap, arith}
use Rattle.ip_rows.specs.declared.rows.Coef.{Coef}
use Rattle.number_tests.specs.Programs.{term}
use Rattle.simplex_tests.specs.Parts.{is_part}
use Rattle.simplex_tests.specs.Columns.{factor_of, terms_to, part_of}

-- a number and 1 more
one_more : (n : ℕ) → n + 1 ≡ suc n
one_more n = omega arith

-- a term more
pub more_terms : (step n : ℕ) (factor : ℤ) (made new : List Coef) → made ≡ terms_to step n → factor ≡ factor_of step n → new ≡ made ++ term factor n ∷ [] → new ≡ terms_to step (n + 1)
more_terms step n factor made new h e is =
    is ∙ ap (λ xs. xs ++ term factor n ∷ []) h ∙ ap (λ f. terms_to step n ++ term f n ∷ []) e ∙ ap (terms_to step) (sym (one_more n))

-- the part passes the test of parts
pub many_part : is_part (part_of 1024) ≡ true
many_part = refl

-- it has 1,024 columns
pub many_sides : length (part_of 1024).sides ≡ 1024
many_sides = refl
