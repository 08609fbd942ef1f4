-- The columns with two values, and the columns of a part.
use Rattle.std.proofs.Common.{◌≡◌, ◌≢◌, ◌⊎◌, inl, inr, ℕ, zero, suc, ◌+◌, ◌<◌, ◌≤◌, Bool, true, false, List, [], ◌∷◌, length, get_or, drop, refl, sym, ◌∙◌, ap, arith}
use Rattle.std.specs.Prelude.{nat_eq, ◌&&◌, if◌then◌else◌}
use Rattle.std.specs.Str.{bytes_eq}
use Rattle.std.proofs.lemmas.Bool.{cases_lt, eqb-true, eq-eqb}
use Rattle.std.proofs.lemmas.List.{drop_more, drop_all}
use Rattle.ip_rows.specs.declared.Bounds.{Bounds}
use Rattle.branch_tree.specs.Listing.{has_two, open_from}
use Rattle.cert_check.specs.Reasons.{has_at}

-- columns of which the first is to be this number
at_head : (columns : List ℕ) (next number : ℕ) (rest : List ℕ) → bytes_eq (drop next columns) (number ∷ rest) ≡ (has_at columns next number && bytes_eq (drop (next + 1) columns) rest)
at_head [] zero number rest = refl
at_head [] (suc next) number rest = refl
at_head (column ∷ columns) zero number rest = refl
at_head (column ∷ columns) (suc next) number rest =
    let more : suc next + 1 ≡ suc (next + 1) = omega arith in
    at_head columns next number rest ∙ ap (λ (n : ℕ). has_at columns next number && bytes_eq (drop n (column ∷ columns)) rest) (sym more)

pub at_within : (columns : List ℕ) (next number : ℕ) → has_at columns next number ≡ true → next < length columns
at_within [] zero number has = cc
at_within [] (suc next) number has = cc
at_within (column ∷ columns) zero number has = omega arith
at_within (column ∷ columns) (suc next) number has = let within = at_within columns next number has in omega (arith, within)

module _ (columns : List ℕ) (sides : List Bounds) (next at : ℕ) (side : Bounds) (there : at < length sides) (is : side ≡ get_or sides at side) where
  open_here : open_from at (drop at sides) ≡ (if has_two side then at ∷ open_from (at + 1) (drop (at + 1) sides) else open_from (at + 1) (drop (at + 1) sides))
  unfolding open_from
  open_here = rw (drop_more sides at side there, ← is) refl

  pub fixed_here : (whole : Bool) → has_two side ≡ false → bytes_eq (drop next columns) (open_from at (drop at sides)) ≡ whole → bytes_eq (drop next columns) (open_from (at + 1) (drop (at + 1) sides)) ≡ whole
  fixed_here whole one left =
      ap (bytes_eq (drop next columns)) (sym (open_here ∙ ap (λ (b : Bool). if b then at ∷ open_from (at + 1) (drop (at + 1) sides) else open_from (at + 1) (drop (at + 1) sides)) one)) ∙ left

  two_here : (has : Bool) → has_two side ≡ true → has_at columns next at ≡ has → bytes_eq (drop next columns) (open_from at (drop at sides)) ≡ (has && bytes_eq (drop (next + 1) columns) (open_from (at + 1) (drop (at + 1) sides)))
  two_here has two given =
      ap (bytes_eq (drop next columns)) (open_here ∙ ap (λ (b : Bool). if b then at ∷ open_from (at + 1) (drop (at + 1) sides) else open_from (at + 1) (drop (at + 1) sides)) two)
      ∙ at_head columns next at (open_from (at + 1) (drop (at + 1) sides))
      ∙ ap (λ (b : Bool). b && bytes_eq (drop (next + 1) columns) (open_from (at + 1) (drop (at + 1) sides))) given

  pub other_here : (whole : Bool) → has_two side ≡ true → has_at columns next at ≡ false → bytes_eq (drop next columns) (open_from at (drop at sides)) ≡ whole → false ≡ whole
  other_here whole two given left = sym (two_here false two given) ∙ left

  pub same_here : (whole : Bool) → has_two side ≡ true → has_at columns next at ≡ true → bytes_eq (drop next columns) (open_from at (drop at sides)) ≡ whole
      → bytes_eq (drop (next + 1) columns) (open_from (at + 1) (drop (at + 1) sides)) ≡ whole
  same_here whole two given left = sym (two_here true two given) ∙ left

differs : (m n : ℕ) → m ≢ n → nat_eq m n ≡ false
differs m n other = by_test (nat_eq m n) (eqb-true m n)
  where
    by_test : (b : Bool) → (b ≡ true → m ≡ n) → b ≡ false
    by_test true same = absurd (other (same refl))
    by_test false same = refl

none_behind : (columns : List ℕ) (next : ℕ) → next ≤ length columns → bytes_eq (drop next columns) [] ≡ nat_eq next (length columns)
none_behind columns next le = by_case (cases_lt next (length columns))
  where
    by_case : (next < length columns) ⊎ (length columns ≤ next) → bytes_eq (drop next columns) [] ≡ nat_eq next (length columns)
    by_case (inl lt) = ap (λ (l : List ℕ). bytes_eq l []) (drop_more columns next 0 lt) ∙ sym (differs next (length columns) (λ same. absurd (omega (arith, same, lt))))
    by_case (inr ge) = ap (λ (l : List ℕ). bytes_eq l []) (drop_all next columns ge) ∙ sym (eq-eqb next (length columns) (omega (arith, le, ge)))

-- behind the last side no column is left
pub none_left : (columns : List ℕ) (sides : List Bounds) (next at : ℕ) (whole : Bool) → length sides ≤ at → next ≤ length columns → bytes_eq (drop next columns) (open_from at (drop at sides)) ≡ whole → nat_eq next (length columns) ≡ whole
unfolding open_from
none_left columns sides next at whole end le left = sym (none_behind columns next le) ∙ sym (ap (λ (s : List Bounds). bytes_eq (drop next columns) (open_from at s)) (drop_all at sides end)) ∙ left
