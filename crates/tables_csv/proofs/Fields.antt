-- the fields of a record, by their places
use Rattle.std.proofs.Common.{◌≡◌, ◌∙◌, ◌+◌, ◌<◌, ◌≤◌, ℕ, zero, suc, Bool, true, false, not, List, [], ◌∷◌, Option, Some, None, Bor, ap, sym, arith, length, get_or, take}
use Rattle.std.proofs.lemmas.Bool.{false≢true}
use Rattle.std.proofs.lemmas.List.{get_or_read, take_more_same}
use Rattle.std.proofs.lemmas.Slice.Eq.{bytes_eq-Decides}
use Rattle.std.specs.Cmp.Lexicographic.{pointwise}
use Rattle.std.specs.Option.{option_eq}
use Rattle.std.specs.Prelude.{nat_eq, option_map}
use Rattle.csv.specs.Records.{field_at}

-- a field that is there
pub field_there : (fields : List (List ℕ)) (i : ℕ) (field : List ℕ) → field_at fields i ≡ Some field → (i < length fields) × (field ≡ get_or fields i field)
unfolding field_at
field_there [] i field is = cc
field_there (first ∷ rest) zero field is = (omega arith, cc)
field_there (first ∷ rest) (suc i) field is = let more = field_there rest i field is in (omega (arith, more.0), more.1)

pub field_found : (fields : List (List ℕ)) (i : ℕ) (field : List ℕ) → i < length fields → field ≡ get_or fields i field → field_at fields i ≡ Some field
unfolding field_at
field_found [] i field there is = absurd (omega arith)
field_found (first ∷ rest) zero field there is = ap (λ (f : List ℕ). Some f) (sym is)
field_found (first ∷ rest) (suc i) field there is = field_found rest i field (omega arith) is

-- no field is past the last
pub field_gone : (fields : List (List ℕ)) (i : ℕ) → field_at fields i ≡ None → length fields ≤ i
unfolding field_at
field_gone [] i is = omega arith
field_gone (first ∷ rest) zero is = cc
field_gone (first ∷ rest) (suc i) is = let more = field_gone rest i is in omega (arith, more)

-- what a comparison of the field at a place with some bytes says
compared : (found : Option (Bor (List ℕ))) (bytes : Bor (List ℕ)) (at : Option (List ℕ)) → option_map (λ s. s.now) found ≡ at
    → (option_eq (λ (x y : Bor (List ℕ)). pointwise nat_eq x.now y.now) found (Some bytes) ≡ true → at ≡ Some bytes.now)
    × (option_eq (λ (x y : Bor (List ℕ)). pointwise nat_eq x.now y.now) found (Some bytes) ≡ false → at ≡ Some bytes.now → ⊥)
compared None bytes at is = ((λ same. absurd (false≢true same)), (λ other here. let both = is ∙ here in cc))
compared (Some field) bytes at is = (
  (λ same. sym is ∙ ap (λ (f : List ℕ). Some f) ((bytes_eq-Decides field.now bytes.now).0 same)),
  (λ other here. let both = is ∙ here in let e : field.now ≡ bytes.now = cc in false≢true (sym other ∙ (bytes_eq-Decides field.now bytes.now).1 e)),
)

-- a field that is another than the name at its place
pub other_names : (fields names : List (List ℕ)) (i : ℕ) (found : Option (Bor (List ℕ))) (bytes : Bor (List ℕ)) (test : Bool) (name : List ℕ)
    → option_map (λ s. s.now) found ≡ field_at fields i
    → test ≡ not (option_eq (λ (x y : Bor (List ℕ)). pointwise nat_eq x.now y.now) found (Some bytes)) → test ≡ true
    → i < length names → bytes.now ≡ name → name ≡ get_or names i name → fields ≡ names → ⊥
other_names fields names i found bytes test name at is true_test there read here same =
    let differ : option_eq (λ (x y : Bor (List ℕ)). pointwise nat_eq x.now y.now) found (Some bytes) ≡ false = grind arith in
    (compared found bytes (field_at fields i) at).1 differ (rw (same, read) (field_found names i name there here))

-- one more name that is the field at its place
pub same_names : (fields names : List (List ℕ)) (i : ℕ) (found : Option (Bor (List ℕ))) (bytes : Bor (List ℕ)) (test : Bool) (name : List ℕ)
    → option_map (λ s. s.now) found ≡ field_at fields i
    → test ≡ not (option_eq (λ (x y : Bor (List ℕ)). pointwise nat_eq x.now y.now) found (Some bytes)) → test ≡ false
    → i < length names → bytes.now ≡ name → name ≡ get_or names i name → take i fields ≡ take i names → take (i + 1) fields ≡ take (i + 1) names
same_names fields names i found bytes test name at is false_test there read here front =
    let equal : option_eq (λ (x y : Bor (List ℕ)). pointwise nat_eq x.now y.now) found (Some bytes) ≡ true = grind arith in
    let field = field_there fields i bytes.now ((compared found bytes (field_at fields i) at).0 equal) in
    take_more_same fields names i name field.0 there front (sym (get_or_read fields i bytes.now field.0 field.1 name) ∙ read ∙ here)
