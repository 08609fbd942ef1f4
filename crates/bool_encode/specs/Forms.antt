-- Linear forms over keys, and what it is that they hold.
use Rattle.std.specs.Prelude.{ℕ, ℤ, pos, ◌+ℤ◌, ◌*ℤ◌, ◌≤ℤ◌, List, [], ◌∷◌}
use Rattle.prov_fold.specs.Sums.{total_by}
use Rattle.bool_encode.specs.declared.form.Key.{Key}
use Rattle.bool_encode.specs.declared.form.Piece.{Piece}

-- a constant plus factors of keys
pub record Form : Type 0 where
  pub constant : ℤ
  pub pieces : List Piece

abbrev pub form : ℤ → List Piece → Form
form c pieces = record { constant = c; pieces = pieces }

-- what the form comes to, over d, where f gives each key a number over d
abbrev pub form_at : ℕ → (Key → ℤ) → Form → ℤ
form_at d f r = r.constant *ℤ pos d +ℤ total_by (λ (p : Piece). p.factor *ℤ f p.key) r.pieces

-- each of the forms is 0 or above
abbrev pub Hold : ℕ → (Key → ℤ) → List Form → Type 0
Hold d f [] = Unit {0}
Hold d f (r ∷ rs) = (pos 0 ≤ℤ form_at d f r) × Hold d f rs
