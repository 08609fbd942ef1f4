-- The rows of And and Or, each a form that is to be 0 or above.
use Rattle.std.specs.Prelude.{ℕ, ℤ, pos, negsuc, ◌-ℤ◌, neg_ℤ, Bool, true, false, List, [], ◌∷◌, ◌++◌, map, length}
use Rattle.prov_arena.specs.Formulas.{Formula, AndNode, OrNode}
use Rattle.bool_encode.specs.declared.form.Key.TheVariants as key
use Rattle.bool_encode.specs.declared.form.Piece.{Piece}
use Rattle.bool_encode.specs.Forms.{Form, form}

abbrev pub times : ℤ → ℕ → Piece
times k z = record { factor = k; key = key.Node z }

-- t - z for each t, and z - sum + count - 1
abbrev pub and_forms : List ℕ → ℕ → List Form
and_forms kids z = map (λ t. form (pos 0) (times (pos 1) t ∷ times (negsuc 0) z ∷ [])) kids ++ form (pos (length kids) -ℤ pos 1) (times (pos 1) z ∷ map (times (negsuc 0)) kids) ∷ []

-- z - t for each t, and sum - z
abbrev pub or_forms : List ℕ → ℕ → List Form
or_forms kids z = map (λ t. form (pos 0) (times (negsuc 0) t ∷ times (pos 1) z ∷ [])) kids ++ form (pos 0) (times (negsuc 0) z ∷ map (times (pos 1)) kids) ∷ []

-- a form for each kid: s t - s z
abbrev pub each_form : ℤ → ℕ → List ℕ → List Form
each_form s z kids = map (λ t. form (pos 0) (times s t ∷ times (neg_ℤ s) z ∷ [])) kids

-- one form of all: s z - s times the sum, and a constant
abbrev pub last_form : ℤ → ℤ → ℕ → List ℕ → Form
last_form s c z kids = form c (times s z ∷ map (times (neg_ℤ s)) kids)

-- of an And or an Or at the place z
abbrev pub bool_forms : ℕ → Formula → List Form
bool_forms z (AndNode kids) = and_forms kids z
bool_forms z (OrNode kids) = or_forms kids z
bool_forms z _ = []

abbrev pub is_joined : Formula → Bool
is_joined (AndNode kids) = true
is_joined (OrNode kids) = true
is_joined _ = false
