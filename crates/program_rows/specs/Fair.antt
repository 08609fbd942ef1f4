-- The forms of roots and aim in the code.
use Rattle.std.specs.Prelude.{◌≡◌, ◌<◌, ◌^◌, ◌⊎◌, ℕ, List, [], ◌++◌, map, All}
use Rattle.prov_fold.specs.Graphs.{Graph, HasTruth, HasNumber}
use Rattle.bool_encode.specs.declared.form.Key.TheVariants as key
use Rattle.bool_encode.specs.declared.form.Piece.{Piece}
use Rattle.bool_encode.specs.Forms.{Form, form}
use Rattle.bool_encode.specs.Rows.{weight}
use Rattle.program_rows.specs.declared.linear.LinearForm.{LinearForm}

abbrev pub told : LinearForm → Form
told f = form f.constant f.pieces

-- a truth or a number of the list
abbrev pub IsAsked : Graph → ℕ → Type 0
IsAsked g z = HasTruth g z ⊎ HasNumber g z

-- the piece names a truth or a number
pub record NamesNode (g : Graph) (p : Piece) : Type 0 where
  pub node : ℕ
  pub is : p.key ≡ key.Node node
  pub asked : IsAsked g node

-- a form that names truths and numbers alone, and whose numbers are small together, whatever the columns are
pub record IsFair (g : Graph) (r : Form) : Type 0 where
  pub nodes : All (NamesNode g) r.pieces
  pub light : weight g [] r.constant r.pieces < 2 ^ 63

-- these forms were appended
pub record Asks (g : Graph) (forms : List Form) (before after : List LinearForm) : Type 0 where
  pub made : List LinearForm
  pub all : after ≡ before ++ made
  pub are : map told made ≡ forms
  pub fair : All (IsFair g) forms

abbrev pub told_all : List LinearForm → List Form
told_all forms = map told forms
