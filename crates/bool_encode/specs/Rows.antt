-- From forms to rows: constants to the right, and like columns joined.
use Rattle.std.specs.Prelude.{◌≡◌, ◌+◌, ◌*◌, ◌<◌, ◌≤◌, ◌==◌, ℕ, ℤ, pos, ◌+ℤ◌, ◌*ℤ◌, ◌≤ℤ◌, if◌then◌else◌, unsigned_abs, List, [], ◌∷◌, length}
use Rattle.ip_rows.specs.declared.rows.Coef.{Coef}
use Rattle.ip_rows.specs.declared.rows.IpRow.{IpRow}
use Rattle.ip_rows.specs.Rows.{AreTerms}
use Rattle.ip_rows.specs.Programs.{sum_at}
use Rattle.prov_fold.specs.Graphs.{Graph, size}
use Rattle.prov_fold.specs.Sums.{added_by, total_by}
use Rattle.bool_encode.specs.declared.form.Key.{Key}
use Rattle.bool_encode.specs.declared.form.Key.TheVariants as key
use Rattle.bool_encode.specs.declared.form.Piece.{Piece}
use Rattle.bool_encode.specs.declared.stand.Stand.{Stand}
use Rattle.bool_encode.specs.Forms.{Form, form_at}
use Rattle.bool_encode.specs.Columns.{Columns, columns_of, reading, IsOnMap}
use Rattle.bool_encode.specs.Scraps.{spread}

-- the row holds at a point over d
abbrev pub HoldsOver : ℕ → List ℤ → IpRow → Type 0
HoldsOver d point row = (row.least *ℤ pos d) ≤ℤ sum_at point row.terms

-- the row of a form: at every point its terms, less what it asks, come to the form; they rise by column and none has the factor 0
pub record IsRowOf (g : Graph) (stands : List Stand) (r : Form) (row : IpRow) : Type 0 where
  pub formed : AreTerms (length stands) row.terms
  pub same : (d : ℕ) (point : List ℤ) → sum_at point row.terms ≡ form_at d (reading g stands d point) r +ℤ row.least *ℤ pos d

-- the rows of forms, in order
abbrev pub AreRows : Graph → List Stand → List Form → List IpRow → Type 0
AreRows g stands [] [] = Unit {0}
AreRows g stands (r ∷ rs) (row ∷ rows) = IsRowOf g stands r row × AreRows g stands rs rows
AreRows g stands _ _ = ⊥

-- a key whose node is one of the list
abbrev pub IsKey : Graph → Key → Type 0
IsKey g (key.Node z) = z < size g
IsKey g (key.Selector z i) = Unit {0}

-- the factor of a term at a column; of a term elsewhere none
abbrev pub factor_there : ℕ → Coef → ℤ
factor_there c t = if t.column == c then t.factor else pos 0

-- the factors at a column together
abbrev pub column_factor : List Coef → ℕ → ℤ
column_factor terms c = total_by (factor_there c) terms

-- with like columns joined, no factor is left at a column that is not there
unfoldable pub IsJoinedOn : Graph → List Stand → List Piece → Type 0
IsJoinedOn g stands pieces = (c : ℕ) → length stands ≤ c → column_factor (spread g stands pieces) c ≡ pos 0

-- the sizes of the numbers that make up a key
abbrev pub heft : Columns → ℕ
heft columns = unsigned_abs columns.constant + added_by (λ (t : Coef). unsigned_abs t.factor) columns.terms

-- the same of a form
abbrev pub weight : Graph → List Stand → ℤ → List Piece → ℕ
weight g stands c pieces = unsigned_abs c + added_by (λ (p : Piece). unsigned_abs p.factor * heft (columns_of g stands p.key)) pieces

-- a node that is there and on the map, and whose numbers together are at most this
pub record IsKid (g : Graph) (stands : List Stand) (most : ℕ) (z : ℕ) : Type 0 where
  pub there : z < size g
  pub on_map : IsOnMap g stands (key.Node z)
  pub light : heft (columns_of g stands (key.Node z)) ≤ most
