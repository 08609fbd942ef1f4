-- The seeds of a form: the nodes whose columns stand in its row, where like columns are joined.
use Rattle.std.specs.Prelude.{◌≡◌, ◌≢◌, ◌<◌, ℕ, ℤ, pos, negsuc, List, [], ◌∷◌, flat_map, length, slice_index_or, unsigned_abs}
use Rattle.prov_arena.specs.declared.part.Term.{Term}
use Rattle.prov_arena.specs.Formulas.{Formula, FalseNode, TrueNode, NotNode, LinNode}
use Rattle.prov_fold.specs.Graphs.{Graph, node}
use Rattle.prov_fold.specs.Rules.{factor_at, scaled}
use Rattle.prov_fold.specs.Sums.{added_by}
use Rattle.bool_encode.specs.declared.form.Key.{Key}
use Rattle.bool_encode.specs.declared.form.Key.TheVariants as key
use Rattle.bool_encode.specs.declared.form.Piece.{Piece}

-- the formula at the place k as factors of nodes, without its constant: of Not(t) the factor of t is -1
abbrev pub terms_of : ℕ → Formula → List Term
terms_of k FalseNode = []
terms_of k TrueNode = []
terms_of k (NotNode truth) = record { factor = negsuc 0; node = truth } ∷ []
terms_of k (LinNode c terms) = terms
terms_of k m = record { factor = pos 1; node = k } ∷ []

abbrev pub key_terms : Graph → Key → List Term
key_terms g (key.Node k) = terms_of k (node g k)
key_terms g (key.Selector z pair) = []

-- all terms of a form
abbrev pub form_terms : Graph → List Piece → List Term
form_terms g pieces = flat_map (λ (p : Piece). scaled p.factor (key_terms g p.key)) pieces

-- the factor that a node has in a form, its like terms joined
abbrev pub joined_factor : Graph → List Piece → ℕ → ℤ
joined_factor g pieces z = factor_at (form_terms g pieces) z

-- the node's column stands in the row of the form
abbrev pub IsSeed : Graph → List Piece → ℕ → Type 0
IsSeed g pieces z = joined_factor g pieces z ≢ pos 0

-- the sizes of the factors together
abbrev pub bulk : List Term → ℕ
bulk terms = added_by (λ (t : Term). unsigned_abs t.factor) terms

-- a number for each node: what the factors of its terms come to
pub record AreTotals (n : ℕ) (terms : List Term) (totals : List ℤ) : Type 0 where
  pub count : length totals ≡ n
  pub each : (z : ℕ) → z < n → slice_index_or totals z (pos 0) ≡ factor_at terms z
