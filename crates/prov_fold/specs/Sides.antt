-- The ranges of formulas as a function of the list and of the columns' ranges.
use Rattle.std.specs.Prelude.{◌≡◌, ℕ, ◌<◌, List, [], ◌∷◌, ◌++◌, fold}
use Rattle.prov_arena.specs.Formulas.{Formula, CellNode}
use Rattle.prov_fold.specs.declared.span.Span.{Span}
use Rattle.prov_fold.specs.Spans.{span_at, span_of}
use Rattle.prov_fold.specs.Graphs.{Graph, node, range, size}

-- the range of the column that a formula names
abbrev pub side_of : (ℕ → Span) → Formula → Span
side_of sides (CellNode column) = sides column
side_of sides _ = sides 0

-- the ranges of a list of formulas, place by place
unfoldable pub ranges_of : (ℕ → Span) → List Formula → List Span
ranges_of sides parts = fold (λ done f. done ++ span_of (side_of sides f) (span_at done) f ∷ []) [] parts

-- each cell was made with the range of its column
pub record HasSides (sides : ℕ → Span) (g : Graph) : Type 0 where
  pub cells : (i column : ℕ) → i < size g → node g i ≡ CellNode column → range g i ≡ sides column
