-- Lists of distinct formulas, each of which names only places before its own.
use Rattle.std.specs.Prelude.{◌≡◌, ◌≢◌, ℕ, suc, ◌<◌, ◌≤◌, cond, List, [], ◌∷◌, ◌++◌, length, All, slice_index_or, Option, Some, None}
use Rattle.prov_arena.specs.Formulas.{Formula, FalseNode, TrueNode, kids_of}
use Rattle.prov_arena.specs.Words.{is_same}

-- the formula at a place
abbrev pub at : List Formula → ℕ → Formula
at parts i = slice_index_or parts i FalseNode

-- what every list is
pub record IsGraph (parts : List Formula) : Type 0 where
  pub few : length parts ≤ 20000001
  pub some : 2 ≤ length parts
  pub false_at : at parts 0 ≡ FalseNode
  pub true_at : at parts 1 ≡ TrueNode
  pub below : (i : ℕ) → i < length parts → All (λ kid. kid < i) (kids_of (at parts i))
  pub distinct : (i j : ℕ) → i < j → j < length parts → at parts i ≢ at parts j

-- the formula stands nowhere
abbrev pub IsAbsent : List Formula → Formula → Type 0
IsAbsent parts f = (i : ℕ) → i < length parts → at parts i ≢ f

-- the place behind, of a list with one more formula in front
abbrev pub behind : Option ℕ → Option ℕ
behind (Some i) = Some (suc i)
behind None = None

-- the first place at which the formula stands
unfoldable pub place_of : List Formula → Formula → Option ℕ
place_of [] f = None
place_of (g ∷ parts) f = cond (is_same g f) (Some 0) (behind (place_of parts f))

abbrev pub interned_at : List Formula → Formula → Option ℕ → ℕ × List Formula
interned_at parts f (Some i) = (i, parts)
interned_at parts f None = (length parts, parts ++ f ∷ [])

-- the place of the formula, and the list: with the formula appended where it was not there
unfoldable pub interned : List Formula → Formula → ℕ × List Formula
interned parts f = interned_at parts f (place_of parts f)
