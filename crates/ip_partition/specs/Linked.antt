-- Which columns of a grid are linked.
use Rattle.std.specs.Prelude.{◌≡◌, ℕ, List, [], ◌∷◌, Contains}
use Rattle.cross_links.specs.Layout.{Layout, live}

-- a live entry stands where the row and the column cross
abbrev pub IsLive : Layout → ℕ → ℕ → Type 0
IsLive grid row column = Contains (live grid) (record { row = row; column = column })

-- one live row has both columns
abbrev pub SharesRow : Layout → ℕ → ℕ → Type 0
SharesRow grid a b = (row : ℕ) × IsLive grid row a × IsLive grid row b

-- from a column to another along a chain of columns, each of which shares a live row with the next
abbrev pub IsChain : Layout → ℕ → List ℕ → ℕ → Type 0
IsChain grid a [] b = a ≡ b
IsChain grid a (next ∷ chain) b = SharesRow grid a next × IsChain grid next chain b

-- some chain leads from one column to the other
abbrev pub IsLinked : Layout → ℕ → ℕ → Type 0
IsLinked grid a b = (chain : List ℕ) × IsChain grid a chain b
