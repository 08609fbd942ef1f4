-- names among the names of relations
use Rattle.std.specs.Prelude.{◌≡◌, ◌≢◌, ◌<◌, ℕ, List, [], length, get_or}

-- none of so many first relations has this name
unfoldable pub NoneBefore : List ℕ → List (List ℕ) → ℕ → Type 0
NoneBefore name names number = (earlier : ℕ) → earlier < number → get_or names earlier [] ≢ name

-- no relation has this name
unfoldable pub HasNone : List ℕ → List (List ℕ) → Type 0
HasNone name names = NoneBefore name names (length names)

-- the relation with this number is the first that has this name
pub record IsFirst (name : List ℕ) (names : List (List ℕ)) (number : ℕ) : Type 0 where
  pub there : number < length names
  pub named : get_or names number [] ≡ name
  pub first : NoneBefore name names number
