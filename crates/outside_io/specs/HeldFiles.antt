-- files in memory
use Rattle.std.specs.Prelude.{ℕ, Bool, true, ◌&&◌, not, List, [], ◌∷◌, Option, Some, None, if◌then◌else◌, bytes_eq}
use Rattle.std.specs.List.{list_any}
use Rattle.outside_io.specs.declared.held.Held.{Held}

-- the bytes of the first pair of that name
abbrev pub held_under : List Held → List ℕ → Option (List ℕ)
held_under [] name = None
held_under (one ∷ rest) name = if bytes_eq one.name name then Some one.bytes else held_under rest name

-- no two pairs have one name
abbrev pub are_distinct : List Held → Bool
are_distinct [] = true
are_distinct (one ∷ rest) = not (list_any (λ other. bytes_eq other.name one.name) rest) && are_distinct rest
