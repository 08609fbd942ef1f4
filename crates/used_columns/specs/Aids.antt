-- Where the `or` of truths stands.
use Rattle.std.specs.Prelude.{ℕ, List, [], ◌∷◌}
use Rattle.prov_arena.specs.Formulas.{OrNode}
use Rattle.prov_arena.specs.Graphs.{place_of}
use Rattle.prov_fold.specs.Graphs.{Graph}
use Rattle.cmp_encode.specs.Tables.{found}

-- the place of the Or of truths none of which is False, True or an Or; of no truth it is False, and of one this
abbrev pub listed : Graph → List ℕ → ℕ
listed g [] = 0
listed g (kid ∷ []) = kid
listed g (kid ∷ more ∷ rest) = found (place_of g.parts (OrNode (kid ∷ more ∷ rest)))
