-- The terms of a row in the code, before they are sorted and joined.
use Rattle.std.specs.Prelude.{◌==◌, ℤ, pos, ◌+ℤ◌, ◌*ℤ◌, not, if◌then◌else◌, List, [], ◌∷◌, map, filter, flat_map}
use Rattle.std.specs.Ordering.{int_eq}
use Rattle.ip_rows.specs.declared.rows.Coef.{Coef}
use Rattle.prov_fold.specs.Graphs.{Graph}
use Rattle.bool_encode.specs.declared.form.Piece.{Piece}
use Rattle.bool_encode.specs.declared.scrap.Scrap.{Scrap}
use Rattle.bool_encode.specs.declared.stand.Stand.{Stand}
use Rattle.bool_encode.specs.Columns.{coef, columns_of}

abbrev pub told : Scrap → Coef
told s = coef s.factor s.column

-- terms times a factor
abbrev pub scaled : ℤ → List Coef → List Coef
scaled k terms = map (λ (t : Coef). coef (k *ℤ t.factor) t.column) terms

-- all terms of the pieces of a form
abbrev pub spread : Graph → List Stand → List Piece → List Coef
spread g stands pieces = flat_map (λ (p : Piece). scaled p.factor (columns_of g stands p.key).terms) pieces

-- two terms of one column together
abbrev pub together : Scrap → Scrap → Scrap
together a b = record { column = a.column; factor = a.factor +ℤ b.factor }

-- like terms that stand side by side, together
abbrev pub joins_from : Scrap → List Scrap → List Scrap
joins_from a [] = a ∷ []
joins_from a (b ∷ more) = if a.column == b.column then joins_from (together a b) more else a ∷ joins_from b more

abbrev pub joins : List Scrap → List Scrap
joins [] = []
joins (a ∷ more) = joins_from a more

-- the terms whose factors are not 0
abbrev pub kept : List Scrap → List Coef
kept scraps = filter (λ (t : Coef). not (int_eq t.factor (pos 0))) (map told scraps)
