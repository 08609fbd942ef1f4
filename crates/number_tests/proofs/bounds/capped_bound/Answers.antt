use Rattle.std.proofs.Common.{◌<◌, length, List, [], ◌∷◌, pos, negsuc, refl, sym, subst}
use Rattle.std.specs.List.{All}
use Rattle.ip_rows.specs.declared.rows.Coef.{Coef}
use Rattle.ip_rows.specs.declared.rows.IpRow.{IpRow}
use Rattle.ip_rows.specs.declared.mult.Mult.{Mult}
use Rattle.ip_rows.specs.Rows.{AreTerms}
use Rattle.safe_bound.specs.Below.{IsReach}
use Rattle.number_tests.specs.Programs.{term, capped_rows}
use Rattle.number_tests.proofs.Programs.{terms_from, rows_from, named_from, reach_from}
use Rattle.number_tests.proofs.bounds.capped_bound.Goals as goal

pub bound-requires-clause-rows : goal.bound-requires-clause-rows
bound-requires-clause-rows c =
    subst (λ rows. All (λ (row : IpRow). AreTerms 3 row.terms) rows) (sym c.requires) (rows_from 3 capped_rows refl)

pub bound-requires-clause-aim : goal.bound-requires-clause-aim
bound-requires-clause-aim c = terms_from 3 (term (negsuc 2) 0 ∷ term (negsuc 1) 1 ∷ []) refl

pub bound-requires-clause-named : goal.bound-requires-clause-named
bound-requires-clause-named c =
    let ms : List Mult = record { row = 0; factor = c.args.above.now } ∷ record { row = 2; factor = c.args.cap.now } ∷ [] in
    subst (λ rows. All (λ (m : Mult). m.row < length rows) ms) (sym c.requires) (named_from capped_rows ms refl)

pub bound-requires-clause-reach : goal.bound-requires-clause-reach
bound-requires-clause-reach c =
    let aim : List Coef = term (negsuc 2) 0 ∷ term (negsuc 1) 1 ∷ [] in
    let ms : List Mult = record { row = 0; factor = c.args.above.now } ∷ record { row = 2; factor = c.args.cap.now } ∷ [] in
    subst (λ rows. IsReach 3 rows aim ms (0 ∷ 1 ∷ 2 ∷ [])) (sym c.requires) (reach_from 3 capped_rows aim ms (0 ∷ 1 ∷ 2 ∷ []) refl refl refl refl)
