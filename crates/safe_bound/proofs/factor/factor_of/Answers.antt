use Rattle.std.proofs.Common.{rules, w64, FitsSigned, pos, get_or, ◌∙◌}
use Rattle.std.proofs.lemmas.Int.{to_z-of_z}
use Rattle.std.proofs.lemmas.List.Sorted.{answers_always}
use Rattle.ip_rows.specs.declared.rows.Coef.{Coef}
use Rattle.safe_bound.proofs.Columns.{search_found, search_none}
use Rattle.safe_bound.proofs.factor.factor_of.Goals as goal

pub returns-in-Ok : goal.returns-in-Ok
returns-in-Ok c =
    let at = c.in-Ok.ensures.position (λ (term : Coef). term.column) (answers_always _ _ _ (λ f a r g called. search rules)) in
    let same = search_found c.args.terms.now c.args.column c.in-Ok.place (record { factor = pos 0; column = 0 }) c.requires c.in-Ok.ensures.bound at in
    let fits : FitsSigned w64 (get_or c.args.terms.now c.in-Ok.place (record { factor = pos 0; column = 0 })).factor = search rules in
    to_z-of_z w64 (get_or c.args.terms.now c.in-Ok.place (record { factor = pos 0; column = 0 })).factor fits ∙ same

pub returns-in-Err : goal.returns-in-Err
returns-in-Err c =
    search_none c.args.terms.now c.args.column c.in-Err.field-0 c.requires (c.in-Err.ensures.position (λ (term : Coef). term.column) (answers_always _ _ _ (λ f a r g called. search rules)))
