use Rattle.std.proofs.Common.{◌≡◌, ◌∙◌, sym, subst, ℤ, pos, ◌-ℤ◌, to_z, of_z, FitsSigned, w64, List, ◌∷◌, ◌++◌, [], length, rules}
use Rattle.std.proofs.Math.Facts.{to_z-of_z}
use Rattle.ip_rows.specs.declared.rows.IpRow.{IpRow}
use Rattle.bool_encode.specs.Rows.{AreRows}
use Rattle.bool_encode.specs.Tables.{and_forms, each_form, last_form}
use Rattle.bool_encode.proofs.RowLemmas.{rows_push}
use Rattle.bool_encode.proofs.rows.and_rows.Goals as goal

pub returns : goal.returns
returns c =
    let fits : FitsSigned w64 c.all_but_one.result = search rules in
    let count : to_z w64 (of_z w64 c.all_but_one.result) ≡ pos (length c.args.kids.now) -ℤ pos 1 = to_z-of_z fits ∙ c.all_but_one.ensures.value in
    subst (λ (rows : List IpRow). AreRows c.args.fold.now c.args.map.now.stands (and_forms c.args.kids.now c.args.id) rows) (sym c.in_ok-push.ensures.ok)
    (subst (λ (n : ℤ). AreRows c.args.fold.now c.args.map.now.stands (each_form (pos 1) c.args.id c.args.kids.now ++ last_form (pos 1) n c.args.id c.args.kids.now ∷ []) (c.in_ok-rows.rows ++ c.in_ok-last_row.field-0 ∷ [])) count
    (rows_push c.args.fold.now c.args.map.now.stands _ c.in_ok-rows.rows _ c.in_ok-last_row.field-0 c.in_ok-rows.ensures c.in_ok-last_row.ensures))
