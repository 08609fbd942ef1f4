use Rattle.std.proofs.Common.{rules, ◌≡◌, sym, subst, [], ◌∷◌, List}
use Rattle.ip_rows.specs.declared.rows.IpRow.{IpRow}
use Rattle.bool_encode.specs.Rows.{AreRows}
use Rattle.program_rows.specs.Fair.{told}
use Rattle.program_rows.proofs.Gathered.{gathers_one}
use Rattle.program_rows.proofs.rows.add_form.Goals as goal

pub returns : goal.returns
returns c =
    let one : c.push.new.self ≡ c.in_ok-row.row ∷ [] = search rules in
    gathers_one c.args.fold.now c.args.map.now.stands (told c.args.form.now ∷ []) c.push.new.self c.args.rows.now c.add_rows.new.rows c.add_rows.result
    (subst (λ (l : List IpRow). AreRows c.args.fold.now c.args.map.now.stands (told c.args.form.now ∷ []) l) (sym one) (c.in_ok-row.ensures.row, tt)) c.add_rows.ensures
