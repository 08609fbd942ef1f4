use Rattle.std.proofs.Common.{◌≤◌, ◌∙◌, sym, ap, subst, ◌++◌, List}
use Rattle.std.specs.Prelude.{Result, Err}
use Rattle.std.proofs.lemmas.Result.{err_from_is_err_and}
use Rattle.ip_rows.specs.declared.rows.IpRow.{IpRow}
use Rattle.program_rows.specs.declared.fault.ProgramFault.{ProgramFault}
use Rattle.program_rows.specs.Fair.{told_all}
use Rattle.program_rows.specs.Gathering.{GathersAll}
use Rattle.program_rows.specs.Goals.{node_forms}
use Rattle.program_rows.proofs.Gathered.{nodes_err, roots_err, all_ok}
use Rattle.program_rows.proofs.rows.all_rows.Goals as goal

pub returns-in_err-nodes_total : goal.returns-in_err-nodes_total
returns-in_err-nodes_total c =
    let p = err_from_is_err_and c.from_residual-in_err-nodes_total.result c.from_residual-in_err-nodes_total.ensures.1 in
    subst (λ (r : Result (List IpRow) ProgramFault). GathersAll c.args.fold.now c.args.map.now.stands (node_forms c.args.fold.now c.args.used.now ++ told_all c.args.forms.now) c.args.cells r) (sym (p.1 ∙ ap Err p.2))
    (nodes_err c.args.fold.now c.args.map.now.stands (node_forms c.args.fold.now c.args.used.now) (told_all c.args.forms.now) c.args.cells c.new-rows.result c.add_rows.new.rows c.add_nodes.new.rows c.in_err-nodes_total.field-0.0 c.new-rows.ensures c.in_ok-cells_total.ensures.0
    c.in_err-nodes_total.ensures)

pub returns-in_err-_total : goal.returns-in_err-_total
returns-in_err-_total c =
    let p = err_from_is_err_and c.from_residual-in_err-_total.result c.from_residual-in_err-_total.ensures.1 in
    subst (λ (r : Result (List IpRow) ProgramFault). GathersAll c.args.fold.now c.args.map.now.stands (node_forms c.args.fold.now c.args.used.now ++ told_all c.args.forms.now) c.args.cells r) (sym (p.1 ∙ ap Err p.2))
    (roots_err c.args.fold.now c.args.map.now.stands (node_forms c.args.fold.now c.args.used.now) (told_all c.args.forms.now) c.args.cells c.new-rows.result c.add_rows.new.rows c.add_nodes.new.rows c.add_forms.new.rows c.in_err-_total.field-0.0 c.new-rows.ensures
    c.in_ok-cells_total.ensures.0 c.in_ok-nodes_total.ensures.0 c.in_err-_total.ensures)

pub returns : goal.returns
returns c = (
  all_ok c.args.fold.now c.args.map.now.stands (node_forms c.args.fold.now c.args.used.now) (told_all c.args.forms.now) c.args.cells c.new-rows.result c.add_rows.new.rows c.add_nodes.new.rows c.add_forms.new.rows c.new-rows.ensures c.in_ok-cells_total.ensures.0
      c.in_ok-nodes_total.ensures.0 c.in_ok-_total.ensures.0,
  subst (λ n. n ≤ 50000000) c.in_ok-_total.ensures.1 c.in_ok-_total.ensures.2,
)
