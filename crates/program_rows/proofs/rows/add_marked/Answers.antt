use Rattle.std.proofs.Common.{rules, ◌≡◌, sym, subst, true, Bool, [], if◌then◌else◌}
use Rattle.bool_encode.specs.Rows.{AreRows}
use Rattle.cmp_encode.specs.Tables.{forms_of}
use Rattle.prov_fold.specs.Graphs.{node}
use Rattle.used_columns.specs.Used.{mark_at}
use Rattle.program_rows.specs.Goals.{marked_forms}
use Rattle.program_rows.proofs.Gathered.{gathers_one}
use Rattle.program_rows.proofs.rows.add_marked.Goals as goal

pub returns : goal.returns
returns c =
    let marked : mark_at c.args.used.now c.args.id ≡ true = search rules in
    gathers_one c.args.fold.now c.args.map.now.stands (marked_forms c.args.fold.now c.args.used.now c.args.id) c.in_ok-more.more c.args.rows.now c.add_rows.new.rows c.add_rows.result
    (subst (λ (b : Bool). AreRows c.args.fold.now c.args.map.now.stands (if b then forms_of c.args.fold.now c.args.id (node c.args.fold.now c.args.id) else []) c.in_ok-more.more) (sym marked) c.in_ok-more.ensures.rows) c.add_rows.ensures
