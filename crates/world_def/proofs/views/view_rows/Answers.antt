use Rattle.std.proofs.Common.{◌∙◌, sym, ap}
use Rattle.std.specs.Prelude.{Ok}
use Rattle.world_def.specs.Columns.{Rows}
use Rattle.world_def.proofs.Making.{none_made}
use Rattle.world_def.proofs.Relations.{rows_told}
use Rattle.world_def.proofs.views.view_rows.Goals as goal

pub make-requires-clause-made : goal.make-requires-clause-made
make-requires-clause-made c = none_made c.args.query.now c.args.tables.now c.args.world.now c.in_ok-views.views.made.items c.in_ok-views.ensures

pub returns-clause-rows : goal.returns-clause-rows
returns-clause-rows c =
    rows_told c.args.query.now c.args.tables.now c.args.world.now c.args.source c.in_ok-copy_list.field-0 c.requires.fit
    (c.in_ok-make.ensures.1 ∙ ap (λ (rows : Rows). Ok rows) (sym (c.in_ok-copy_list.ensures ∙ c.rows_at.ensures)))
