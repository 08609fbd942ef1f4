use Rattle.std.proofs.Common.{length, sym, ap, subst, Ok}
use Rattle.std.specs.Prelude.{All}
use Rattle.base_kit.specs.Asking.{and_then}
use Rattle.world_def.specs.Columns.{Rows}
use Rattle.world_eval.specs.Evaluating.{view_told}
use Rattle.world_eval.specs.Lines.{view_text}
use Rattle.world_eval.proofs.Wide.{IsWide, rows_wide}
use Rattle.world_eval.proofs.tables.put_asked.Goals as goal

pub put_rows-requires : goal.put_rows-requires
put_rows-requires c =
    subst (λ (rows : Rows). All (IsWide (length c.args.view.now.columns)) rows) (sym c.in_ok-rows.ensures.rows)
    (rows_wide c.args.query.now c.args.tables.now c.args.world.now c.args.number c.args.view.now c.requires.fit c.requires.there)

pub returns : goal.returns
unfolding view_told
returns c = (view_text c.args.view.now c.in_ok-rows.rows, ap (λ asked. and_then asked (λ rows. Ok (view_text c.args.view.now rows))) c.in_ok-rows.ensures.told, c.in_ok-put_rows.ensures)
