use Rattle.std.proofs.Common.{sym, subst, List}
use Rattle.ip_rows.specs.declared.rows.IpRow.{IpRow}
use Rattle.bool_encode.specs.Rows.{AreRows}
use Rattle.bool_encode.specs.Tables.{or_forms}
use Rattle.bool_encode.proofs.RowLemmas.{rows_push}
use Rattle.bool_encode.proofs.rows.or_rows.Goals as goal

pub returns : goal.returns
returns c =
    subst (λ (rows : List IpRow). AreRows c.args.fold.now c.args.map.now.stands (or_forms c.args.kids.now c.args.id) rows) (sym c.in_ok-push.ensures.ok)
    (rows_push c.args.fold.now c.args.map.now.stands _ c.in_ok-rows.rows _ c.in_ok-last_row.field-0 c.in_ok-rows.ensures c.in_ok-last_row.ensures)
