use Rattle.std.proofs.Common.{◌≡◌, List, subst}
use Rattle.std.specs.Prelude.{IfOk}
use Rattle.sym_rows.specs.declared.row.Cell.{Cell}
use Rattle.sym_groups.proofs.Listed.{firsts_none, firsts_are}
use Rattle.sym_groups.proofs.distinct.first_cells.Goals as goal

pub returns-in-empty : goal.returns-in-empty
returns-in-empty c = firsts_none c.args.group.now c.new.result c.in-empty.len_below c.new.ensures

pub returns-in-len1-up : goal.returns-in-len1-up
returns-in-len1-up c = subst (λ (l : List Cell). IfOk c.copy.result (λ made. made ≡ l)) (firsts_are c.args.group.now c.row-item.result c.in-len1-up.len_at_least c.row-item.is) c.copy.ensures
