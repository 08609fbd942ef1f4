use Rattle.std.proofs.Common.{pos, sym}
use Rattle.std.proofs.lemmas.List.{get_or-map}
use Rattle.ip_rows.specs.declared.program.IpColumn.{IpColumn}
use Rattle.ip_reduce.proofs.put_in.side_of.Goals as goal

pub returns : goal.returns
returns c = sym (get_or-map (λ (column : IpColumn). column.sides) c.args.columns.now c.args.column _ (record { lo = pos 0; hi = pos 0 }) c.requires)
