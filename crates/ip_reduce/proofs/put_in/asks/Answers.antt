use Rattle.std.proofs.Common.{List, sym, subst}
use Rattle.ip_rows.specs.declared.rows.Coef.{Coef}
use Rattle.ip_rows.specs.Programs.{sides_of}
use Rattle.ip_reduce.specs.Rows.{IsLight}
use Rattle.ip_reduce.proofs.put_in.asks.Goals as goal

pub least_total-requires : goal.least_total-requires
least_total-requires c = subst (λ (ts : List Coef). IsLight (sides_of c.args.columns.now) ts) (sym c.as_slice.ensures) c.requires
