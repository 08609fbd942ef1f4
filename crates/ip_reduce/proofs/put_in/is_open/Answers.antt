use Rattle.std.proofs.Common.{◌∙◌, FitsSigned, w64, ap, rules}
use Rattle.std.specs.Ordering.{int_eq}
use Rattle.std.specs.Prelude.{not}
use Rattle.ip_rows.specs.declared.Bounds.{Bounds}
use Rattle.ip_reduce.proofs.Casts.{bits_equal}
use Rattle.ip_reduce.proofs.put_in.is_open.Goals as goal

pub returns : goal.returns
returns c =
    let low : FitsSigned w64 c.side_of-side.result.lo = search rules in
    let high : FitsSigned w64 c.side_of-side.result.hi = search rules in
    ap not (bits_equal c.side_of-side.result.lo c.side_of-side.result.hi low high) ∙ ap (λ (side : Bounds). not (int_eq side.lo side.hi)) c.side_of-side.ensures
