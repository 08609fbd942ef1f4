use Rattle.std.proofs.Common.{◌∙◌, ◌^◌, ap₂, nat_cmp}
use Rattle.std.specs.Ordering.{ordering_then}
use Rattle.rat128.proofs.Orders.{cmp_halves}
use Rattle.rat128.proofs.wide.compare_wide.Goals as goal

pub returns : goal.returns
returns c =
    c.then.ensures ∙ ap₂ ordering_then c.cmp.ensures c.cmp-2.ensures ∙ cmp_halves (2 ^ 128) c.x.inside.low c.x.inside.high c.y.inside.low c.y.inside.high c.x.invariant c.y.invariant ∙ ap₂ nat_cmp c.x.view_is c.y.view_is
