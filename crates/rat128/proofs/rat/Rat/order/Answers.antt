use Rattle.std.proofs.Common.{◌≡◌, ◌∙◌, sym, rules}
use Rattle.rat128.specs.Fractions.{order_of}
use Rattle.rat128.specs.Rationals.{order_ℚ-value}
use Rattle.rat128.proofs.rat.Rat.order.Goals as goal

pub returns-clause-value : goal.returns-clause-value
returns-clause-value c =
    let e : c.cross_order.result ≡ order_of c.args.self.now c.args.other.now = search rules in
    e ∙ sym (order_ℚ-value c.args.self.now c.args.other.now)
