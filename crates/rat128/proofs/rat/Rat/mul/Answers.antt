use Rattle.std.proofs.Common.{◌≡◌, rules}
use Rattle.rat128.specs.Operations.{mul_of}
use Rattle.rat128.proofs.Operations.{IfSome-mul_of}
use Rattle.rat128.proofs.rat.Rat.mul.Goals as goal

pub returns-clause-value : goal.returns-clause-value
returns-clause-value c =
    let e : c.product_of.result ≡ mul_of c.args.self.now c.args.other.now = search rules in
    IfSome-mul_of c.args.self.now c.args.other.now c.product_of.result e
