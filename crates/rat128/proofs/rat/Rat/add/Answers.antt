use Rattle.std.proofs.Common.{◌≡◌, rules}
use Rattle.rat128.specs.Operations.{add_of}
use Rattle.rat128.proofs.Operations.{IfSome-add_of}
use Rattle.rat128.proofs.rat.Rat.add.Goals as goal

pub returns-clause-value : goal.returns-clause-value
returns-clause-value c =
    let e : c.sum_of.result ≡ add_of c.args.self.now c.args.other.now = search rules in
    IfSome-add_of c.args.self.now c.args.other.now c.sum_of.result e
