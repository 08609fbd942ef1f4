use Rattle.std.proofs.Common.{◌∙◌, ap}
use Rattle.rat128.specs.Operations.{add_of}
use Rattle.rat128.proofs.Operations.{IfSome-sub_of}
use Rattle.rat128.proofs.rat.Rat.sub.Goals as goal

pub returns-clause-value : goal.returns-clause-value
returns-clause-value c =
    IfSome-sub_of c.args.self.now c.args.other.now c.add.result (c.add.ensures.gives ∙ ap (add_of c.args.self.now) c.negated.ensures.gives)
