use Rattle.std.proofs.Common.{true}
use Rattle.root_encode.specs.Roots.{root_forms}
use Rattle.program_rows.proofs.Asking.{asks_more}
use Rattle.program_rows.proofs.linear.forms_of.Goals as goal

pub loop-root-preserved : goal.loop-root-preserved
loop-root-preserved c = asks_more c.args.fold.now (root_forms c.args.fold.now true) c.args.roots.now c.loop-root.root-index c.new-forms.result c.loop-root.forms c.ask.new.forms c.loop-root-test.true c.loop-root.invariant c.in_ok-ask.ensures
