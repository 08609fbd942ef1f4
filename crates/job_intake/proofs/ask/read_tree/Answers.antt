use Rattle.std.proofs.Common.{ap, sym, subst, refl}
use Rattle.std.specs.Prelude.{Err}
use Rattle.base_kit.specs.declared.place.Place.{Place}
use Rattle.tiql_tree.specs.Spelled.{IsStop}
use Rattle.job_intake.proofs.ask.read_tree.Goals as goal

pub returns-in-Err-Syntax : goal.returns-in-Err-Syntax
returns-in-Err-Syntax c = (c.in-Err-Syntax.place, refl, subst (λ (p : Place). IsStop c.args.bytes.now p) (sym c.in-Err-Syntax.place-is) (c.in-Err-Syntax.ensures.stop c.in-Err-Syntax.place (ap Err c.in-Err-Syntax.field-0-is)))
