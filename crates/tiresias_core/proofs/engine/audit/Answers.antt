use Rattle.std.proofs.Common.{◌≡◌, ℤ, rules, subst}
use Rattle.std.proofs.lemmas.Int.{to_z-of_z}
use Rattle.std.specs.Int.{w128}
use Rattle.std.specs.Prelude.{Some, Err}
use mir.Val.{to_z, of_z}
use Rattle.cert_check.specs.Reasons.{TellsFirst}
use Rattle.cert_check.specs.declared.fault.CheckFault.{CheckFault}
use Rattle.world_def.specs.declared.fault.EvalFault.TheVariants as eval
use Rattle.tiresias_core.specs.Causes.{excess_of}
use Rattle.tiresias_core.proofs.Doing.{check_passes, small_job}
use Rattle.tiresias_core.proofs.engine.audit.Goals as goal

pub check_listed-requires-clause-small : goal.check_listed-requires-clause-small
check_listed-requires-clause-small c = small_job c.args.job.now c.requires.ready

pub returns-in_ok-excess_of-in-Err-Wide : goal.returns-in_ok-excess_of-in-Err-Wide
returns-in_ok-excess_of-in-Err-Wide c =
    let same : to_z w128 (of_z w128 c.in-Err-Wide.number) ≡ c.in-Err-Wide.number = to_z-of_z w128 c.in-Err-Wide.number (search rules) in
    check_passes c.args.job.now c.args.answer.now (eval.Wide c.in-Err-Wide.source c.in-Err-Wide.number) c.in_ok-excess_of-in-Err-Wide.field-0
    (subst (λ (told : CheckFault). TellsFirst c.args.job.now.query c.args.job.now.tables c.args.job.now.columns c.args.answer.now (Err told)) c.in-Err-Wide.field-0-is c.in-Err-Wide.ensures.reason)
    (subst (λ (n : ℤ). excess_of c.args.job.now.query (eval.Wide c.in-Err-Wide.source n) ≡ Some c.in_ok-excess_of-in-Err-Wide.field-0) same c.in_ok-excess_of-in-Err-Wide.ensures)

pub returns-in_ok-excess_of-in-Err-TooManyRows : goal.returns-in_ok-excess_of-in-Err-TooManyRows
returns-in_ok-excess_of-in-Err-TooManyRows c =
    check_passes c.args.job.now c.args.answer.now (eval.TooManyRows c.in-Err-TooManyRows.view c.in-Err-TooManyRows.limit) c.in_ok-excess_of-in-Err-TooManyRows.field-0
    (subst (λ (told : CheckFault). TellsFirst c.args.job.now.query c.args.job.now.tables c.args.job.now.columns c.args.answer.now (Err told)) c.in-Err-TooManyRows.field-0-is c.in-Err-TooManyRows.ensures.reason) c.in_ok-excess_of-in-Err-TooManyRows.ensures
