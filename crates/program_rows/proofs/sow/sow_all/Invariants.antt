use Rattle.std.proofs.Common.{◌≡◌, take}
use Rattle.program_rows.specs.Fair.{told_all}
use Rattle.program_rows.specs.Goals.{AreSeedsOf}
use Rattle.program_rows.proofs.sow.sow_all.Given as goal

abbrev pub invariant-loop-form : goal.invariant-loop-form
invariant-loop-form l = AreSeedsOf l.fold (told_all (take l.form-index l.forms)) l.all × (l.totals ≡ l.initial.totals)
