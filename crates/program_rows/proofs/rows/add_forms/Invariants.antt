use Rattle.std.proofs.Common.{drop}
use Rattle.program_rows.specs.Fair.{told_all}
use Rattle.program_rows.proofs.Turns.{IsOnWay}
use Rattle.program_rows.proofs.rows.add_forms.Given as goal

abbrev pub invariant-loop-form : goal.invariant-loop-form
invariant-loop-form l = IsOnWay l.fold l.map.stands (told_all (drop l.form-index l.forms)) (told_all l.forms) l.initial.rows l.rows l.total
