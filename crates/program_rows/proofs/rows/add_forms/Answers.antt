use Rattle.std.proofs.Common.{◌∙◌, ap, sym, subst, refl, ℕ, ◌+◌, [], ◌∷◌, drop}
use Rattle.std.specs.Prelude.{Result, Err}
use Rattle.std.proofs.lemmas.Result.{err_from_is_err_and}
use Rattle.bool_encode.specs.Forms.{Form}
use Rattle.program_rows.specs.declared.fault.ProgramFault.{ProgramFault}
use Rattle.program_rows.specs.declared.linear.LinearForm.{LinearForm}
use Rattle.program_rows.specs.Fair.{told, told_all, IsFair}
use Rattle.program_rows.specs.Gathering.{Gathers}
use Rattle.bool_encode.specs.Rows.{IsJoinedOn}
use Rattle.program_rows.proofs.Laying.{each_joined}
use Rattle.program_rows.proofs.Sowing.{told_each}
use Rattle.program_rows.proofs.Turns.{way_begin, way_more, way_err, way_end, left_more, left_end}
use Rattle.program_rows.proofs.rows.add_forms.Goals as goal

pub add_form-requires-clause-fair : goal.add_form-requires-clause-fair
add_form-requires-clause-fair c =
    subst (λ (f : LinearForm). IsFair c.args.fold.now (told f)) (sym c.form-item.is) (told_each (IsFair c.args.fold.now) c.args.forms.now c.requires.fair c.loop-form.form-index c.form-item.result c.loop-form-test.true)

pub add_form-requires-clause-joined : goal.add_form-requires-clause-joined
add_form-requires-clause-joined c =
    subst (λ (f : LinearForm). IsJoinedOn c.args.fold.now c.args.map.now.stands f.pieces) (sym c.form-item.is)
    (told_each (λ (r : Form). IsJoinedOn c.args.fold.now c.args.map.now.stands r.pieces) c.args.forms.now (each_joined c.args.fold.now c.args.map.now.stands (told_all c.args.forms.now) c.requires.joined) c.loop-form.form-index c.form-item.result c.loop-form-test.true)

pub loop-form-init : goal.loop-form-init
loop-form-init c = way_begin c.args.fold.now c.args.map.now.stands _ _ c.args.rows.now c.args.total refl c.requires.counted c.requires.small

pub returns-in_err-total : goal.returns-in_err-total
returns-in_err-total c =
    let p = err_from_is_err_and c.from_residual.result c.from_residual.ensures.1 in
    subst (λ (r : Result ℕ ProgramFault). Gathers c.args.fold.now c.args.map.now.stands (told_all c.args.forms.now) c.args.rows.now c.add_form.new.rows r) (sym (p.1 ∙ ap Err p.2))
    (way_err c.args.fold.now c.args.map.now.stands (told c.form-item.result ∷ []) (told_all (drop (c.loop-form.form-index + 1) c.args.forms.now)) (told_all (drop c.loop-form.form-index c.args.forms.now)) (told_all c.args.forms.now) c.args.rows.now c.loop-form.rows
    c.add_form.new.rows c.add_form.new.rows c.loop-form.total c.in_err-total.field-0.0 (left_more c.args.forms.now c.loop-form.form-index c.form-item.result c.loop-form-test.true c.form-item.is) c.loop-form.invariant c.in_err-total.ensures)

pub loop-form-preserved : goal.loop-form-preserved
loop-form-preserved c =
    way_more c.args.fold.now c.args.map.now.stands (told c.form-item.result ∷ []) (told_all (drop (c.loop-form.form-index + 1) c.args.forms.now)) (told_all (drop c.loop-form.form-index c.args.forms.now)) (told_all c.args.forms.now) c.args.rows.now c.loop-form.rows
    c.add_form.new.rows c.loop-form.total c.in_ok-total.total (left_more c.args.forms.now c.loop-form.form-index c.form-item.result c.loop-form-test.true c.form-item.is) c.loop-form.invariant c.in_ok-total.ensures

pub returns : goal.returns
returns c = way_end c.args.fold.now c.args.map.now.stands (told_all (drop c.loop-form.form-index c.args.forms.now)) (told_all c.args.forms.now) c.args.rows.now c.loop-form.rows c.loop-form.total (left_end c.args.forms.now c.loop-form.form-index c.loop-form-test.false) c.loop-form.invariant
