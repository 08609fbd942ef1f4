use Rattle.std.proofs.Common.{◌≡◌, ◌∙◌, sym, ap, subst, List, [], ◌∷◌, ◌++◌, ◌+◌, take}
use Rattle.std.proofs.lemmas.List.{take_all}
use Rattle.bool_encode.specs.Forms.{Form}
use Rattle.program_rows.specs.declared.linear.LinearForm.{LinearForm}
use Rattle.program_rows.specs.Fair.{told, told_all, IsFair}
use Rattle.program_rows.specs.Goals.{AreSeedsOf}
use Rattle.program_rows.proofs.Sowing.{told_each, told_more}
use Rattle.program_rows.proofs.sow.sow_all.Goals as goal

pub sow-requires-clause-fair : goal.sow-requires-clause-fair
sow-requires-clause-fair c =
    subst (λ (f : LinearForm). IsFair c.args.fold.now (told f)) (sym c.form-item.is) (told_each (IsFair c.args.fold.now) c.args.forms.now c.requires.forms c.loop-form.form-index c.form-item.result c.loop-form-test.true)

pub loop-form-preserved : goal.loop-form-preserved
loop-form-preserved c =
    let one : told_all (take c.loop-form.form-index c.args.forms.now) ++ told c.form-item.result ∷ [] ≡ told_all (take (c.loop-form.form-index + 1) c.args.forms.now) =
    ap (λ (f : LinearForm). told_all (take c.loop-form.form-index c.args.forms.now) ++ told f ∷ []) c.form-item.is ∙ sym (told_more c.args.forms.now c.loop-form.form-index c.form-item.result c.loop-form-test.true) in (
      subst (λ (fs : List Form). AreSeedsOf c.args.fold.now fs c.sow.new.all) one (c.in_ok-sow.ensures.sown (told_all (take c.loop-form.form-index c.args.forms.now)) c.loop-form.invariant.0),
      c.in_ok-sow.ensures.totals ∙ c.loop-form.invariant.1,
    )

pub returns : goal.returns
returns c =
    subst (λ (fs : List Form). AreSeedsOf c.args.fold.now (fs ++ told c.args.aim.now ∷ []) c.sow-2.new.all) (ap told_all (take_all c.loop-form.form-index c.args.forms.now c.loop-form-test.false))
    (c.in_ok-sow-2.ensures.sown (told_all (take c.loop-form.form-index c.args.forms.now)) c.loop-form.invariant.0)
