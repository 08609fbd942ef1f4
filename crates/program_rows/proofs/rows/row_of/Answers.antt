use Rattle.std.proofs.Common.{◌<◌, ◌^◌, sym, subst, ℤ, List}
use Rattle.std.proofs.Math.Facts.{to_z-of_z}
use Rattle.std.proofs.Common.{rules, FitsSigned, w64}
use Rattle.bool_encode.specs.declared.form.Piece.{Piece}
use Rattle.bool_encode.specs.Rows.{weight}
use Rattle.program_rows.specs.Fair.{told}
use Rattle.program_rows.proofs.Fairness.{fair_weight}
use Rattle.program_rows.proofs.rows.row_of.Goals as goal

pub joined_row-requires-clause-light : goal.joined_row-requires-clause-light
joined_row-requires-clause-light c =
    let fits : FitsSigned w64 c.args.form.now.constant = search rules in
    subst (λ (n : ℤ). weight c.args.fold.now c.args.map.now.stands n c.as_slice.result.now < 2 ^ 63) (sym (to_z-of_z fits))
    (subst (λ (ps : List Piece). weight c.args.fold.now c.args.map.now.stands c.args.form.now.constant ps < 2 ^ 63) (sym c.as_slice.ensures) (fair_weight c.args.fold.now c.args.map.now.stands (told c.args.form.now) c.requires.fair))
