use Rattle.std.proofs.Common.{◌<◌, ◌^◌, sym, subst, List}
use Rattle.bool_encode.specs.declared.form.Piece.{Piece}
use Rattle.used_columns.specs.Seeds.{bulk, form_terms}
use Rattle.program_rows.specs.Fair.{told}
use Rattle.program_rows.proofs.Fairness.{fair_bulk}
use Rattle.program_rows.proofs.Sowing.{sows, seeds_at}
use Rattle.program_rows.proofs.sow.sow.Goals as goal

pub seeds-requires-clause-light : goal.seeds-requires-clause-light
seeds-requires-clause-light c =
    subst (λ (ps : List Piece). bulk (form_terms c.args.fold.now ps) < 2 ^ 63) (sym c.as_slice.ensures) (fair_bulk c.args.fold.now (told c.args.form.now) c.requires.fair)

pub returns-clause-sown : goal.returns-clause-sown
returns-clause-sown c =
    sows c.args.fold.now (told c.args.form.now) c.args.all.now c.in_ok-more.more c.append.new.self c.in_ok-append.ensures (seeds_at c.args.fold.now c.as_slice.result.now c.args.form.now.pieces c.in_ok-more.more c.as_slice.ensures c.in_ok-more.ensures.seeds)
