use Rattle.std.proofs.Common.{rules, ◌≡◌, sym, ap₂, subst, ◌∷◌, []}
use Rattle.std.proofs.Math.Facts.{to_z-of_z}
use Rattle.bool_encode.specs.Forms.{form}
use Rattle.bool_encode.specs.Tables.{times}
use Rattle.program_rows.specs.Fair.{IsFair}
use Rattle.program_rows.proofs.Fairness.{term_fair}
use Rattle.program_rows.proofs.linear.term_form.Goals as goal

pub returns-clause-fair : goal.returns-clause-fair
returns-clause-fair c =
    let pieces : c.push.new.self ≡ times c.args.sign c.args.id ∷ [] = search rules in
    subst (IsFair c.args.fold.now) (sym (ap₂ form (to_z-of_z c.ranges.constant) pieces)) (term_fair c.args.fold.now c.range-range.ensures.fold c.args.constant c.args.sign c.args.id c.requires.asked c.requires.sign c.requires.constant)
