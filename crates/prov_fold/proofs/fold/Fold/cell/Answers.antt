use Rattle.std.proofs.Common.{◌≡◌, ◌∙◌, sym, ap, subst, ℤ, to_z, FitsSigned, w64, rules, arith}
use Rattle.std.specs.Prelude.{IfOk}
use Rattle.std.proofs.Math.Facts.{to_z-of_z}
use Rattle.std.proofs.lemmas.Int.{ints}
use Rattle.prov_fold.specs.Meanings.{Means}
use Rattle.prov_fold.specs.Rules.{cell}
use Rattle.prov_fold.proofs.MeantLemmas.{said, IsWorth}
use Rattle.prov_fold.proofs.NumberMeanings.{IsCell, cell_fixed, cell_means}
use Rattle.prov_fold.proofs.fold.Fold.cell.Goals as goal

pub returns-then-range-clause-means : goal.returns-then-range-clause-means
returns-then-range-clause-means c =
    let low = c.requires.small_lo in
    let high = c.requires.small_hi in
    let fits_lo : FitsSigned w64 c.args.range.lo = omega (arith, ints, low) in
    let fits_hi : FitsSigned w64 c.args.range.hi = omega (arith, ints, high) in
    let same : c.args.range.lo ≡ c.args.range.hi = sym (to_z-of_z fits_lo) ∙ ap (to_z w64) c.if-range.true ∙ to_z-of_z fits_hi in
    cell_fixed c.args.column c.args.range c.constant.new.self c.constant.result same
    (subst (λ (z : ℤ). IfOk c.constant.result (λ id. Means c.constant.new.self (IsWorth (λ world v. z) id))) (to_z-of_z fits_lo) c.constant.ensures.means)

pub returns-clause-made : goal.returns-clause-made
unfolding cell
returns-clause-made c = search rules

pub returns-clause-means : goal.returns-clause-means
returns-clause-means c =
    said (cell c.args.column c.args.range) c.args.self.now c.number.new.self c.number.result (IsCell c.args.column c.args.range) (cell_means c.args.column c.args.range c.args.self.now c.number.ensures.before) (returns-clause-made c)
