use Rattle.std.proofs.Common.{◌≡◌, ◌∙◌, sym, ap, subst, arith, [], to_z, of_z, w64, ℤ, unsigned_abs}
use Rattle.std.proofs.Math.Facts.{to_z-of_z}
use Rattle.prov_arena.specs.Formulas.{LinNode}
use Rattle.prov_fold.specs.Graphs.{Fits}
use Rattle.prov_fold.specs.Rules as rule
use Rattle.prov_fold.proofs.NumberLemmas.{constant_fits, constant_made}
use Rattle.prov_fold.proofs.MeantLemmas.{said, IsWorth}
use Rattle.prov_fold.proofs.NumberMeanings.{constant_means}
use Rattle.prov_fold.proofs.fold.Fold.constant.Goals as goal

pub append-requires-clause-fits : goal.append-requires-clause-fits
append-requires-clause-fits c =
    let v : to_z w64 (of_z w64 c.args.value) ≡ c.args.value = to_z-of_z c.ranges.value in
    subst (λ (z : ℤ). Fits c.args.self.now (record { lo = z; hi = z }) (LinNode z [])) (sym v) (constant_fits c.args.self.now c.args.value (omega (arith, c.unsigned_abs.ensures.value, ap unsigned_abs v)))

pub returns-clause-made : goal.returns-clause-made
returns-clause-made c =
    let v : to_z w64 (of_z w64 c.args.value) ≡ c.args.value = to_z-of_z c.ranges.value in
    λ other. c.append.ensures.made other ∙ ap (λ (z : ℤ). rule.interned (record { lo = z; hi = z }) (LinNode z []) c.args.self.now) v ∙ constant_made c.args.self.now c.args.value (omega (arith, c.unsigned_abs.ensures.value, ap unsigned_abs v))

pub returns-clause-means : goal.returns-clause-means
returns-clause-means c =
    said (rule.constant c.args.value) c.args.self.now c.append.new.self c.append.result (IsWorth (λ world v. c.args.value)) (constant_means c.args.value c.args.self.now c.append.ensures.before.count) (returns-clause-made c)
