use Rattle.std.proofs.Common.{rules, ◌∙◌, sym, ap, ℤ, ◌+ℤ◌, ◌*ℤ◌, FitsSigned, w64}
use Rattle.std.proofs.Math.Facts.{to_z-of_z}
use Rattle.prov_arena.specs.declared.part.Term.{Term}
use Rattle.prov_arena.specs.declared.part.Part.{Part}
use Rattle.prov_arena.specs.Formulas.{formula}
use Rattle.prov_fold.specs.Sums.{total_by}
use Rattle.prov_fold.specs.Values.{number_at, value_of}
use Rattle.prov_fold.proofs.values.value.Goals as goal

pub returns-in-Lin : goal.returns-in-Lin
returns-in-Lin c =
    let fits_r : FitsSigned w64 c.linear.result = search rules in
    let fits_k : FitsSigned w64 c.in-Lin.constant = search rules in
    to_z-of_z fits_r ∙ c.linear.ensures ∙ ap (λ (z : ℤ). z +ℤ total_by (λ (t : Term). t.factor *ℤ number_at c.args.values.now t.node) c.in-Lin.terms.now) (to_z-of_z fits_k)
    ∙ ap (λ (p : Part). value_of c.args.world.now (number_at c.args.values.now) (formula p)) (sym c.in-Lin.is)
