use Rattle.std.proofs.Common.{◌∙◌, FitsSigned, of_z, w64, ap, sym, rules}
use Rattle.std.proofs.lemmas.Bool.{eqb-true}
use Rattle.ip_rows.specs.declared.rows.IpRow.{IpRow}
use Rattle.ip_reduce.proofs.Casts.{same_number}
use Rattle.ip_reduce.proofs.RowLemmas.{same_rows}
use Rattle.ip_reduce.proofs.chains.is_same.Goals as goal

pub returns-then-one-other : goal.returns-then-one-other
returns-then-one-other c =
    let one : FitsSigned w64 c.args.one.now.least = search rules in
    let other : FitsSigned w64 c.args.other.now.least = search rules in (
      (λ h. same_rows c.args.one.now c.args.other.now (sym c.as_slice.ensures ∙ c.have_same_terms.ensures.0 h ∙ c.as_slice-then-one-other.ensures) (same_number c.args.one.now.least c.args.other.now.least one other c.if-one-other.true)),
      (λ e. c.have_same_terms.ensures.1 (c.as_slice.ensures ∙ ap (λ (r : IpRow). r.terms) e ∙ sym c.as_slice-then-one-other.ensures)),
    )

pub returns-else-one-other : goal.returns-else-one-other
returns-else-one-other c = (
  (λ h. absurd (c.if-one-other.false (eqb-true (of_z w64 c.args.one.now.least) (of_z w64 c.args.other.now.least) h))),
  (λ e. absurd (c.if-one-other.false (ap (λ (r : IpRow). of_z w64 r.least) e))),
)
