-- Rows that are equal, part by part.
use Rattle.std.proofs.Common.{◌≡◌, ℤ, true, eqb, ◌&&◌, List, refl, ap₂, subst}
use Rattle.std.specs.Bool.{Decides}
use Rattle.std.specs.Ordering.{int_eq}
use Rattle.std.proofs.lemmas.Bool.{and_parts, eq-eqb, eqb-true}
use Rattle.std.proofs.lemmas.Bool.Decides.{Decides-int_eq}
use Rattle.ip_rows.specs.declared.rows.Coef.{Coef}
use Rattle.ip_rows.specs.declared.rows.IpRow.{IpRow}
use Rattle.std.proofs.Common.{ℕ}

abbrev row_of : List Coef → ℤ → IpRow
row_of terms least = record { terms = terms; least = least }

pub same_rows : (one other : IpRow) → one.terms ≡ other.terms → one.least ≡ other.least → one ≡ other
same_rows one other terms least = ap₂ row_of terms least

abbrev term_of : ℤ → ℕ → Coef
term_of factor column = record { factor = factor; column = column }

pub term_equal : (one other : Coef) → Decides (int_eq one.factor other.factor && eqb one.column other.column) (one ≡ other)
term_equal one other = (
  (λ e.
      let parts = and_parts (int_eq one.factor other.factor) (eqb one.column other.column) e in
      ap₂ term_of ((Decides-int_eq one.factor other.factor).0 parts.0) (eqb-true one.column other.column parts.1)),
  (λ e. subst (λ (t : Coef). (int_eq one.factor t.factor && eqb one.column t.column) ≡ true) e (ap₂ (λ a b. a && b) ((Decides-int_eq one.factor one.factor).1 refl) (eq-eqb one.column one.column refl))),
)
