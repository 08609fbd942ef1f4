-- what a call of the fold comes to, as a walk
use Rattle.std.proofs.Common.{◌≡◌, ◌≢◌, ◌∙◌, sym, ap, subst, ℕ, ℤ, List, length, Result, Ok, Err}
use Rattle.std.specs.Prelude.{IfOk}
use Rattle.prov_arena.specs.Formulas.{FalseNode, PresNode}
use Rattle.prov_fold.specs.Graphs.{Graph, node, range, size, Keeps, HasTruth}
use Rattle.prov_fold.specs.Spans.{span_of, truth_span}
use Rattle.prov_fold.specs.Meanings.{Means}
use Rattle.prov_fold.specs.Graphs.{HasNumber}
use Rattle.prov_fold.specs.declared.span.Scaled.{Scaled}
use Rattle.prov_fold.specs.Sums.{total_by}
use Rattle.std.proofs.Common.{◌+ℤ◌, ◌*ℤ◌}
use Rattle.prov_fold.specs.Rules.{Made, Rule, pres, constant, sum}
use Rattle.prov_fold.specs.Rules as rules_of
use Rattle.prov_fold.specs.declared.fault.FoldFault.{FoldFault}
use Rattle.prov_fold.specs.declared.fault.FoldFault.TheVariants as fold
use Rattle.prov_fold.proofs.StandLemmas.{StoodBy, interned_stood}
use Rattle.sym_rows.specs.declared.fault.WalkFault.{WalkFault}
use Rattle.sym_rows.specs.declared.fault.WalkFault.TheVariants as fault
use Rattle.sym_rows.specs.Hypos.{IsPresence}
use Rattle.sym_rows.specs.Walks.{fault_of, lifted, walked_by, by_rule, Makes}

memory_is : (e : FoldFault) → e ≡ fold.Memory → fault_of e ≡ fault.Memory
memory_is e same = ap fault_of same

-- what a call of the fold does, as a step of a walk
pub rule_makes : (rule : Rule) (Good : Graph → ℕ → Type 0) (Tells : ℕ → List ℤ → (ℕ → ℤ) → Type 0) (g after : Graph) (r : Result ℕ FoldFault) (result : Result ℕ WalkFault) → result ≡ lifted r
    → rules_of.Follows (rule g) r after → Keeps g after → IfOk r (λ id. Good after id) → IfOk r (λ id. Means after (Tells id)) → Makes (by_rule rule g) Good Tells g result after
rule_makes rule Good Tells g after (Ok id) result is h kept good means =
    subst (λ (r : Result ℕ WalkFault). Makes (by_rule rule g) Good Tells g r after) (sym is)
    (record { follows = ap (λ (m : Made). walked_by m.gives m.list) (sym (h (λ e. cc))); kept = kept; good = good; means = means })
rule_makes rule Good Tells g after (Err e) result is h kept good means =
    subst (λ (r : Result ℕ WalkFault). Makes (by_rule rule g) Good Tells g r after) (sym is)
    (record {
      follows = λ ne. ap (λ (m : Made). walked_by m.gives m.list) (sym (h (λ same. ne (memory_is e (let k : e ≡ fold.Memory = cc in k)))));
      kept = kept;
      good = tt;
      means = tt;
    })

-- the formula of a presence is not False
pres_by : (g after : Graph) (column : ℕ) (id : ℕ) → StoodBy g (PresNode column) (Ok id) after → node after 0 ≡ FalseNode → id ≢ 0
pres_by g after column id stands at same = let k : PresNode column ≡ FalseNode = sym stands.is ∙ ap (node after) same ∙ at in absurd (cc)

pub pres_possible : (g after : Graph) (column : ℕ) (r : Result ℕ FoldFault) → length g.ranges ≡ size g → node after 0 ≡ FalseNode → rules_of.Follows (pres column g) r after → IfOk r (λ id. HasTruth after id) → IfOk r (λ id. IsPresence after id)
unfolding pres
pres_possible g after column (Ok id) count at h truth =
    record {
      truth = truth;
      possible = pres_by g after column id
          (subst (λ (m : Made). StoodBy g (PresNode column) m.gives m.list) (sym (h (λ e. cc))) (interned_stood (span_of truth_span (range g) (PresNode column)) (PresNode column) g count)) at;
    }
pres_possible g after column (Err e) count at h truth = tt

-- the number that is a value, and a sum, where the value and the constant are read from the code's numbers
pub constant_makes : (n m : ℤ) (g after : Graph) (r : Result ℕ FoldFault) (result : Result ℕ WalkFault) → m ≡ n → result ≡ lifted r → rules_of.Follows (constant m g) r after → Keeps g after → IfOk r (λ id. HasNumber after id)
    → IfOk r (λ id. Means after (λ _ v. v id ≡ m)) → Makes (by_rule (constant n) g) HasNumber (λ id _ v. v id ≡ n) g result after
constant_makes n m g after r result same is h kept good means =
    subst (λ (n : ℤ). Makes (by_rule (constant n) g) HasNumber (λ id _ v. v id ≡ n) g result after) same (rule_makes (constant m) HasNumber (λ id _ v. v id ≡ m) g after r result is h kept good means)

pub sum_makes : (n m : ℤ) (parts : List Scaled) (g after : Graph) (r : Result ℕ FoldFault) (result : Result ℕ WalkFault) → m ≡ n → result ≡ lifted r → rules_of.Follows (sum m parts g) r after → Keeps g after → IfOk r (λ id. HasNumber after id)
    → IfOk r (λ id. Means after (λ _ v. v id ≡ m +ℤ total_by (λ (part : Scaled). part.factor *ℤ v part.number) parts)) → Makes (by_rule (sum n parts) g) HasNumber (λ id _ v. v id ≡ n +ℤ total_by (λ (part : Scaled). part.factor *ℤ v part.number) parts) g result after
sum_makes n m parts g after r result same is h kept good means =
    subst (λ (n : ℤ). Makes (by_rule (sum n parts) g) HasNumber (λ id _ v. v id ≡ n +ℤ total_by (λ (part : Scaled). part.factor *ℤ v part.number) parts) g result after) same
    (rule_makes (sum m parts) HasNumber (λ id _ v. v id ≡ m +ℤ total_by (λ (part : Scaled). part.factor *ℤ v part.number) parts) g after r result is h kept good means)
