-- Truths and selectors at a point over d, which are 0 or d there.
use Rattle.std.proofs.Common.{◌≡◌, ◌∙◌, sym, ap, ℕ, ◌<◌, ◌⊎◌, inl, inr, ℤ, pos, negsuc, ◌+ℤ◌, ◌*ℤ◌, ◌≤ℤ◌, Bool, true, false, cond, subst, refl, arith}
use Rattle.std.specs.Ordering.{int_eq}
use Rattle.std.proofs.lemmas.Int.{ints}
use Rattle.prov_arena.specs.Formulas.{Formula, FalseNode, TrueNode, PresNode, CellNode, PosNode, NotNode, AndNode, OrNode, LinNode, GuardNode, AbsNode, TotNode, MinNode}
use Rattle.prov_fold.specs.declared.span.Span.{Span}
use Rattle.prov_fold.specs.Spans.{span_of, truth_span}
use Rattle.prov_fold.specs.Kinds.{is_truth}
use Rattle.prov_fold.specs.Values.{as_number}
use Rattle.bool_encode.specs.Tellings.{IsBit, is_switch}
use Rattle.bool_encode.proofs.Numbers.{zero_d, one_times, cancel_le}
use Rattle.bool_encode.proofs.Bits.{IsTruthValue, bit_cases}
use Rattle.whole_points.specs.Points.{IsTimes}

bit_by : (d : ℕ) (n w : ℤ) → n ≡ w *ℤ pos d → (w ≡ pos 0) ⊎ (w ≡ pos 1) → IsBit d n
bit_by d n w e (inl none) = inl (e ∙ ap (λ (x : ℤ). x *ℤ pos d) none ∙ zero_d d)
bit_by d n w e (inr one) = inr (e ∙ ap (λ (x : ℤ). x *ℤ pos d) one ∙ sym (one_times d))

-- what is whole and lies in 0 .. 1 over d
pub bit_within : (d : ℕ) (n : ℤ) → 0 < d → IsTimes d n → (pos 0 *ℤ pos d) ≤ℤ n → n ≤ℤ (pos 1 *ℤ pos d) → IsBit d n
bit_within d n some whole low high =
    let at_least : pos 0 ≤ℤ whole.part = cancel_le (pos 0) whole.part d some (subst (λ (x : ℤ). (pos 0 *ℤ pos d) ≤ℤ x) whole.is low) in
    let at_most : whole.part ≤ℤ pos 1 = cancel_le whole.part (pos 1) d some (subst (λ (x : ℤ). x ≤ℤ (pos 1 *ℤ pos d)) whole.is high) in
    bit_by d n whole.part whole.is (bit_cases whole.part at_least at_most)

between_by : (b : Bool) (n : ℤ) → n ≡ as_number b → (pos 0 ≤ℤ n) × (n ≤ℤ pos 1)
between_by true n e = (omega (arith, ints, e), omega (arith, ints, e))
between_by false n e = (omega (arith, ints, e), omega (arith, ints, e))

pub truth_between : (n : ℤ) → IsTruthValue n → (pos 0 ≤ℤ n) × (n ≤ℤ pos 1)
truth_between n e = between_by (int_eq n (pos 1)) n e

not_by : (b : Bool) (d : ℕ) → pos 1 *ℤ pos d +ℤ (negsuc 0 *ℤ (as_number b *ℤ pos d) +ℤ pos 0) ≡ cond b (pos 0) (pos 1) *ℤ pos d
not_by true d = omega (arith, ints)
not_by false d = omega (arith, ints)

-- 1 less a truth, over d
pub not_over : (v : ℤ) (d : ℕ) → IsTruthValue v → pos 1 *ℤ pos d +ℤ (negsuc 0 *ℤ (v *ℤ pos d) +ℤ pos 0) ≡ cond (int_eq v (pos 1)) (pos 0) (pos 1) *ℤ pos d
not_over v d bit = ap (λ (x : ℤ). pos 1 *ℤ pos d +ℤ (negsuc 0 *ℤ (x *ℤ pos d) +ℤ pos 0)) bit ∙ not_by (int_eq v (pos 1)) d

pub truth_ranged : (s : Span) (r : ℕ → Span) (m : Formula) → is_truth m ≡ true → span_of s r m ≡ truth_span
truth_ranged s r FalseNode e = refl
truth_ranged s r TrueNode e = refl
truth_ranged s r (PresNode column) e = refl
truth_ranged s r (CellNode column) e = cc
truth_ranged s r (PosNode n) e = refl
truth_ranged s r (NotNode t) e = refl
truth_ranged s r (AndNode kids) e = refl
truth_ranged s r (OrNode kids) e = refl
truth_ranged s r (LinNode c terms) e = cc
truth_ranged s r (GuardNode t n) e = cc
truth_ranged s r (AbsNode n) e = cc
truth_ranged s r (TotNode n) e = cc
truth_ranged s r (MinNode pairs) e = cc

pub switch_truth : (m : Formula) → is_switch m ≡ true → is_truth m ≡ true
switch_truth FalseNode e = cc
switch_truth TrueNode e = cc
switch_truth (PresNode column) e = cc
switch_truth (CellNode column) e = cc
switch_truth (PosNode n) e = refl
switch_truth (NotNode t) e = cc
switch_truth (AndNode kids) e = refl
switch_truth (OrNode kids) e = refl
switch_truth (LinNode c terms) e = cc
switch_truth (GuardNode t n) e = cc
switch_truth (AbsNode n) e = cc
switch_truth (TotNode n) e = cc
switch_truth (MinNode pairs) e = cc
