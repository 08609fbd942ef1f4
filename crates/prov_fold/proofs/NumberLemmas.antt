-- Numbers without terms, of one atom, and of terms.
use Rattle.std.proofs.Common.{◌≡◌, ◌≢◌, ◌∙◌, sym, ap, subst, refl, ℕ, zero, suc, ◌<◌, ◌≤◌, ℤ, pos, negsuc, ◌+ℤ◌, ◌*ℤ◌, neg_ℤ, ◌≤ℤ◌, ◌<ℤ◌, unsigned_abs, Bool, true, false, cond, nat_lt, List, [], ◌∷◌, length, get_or, All, Ok, Err, arith}
use Rattle.std.proofs.lemmas.Int.{ints}
use Rattle.std.proofs.lemmas.List.{length-map}
use Rattle.std.proofs.Math.ListN.{get_or-map}
use Rattle.std.proofs.Math.IntN.{*ℤ_comm}
use Rattle.std.proofs.lemmas.Bool.Decides.{Decides-ltb}
use Rattle.prov_arena.specs.declared.part.Term.{Term}
use Rattle.prov_arena.specs.Formulas.{Formula, FalseNode, TrueNode, PresNode, CellNode, PosNode, NotNode, AndNode, OrNode, LinNode, GuardNode, AbsNode, TotNode, MinNode, kids_of}
use Rattle.prov_fold.specs.declared.span.Span.{Span}
use Rattle.prov_fold.specs.declared.fault.FoldFault.{FoldFault}
use Rattle.prov_fold.specs.Sums.{total_by}
use Rattle.prov_fold.specs.Spans.{span_of, truth_span, low_of, high_of, lin_low, lin_high, passes}
use Rattle.prov_fold.specs.Kinds.{is_number, is_term}
use Rattle.prov_fold.specs.Graphs.{Graph, node, range, size, IsLinear, Fits}
use Rattle.prov_fold.specs.Folds.{IsFold}
use Rattle.prov_fold.specs.Rules.{Made, Rule, interned, constant, then_}
use Rattle.prov_fold.proofs.SameLemmas.{All_head, All_tail, All_cons}
use Rattle.prov_fold.proofs.Products.{<ℤ-*ℤ}

-- ---- without terms

add_zero : (c : ℤ) → c +ℤ pos 0 ≡ c
add_zero c = omega (arith, ints)

no_terms : (g : Graph) (c : ℤ) → span_of truth_span (range g) (LinNode c []) ≡ record { lo = c; hi = c }
unfolding lin_low lin_high
no_terms g c = λ i. record { lo = add_zero c i; hi = add_zero c i }

pub constant_fits : (g : Graph) (c : ℤ) → unsigned_abs c ≤ 100000000000000000 → Fits g (record { lo = c; hi = c }) (LinNode c [])
constant_fits g c small = record {
  kids = λ k d lt. absurd (omega arith);
  typed = record { small = small; rising = λ k lt. absurd (omega arith); factors = λ k d lt. absurd (omega arith); kinds = λ k d lt. absurd (omega arith) };
  ranged = sym (no_terms g c);
  order = omega (arith, ints);
  wide = λ no. cc;
  small_lo = small;
  small_hi = small;
}

not_passing : (c : ℤ) (b : Bool) (x y : Made) → nat_lt 100000000000000000 (unsigned_abs c) ≡ b → unsigned_abs c ≤ 100000000000000000 → cond b x y ≡ y
not_passing c true x y e small = let lt : 100000000000000000 < unsigned_abs c = (Decides-ltb 100000000000000000 (unsigned_abs c)).0 e in absurd (omega arith)
not_passing c false x y e small = refl

pub constant_made : (g : Graph) (c : ℤ) → unsigned_abs c ≤ 100000000000000000 → interned (record { lo = c; hi = c }) (LinNode c []) g ≡ constant c g
unfolding constant
constant_made g c small =
    ap (λ (s : Span). interned s (LinNode c []) g) (sym (no_terms g c)) ∙ sym (not_passing c (passes c) _ _ refl small)

-- ---- of one atom

once : ℕ → List Term
once atom = record { factor = pos 1; node = atom } ∷ []

one_times : (x : ℤ) → pos 0 +ℤ (pos 1 *ℤ x +ℤ pos 0) ≡ x
one_times x = omega (arith, ints)

pub one_atom : (g : Graph) (atom : ℕ) → span_of truth_span (range g) (LinNode (pos 0) (record { factor = pos 1; node = atom } ∷ [])) ≡ range g atom
unfolding lin_low lin_high
one_atom g atom = λ i. record { lo = one_times (range g atom).lo i; hi = one_times (range g atom).hi i }

pub once_fits : (g : Graph) (atom : ℕ) (s : Span) → atom < size g → is_term (node g atom) ≡ true → s ≡ range g atom → Fits g s (node g atom) → Fits g s (LinNode (pos 0) (record { factor = pos 1; node = atom } ∷ []))
once_fits g atom s lt term is fits = record {
  kids = All_cons (λ kid. kid < size g) atom [] lt (λ k d none. absurd (omega arith));
  typed = record {
    small = omega arith;
    rising = λ k less. absurd (omega arith);
    factors = All_cons (λ (t : Term). t.factor ≢ pos 0) (record { factor = pos 1; node = atom }) [] (λ e. let no : 1 ≡ 0 = ap unsigned_abs e in absurd (omega arith)) (λ k d none. absurd (omega arith));
    kinds = All_cons (λ (t : Term). is_term (node g t.node) ≡ true) (record { factor = pos 1; node = atom }) [] term (λ k d none. absurd (omega arith));
  };
  ranged = is ∙ sym (one_atom g atom);
  order = fits.order;
  wide = λ no. cc;
  small_lo = fits.small_lo;
  small_hi = fits.small_hi;
}

-- ---- one rule after another

pub then_ok : (m : Made) (next : ℕ → Rule) (id : ℕ) (g : Graph) (m' : Made) → record { gives = Ok id; list = g } ≡ m → m' ≡ next id g → m' ≡ then_ m next
then_ok m next id g m' e e' = e' ∙ ap (λ (m : Made). then_ m next) e

pub then_err : (m : Made) (next : ℕ → Rule) (e : FoldFault) (g : Graph) → record { gives = Err e; list = g } ≡ m → record { gives = Err e; list = g } ≡ then_ m next
then_err m next e g is = ap (λ (m : Made). then_ m next) is

-- ---- of terms: a number of terms has more than one value

pub not_number : (f : Formula) → is_term f ≡ true → is_number f ≡ false
not_number FalseNode e = refl
not_number TrueNode e = refl
not_number (PresNode column) e = refl
not_number (CellNode column) e = refl
not_number (PosNode number) e = refl
not_number (NotNode truth) e = refl
not_number (AndNode kids) e = refl
not_number (OrNode kids) e = refl
not_number (LinNode constant terms) e = cc
not_number (GuardNode truth number) e = refl
not_number (AbsNode number) e = refl
not_number (TotNode number) e = refl
not_number (MinNode pairs) e = refl

times_negative : (n : ℕ) (x : ℤ) → negsuc n *ℤ x ≡ neg_ℤ (x *ℤ pos (suc n))
times_negative n x = omega (arith, ints)

times_positive : (n : ℕ) (x : ℤ) → pos n *ℤ x ≡ x *ℤ pos n
times_positive n x = *ℤ_comm (pos n) x

pub low_less : (factor : ℤ) (s : Span) → factor ≢ pos 0 → s.lo <ℤ s.hi → low_of factor s <ℤ high_of factor s
low_less (pos zero) s some less = absurd (some refl)
low_less (pos (suc n)) s some less =
    let more = <ℤ-*ℤ s.lo s.hi (suc n) (omega arith) less in
    subst (λ (z : ℤ). z <ℤ (pos (suc n) *ℤ s.hi)) (sym (times_positive (suc n) s.lo)) (subst (λ (z : ℤ). (s.lo *ℤ pos (suc n)) <ℤ z) (sym (times_positive (suc n) s.hi)) more)
low_less (negsuc n) s some less =
    let more = <ℤ-*ℤ s.lo s.hi (suc n) (omega arith) less in
    let turned : neg_ℤ (s.hi *ℤ pos (suc n)) <ℤ neg_ℤ (s.lo *ℤ pos (suc n)) = omega (arith, ints, more) in
    subst (λ (z : ℤ). z <ℤ (negsuc n *ℤ s.lo)) (sym (times_negative n s.hi)) (subst (λ (z : ℤ). neg_ℤ (s.hi *ℤ pos (suc n)) <ℤ z) (sym (times_negative n s.lo)) turned)

-- a term with a factor and a node of more than one value
abbrev pub IsWideTerm : (ℕ → Span) → Term → Type 0
IsWideTerm r t = (t.factor ≢ pos 0) × ((r t.node).lo <ℤ (r t.node).hi)

totals_less : (r : ℕ → Span) (terms : List Term) → All (IsWideTerm r) terms → total_by (λ (t : Term). low_of t.factor (r t.node)) terms ≤ℤ total_by (λ (t : Term). high_of t.factor (r t.node)) terms
totals_less r [] h = omega (arith, ints)
totals_less r (t ∷ terms) h =
    let rest = totals_less r terms (All_tail (IsWideTerm r) t terms h) in
    let this = All_head (IsWideTerm r) t terms h in
    let less = low_less t.factor (r t.node) this.0 this.1 in
    omega (arith, ints, rest, less)

pub wide_terms : (g : Graph) (c : ℤ) (terms : List Term) → IsFold g → All (λ kid. kid < size g) (kids_of (LinNode c terms)) → IsLinear g c terms → All (IsWideTerm (range g)) terms
wide_terms g c terms fold kids linear = λ k d lt.
    let below : (get_or terms k d).node < size g = subst (λ n. n < size g) (get_or-map (λ (t : Term). t.node) terms k d) (kids k d.node (omega (arith, length-map terms (λ (t : Term). t.node)))) in
    (linear.factors k d lt, (fold.fits (get_or terms k d).node below).wide (not_number (node g (get_or terms k d).node) (linear.kinds k d lt)))

wide_by : (r : ℕ → Span) (c : ℤ) (terms : List Term) → 0 < length terms → All (IsWideTerm r) terms → lin_low r c terms <ℤ lin_high r c terms
unfolding lin_low lin_high
wide_by r c [] some h = absurd (omega arith)
wide_by r c (t ∷ terms) some h =
    let rest = totals_less r terms (All_tail (IsWideTerm r) t terms h) in
    let this = All_head (IsWideTerm r) t terms h in
    let less = low_less t.factor (r t.node) this.0 this.1 in
    omega (arith, ints, rest, less)

pub number_wide : (g : Graph) (s : Span) (c : ℤ) (terms : List Term) → IsFold g → Fits g s (LinNode c terms) → 0 < length terms → s.lo <ℤ s.hi
number_wide g s c terms fold fits some =
    subst (λ (s : Span). s.lo <ℤ s.hi) (sym fits.ranged) (wide_by (range g) c terms some (wide_terms g c terms fold fits.kids fits.typed))

pub tot_fits : (g : Graph) (s : Span) (number : ℕ) (c : ℤ) (terms : List Term) → IsFold g → number < size g → node g number ≡ LinNode c terms → s ≡ range g number → Fits g s (node g number) → 0 < length terms → Fits g s (TotNode number)
tot_fits g s number c terms fold lt is span fits some = record {
  kids = All_cons (λ kid. kid < size g) number [] lt (λ k d none. absurd (omega arith));
  typed = ap is_number is;
  ranged = span;
  order = fits.order;
  wide = λ _. number_wide g s c terms fold (subst (Fits g s) is fits) some;
  small_lo = fits.small_lo;
  small_hi = fits.small_hi;
}
