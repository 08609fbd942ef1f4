-- What the rules mean of numbers, and of truths about one number or one truth.
use Rattle.std.proofs.Common.{◌≡◌, ◌∙◌, sym, ap, subst, ℕ, zero, suc, ◌<◌, ℤ, pos, negsuc, ◌+ℤ◌, ◌*ℤ◌, neg_ℤ, ◌≤ℤ◌, ◌<ℤ◌, int_lt, int_le, Bool, true, false, cond, not, List, [], ◌∷◌, length, get_or, All, Result, Ok, Err, refl, arith}
use Rattle.std.specs.Prelude.{IfOk}
use Rattle.std.specs.Ordering.{int_eq}
use Rattle.std.proofs.lemmas.Int.{ints}
use Rattle.std.proofs.lemmas.Bool.Decides.{Decides-int_eq}
use Rattle.std.proofs.lemmas.List.Elements.{All-nil}
use Rattle.prov_arena.specs.declared.part.Term.{Term}
use Rattle.prov_arena.specs.Formulas.{Formula, FalseNode, TrueNode, PresNode, CellNode, PosNode, NotNode, LinNode, GuardNode, AbsNode, TotNode, kids_of}
use Rattle.prov_fold.specs.declared.span.Span.{Span}
use Rattle.prov_fold.specs.declared.span.Scaled.{Scaled}
use Rattle.prov_fold.specs.declared.fault.FoldFault.{FoldFault}
use Rattle.prov_fold.specs.declared.fault.FoldFault.TheVariants as fault
use Rattle.prov_fold.specs.Sums.{total_by}
use Rattle.prov_fold.specs.Kinds.{is_plain}
use Rattle.prov_fold.specs.Spans.{span_of, truth_span, passes, lin_low, lin_high}
use Rattle.prov_fold.specs.Graphs.{Graph, node, range, size, IsTyped, HasTruth}
use Rattle.prov_fold.specs.Folds.{IsFold}
use Rattle.prov_fold.specs.Values.{number_at, as_number, holds, value_of, HasColumn, IsThere}
use Rattle.prov_fold.specs.Meanings.{values_in, IsLater, Means}
use Rattle.prov_fold.specs.Rules.{Made, given, refused, then_by, spread, constant_of, joined, node_of, number_of, constant, pres, cell, pos_of, not_by, not_of, judged, sum, guard_constant, guard_number, guard_by, guard, abs, tot_by, tot}
use Rattle.prov_fold.proofs.SameLemmas.{All_cons}
use Rattle.prov_fold.proofs.TotalLemmas.{spread_total, part_value, spread_below}
use Rattle.prov_fold.proofs.PlaceLemmas.{means_by, told_by, value_kept, value_zero, value_one, bit_kept, plain_truth}
use Rattle.prov_fold.proofs.InsideLemmas.{inside_kept}
use Rattle.prov_fold.proofs.StandLemmas.{by_if, StoodBy, interned_stood}
use Rattle.prov_fold.proofs.MeantLemmas.{Meant, MeantBy, given_meant, meant_so, meant_from, IsWorth, node_meant, number_meant}

-- ---- constants, and columns of the world

plus_zero : (c : ℤ) → c +ℤ pos 0 ≡ c
plus_zero c = omega (arith, ints)

pub constant_means : (c : ℤ) (g : Graph) → length g.ranges ≡ size g → Meant g (IsWorth (λ world v. c)) (constant c g)
unfolding constant
constant_means c g count = by_if (Meant g (IsWorth (λ world v. c))) (passes c) (refused (fault.Wide c) g) (node_of (LinNode c []) g) (λ _. tt) (λ _. node_meant (LinNode c []) g (λ world v. c) count (λ h world later. plus_zero c))

bit_is : (n : ℤ) → pos 0 ≤ℤ n → n ≤ℤ pos 1 → as_number (int_eq n (pos 1)) ≡ n
bit_is (pos zero) low high = refl
bit_is (pos (suc zero)) low high = refl
bit_is (pos (suc (suc n))) low high = absurd (omega (arith, ints, high))
bit_is (negsuc n) low high = absurd (omega (arith, ints, low))

-- a column that is present or not has the number 1 or 0
column_bit : (h : Graph) (world : List ℤ) (id column : ℕ) → IsFold h → id < size h → node h id ≡ PresNode column → HasColumn world (range h id) (node h id) → as_number (int_eq (number_at world column) (pos 1)) ≡ number_at world column
column_bit h world id column fold lt is has =
    let there : IsThere world column (range h id) = subst (HasColumn world (range h id)) is has in
    let span : range h id ≡ truth_span = (fold.fits id lt).ranged ∙ ap (span_of (range h id) (range h)) is in
    let bit : IsThere world column truth_span = subst (IsThere world column) span there in
    bit_is (number_at world column) bit.low bit.high

pres_by : (column : ℕ) (g : Graph) (r : Result ℕ FoldFault) (g' : Graph) → StoodBy g (PresNode column) r g' → MeantBy g (IsWorth (λ world v. number_at world column)) r g'
pres_by column g (Ok id) g' stands = (
  stands.keeps,
  means_by g' (IsWorth (λ world v. number_at world column) id) (λ h world later.
      let lt : id < size h = (let b = stands.below in let n = later.keeps.longer in omega (arith, b, n)) in
      value_kept g' h world later id stands.below ∙ ap (value_of world (values_in h world)) stands.is ∙ column_bit h world id column later.fold lt (later.keeps.nodes id stands.below ∙ stands.is) (later.has.columns id lt)),
)
pres_by column g (Err e) g' stands = tt

pub pres_means : (column : ℕ) (g : Graph) → IsFold g → Meant g (IsWorth (λ world v. number_at world column)) (pres column g)
unfolding pres
pres_means column g fold =
    pres_by column g (node_of (PresNode column) g).gives (node_of (PresNode column) g).list (interned_stood (span_of truth_span (range g) (PresNode column)) (PresNode column) g fold.count)

-- where the column's number lies in the range
abbrev pub IsCell : ℕ → Span → ℕ → List ℤ → (ℕ → ℤ) → Type 0
IsCell column s id world v = IsThere world column s → v id ≡ number_at world column

between : (lo hi n : ℤ) → lo ≡ hi → lo ≤ℤ n → n ≤ℤ hi → lo ≡ n
between lo hi n e a b = omega (arith, ints, e, a, b)

-- the constant of a range of one number
pub cell_fixed : (column : ℕ) (s : Span) (g' : Graph) (r : Result ℕ FoldFault) → s.lo ≡ s.hi → IfOk r (λ id. Means g' (IsWorth (λ world v. s.lo) id)) → IfOk r (λ id. Means g' (IsCell column s id))
cell_fixed column s g' (Ok id) same means =
    means_by g' (IsCell column s id) (λ h world later there. told_by g' (IsWorth (λ world v. s.lo) id) means h world later ∙ between s.lo s.hi (number_at world column) same there.low there.high)
cell_fixed column s g' (Err e) same means = tt

pub cell_means : (column : ℕ) (s : Span) (g : Graph) → IsFold g → Meant g (IsCell column s) (cell column s g)
unfolding cell
cell_means column s g fold =
    by_if (Meant g (IsCell column s)) (int_eq s.lo s.hi) (constant s.lo g) (number_of s (CellNode column) g)
    (λ e. meant_so g (IsWorth (λ world v. s.lo)) (IsCell column s) (constant s.lo g)
    (λ id h world later is there. is ∙ between s.lo s.hi (number_at world column) ((Decides-int_eq s.lo s.hi).0 e) there.low there.high) (constant_means s.lo g fold.count))
    (λ e. meant_so g (IsWorth (λ world v. number_at world column)) (IsCell column s) (number_of s (CellNode column) g)
    (λ id h world later is there. is) (number_meant s (CellNode column) g (λ world v. number_at world column) fold.count (λ h world later. refl)))

-- ---- sums

-- a constant plus terms
abbrev LinOf : ℤ → List Term → List ℤ → (ℕ → ℤ) → ℤ
LinOf c terms world v = c +ℤ total_by (λ (t : Term). t.factor *ℤ v t.node) terms

judged_means : (c : ℤ) (terms : List Term) (g : Graph) → IsFold g → Meant g (IsWorth (LinOf c terms)) (judged c terms g)
unfolding judged
judged_means c terms g fold =
    by_if Here (passes c) _ _ (λ _. tt)
    (λ _. by_if Here (passes (lin_low (range g) c terms)) _ _ (λ _. tt) (λ _. by_if Here (passes (lin_high (range g) c terms)) _ _ (λ _. tt) (λ _. node_meant (LinNode c terms) g (LinOf c terms) fold.count (λ h world later. refl))))
  where
    Here : Made → Type 0
    Here = Meant g (IsWorth (LinOf c terms))

-- a constant plus each part's factor times the part
abbrev pub SumOf : ℤ → List Scaled → List ℤ → (ℕ → ℤ) → ℤ
SumOf c parts world v = c +ℤ total_by (λ (p : Scaled). p.factor *ℤ v p.number) parts

pub sum_means : (c : ℤ) (parts : List Scaled) (g : Graph) → IsFold g → All (λ (p : Scaled). p.number < size g) parts → Meant g (IsWorth (SumOf c parts)) (sum c parts g)
unfolding sum
sum_means c parts g fold below =
    meant_so g (IsWorth (LinOf (constant_of g c parts) (joined (size g) (spread g parts)))) (IsWorth (SumOf c parts)) (judged (constant_of g c parts) (joined (size g) (spread g parts)) g)
    (λ id h world later is.
    is ∙ spread_total (values_in h world) g c parts
    (λ j d lt. let p = get_or parts j d in part_value (values_in h world) world p.number (node g p.number) (value_kept g h world later p.number (below j d lt)))
    (spread_below g fold parts below))
    (judged_means (constant_of g c parts) (joined (size g) (spread g parts)) g fold)

-- the sum of one part
one_below : (g : Graph) (p : Scaled) → p.number < size g → All (λ (p : Scaled). p.number < size g) (p ∷ [])
one_below g p lt = All_cons (λ (p : Scaled). p.number < size g) p [] lt (All-nil (λ (p : Scaled). p.number < size g))

-- ---- not

not_bool : (b : Bool) → int_eq (cond b (pos 0) (pos 1)) (pos 1) ≡ not b
not_bool true = refl
not_bool false = refl

not_twice : (b : Bool) → b ≡ not (not b)
not_twice true = refl
not_twice false = refl

abbrev pub NotOf : ℕ → ℕ → List ℤ → (ℕ → ℤ) → Type 0
NotOf t id world v = holds v id ≡ not (holds v t)

module _ (t : ℕ) (g : Graph) (fold : IsFold g) (t_lt : t < size g) where
  -- whether the truth holds, by its formula
  truth_is : (m : Formula) → node g t ≡ m → (h : Graph) (world : List ℤ) → IsLater g h world → holds (values_in h world) t ≡ int_eq (value_of world (values_in h world) m) (pos 1)
  truth_is m e h world later = ap (λ (x : ℤ). int_eq x (pos 1)) (value_kept g h world later t t_lt ∙ ap (value_of world (values_in h world)) e)

  not_new : Meant g (NotOf t) (node_of (NotNode t) g)
  not_new =
      meant_so g (IsWorth (λ world v. cond (holds v t) (pos 0) (pos 1))) (NotOf t) (node_of (NotNode t) g)
      (λ id h world later is. ap (λ (x : ℤ). int_eq x (pos 1)) is ∙ not_bool (holds (values_in h world) t)) (node_meant (NotNode t) g (λ world v. cond (holds v t) (pos 0) (pos 1)) fold.count (λ h world later. refl))

  not_by_means : (m : Formula) → node g t ≡ m → Meant g (NotOf t) (not_by t m g)
  not_by_means FalseNode e = given_meant g (NotOf t) 1 (λ h world later. ap (λ (x : ℤ). int_eq x (pos 1)) (value_one h world later.fold) ∙ ap not (sym (truth_is FalseNode e h world later)))
  not_by_means TrueNode e = given_meant g (NotOf t) 0 (λ h world later. ap (λ (x : ℤ). int_eq x (pos 1)) (value_zero h world later.fold) ∙ ap not (sym (truth_is TrueNode e h world later)))
  not_by_means (NotNode kid) e =
      given_meant g (NotOf t) kid (λ h world later. not_twice (holds (values_in h world) kid) ∙ ap not (sym (not_bool (holds (values_in h world) kid)) ∙ sym (truth_is (NotNode kid) e h world later)))
  not_by_means _ e = not_new

  pub not_means : Meant g (NotOf t) (not_of t g)
  unfolding not_of
  not_means = not_by_means (node g t) refl

-- ---- tot

module _ (n : ℕ) (g : Graph) (fold : IsFold g) where
  tot_new : Meant g (IsWorth (λ world v. v n)) (number_of (range g n) (TotNode n) g)
  tot_new = number_meant (range g n) (TotNode n) g (λ world v. v n) fold.count (λ h world later. refl)

  tot_same : Meant g (IsWorth (λ world v. v n)) (given n g)
  tot_same = given_meant g (IsWorth (λ world v. v n)) n (λ h world later. refl)

  tot_lin : (c : ℤ) (terms : List Term) → Meant g (IsWorth (λ world v. v n)) (tot_by n (LinNode c terms) g)
  tot_lin c [] = tot_same
  tot_lin c (t ∷ []) = tot_same
  tot_lin c (t ∷ u ∷ more) = tot_new

  tot_by_means : (m : Formula) → Meant g (IsWorth (λ world v. v n)) (tot_by n m g)
  tot_by_means (LinNode c terms) = tot_lin c terms
  tot_by_means _ = tot_new

  pub tot_means : Meant g (IsWorth (λ world v. v n)) (tot n g)
  unfolding tot
  tot_means = tot_by_means (node g n)

-- ---- guard

abbrev pub GuardOf : ℕ → ℕ → List ℤ → (ℕ → ℤ) → ℤ
GuardOf t n world v = cond (holds v t) (v n) (pos 0)

-- c less c times a kid is the guard of c by its not
less_kid : (c : ℤ) (b : Bool) → c +ℤ (neg_ℤ c *ℤ as_number b +ℤ pos 0) ≡ cond (not b) c (pos 0)
less_kid c true = omega (arith, ints)
less_kid c false = omega (arith, ints)

times_truth : (c : ℤ) (b : Bool) → pos 0 +ℤ (c *ℤ as_number b +ℤ pos 0) ≡ cond b c (pos 0)
times_truth c true = omega (arith, ints)
times_truth c false = omega (arith, ints)

module _ (t n : ℕ) (g : Graph) (fold : IsFold g) (truth : HasTruth g t) (n_lt : n < size g) where
  number_is : (c : ℤ) → node g n ≡ LinNode c [] → (h : Graph) (world : List ℤ) → IsLater g h world → values_in h world n ≡ c
  number_is c e h world later = value_kept g h world later n n_lt ∙ ap (value_of world (values_in h world)) e ∙ plus_zero c

  -- a truth times a constant
  guard_times : (c : ℤ) → node g n ≡ LinNode c [] → Meant g (IsWorth (GuardOf t n)) (sum (pos 0) (record { factor = c; number = t } ∷ []) g)
  guard_times c e =
      meant_so g (IsWorth (SumOf (pos 0) (record { factor = c; number = t } ∷ []))) (IsWorth (GuardOf t n)) (sum (pos 0) (record { factor = c; number = t } ∷ []) g)
      (λ id h world later is.
      is ∙ ap (λ (x : ℤ). pos 0 +ℤ (c *ℤ x +ℤ pos 0)) (bit_kept g h world later t truth.below truth.kind) ∙ times_truth c (holds (values_in h world) t)
      ∙ ap (λ (x : ℤ). cond (holds (values_in h world) t) x (pos 0)) (sym (number_is c e h world later)))
      (sum_means (pos 0) (record { factor = c; number = t } ∷ []) g fold (one_below g (record { factor = c; number = t }) truth.below))

  -- the constant less the kid of a Not times it
  guard_less : (c : ℤ) → node g n ≡ LinNode c [] → (kid : ℕ) → node g t ≡ NotNode kid → Meant g (IsWorth (GuardOf t n)) (sum c (record { factor = neg_ℤ c; number = kid } ∷ []) g)
  guard_less c e kid k =
      let fits = fold.fits t truth.below in
      let kid_lt : kid < size g = (subst (λ m. All (λ k. k < size g) (kids_of m)) k fits.kids) 0 0 (omega arith) in
      let plain : is_plain (node g kid) ≡ true = subst (IsTyped g) k fits.typed in
      meant_so g (IsWorth (SumOf c (record { factor = neg_ℤ c; number = kid } ∷ []))) (IsWorth (GuardOf t n)) (sum c (record { factor = neg_ℤ c; number = kid } ∷ []) g)
      (λ id h world later is.
      let v = values_in h world in
      is ∙ ap (λ (x : ℤ). c +ℤ (neg_ℤ c *ℤ x +ℤ pos 0)) (bit_kept g h world later kid kid_lt (plain_truth (node g kid) plain)) ∙ less_kid c (holds v kid)
      ∙ ap (λ b. cond b c (pos 0)) (sym (not_bool (holds v kid)) ∙ sym (truth_is t g fold truth.below (NotNode kid) k h world later)) ∙ ap (λ (x : ℤ). cond (holds v t) x (pos 0)) (sym (number_is c e h world later)))
      (sum_means c (record { factor = neg_ℤ c; number = kid } ∷ []) g fold (one_below g (record { factor = neg_ℤ c; number = kid }) kid_lt))

  guard_const : (c : ℤ) → node g n ≡ LinNode c [] → (m : Formula) → node g t ≡ m → Meant g (IsWorth (GuardOf t n)) (guard_constant t m c g)
  guard_const c e (NotNode kid) k = guard_less c e kid k
  guard_const c e _ k = guard_times c e

  guard_new : Meant g (IsWorth (GuardOf t n)) (number_of (span_of truth_span (range g) (GuardNode t n)) (GuardNode t n) g)
  guard_new = number_meant (span_of truth_span (range g) (GuardNode t n)) (GuardNode t n) g (GuardOf t n) fold.count (λ h world later. refl)

  guard_lin : (c : ℤ) (terms : List Term) → node g n ≡ LinNode c terms → Meant g (IsWorth (GuardOf t n)) (guard_number t n (LinNode c terms) g)
  guard_lin c [] e = guard_const c e (node g t) refl
  guard_lin c (u ∷ more) e = guard_new

  guard_num : (m : Formula) → node g n ≡ m → Meant g (IsWorth (GuardOf t n)) (guard_number t n m g)
  guard_num (LinNode c terms) e = guard_lin c terms e
  guard_num _ e = guard_new

  guard_by_means : (m : Formula) → node g t ≡ m → Meant g (IsWorth (GuardOf t n)) (guard_by t n m g)
  guard_by_means FalseNode e =
      meant_so g (IsWorth (λ world v. pos 0)) (IsWorth (GuardOf t n)) (constant (pos 0) g)
      (λ id h world later is. is ∙ sym (ap (λ b. cond b (values_in h world n) (pos 0)) (truth_is t g fold truth.below FalseNode e h world later))) (constant_means (pos 0) g fold.count)
  guard_by_means TrueNode e = given_meant g (IsWorth (GuardOf t n)) n (λ h world later. sym (ap (λ b. cond b (values_in h world n) (pos 0)) (truth_is t g fold truth.below TrueNode e h world later)))
  guard_by_means _ e = guard_num (node g n) refl

  pub guard_means : Meant g (IsWorth (GuardOf t n)) (guard t n g)
  unfolding guard
  guard_means = guard_by_means (node g t) refl

-- ---- where the range decides

at_least : (a b : ℤ) → int_le a b ≡ true → a ≤ℤ b
at_least a b e = omega (arith, ints, e)

less_than : (a b : ℤ) → int_lt a b ≡ true → a <ℤ b
less_than a b e = omega (arith, ints, e)

is_pos : (a : ℤ) → pos 0 ≤ℤ a → int_le (pos 0) a ≡ true
is_pos a le = by_test (int_le (pos 0) a) refl
  where
    by_test : (b : Bool) → int_le (pos 0) a ≡ b → b ≡ true
    by_test true e = refl
    by_test false e = absurd (omega (arith, ints, e, le))

is_not_pos : (a : ℤ) → a <ℤ pos 0 → int_le (pos 0) a ≡ false
is_not_pos a lt = by_test (int_le (pos 0) a) refl
  where
    by_test : (b : Bool) → int_le (pos 0) a ≡ b → b ≡ false
    by_test true e = absurd (omega (arith, ints, e, lt))
    by_test false e = refl

abbrev pub PosOf : ℕ → List ℤ → (ℕ → ℤ) → ℤ
PosOf n world v = as_number (int_le (pos 0) (v n))

pub pos_means : (n : ℕ) (g : Graph) → IsFold g → n < size g → Meant g (IsWorth (PosOf n)) (pos_of n g)
unfolding pos_of
pos_means n g fold lt =
    by_if (Meant g (IsWorth (PosOf n))) (int_le (pos 0) (range g n).lo) (given 1 g) _
    (λ e. given_meant g (IsWorth (PosOf n)) 1 (λ h world later.
    let a = at_least (pos 0) (range g n).lo e in
    let b = (inside_kept g h world later n lt).low in
    value_one h world later.fold ∙ sym (ap as_number (is_pos (values_in h world n) (omega (arith, ints, a, b))))))
    (λ _. by_if (Meant g (IsWorth (PosOf n))) (int_lt (range g n).hi (pos 0)) (given 0 g) (node_of (PosNode n) g)
    (λ e. given_meant g (IsWorth (PosOf n)) 0 (λ h world later.
    let a = less_than (range g n).hi (pos 0) e in
    let b = (inside_kept g h world later n lt).high in
    value_zero h world later.fold ∙ sym (ap as_number (is_not_pos (values_in h world n) (omega (arith, ints, a, b))))))
    (λ _. node_meant (PosNode n) g (PosOf n) fold.count (λ h world later. refl)))

-- ---- abs

abbrev pub AbsOf : ℕ → List ℤ → (ℕ → ℤ) → ℤ
AbsOf n world v = cond (int_lt (v n) (pos 0)) (neg_ℤ (v n)) (v n)

abs_above : (a : ℤ) → pos 0 ≤ℤ a → a ≡ cond (int_lt a (pos 0)) (neg_ℤ a) a
abs_above a le = by_test (int_lt a (pos 0)) refl
  where
    by_test : (b : Bool) → int_lt a (pos 0) ≡ b → a ≡ cond b (neg_ℤ a) a
    by_test true e = absurd (omega (arith, ints, e, le))
    by_test false e = refl

abs_below : (a : ℤ) → a ≤ℤ pos 0 → pos 0 +ℤ (neg_ℤ (pos 1) *ℤ a +ℤ pos 0) ≡ cond (int_lt a (pos 0)) (neg_ℤ a) a
abs_below a le = by_test (int_lt a (pos 0)) refl
  where
    by_test : (b : Bool) → int_lt a (pos 0) ≡ b → pos 0 +ℤ (neg_ℤ (pos 1) *ℤ a +ℤ pos 0) ≡ cond b (neg_ℤ a) a
    by_test true e = omega (arith, ints)
    by_test false e = omega (arith, ints, e, le)

module _ (n : ℕ) (g : Graph) (fold : IsFold g) (lt : n < size g) where
  abs_new : (r : Result ℕ FoldFault) (g' : Graph) → StoodBy g (PosNode n) r g' → Meant g (IsWorth (AbsOf n)) (then_by r g' (λ _ g. number_of (span_of truth_span (range g) (AbsNode n)) (AbsNode n) g))
  abs_new (Ok id) g' stands =
      meant_from g g' (IsWorth (AbsOf n)) (number_of (span_of truth_span (range g') (AbsNode n)) (AbsNode n) g') stands.keeps
      (number_meant (span_of truth_span (range g') (AbsNode n)) (AbsNode n) g' (AbsOf n) stands.count (λ h world later. refl))
  abs_new (Err e) g' stands = tt

  pub abs_means : Meant g (IsWorth (AbsOf n)) (abs n g)
  unfolding abs
  abs_means =
      by_if (Meant g (IsWorth (AbsOf n))) (int_le (pos 0) (range g n).lo) (given n g) _
      (λ e. given_meant g (IsWorth (AbsOf n)) n (λ h world later.
      let a = at_least (pos 0) (range g n).lo e in
      let b = (inside_kept g h world later n lt).low in
      abs_above (values_in h world n) (omega (arith, ints, a, b))))
      (λ _. by_if (Meant g (IsWorth (AbsOf n))) (int_le (range g n).hi (pos 0)) (sum (pos 0) (record { factor = neg_ℤ (pos 1); number = n } ∷ []) g) _
      (λ e. meant_so g (IsWorth (SumOf (pos 0) (record { factor = neg_ℤ (pos 1); number = n } ∷ []))) (IsWorth (AbsOf n)) (sum (pos 0) (record { factor = neg_ℤ (pos 1); number = n } ∷ []) g)
      (λ id h world later is.
      let a = at_least (range g n).hi (pos 0) e in
      let b = (inside_kept g h world later n lt).high in
      is ∙ abs_below (values_in h world n) (omega (arith, ints, a, b)))
      (sum_means (pos 0) (record { factor = neg_ℤ (pos 1); number = n } ∷ []) g fold (one_below g (record { factor = neg_ℤ (pos 1); number = n }) lt)))
      (λ _. abs_new (node_of (PosNode n) g).gives (node_of (PosNode n) g).list (interned_stood (span_of truth_span (range g) (PosNode n)) (PosNode n) g fold.count)))
