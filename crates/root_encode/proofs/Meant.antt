-- What is asked of a truth says that it holds, or that it does not.
use Rattle.std.proofs.Common.{◌≡◌, ◌∙◌, sym, ap, refl, ℕ, zero, suc, ◌<◌, ℤ, pos, negsuc, ◌+ℤ◌, ◌-ℤ◌, ◌*ℤ◌, neg_ℤ, ◌≤ℤ◌, Bool, true, false, not, ◌&&◌, ◌||◌, cond, List, [], ◌∷◌, flat_map, length, get_or, All, arith}
use Rattle.std.specs.Prelude.{int_le}
use Rattle.std.specs.List.{list_all, list_any}
use Rattle.std.specs.Ordering.{int_eq}
use Rattle.std.proofs.lemmas.Int.{ints}
use Rattle.prov_arena.specs.Formulas.{Formula, FalseNode, TrueNode, PresNode, CellNode, PosNode, NotNode, AndNode, OrNode, LinNode, GuardNode, AbsNode, TotNode, MinNode}
use Rattle.prov_fold.specs.Graphs.{Graph, node, size}
use Rattle.prov_fold.specs.Folds.{IsFold}
use Rattle.prov_fold.specs.Kinds.{is_truth, is_plain}
use Rattle.prov_fold.specs.Values.{as_number, holds, number_at, HasNumbers}
use Rattle.prov_fold.specs.Meanings.{values_in}
use Rattle.prov_fold.proofs.SameLemmas.{All_head, All_tail}
use Rattle.bool_encode.specs.Forms.{Form, form}
use Rattle.bool_encode.proofs.FormLemmas.{nodes, Held}
use Rattle.bool_encode.proofs.Bits.{sum_of, plus_total, minus_total, AllSum, AnySum, all_sum, any_sum}
use Rattle.bool_encode.proofs.Gadgets.{hold_left, hold_right, hold_both}
use Rattle.bool_encode.proofs.Telling.{below_at, fits_at, value_at, truth_bits}
use Rattle.root_encode.specs.Roots.{sum_form, pos_form, pres_form, asked_by, asked}

-- both ways
abbrev Both : Type 0 → Type 0 → Type 0
Both P Q = (P → Q) × (Q → P)

pub plain_truth : (m : Formula) → is_plain m ≡ true → is_truth m ≡ true
plain_truth (PresNode column) e = refl
plain_truth (PosNode number) e = refl
plain_truth (AndNode kids) e = refl
plain_truth (OrNode kids) e = refl
plain_truth FalseNode e = refl
plain_truth TrueNode e = refl
plain_truth (NotNode truth) e = refl
plain_truth (CellNode column) e = cc
plain_truth (LinNode c terms) e = cc
plain_truth (GuardNode truth number) e = cc
plain_truth (AbsNode number) e = cc
plain_truth (TotNode number) e = cc
plain_truth (MinNode pairs) e = cc

-- ---- single forms

as_holds : (b : Bool) → int_eq (as_number b) (pos 1) ≡ b
as_holds true = refl
as_holds false = refl

pos_true : (x : ℤ) (b : Bool) → int_le (pos 0) x ≡ b → Both (pos 0 ≤ℤ (pos 0 +ℤ (pos 1 *ℤ x +ℤ pos 0))) (b ≡ true)
pos_true x true e = (λ h. refl, λ k. omega (arith, ints, e))
pos_true x false e = (λ h. absurd (omega (arith, ints, h, e)), λ k. cc)

pos_false : (x : ℤ) (b : Bool) → int_le (pos 0) x ≡ b → Both (pos 0 ≤ℤ (negsuc 0 +ℤ (negsuc 0 *ℤ x +ℤ pos 0))) (b ≡ false)
pos_false x true e = (λ h. absurd (omega (arith, ints, h, e)), λ k. cc)
pos_false x false e = (λ h. refl, λ k. omega (arith, ints, e))

pres_true : (b : Bool) (x : ℤ) → x ≡ as_number b → Both (pos 0 ≤ℤ (negsuc 0 +ℤ (pos 1 *ℤ x +ℤ pos 0))) (b ≡ true)
pres_true true x e = (λ h. refl, λ k. omega (arith, ints, e))
pres_true false x e = (λ h. absurd (omega (arith, ints, h, e)), λ k. cc)

pres_false : (b : Bool) (x : ℤ) → x ≡ as_number b → Both (pos 0 ≤ℤ (pos 0 +ℤ (negsuc 0 *ℤ x +ℤ pos 0))) (b ≡ false)
pres_false true x e = (λ h. absurd (omega (arith, ints, h, e)), λ k. cc)
pres_false false x e = (λ h. refl, λ k. omega (arith, ints, e))

any_true : (b : Bool) (s t : ℤ) → AnySum b s → t ≡ s → Both (pos 0 ≤ℤ (negsuc 0 +ℤ t)) (b ≡ true)
any_true true s t a e = (λ h. refl, λ k. omega (arith, ints, e, a))
any_true false s t a e = (λ h. absurd (omega (arith, ints, h, e, a)), λ k. cc)

all_false : (b : Bool) (s t : ℤ) (l : ℕ) → AllSum b s l → t ≡ neg_ℤ s → Both (pos 0 ≤ℤ ((pos l -ℤ pos 1) +ℤ t)) (b ≡ false)
all_false true s t l a e = (λ h. absurd (omega (arith, ints, h, e, a)), λ k. cc)
all_false false s t l a e = (λ h. refl, λ k. omega (arith, ints, e, a))

-- ---- truths in turn

module _ (v : ℕ → ℤ) (ask : ℕ → List Form) where
  every : (kids : List ℕ) → All (λ k. Both (Held (nodes v) (ask k)) (holds v k ≡ true)) kids → Both (Held (nodes v) (flat_map ask kids)) (list_all (holds v) kids ≡ true)
  every [] h = (λ x. refl, λ x. tt)
  every (k ∷ kids) h =
      let one = All_head (λ k. Both (Held (nodes v) (ask k)) (holds v k ≡ true)) k kids h in
      let rest = every kids (All_tail (λ k. Both (Held (nodes v) (ask k)) (holds v k ≡ true)) k kids h) in (
        λ x. and_both (holds v k) (list_all (holds v) kids) (one.0 (hold_left (nodes v) (ask k) (flat_map ask kids) x)) (rest.0 (hold_right (nodes v) (ask k) (flat_map ask kids) x)),
        λ x. hold_both (nodes v) (ask k) (flat_map ask kids) (one.1 (and_one (holds v k) (list_all (holds v) kids) x)) (rest.1 (and_other (holds v k) (list_all (holds v) kids) x)),
      )
    where
      and_both : (b c : Bool) → b ≡ true → c ≡ true → (b && c) ≡ true
      and_both b c e f = rw (e, f) refl

      and_one : (b c : Bool) → (b && c) ≡ true → b ≡ true
      and_one true c e = refl
      and_one false c e = e

      and_other : (b c : Bool) → (b && c) ≡ true → c ≡ true
      and_other true c e = e
      and_other false c e = cc

  none : (kids : List ℕ) → All (λ k. Both (Held (nodes v) (ask k)) (holds v k ≡ false)) kids → Both (Held (nodes v) (flat_map ask kids)) (list_any (holds v) kids ≡ false)
  none [] h = (λ x. refl, λ x. tt)
  none (k ∷ kids) h =
      let one = All_head (λ k. Both (Held (nodes v) (ask k)) (holds v k ≡ false)) k kids h in
      let rest = none kids (All_tail (λ k. Both (Held (nodes v) (ask k)) (holds v k ≡ false)) k kids h) in (
        λ x. or_both (holds v k) (list_any (holds v) kids) (one.0 (hold_left (nodes v) (ask k) (flat_map ask kids) x)) (rest.0 (hold_right (nodes v) (ask k) (flat_map ask kids) x)),
        λ x. hold_both (nodes v) (ask k) (flat_map ask kids) (one.1 (or_one (holds v k) (list_any (holds v) kids) x)) (rest.1 (or_other (holds v k) (list_any (holds v) kids) x)),
      )
    where
      or_both : (b c : Bool) → b ≡ false → c ≡ false → (b || c) ≡ false
      or_both b c e f = rw (e, f) refl

      or_one : (b c : Bool) → (b || c) ≡ false → b ≡ false
      or_one true c e = e
      or_one false c e = refl

      or_other : (b c : Bool) → (b || c) ≡ false → c ≡ false
      or_other true c e = cc
      or_other false c e = e

-- ---- at each place

module _ (g : Graph) (world : List ℤ) (fold : IsFold g) (has : HasNumbers g world) where
  abbrev v : ℕ → ℤ
  v = values_in g world

  abbrev Is : Bool → ℕ → List Form → Type 0
  Is h z forms = Both (Held (nodes (values_in g world)) forms) (holds (values_in g world) z ≡ h)

  -- by what the value is
  by_value : (h b : Bool) (z : ℕ) (forms : List Form) → values_in g world z ≡ as_number b → Both (Held (nodes (values_in g world)) forms) (b ≡ h) → Is h z forms
  by_value h b z forms e both =
      let same : holds (values_in g world) z ≡ b = ap (λ (x : ℤ). int_eq x (pos 1)) e ∙ as_holds b in
      (λ held. same ∙ both.0 held, λ is. both.1 (sym same ∙ is))

  one_form : (h b : Bool) (x : ℤ) → Both (pos 0 ≤ℤ x) (b ≡ h) → Both ((pos 0 ≤ℤ x) × Unit {0}) (b ≡ h)
  one_form h b x both = (λ held. both.0 held.0, λ is. (both.1 is, tt))

  turned : (b h : Bool) → Both (b ≡ not h) (not b ≡ h)
  turned true true = (λ e. sym e, λ e. sym e)
  turned true false = (λ e. refl, λ e. refl)
  turned false true = (λ e. refl, λ e. refl)
  turned false false = (λ e. sym e, λ e. sym e)

  not_number : (b : Bool) → cond b (pos 0) (pos 1) ≡ as_number (not b)
  not_number true = refl
  not_number false = refl

  module _ (ask : Bool → ℕ → List Form) (z : ℕ) (lt : z < size g) (each : (h : Bool) (k : ℕ) → k < z → is_truth (node g k) ≡ true → Is h k (ask h k)) where
    all_of_kids : (h : Bool) (kids : List ℕ) → All (λ k. k < z) kids → All (λ k. is_truth (node g k) ≡ true) kids → All (λ k. Is h k (ask h k)) kids
    all_of_kids h kids below truths = λ j d less. each h (get_or kids j d) (below j d less) (truths j d less)

    not_kind : (h : Bool) (k : ℕ) → node g z ≡ NotNode k → Is h z (ask (not h) k)
    not_kind h k e =
        let b = holds (values_in g world) k in
        let below = below_at g z world 1 (nodes v) fold lt (omega arith) has (NotNode k) e in
        let typed = (fits_at g z world 1 (nodes v) fold lt (omega arith) has (NotNode k) e).typed in
        let kid = each (not h) k (below 0 0 (omega arith)) (plain_truth (node g k) typed) in
        by_value h (not b) z (ask (not h) k) (value_at g z world 1 (nodes v) fold lt (omega arith) has (NotNode k) e ∙ not_number b)
        (λ held. (turned b h).0 (kid.0 held), λ is. kid.1 ((turned b h).1 is))

    by_kind : (h : Bool) (m : Formula) → node g z ≡ m → is_truth m ≡ true → Is h z (asked_by ask h z m)
    by_kind true FalseNode e t = by_value true false z (form (negsuc 0) [] ∷ []) (value_at g z world 1 (nodes v) fold lt (omega arith) has FalseNode e) (λ held. absurd (omega (arith, ints, held.0)), λ is. cc)
    by_kind false FalseNode e t = by_value false false z [] (value_at g z world 1 (nodes v) fold lt (omega arith) has FalseNode e) (λ held. refl, λ is. tt)
    by_kind true TrueNode e t = by_value true true z [] (value_at g z world 1 (nodes v) fold lt (omega arith) has TrueNode e) (λ held. refl, λ is. tt)
    by_kind false TrueNode e t = by_value false true z (form (negsuc 0) [] ∷ []) (value_at g z world 1 (nodes v) fold lt (omega arith) has TrueNode e) (λ held. absurd (omega (arith, ints, held.0)), λ is. cc)
    by_kind true (PresNode column) e t =
        let b = int_eq (number_at world column) (pos 1) in
        let is = value_at g z world 1 (nodes v) fold lt (omega arith) has (PresNode column) e in
        by_value true b z (pres_form true z ∷ []) is (one_form true b _ (pres_true b (values_in g world z) is))
    by_kind false (PresNode column) e t =
        let b = int_eq (number_at world column) (pos 1) in
        let is = value_at g z world 1 (nodes v) fold lt (omega arith) has (PresNode column) e in
        by_value false b z (pres_form false z ∷ []) is (one_form false b _ (pres_false b (values_in g world z) is))
    by_kind true (PosNode n) e t =
        let b = int_le (pos 0) (values_in g world n) in
        by_value true b z (pos_form true n ∷ []) (value_at g z world 1 (nodes v) fold lt (omega arith) has (PosNode n) e) (one_form true b _ (pos_true (values_in g world n) b refl))
    by_kind false (PosNode n) e t =
        let b = int_le (pos 0) (values_in g world n) in
        by_value false b z (pos_form false n ∷ []) (value_at g z world 1 (nodes v) fold lt (omega arith) has (PosNode n) e) (one_form false b _ (pos_false (values_in g world n) b refl))
    by_kind true (NotNode k) e t = not_kind true k e
    by_kind false (NotNode k) e t = not_kind false k e
    by_kind true (AndNode kids) e t =
        let below = below_at g z world 1 (nodes v) fold lt (omega arith) has (AndNode kids) e in
        let typed = (fits_at g z world 1 (nodes v) fold lt (omega arith) has (AndNode kids) e).typed in
        by_value true (list_all (holds v) kids) z (flat_map (ask true) kids) (value_at g z world 1 (nodes v) fold lt (omega arith) has (AndNode kids) e) (every v (ask true) kids (all_of_kids true kids below typed))
    by_kind false (AndNode kids) e t =
        let below = below_at g z world 1 (nodes v) fold lt (omega arith) has (AndNode kids) e in
        let typed = (fits_at g z world 1 (nodes v) fold lt (omega arith) has (AndNode kids) e).typed in
        let bits = truth_bits g z world 1 (nodes v) fold lt (omega arith) has v kids below typed (λ j d less. refl) in
        by_value false (list_all (holds v) kids) z (sum_form (pos (length kids) -ℤ pos 1) (negsuc 0) kids ∷ []) (value_at g z world 1 (nodes v) fold lt (omega arith) has (AndNode kids) e)
        (one_form false (list_all (holds v) kids) _ (all_false (list_all (holds v) kids) (sum_of v kids) _ (length kids) (all_sum v kids bits) (minus_total v kids)))
    by_kind true (OrNode kids) e t =
        let below = below_at g z world 1 (nodes v) fold lt (omega arith) has (OrNode kids) e in
        let typed = (fits_at g z world 1 (nodes v) fold lt (omega arith) has (OrNode kids) e).typed in
        let bits = truth_bits g z world 1 (nodes v) fold lt (omega arith) has v kids below typed (λ j d less. refl) in
        by_value true (list_any (holds v) kids) z (sum_form (negsuc 0) (pos 1) kids ∷ []) (value_at g z world 1 (nodes v) fold lt (omega arith) has (OrNode kids) e)
        (one_form true (list_any (holds v) kids) _ (any_true (list_any (holds v) kids) (sum_of v kids) _ (any_sum v kids bits) (plus_total v kids)))
    by_kind false (OrNode kids) e t =
        let below = below_at g z world 1 (nodes v) fold lt (omega arith) has (OrNode kids) e in
        let typed = (fits_at g z world 1 (nodes v) fold lt (omega arith) has (OrNode kids) e).typed in
        by_value false (list_any (holds v) kids) z (flat_map (ask false) kids) (value_at g z world 1 (nodes v) fold lt (omega arith) has (OrNode kids) e) (none v (ask false) kids (all_of_kids false kids below typed))
    by_kind h (CellNode column) e t = cc
    by_kind h (LinNode c terms) e t = cc
    by_kind h (GuardNode truth number) e t = cc
    by_kind h (AbsNode number) e t = cc
    by_kind h (TotNode number) e t = cc
    by_kind h (MinNode pairs) e t = cc

  -- what is asked in more steps than the place holds at whole numbers exactly where the truth is as asked
  pub meant : (n : ℕ) (h : Bool) (z : ℕ) → z < n → z < size g → is_truth (node g z) ≡ true → Is h z (asked g n h z)
  unfolding asked
  meant zero h z less lt t = absurd (omega (arith, less))
  meant (suc n) h z less lt t = by_kind (asked g n) z lt (λ h k below truth. meant n h k (omega (arith, less, below)) (omega (arith, below, lt)) truth) h (node g z) refl t
