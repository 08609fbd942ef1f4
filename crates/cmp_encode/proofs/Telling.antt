-- The rows of Pos, Guard, Abs and Tot tell their values.
use Rattle.std.proofs.Common.{◌≡◌, ◌∙◌, sym, ap, subst, refl, ℕ, ◌<◌, ℤ, pos, ◌*ℤ◌, ◌≤ℤ◌, Bool, true, false, cond, List, [], ◌∷◌, All, arith}
use Rattle.std.specs.Ordering.{int_eq}
use Rattle.std.proofs.lemmas.Int.{ints}
use Rattle.ip_rows.specs.declared.rows.IpRow.{IpRow}
use Rattle.prov_arena.specs.Formulas.{Formula, FalseNode, TrueNode, PresNode, CellNode, PosNode, NotNode, AndNode, OrNode, LinNode, GuardNode, AbsNode, TotNode, MinNode}
use Rattle.prov_fold.specs.Graphs.{Graph, node, size, range}
use Rattle.prov_fold.specs.Folds.{IsFold}
use Rattle.prov_fold.specs.Values.{as_number, HasNumbers}
use Rattle.prov_fold.specs.Meanings.{values_in}
use Rattle.prov_fold.proofs.ValueLemmas.{IsIn}
use Rattle.prov_fold.proofs.InsideLemmas.{inside_is}
use Rattle.bool_encode.specs.declared.form.Key.{Key}
use Rattle.bool_encode.specs.declared.form.Key.TheVariants as key
use Rattle.bool_encode.specs.declared.stand.Stand.{Stand}
use Rattle.bool_encode.specs.Forms.{Form, Hold}
use Rattle.bool_encode.specs.Columns.{reading}
use Rattle.bool_encode.specs.Rows.{AreRows}
use Rattle.bool_encode.specs.Tellings.{IsBit, Tells, is_switch}
use Rattle.bool_encode.proofs.Numbers.{zero_d}
use Rattle.bool_encode.proofs.FormLemmas.{nodes, Is, up}
use Rattle.bool_encode.proofs.RowLemmas.{rows_hold, hold_rows}
use Rattle.bool_encode.proofs.Telling.{below_at, fits_at, value_at, truth_bit, switch_told}
use Rattle.cmp_encode.specs.Tables.{pos_forms, guard_forms, abs_forms, tot_forms, forms_of, is_compared, named_by, aid_of}
use Rattle.cmp_encode.proofs.Gadgets.{pos_back, pos_ahead, guard_over, guard_ahead, tot_over, tot_ahead}
use Rattle.cmp_encode.proofs.Sizes.{abs_over, abs_ahead}
use Rattle.cmp_encode.proofs.Named.{names_pos, names_guard, names_abs, names_tot}
use Rattle.cmp_encode.proofs.Aids.{aid_is}

cond_d : (b : Bool) (x : ℤ) (d : ℕ) → cond b (x *ℤ pos d) (pos 0) ≡ cond b x (pos 0) *ℤ pos d
cond_d true x d = refl
cond_d false x d = sym (zero_d d)

bit_low : (n : ℤ) → n ≡ as_number (int_eq n (pos 1)) → pos 0 ≤ℤ n
bit_low n e = by_test (int_eq n (pos 1)) e
  where
    by_test : (b : Bool) → n ≡ as_number b → pos 0 ≤ℤ n
    by_test true e = omega (arith, ints, e)
    by_test false e = omega (arith, ints, e)

bit_high : (n : ℤ) → n ≡ as_number (int_eq n (pos 1)) → n ≤ℤ pos 1
bit_high n e = by_test (int_eq n (pos 1)) e
  where
    by_test : (b : Bool) → n ≡ as_number b → n ≤ℤ pos 1
    by_test true e = omega (arith, ints, e)
    by_test false e = omega (arith, ints, e)

module _ (g : Graph) (z : ℕ) (world : List ℤ) (d : ℕ) (f : Key → ℤ) (fold : IsFold g) (lt : z < size g) (some : 0 < d) (has : HasNumbers g world) where
  abbrev V : ℕ → ℤ
  V = values_in g world

  abbrev Right : ℕ → Type 0
  Right k = f (key.Node k) ≡ values_in g world k *ℤ pos d

  abbrev Told : List Form → Type 0
  Told forms = (Hold d f forms → Right z) × (Right z → Hold d f forms)

  kid_in : (k : ℕ) → k < z → IsIn (range g k) (values_in g world k)
  kid_in k less = inside_is g world fold has k (omega (arith, less, lt))

  pos_told : (n : ℕ) → node g z ≡ PosNode n → All Right (n ∷ []) → IsBit d (f (key.Node z)) → Told (pos_forms (range g n) n z)
  pos_told n e right bit =
      let less = below_at g z world d f fold lt some has (PosNode n) e 0 0 (omega arith) in
      let i = kid_in n less in
      switch_told g z world d f fold lt some has (PosNode n) e (pos_forms (range g n) n z) (λ v over self. names_pos (Is d f (nodes v)) (range g n) n z (over 0 0 (omega arith)) self)
      (λ v same low high h. pos_back v (range g n) n z low high h)
      (λ v same is. pos_ahead v (range g n) n z (subst (λ (x : ℤ). (range g n).lo ≤ℤ x) (sym (same 0 0 (omega arith))) i.low) (subst (λ (x : ℤ). x ≤ℤ (range g n).hi) (sym (same 0 0 (omega arith))) i.high) is) right bit

  guard_told : (t n : ℕ) → node g z ≡ GuardNode t n → All Right (t ∷ n ∷ []) → Told (guard_forms (range g n) t n z)
  guard_told t n e right =
      let below = below_at g z world d f fold lt some has (GuardNode t n) e in
      let bit = truth_bit g z world d f fold lt some has t (below 0 0 (omega arith)) (fits_at g z world d f fold lt some has (GuardNode t n) e).typed.0 in
      let low = bit_low (values_in g world t) bit in
      let high = bit_high (values_in g world t) bit in
      let i = kid_in n (below 1 0 (omega arith)) in
      let value = value_at g z world d f fold lt some has (GuardNode t n) e in
      let r : Right t = right 0 0 (omega arith) in
      let s : Right n = right 1 0 (omega arith) in (
        λ h. guard_over d f (range g n) t n z (values_in g world t) r low high h ∙ ap (λ (x : ℤ). cond (int_eq (values_in g world t) (pos 1)) x (pos 0)) s ∙ cond_d (int_eq (values_in g world t) (pos 1)) (values_in g world n) d ∙ ap (λ (x : ℤ). x *ℤ pos d) (sym value),
        λ own. up d f (nodes (values_in g world)) (guard_forms (range g n) t n z) (names_guard (Is d f (nodes (values_in g world))) (range g n) t n z r s own) (guard_ahead (values_in g world) (range g n) t n z i.low i.high low high value),
      )

  tot_told : (n : ℕ) → node g z ≡ TotNode n → All Right (n ∷ []) → Told (tot_forms n z)
  tot_told n e right =
      let value = value_at g z world d f fold lt some has (TotNode n) e in
      let r : Right n = right 0 0 (omega arith) in (
        λ h. tot_over d f n z h ∙ r ∙ ap (λ (x : ℤ). x *ℤ pos d) (sym value),
        λ own. up d f (nodes (values_in g world)) (tot_forms n z) (names_tot (Is d f (nodes (values_in g world))) n z r own) (tot_ahead (values_in g world) n z value),
      )

  abs_told : (n : ℕ) → node g z ≡ AbsNode n → All Right (n ∷ aid_of g (AbsNode n) ∷ []) → Told (abs_forms (range g n) n (aid_of g (AbsNode n)) z)
  abs_told n e right =
      let b = aid_of g (AbsNode n) in
      let truth = aid_is g z world fold lt has n e in
      let i = kid_in n (below_at g z world d f fold lt some has (AbsNode n) e 0 0 (omega arith)) in
      let value = value_at g z world d f fold lt some has (AbsNode n) e in
      let r : Right n = right 0 0 (omega arith) in
      let q : Right (aid_of g (AbsNode n)) = right 1 0 (omega arith) in (
        λ h. abs_over d f (range g n) n (aid_of g (AbsNode n)) z (values_in g world n) r (q ∙ ap (λ (x : ℤ). x *ℤ pos d) truth) h ∙ ap (λ (x : ℤ). x *ℤ pos d) (sym value),
        λ own. up d f (nodes (values_in g world)) (abs_forms (range g n) n (aid_of g (AbsNode n)) z) (names_abs (Is d f (nodes (values_in g world))) (range g n) n (aid_of g (AbsNode n)) z r q own)
            (abs_ahead (values_in g world) (range g n) n (aid_of g (AbsNode n)) z truth i.low i.high value),
      )

  compared_told : (m : Formula) → node g z ≡ m → is_compared m ≡ true → All Right (named_by g m) → (is_switch m ≡ true → IsBit d (f (key.Node z))) → Told (forms_of g z m)
  compared_told (PosNode n) e own right bit = pos_told n e right (bit refl)
  compared_told (GuardNode t n) e own right bit = guard_told t n e right
  compared_told (AbsNode n) e own right bit = abs_told n e right
  compared_told (TotNode n) e own right bit = tot_told n e right
  compared_told FalseNode e own right bit = cc
  compared_told TrueNode e own right bit = cc
  compared_told (PresNode column) e own right bit = cc
  compared_told (CellNode column) e own right bit = cc
  compared_told (NotNode truth) e own right bit = cc
  compared_told (AndNode kids) e own right bit = cc
  compared_told (OrNode kids) e own right bit = cc
  compared_told (LinNode c terms) e own right bit = cc
  compared_told (MinNode pairs) e own right bit = cc

-- the rows of these kinds tell the value of the node
pub compared_tells : (g : Graph) (stands : List Stand) (z : ℕ) (rows : List IpRow) → IsFold g → z < size g → is_compared (node g z) ≡ true → AreRows g stands (forms_of g z (node g z)) rows → Tells g stands z (named_by g (node g z)) rows
unfolding Tells
compared_tells g stands z rows fold lt own are = λ world d point ready.
    let told = compared_told g z world d (reading g stands d point) fold lt ready.some ready.numbers (node g z) refl own ready.right ready.bit in
    (λ h. told.0 (rows_hold g stands d point (forms_of g z (node g z)) rows are h), λ h. hold_rows g stands d point (forms_of g z (node g z)) rows are (told.1 h))
