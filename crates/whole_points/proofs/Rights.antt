-- At a point over d that meets a matched program, each node on the map has its value on the point's world.
use Rattle.std.proofs.Common.{◌≡◌, ◌∙◌, sym, ap, subst, refl, ℕ, zero, suc, ◌+◌, ◌<◌, ◌≤◌, ℤ, pos, negsuc, ◌+ℤ◌, ◌*ℤ◌, ◌≤ℤ◌, true, cond, List, [], ◌∷◌, map, flat_map, length, get_or, All, Contains, arith}
use Rattle.std.specs.List.{list_any}
use Rattle.std.proofs.lemmas.Int.{ints}
use Rattle.ip_rows.specs.declared.Bounds.{Bounds}
use Rattle.ip_rows.specs.declared.rows.Coef.{Coef}
use Rattle.ip_rows.specs.declared.rows.IpRow.{IpRow}
use Rattle.ip_rows.specs.declared.program.ColumnKind.TheVariants as kind
use Rattle.ip_rows.specs.declared.program.IpColumn.{IpColumn}
use Rattle.ip_rows.specs.declared.program.Program.{Program}
use Rattle.ip_rows.specs.Programs.{number_at, sum_at}
use Rattle.prov_arena.specs.declared.part.Term.{Term}
use Rattle.prov_arena.specs.declared.part.Pair.{Pair}
use Rattle.prov_arena.specs.Formulas.{Formula, FalseNode, TrueNode, PresNode, CellNode, PosNode, NotNode, AndNode, OrNode, LinNode, GuardNode, AbsNode, TotNode, MinNode, kids_of}
use Rattle.prov_fold.specs.declared.span.Span.{Span}
use Rattle.prov_fold.specs.Graphs.{Graph, node, range, size, Fits}
use Rattle.prov_fold.specs.Folds.{IsFold}
use Rattle.prov_fold.specs.Kinds.{is_truth, is_term, is_number}
use Rattle.prov_fold.specs.Sums.{total_by}
use Rattle.prov_fold.specs.Values.{as_number, holds, value_of, HasNumbers, HasColumn}
use Rattle.prov_fold.specs.Meanings.{values_in}
use Rattle.prov_fold.proofs.AidMeanings.{min_aid}
use Rattle.prov_fold.proofs.InsideLemmas.{inside_is}
use Rattle.prov_fold.proofs.PlaceLemmas.{plain_truth}
use Rattle.prov_fold.proofs.Rings.{*ℤ_assoc, +ℤ-*ℤ}
use Rattle.prov_fold.proofs.ValueLemmas.{IsIn}
use Rattle.bool_encode.specs.declared.form.Key.{Key}
use Rattle.bool_encode.specs.declared.form.Key.TheVariants as key
use Rattle.bool_encode.specs.declared.stand.Stand.{Stand}
use Rattle.bool_encode.specs.declared.stand.Stand.TheVariants as stand
use Rattle.bool_encode.specs.Forms.{Hold}
use Rattle.bool_encode.specs.Stands.{column_of}
use Rattle.bool_encode.specs.Columns.{coef, column_at as node_column, reading, stand_by, IsOnMap}
use Rattle.bool_encode.specs.Points.{HasPairAt}
use Rattle.bool_encode.specs.Rows.{HoldsOver, AreRows}
use Rattle.bool_encode.specs.Tables.{bool_forms, is_joined}
use Rattle.bool_encode.specs.Tellings.{IsBit, IsPrepared, IsRight, Tells, is_switch}
use Rattle.bool_encode.proofs.Bits.{IsTruthValue, is_bit}
use Rattle.bool_encode.proofs.Numbers.{zero_d, cancel_le}
use Rattle.bool_encode.proofs.RowLemmas.{rows_hold}
use Rattle.bool_encode.proofs.StandLemmas.{column_is}
use Rattle.bool_encode.proofs.Telling.{below_at, fits_at, value_at, truth_bit, joined_tells}
use Rattle.cmp_encode.specs.Spans.{narrow_span}
use Rattle.cmp_encode.specs.Tables.{aid_of, forms_of, is_compared, min_forms, named_by}
use Rattle.cmp_encode.proofs.LeastForms.{Known, chosen_part, min_over, selector_is}
use Rattle.cmp_encode.proofs.Telling.{compared_tells}
use Rattle.whole_points.specs.Matched.{IsMatched, IsColumnOf, IsChoice, IsOwn, IsSelector, HasRows, bounds_of, column, column_at, has_column, world_count}
use Rattle.whole_points.specs.Points.{IsPointOver, IsWorldOver, IsWorldWithin}
use Rattle.whole_points.proofs.Bits.{bit_within, not_over, switch_truth, truth_between, truth_ranged}
use Rattle.whole_points.proofs.Named.{min_place, named_less}
use Rattle.whole_points.proofs.WorldNumbers.{has_numbers}
use Rattle.whole_points.proofs.Places.{AreThere, on_by, own_reads, own_there, plain_term, reads, selector_reads, selector_there, stand_there, term_on, term_reads}

pub factor_step : (c v t : ℤ) (d : ℕ) → c *ℤ (v *ℤ pos d) +ℤ t *ℤ pos d ≡ (c *ℤ v +ℤ t) *ℤ pos d
factor_step c v t d = ap (λ (x : ℤ). x +ℤ t *ℤ pos d) (sym (*ℤ_assoc c v (pos d))) ∙ sym (+ℤ-*ℤ (c *ℤ v) t (pos d))

true_over : (d : ℕ) → pos 1 *ℤ pos d +ℤ pos 0 ≡ pos 1 *ℤ pos d
true_over d = omega (arith, ints)

none_over : (d : ℕ) → pos 0 *ℤ pos d +ℤ pos 0 ≡ pos 0 *ℤ pos d
none_over d = omega (arith, ints)

switch_kind : (m : Formula) (s : Bounds) → is_switch m ≡ true → column (cond (is_switch m) kind.Switch kind.Value) s ≡ column kind.Switch s
switch_kind m s e = ap (λ b. column (cond b kind.Switch kind.Value) s) e

switch_other : kind.Switch ≡ kind.Value → ⊥
switch_other e = cc

world_other : kind.World ≡ kind.Value → ⊥
world_other e = cc

module _ (program : Program) (g : Graph) (stands : List Stand) (world : List ℤ) (d : ℕ) (point : List ℤ) (fold : IsFold g) (matched : IsMatched program g stands) (over : IsPointOver d program point) (long : length world ≡ world_count stands) (same : IsWorldOver d stands world point) where
  -- ---- the world has its numbers

  abbrev Less : ℕ → Type 0
  Less c = c < world_count stands

  there_in : (c : ℕ) → Less c → c < length program.columns
  there_in c less =
      let all = matched.begins.within in
      let count = matched.count in
      omega (arith, less, all, count)

  pub within : IsWorldWithin program stands world
  within = record {
    count = long;
    low = λ c less. cancel_le (column_at program.columns c).sides.lo (number_at world c) d over.some (subst (λ (x : ℤ). ((column_at program.columns c).sides.lo *ℤ pos d) ≤ℤ x) (same c less) (over.low c (there_in c less)));
    high = λ c less. cancel_le (number_at world c) (column_at program.columns c).sides.hi d over.some (subst (λ (x : ℤ). x ≤ℤ ((column_at program.columns c).sides.hi *ℤ pos d)) (same c less) (over.high c (there_in c less)));
  }

  pub numbers : HasNumbers g world
  numbers = has_numbers program g stands world matched within

  -- ---- what a place comes to

  abbrev pub F : Key → ℤ
  F = reading g stands d point

  abbrev pub V : ℕ → ℤ
  V = values_in g world

  abbrev pub R : ℕ → Type 0
  R z = IsRight g stands world d point z

  -- a column of a truth or of a selector has 0 or d
  bit_at : (number : ℕ) → number < length stands → column_at program.columns number ≡ column kind.Switch (record { lo = pos 0; hi = pos 1 }) → IsBit d (number_at point number)
  bit_at number lt is =
      let count = matched.count in
      let there : number < length program.columns = omega (arith, lt, count) in
      bit_within d (number_at point number) over.some (over.whole number there (λ e. switch_other (sym (ap (λ (c : IpColumn). c.kind) is) ∙ e)))
      (subst (λ (c : IpColumn). (c.sides.lo *ℤ pos d) ≤ℤ number_at point number) is (over.low number there))
      (subst (λ (c : IpColumn). number_at point number ≤ℤ (c.sides.hi *ℤ pos d)) is (over.high number there))

  pub selector_bit : (z pair : ℕ) → IsOnMap g stands (key.Selector z pair) → IsBit d (F (key.Selector z pair))
  selector_bit z pair on =
      let there = selector_there g stands z pair on in
      let number = column_of stands (stand.Selector z pair) in
      let is : IsSelector g stands z pair (column_at program.columns number) = subst (λ (s : Stand). IsColumnOf g stands s (column_at program.columns number)) (stand_there stands (stand.Selector z pair) there) (matched.columns number there) in
      subst (IsBit d) (sym (selector_reads g stands d point z pair)) (bit_at number there is.is)

  module _ (z : ℕ) (lt : z < size g) (on : IsOnMap g stands (key.Node z)) (below : (k : ℕ) → k < z → IsOnMap g stands (key.Node k) → R k) where
    value : (m : Formula) → node g z ≡ m → V z ≡ value_of world V m
    value m e = value_at g z world d F fold lt over.some numbers m e

    kids_less : (m : Formula) → node g z ≡ m → All (λ kid. kid < z) (kids_of m)
    kids_less m e = below_at g z world d F fold lt over.some numbers m e

    fits : (m : Formula) → node g z ≡ m → Fits g (range g z) m
    fits m e = fits_at g z world d F fold lt over.some numbers m e

    bit : (k : ℕ) → k < z → is_truth (node g k) ≡ true → IsTruthValue (V k)
    bit k less e = truth_bit g z world d F fold lt over.some numbers k less e

    kid_in : (k : ℕ) → k < z → IsIn (range g k) (V k)
    kid_in k less = inside_is g world fold numbers k (omega (arith, less, lt))

    -- a choice
    choice_reads : (m : Formula) (c : ℕ) → node g z ≡ m → is_term m ≡ true → stand_by z m ≡ stand.World c → IsChoice c m → F (key.Node z) ≡ number_at world c *ℤ pos d
    choice_reads m c e term at is =
        let less = matched.choices z c lt (subst (IsChoice c) (sym e) is) in
        let all = matched.begins.within in
        let there : c < length stands = omega (arith, less, all) in
        term_reads g stands d point z (ap is_term e ∙ term) ∙ ap (λ (m : Formula). number_at point (column_of stands (stand_by z m))) e ∙ ap (λ (s : Stand). number_at point (column_of stands s)) at
        ∙ ap (number_at point) (sym (column_is stands c (stand.World c) matched.map there (matched.begins.first c less))) ∙ same c less

    presence_bit : (c : ℕ) → node g z ≡ PresNode c → IsTruthValue (number_at world c)
    presence_bit c e =
        let there = subst (HasColumn world (range g z)) e (numbers.columns z lt) in
        let ranged = (fits (PresNode c) e).ranged ∙ truth_ranged (range g z) (range g) (PresNode c) refl in
        is_bit (number_at world c) (subst (λ (s : Span). s.lo ≤ℤ number_at world c) ranged there.low) (subst (λ (s : Span). number_at world c ≤ℤ s.hi) ranged there.high)

    -- sums
    not_right : (t : ℕ) → node g z ≡ NotNode t → R z
    not_right t e =
        let less = kids_less (NotNode t) e 0 0 (omega arith) in
        let plain = (fits (NotNode t) e).typed in
        let term = plain_term (node g t) plain in
        let t_on = term_on g stands t term (on_by g stands z (NotNode t) e on 0 (coef (pos 0) 0) (omega arith)) in
        let here : number_at point (node_column g stands t) ≡ V t *ℤ pos d = sym (term_reads g stands d point t term) ∙ below t less t_on in
        reads g stands d point z (NotNode t) e ∙ ap (λ (x : ℤ). pos 1 *ℤ pos d +ℤ (negsuc 0 *ℤ x +ℤ pos 0)) here ∙ not_over (V t) d (bit t less (plain_truth (node g t) plain))
        ∙ ap (λ (x : ℤ). x *ℤ pos d) (sym (value (NotNode t) e))

    abbrev in_terms : List Term → List Coef
    in_terms terms = map (λ (t : Term). coef t.factor (node_column g stands t.node)) terms

    terms_right : (terms : List Term) → AreThere stands (in_terms terms) → All (λ (t : Term). is_term (node g t.node) ≡ true) terms → All (λ k. k < z) (map (λ (t : Term). t.node) terms)
        → sum_at point (in_terms terms) ≡ total_by (λ (t : Term). t.factor *ℤ V t.node) terms *ℤ pos d
    terms_right [] there kinds less = sym (zero_d d)
    terms_right (t ∷ terms) there kinds less =
        let term = kinds 0 t (omega arith) in
        let t_on = term_on g stands t.node term (there 0 (coef (pos 0) 0) (omega arith)) in
        let here : number_at point (node_column g stands t.node) ≡ V t.node *ℤ pos d = sym (term_reads g stands d point t.node term) ∙ below t.node (less 0 0 (omega arith)) t_on in
        let rest = terms_right terms (λ j a l. there (suc j) a (omega arith)) (λ j a l. kinds (suc j) a (omega arith)) (λ j a l. less (suc j) a (omega arith)) in
        (λ i. t.factor *ℤ here i +ℤ rest i) ∙ factor_step t.factor (V t.node) (total_by (λ (t : Term). t.factor *ℤ V t.node) terms) d

    sum_right : (c : ℤ) (terms : List Term) → node g z ≡ LinNode c terms → R z
    sum_right c terms e =
        let total = total_by (λ (t : Term). t.factor *ℤ V t.node) terms in
        reads g stands d point z (LinNode c terms) e ∙ ap (λ (x : ℤ). c *ℤ pos d +ℤ x) (terms_right terms (on_by g stands z (LinNode c terms) e on) (fits (LinNode c terms) e).typed.kinds (kids_less (LinNode c terms) e))
        ∙ sym (+ℤ-*ℤ c total (pos d)) ∙ ap (λ (x : ℤ). x *ℤ pos d) (sym (value (LinNode c terms) e))

    -- kinds with a column
    module _ (own : has_column (node g z) ≡ true) where
      there : column_of stands (stand.Node z) < length stands
      there = own_there g stands z own on

      is_column : IsOwn g z (column_at program.columns (column_of stands (stand.Node z)))
      is_column = subst (λ (s : Stand). IsColumnOf g stands s (column_at program.columns (column_of stands (stand.Node z)))) (stand_there stands (stand.Node z) there) (matched.columns (column_of stands (stand.Node z)) there)

      rows : HasRows program g stands z
      rows = matched.rows (column_of stands (stand.Node z)) z there (stand_there stands (stand.Node z) there)

      held : (row : IpRow) → Contains program.rows row → HoldsOver d point row
      held row has = subst (HoldsOver d point) has.2 (over.rows has.0 row has.1)

      all_held : All (HoldsOver d point) rows.own
      all_held = λ j a l. held (get_or rows.own j a) (rows.within j a l)

      named_right : All R (named_by g (node g z))
      named_right = λ j a l. below (get_or (named_by g (node g z)) j a) (named_less g z fold lt j a l) (rows.named j a l)

      own_bit : is_switch (node g z) ≡ true → IsBit d (F (key.Node z))
      own_bit e =
          let ranged = (fits (node g z) refl).ranged ∙ truth_ranged (range g z) (range g) (node g z) (switch_truth (node g z) e) in
          subst (IsBit d) (sym (own_reads g stands d point z own))
          (bit_at (column_of stands (stand.Node z)) there (is_column.is ∙ switch_kind (node g z) (bounds_of (range g z)) e ∙ ap (λ (s : Span). column kind.Switch (bounds_of s)) ranged))

      prepared : (named : List ℕ) → All R named → IsPrepared g stands z named world d point
      prepared named right = record { numbers = numbers; some = over.some; right = right; bit = own_bit }

      joined_right : (m : Formula) → node g z ≡ m → is_joined m ≡ true → forms_of g z m ≡ bool_forms z m → named_by g m ≡ kids_of m → R z
      unfolding Tells
      joined_right m e joined forms named =
          let are : AreRows g stands (bool_forms z (node g z)) rows.own =
          subst (λ (m : Formula). AreRows g stands (bool_forms z m) rows.own) (sym e) (subst (λ fs. AreRows g stands fs rows.own) forms (subst (λ (m : Formula). AreRows g stands (forms_of g z m) rows.own) e rows.are)) in
          let right : All R (kids_of (node g z)) = subst (λ (m : Formula). All R (kids_of m)) (sym e) (subst (λ ks. All R ks) named (subst (λ (m : Formula). All R (named_by g m)) e named_right)) in
          (joined_tells g stands z rows.own fold lt (ap is_joined e ∙ joined) are world d point (prepared (kids_of (node g z)) right)).0 all_held

      compared_right : is_compared (node g z) ≡ true → R z
      unfolding Tells
      compared_right compared = (compared_tells g stands z rows.own fold lt compared rows.are world d point (prepared (named_by g (node g z)) named_right)).0 all_held

      -- the least of pairs
      w : ℕ → ℤ
      w pair = chosen_part d (F (key.Selector z pair))

      known : (i : ℕ) (pairs : List Pair) → All R (flat_map (λ (p : Pair). p.truth ∷ p.number ∷ []) pairs) → All (λ k. k < z) (flat_map (λ (p : Pair). p.truth ∷ p.number ∷ []) pairs)
          → All (λ (p : Pair). (is_truth (node g p.truth) ≡ true) × (is_number (node g p.number) ≡ true)) pairs → ((j : ℕ) → i ≤ j → j < i + length pairs → IsBit d (F (key.Selector z j))) → Known d F V w (range g) z i pairs
      unfolding w
      known i [] right less typed bits = tt
      known i (p ∷ ps) right less typed bits =
          let c = selector_is d (F (key.Selector z i)) over.some (bits i (omega arith) (omega arith)) in
          let b = truth_between (V p.truth) (bit p.truth (less 0 0 (omega arith)) (typed 0 p (omega arith)).0) in
          let n = kid_in p.number (less 1 0 (omega arith)) in (
            record { truth_is = right 0 0 (omega arith); number_is = right 1 0 (omega arith); chosen_is = c.is; truth_low = b.0; truth_high = b.1; chosen_low = c.low; chosen_high = c.high; low = n.low; high = n.high },
            known (suc i) ps (λ j a l. right (suc (suc j)) a (omega arith)) (λ j a l. less (suc (suc j)) a (omega arith)) (λ j a l. typed (suc j) a (omega arith)) (λ j le l. bits j (omega arith) (omega arith)),
          )

      min_right : (pairs : List Pair) → node g z ≡ MinNode pairs → R z
      min_right pairs e =
          let aid = min_aid g world fold numbers z lt pairs e in
          let b = aid_of g (MinNode pairs) in
          let any : V b ≡ as_number (list_any (λ (p : Pair). holds V p.truth) pairs) = ap V (min_place g z fold lt pairs aid.0) ∙ aid.1 in
          let right : All R (named_by g (MinNode pairs)) = subst (λ (m : Formula). All R (named_by g m)) e named_right in
          let forms : Hold d F (min_forms (range g z) (narrow_span (range g) pairs) (range g) b z pairs) = subst (λ (m : Formula). Hold d F (forms_of g z m)) e (rows_hold g stands d point (forms_of g z (node g z)) rows.own rows.are all_held) in
          let bits : (j : ℕ) → 0 ≤ j → j < 0 + length pairs → IsBit d (F (key.Selector z j)) = λ j le less. selector_bit z j (subst (λ (m : Formula). HasPairAt j m → IsOnMap g stands (key.Selector z j)) e (rows.chosen j) (omega (arith, less))) in
          min_over d F V w (range g z) (range g) z over.some (narrow_span (range g) pairs) b pairs (right 0 0 (omega arith)) any
          (known 0 pairs (λ j a l. right (suc j) a (omega arith)) (kids_less (MinNode pairs) e) (fits (MinNode pairs) e).typed bits) forms
          ∙ ap (λ (x : ℤ). x *ℤ pos d) (sym (value (MinNode pairs) e))

    right_by : (m : Formula) → node g z ≡ m → R z
    right_by FalseNode e = reads g stands d point z FalseNode e ∙ none_over d ∙ ap (λ (x : ℤ). x *ℤ pos d) (sym (value FalseNode e))
    right_by TrueNode e = reads g stands d point z TrueNode e ∙ true_over d ∙ ap (λ (x : ℤ). x *ℤ pos d) (sym (value TrueNode e))
    right_by (PresNode c) e = choice_reads (PresNode c) c e refl refl refl ∙ ap (λ (x : ℤ). x *ℤ pos d) (presence_bit c e ∙ sym (value (PresNode c) e))
    right_by (CellNode c) e = choice_reads (CellNode c) c e refl refl refl ∙ ap (λ (x : ℤ). x *ℤ pos d) (sym (value (CellNode c) e))
    right_by (NotNode t) e = not_right t e
    right_by (LinNode c terms) e = sum_right c terms e
    right_by (AndNode kids) e = joined_right (ap has_column e) (AndNode kids) e refl refl refl
    right_by (OrNode kids) e = joined_right (ap has_column e) (OrNode kids) e refl refl refl
    right_by (PosNode n) e = compared_right (ap has_column e) (ap is_compared e)
    right_by (GuardNode t n) e = compared_right (ap has_column e) (ap is_compared e)
    right_by (AbsNode n) e = compared_right (ap has_column e) (ap is_compared e)
    right_by (TotNode n) e = compared_right (ap has_column e) (ap is_compared e)
    right_by (MinNode pairs) e = min_right (ap has_column e) pairs e

  right_upto : (n z : ℕ) → z < n → z < size g → IsOnMap g stands (key.Node z) → R z
  right_upto zero z less lt on = absurd (omega arith)
  right_upto (suc n) z less lt on = right_by z lt on (λ k before k_on. right_upto n k (omega (arith, before, less)) (omega (arith, before, lt)) k_on) (node g z) refl

  pub right_at : (z : ℕ) → z < size g → IsOnMap g stands (key.Node z) → R z
  right_at z lt on = right_upto (suc z) z (omega arith) lt on
