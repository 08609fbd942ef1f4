-- The point of a world whose numbers lie within the sides: each node on the map has its value there, it lies within the sides too, and the
-- rows of nodes hold.
use Rattle.std.proofs.Common.{◌≡◌, ◌∙◌, sym, ap, subst, refl, ℕ, suc, ◌+◌, ◌<◌, inl, inr, ℤ, pos, negsuc, ◌+ℤ◌, ◌*ℤ◌, ◌≤ℤ◌, Bool, true, false, List, [], ◌∷◌, map, flat_map, filter, length, get_or, All, arith}
use Rattle.std.specs.List.{list_any}
use Rattle.std.specs.Ordering.{int_eq}
use Rattle.std.proofs.lemmas.Int.{ints}
use Rattle.std.proofs.lemmas.List.{get_or-map, length-map}
use Rattle.ip_rows.specs.declared.Bounds.{Bounds}
use Rattle.ip_rows.specs.declared.rows.Coef.{Coef}
use Rattle.ip_rows.specs.declared.rows.IpRow.{IpRow}
use Rattle.ip_rows.specs.declared.program.ColumnKind.TheVariants as kind
use Rattle.ip_rows.specs.declared.program.IpColumn.{IpColumn}
use Rattle.ip_rows.specs.declared.program.Program.{Program}
use Rattle.ip_rows.specs.Programs.{IsBetween, number_at, sides_of, sum_at}
use Rattle.ip_rows.specs.Rows.{side_at}
use Rattle.prov_arena.specs.declared.part.Term.{Term}
use Rattle.prov_arena.specs.declared.part.Pair.{Pair}
use Rattle.prov_arena.specs.Formulas.{Formula, FalseNode, TrueNode, PresNode, CellNode, PosNode, NotNode, AndNode, OrNode, LinNode, GuardNode, AbsNode, TotNode, MinNode, kids_of}
use Rattle.prov_fold.specs.declared.span.Span.{Span}
use Rattle.prov_fold.specs.Graphs.{Graph, node, range, size, Fits}
use Rattle.prov_fold.specs.Folds.{IsFold}
use Rattle.prov_fold.specs.Kinds.{is_truth, is_number, is_term}
use Rattle.prov_fold.specs.Spans.{least}
use Rattle.prov_fold.specs.Sums.{total_by}
use Rattle.prov_fold.specs.Values.{as_number, holds, value_of, HasNumbers, HasColumn}
use Rattle.prov_fold.specs.Meanings.{values_in}
use Rattle.prov_fold.proofs.AidMeanings.{min_aid}
use Rattle.prov_fold.proofs.InsideLemmas.{inside_is}
use Rattle.prov_fold.proofs.PlaceLemmas.{bit_kept, plain_truth, value_here, value_one}
use Rattle.prov_fold.proofs.SameLemmas.{All_cons}
use Rattle.prov_fold.proofs.StandLemmas.{keeps_same}
use Rattle.prov_fold.proofs.ValueLemmas.{IsIn}
use Rattle.bool_encode.specs.declared.form.Key.{Key}
use Rattle.bool_encode.specs.declared.form.Key.TheVariants as key
use Rattle.bool_encode.specs.declared.stand.Stand.{Stand}
use Rattle.bool_encode.specs.declared.stand.Stand.TheVariants as stand
use Rattle.bool_encode.specs.Forms.{Hold}
use Rattle.bool_encode.specs.Stands.{column_of, stand_at}
use Rattle.bool_encode.specs.Columns.{coef, column_at as node_column, reading, stand_by, IsOnMap}
use Rattle.bool_encode.specs.Points.{HasPairAt, chosen_by, has_least, is_first, number_by, point_of}
use Rattle.bool_encode.specs.Rows.{AreRows, HoldsOver}
use Rattle.bool_encode.specs.Tables.{bool_forms, is_joined}
use Rattle.bool_encode.specs.Tellings.{IsBit, IsPrepared, IsRight, Tells, is_switch}
use Rattle.bool_encode.proofs.Bits.{IsTruthValue, is_bit}
use Rattle.bool_encode.proofs.Each.{All_none}
use Rattle.bool_encode.proofs.FormLemmas.{Is, up}
use Rattle.bool_encode.proofs.Numbers.{times_one}
use Rattle.bool_encode.proofs.RowLemmas.{hold_rows}
use Rattle.bool_encode.proofs.Telling.{below_at, fits_at, truth_bit, joined_tells}
use Rattle.cmp_encode.specs.Spans.{narrow_span}
use Rattle.cmp_encode.specs.Tables.{aid_of, forms_of, is_compared, min_forms, named_by}
use Rattle.cmp_encode.proofs.LeastForms.{PairIn, keyed, min_held}
use Rattle.cmp_encode.proofs.Telling.{compared_tells}
use Rattle.whole_points.specs.Matched.{IsMatched, IsColumnOf, IsOwn, IsSelector, HasRows, column_at, has_column}
use Rattle.whole_points.specs.Points.{IsWorldWithin}
use Rattle.whole_points.proofs.Bits.{not_over, switch_truth, truth_between, truth_ranged}
use Rattle.whole_points.proofs.LeastNames.{names_min}
use Rattle.whole_points.proofs.Named.{min_place, named_less}
use Rattle.whole_points.proofs.Narrow.{narrow_in}
use Rattle.whole_points.proofs.Picks.{picks_first}
use Rattle.whole_points.proofs.Places.{AreThere, on_by, own_there, plain_term, reads, selector_reads, selector_there, stand_there, term_reads, term_there}
use Rattle.whole_points.proofs.WorldNumbers.{has_numbers, world_less}

-- ---- selectors are 0 or 1

bit_within : (b : Bool) → (pos 0 ≤ℤ as_number b) × (as_number b ≤ℤ pos 1)
bit_within true = (omega (arith, ints), omega (arith, ints))
bit_within false = (omega (arith, ints), omega (arith, ints))

chosen_within : (v : ℕ → ℤ) (z pair : ℕ) (m : Formula) → (pos 0 ≤ℤ chosen_by v z pair m) × (chosen_by v z pair m ≤ℤ pos 1)
chosen_within v z pair (MinNode pairs) = bit_within (is_first (has_least v (v z)) pairs pair)
chosen_within v z pair FalseNode = bit_within false
chosen_within v z pair TrueNode = bit_within false
chosen_within v z pair (PresNode c) = bit_within false
chosen_within v z pair (CellNode c) = bit_within false
chosen_within v z pair (PosNode n) = bit_within false
chosen_within v z pair (NotNode t) = bit_within false
chosen_within v z pair (AndNode kids) = bit_within false
chosen_within v z pair (OrNode kids) = bit_within false
chosen_within v z pair (LinNode c terms) = bit_within false
chosen_within v z pair (GuardNode t n) = bit_within false
chosen_within v z pair (AbsNode n) = bit_within false
chosen_within v z pair (TotNode n) = bit_within false

zero_plus : (j k : ℕ) → 0 + j ≡ k → k ≡ j
zero_plus j k e = omega (arith, e)

bit_by : (b : Bool) (n : ℤ) → n ≡ as_number b → IsBit 1 (n *ℤ pos 1)
bit_by true n e = inr (times_one n ∙ e)
bit_by false n e = inl (times_one n ∙ e)

true_once : pos 1 *ℤ pos 1 +ℤ pos 0 ≡ pos 1 *ℤ pos 1
true_once = omega (arith, ints)

none_once : pos 0 *ℤ pos 1 +ℤ pos 0 ≡ pos 0 *ℤ pos 1
none_once = omega (arith, ints)

none_own : false ≡ true → ⊥
none_own e = cc

module _ (program : Program) (g : Graph) (stands : List Stand) (world : List ℤ) (fold : IsFold g) (matched : IsMatched program g stands) (within : IsWorldWithin program stands world) where
  abbrev pub Q : List ℤ
  Q = point_of g stands world

  abbrev V : ℕ → ℤ
  V = values_in g world

  pub has_all : HasNumbers g world
  has_all = has_numbers program g stands world matched within

  q_at : (number : ℕ) → number < length stands → number_at Q number ≡ number_by g world V (stand_at stands number)
  unfolding point_of
  q_at number lt = get_or-map (number_by g world V) stands number (stand.World 0) (pos 0) lt

  pub q_stand : (number : ℕ) (s : Stand) → number < length stands → stand_at stands number ≡ s → number_at Q number ≡ number_by g world V s
  q_stand number s lt is = q_at number lt ∙ ap (number_by g world V) is

  -- ---- each node on the map has its value

  truth_at : (z : ℕ) → z < size g → is_truth (node g z) ≡ true → IsTruthValue (V z)
  truth_at z lt e = bit_kept g g world (record { keeps = keeps_same g; fold = fold; has = has_all }) z lt e

  value : (z : ℕ) → z < size g → (m : Formula) → node g z ≡ m → V z ≡ value_of world V m
  value z lt m e = value_here g world fold z lt ∙ ap (value_of world V) e

  fits : (z : ℕ) → z < size g → (m : Formula) → node g z ≡ m → Fits g (range g z) m
  fits z lt m e = subst (Fits g (range g z)) e (fold.fits z lt)

  presence_bit : (z : ℕ) → z < size g → (c : ℕ) → node g z ≡ PresNode c → IsTruthValue (number_at world c)
  presence_bit z lt c e =
      let there = subst (HasColumn world (range g z)) e (has_all.columns z lt) in
      let ranged = (fits z lt (PresNode c) e).ranged ∙ truth_ranged (range g z) (range g) (PresNode c) refl in
      is_bit (number_at world c) (subst (λ (s : Span). s.lo ≤ℤ number_at world c) ranged there.low) (subst (λ (s : Span). number_at world c ≤ℤ s.hi) ranged there.high)

  -- what the column of a node that may stand in a term has
  term_by : (z : ℕ) → z < size g → (m : Formula) → node g z ≡ m → is_term m ≡ true → number_by g world V (stand_by z m) ≡ V z
  term_by z lt (PresNode c) e term = presence_bit z lt c e ∙ sym (value z lt (PresNode c) e)
  term_by z lt (CellNode c) e term = sym (value z lt (CellNode c) e)
  term_by z lt (PosNode n) e term = refl
  term_by z lt (AndNode kids) e term = refl
  term_by z lt (OrNode kids) e term = refl
  term_by z lt (GuardNode t n) e term = refl
  term_by z lt (AbsNode n) e term = refl
  term_by z lt (TotNode n) e term = refl
  term_by z lt (MinNode pairs) e term = refl
  term_by z lt FalseNode e term = cc
  term_by z lt TrueNode e term = cc
  term_by z lt (NotNode t) e term = cc
  term_by z lt (LinNode c terms) e term = cc

  term_at : (z : ℕ) → z < size g → is_term (node g z) ≡ true → node_column g stands z < length stands → number_at Q (node_column g stands z) ≡ V z
  term_at z lt term there = q_stand (node_column g stands z) (stand_by z (node g z)) there (stand_there stands (stand_by z (node g z)) there) ∙ term_by z lt (node g z) refl term

  abbrev in_terms : List Term → List Coef
  in_terms terms = map (λ (t : Term). coef t.factor (node_column g stands t.node)) terms

  terms_at : (terms : List Term) → All (λ k. k < size g) (map (λ (t : Term). t.node) terms) → AreThere stands (in_terms terms) → All (λ (t : Term). is_term (node g t.node) ≡ true) terms
      → sum_at Q (in_terms terms) ≡ total_by (λ (t : Term). t.factor *ℤ V t.node) terms
  terms_at [] less there kinds = refl
  terms_at (t ∷ terms) less there kinds =
      let here = term_at t.node (less 0 0 (omega arith)) (kinds 0 t (omega arith)) (there 0 (coef (pos 0) 0) (omega arith)) in
      let rest = terms_at terms (λ j a l. less (suc j) a (omega arith)) (λ j a l. there (suc j) a (omega arith)) (λ j a l. kinds (suc j) a (omega arith)) in
      (λ i. t.factor *ℤ here i +ℤ rest i)

  module _ (z : ℕ) (lt : z < size g) (on : IsOnMap g stands (key.Node z)) where
    abbrev R : Type 0
    R = IsRight g stands world 1 Q z

    by_term : (m : Formula) → node g z ≡ m → is_term m ≡ true → R
    by_term m e term =
        let own : is_term (node g z) ≡ true = ap is_term e ∙ term in
        let there : node_column g stands z < length stands = term_there g stands z own on in
        term_reads g stands 1 Q z own ∙ term_at z lt own there ∙ sym (times_one (V z))

    by_not : (t : ℕ) → node g z ≡ NotNode t → R
    by_not t e =
        let less = (fits z lt (NotNode t) e).kids 0 0 (omega arith) in
        let plain = (fits z lt (NotNode t) e).typed in
        let there = on_by g stands z (NotNode t) e on 0 (coef (pos 0) 0) (omega arith) in
        let here : number_at Q (node_column g stands t) ≡ V t *ℤ pos 1 = term_at t less (plain_term (node g t) plain) there ∙ sym (times_one (V t)) in
        reads g stands 1 Q z (NotNode t) e ∙ ap (λ (x : ℤ). pos 1 *ℤ pos 1 +ℤ (negsuc 0 *ℤ x +ℤ pos 0)) here ∙ not_over (V t) 1 (truth_at t less (plain_truth (node g t) plain))
        ∙ ap (λ (x : ℤ). x *ℤ pos 1) (sym (value z lt (NotNode t) e))

    by_sum : (c : ℤ) (terms : List Term) → node g z ≡ LinNode c terms → R
    by_sum c terms e =
        let whole = (fits z lt (LinNode c terms) e) in
        let total = total_by (λ (t : Term). t.factor *ℤ V t.node) terms in
        reads g stands 1 Q z (LinNode c terms) e ∙ ap (λ (x : ℤ). c *ℤ pos 1 +ℤ x) (terms_at terms whole.kids (on_by g stands z (LinNode c terms) e on) whole.typed.kinds)
        ∙ ap (λ (x : ℤ). x +ℤ total) (times_one c) ∙ sym (value z lt (LinNode c terms) e) ∙ sym (times_one (V z))

    right_by : (m : Formula) → node g z ≡ m → R
    right_by FalseNode e = reads g stands 1 Q z FalseNode e ∙ none_once ∙ ap (λ (x : ℤ). x *ℤ pos 1) (sym (value z lt FalseNode e))
    right_by TrueNode e = reads g stands 1 Q z TrueNode e ∙ true_once ∙ ap (λ (x : ℤ). x *ℤ pos 1) (sym (value z lt TrueNode e))
    right_by (NotNode t) e = by_not t e
    right_by (LinNode c terms) e = by_sum c terms e
    right_by (PresNode c) e = by_term (PresNode c) e refl
    right_by (CellNode c) e = by_term (CellNode c) e refl
    right_by (PosNode n) e = by_term (PosNode n) e refl
    right_by (AndNode kids) e = by_term (AndNode kids) e refl
    right_by (OrNode kids) e = by_term (OrNode kids) e refl
    right_by (GuardNode t n) e = by_term (GuardNode t n) e refl
    right_by (AbsNode n) e = by_term (AbsNode n) e refl
    right_by (TotNode n) e = by_term (TotNode n) e refl
    right_by (MinNode pairs) e = by_term (MinNode pairs) e refl

    pub world_right : R
    world_right = right_by (node g z) refl

  -- ---- within the sides

  abbrev Sides : ℕ → Bounds
  Sides number = (column_at program.columns number).sides

  number_within : (number : ℕ) → number < length stands → (s : Stand) → stand_at stands number ≡ s → ((Sides number).lo ≤ℤ number_at Q number) × (number_at Q number ≤ℤ (Sides number).hi)
  number_within number lt (stand.World c) is =
      let less = world_less program g stands world matched number c lt is in
      let q : number_at Q number ≡ number_at world number = q_stand number (stand.World number) lt (matched.begins.first number less) in
      (subst (λ (x : ℤ). (Sides number).lo ≤ℤ x) (sym q) (within.low number less), subst (λ (x : ℤ). x ≤ℤ (Sides number).hi) (sym q) (within.high number less))
  number_within number lt (stand.Node z) is =
      let own : IsOwn g z (column_at program.columns number) = subst (λ (s : Stand). IsColumnOf g stands s (column_at program.columns number)) is (matched.columns number lt) in
      let q = q_stand number (stand.Node z) lt is in
      let i = inside_is g world fold has_all z own.there in (
        subst (λ (c : IpColumn). c.sides.lo ≤ℤ number_at Q number) (sym own.is) (subst (λ (x : ℤ). (range g z).lo ≤ℤ x) (sym q) i.low),
        subst (λ (c : IpColumn). number_at Q number ≤ℤ c.sides.hi) (sym own.is) (subst (λ (x : ℤ). x ≤ℤ (range g z).hi) (sym q) i.high),
      )
  number_within number lt (stand.Selector z pair) is =
      let own : IsSelector g stands z pair (column_at program.columns number) = subst (λ (s : Stand). IsColumnOf g stands s (column_at program.columns number)) is (matched.columns number lt) in
      let q = q_stand number (stand.Selector z pair) lt is in
      let inside = chosen_within V z pair (node g z) in (
        subst (λ (c : IpColumn). c.sides.lo ≤ℤ number_at Q number) (sym own.is) (subst (λ (x : ℤ). pos 0 ≤ℤ x) (sym q) inside.0),
        subst (λ (c : IpColumn). number_at Q number ≤ℤ c.sides.hi) (sym own.is) (subst (λ (x : ℤ). x ≤ℤ pos 1) (sym q) inside.1),
      )

  within_at : (number : ℕ) → number < length stands → ((Sides number).lo ≤ℤ number_at Q number) × (number_at Q number ≤ℤ (Sides number).hi)
  within_at number lt = number_within number lt (stand_at stands number) refl

  side_is : (number : ℕ) → number < length program.columns → side_at (sides_of program.columns) number ≡ Sides number
  side_is number lt = get_or-map (λ (c : IpColumn). c.sides) program.columns number (record { kind = kind.World; sides = record { lo = pos 0; hi = pos 0 } }) (record { lo = pos 0; hi = pos 0 }) lt

  sides_long : length (sides_of program.columns) ≡ length program.columns
  sides_long = length-map program.columns (λ (c : IpColumn). c.sides)

  q_long : length Q ≡ length stands
  unfolding point_of
  q_long = length-map stands (number_by g world V)

  pub world_between : IsBetween (sides_of program.columns) Q
  world_between =
      let count = matched.count in
      let long = sides_long in
      let here = q_long in
      record {
        count = omega (arith, count, long, here);
        low = λ number lt. subst (λ (b : Bounds). b.lo ≤ℤ number_at Q number) (sym (side_is number (omega (arith, lt, long)))) (within_at number (omega (arith, lt, long, count))).0;
        high = λ number lt. subst (λ (b : Bounds). number_at Q number ≤ℤ b.hi) (sym (side_is number (omega (arith, lt, long)))) (within_at number (omega (arith, lt, long, count))).1;
      }

  -- ---- the rows of a least number

  module _ (z : ℕ) (lt : z < size g) (on : IsOnMap g stands (key.Node z)) (pairs : List Pair) (e : node g z ≡ MinNode pairs) where
    F : Key → ℤ
    F = reading g stands 1 Q

    w : ℕ → ℤ
    w pair = chosen_by V z pair (MinNode pairs)

    has : HasRows program g stands z
    has =
        let there = own_there g stands z (ap has_column e) on in
        matched.rows (column_of stands (stand.Node z)) z there (stand_there stands (stand.Node z) there)

    abbrev Kids : List Pair → List ℕ
    Kids ps = flat_map (λ (p : Pair). p.truth ∷ p.number ∷ []) ps

    less : All (λ k. k < z) (Kids pairs)
    less = below_at g z world 1 F fold lt (omega arith) has_all (MinNode pairs) e

    pair_kinds : All (λ (p : Pair). (is_truth (node g p.truth) ≡ true) × (is_number (node g p.number) ≡ true)) pairs
    pair_kinds = (fits_at g z world 1 F fold lt (omega arith) has_all (MinNode pairs) e).typed

    pair_in : (p : Pair) → p.truth < z → p.number < z → is_truth (node g p.truth) ≡ true → PairIn V (range g) p
    pair_in p t n truth =
        let b = truth_between (V p.truth) (truth_bit g z world 1 F fold lt (omega arith) has_all p.truth t truth) in
        let i = inside_is g world fold has_all p.number (omega (arith, n, lt)) in
        record { truth_low = b.0; truth_high = b.1; low = i.low; high = i.high }

    pairs_in : (ps : List Pair) → All (λ k. k < z) (Kids ps) → All (λ (p : Pair). (is_truth (node g p.truth) ≡ true) × (is_number (node g p.number) ≡ true)) ps → All (PairIn V (range g)) ps
    pairs_in [] below kinds = All_none (PairIn V (range g))
    pairs_in (p ∷ ps) below kinds =
        All_cons (PairIn V (range g)) p ps (pair_in p (below 0 0 (omega arith)) (below 1 0 (omega arith)) (kinds 0 p (omega arith)).0)
        (pairs_in ps (λ j a l. below (suc (suc j)) a (omega arith)) (λ j a l. kinds (suc j) a (omega arith)))

    numbers_in : (ps : List Pair) → All (PairIn V (range g)) ps → All (λ (p : Pair). IsIn (range g p.number) (V p.number)) ps
    numbers_in ps h = λ j a l. record { low = (h j a l).low; high = (h j a l).high }

    named : All (λ k. IsOnMap g stands (key.Node k)) (aid_of g (MinNode pairs) ∷ Kids pairs)
    named = subst (λ (m : Formula). All (λ k. IsOnMap g stands (key.Node k)) (named_by g m)) e has.named

    named_z : All (λ k. k < z) (aid_of g (MinNode pairs) ∷ Kids pairs)
    named_z = subst (λ (m : Formula). All (λ k. k < z) (named_by g m)) e (named_less g z fold lt)

    named_right : (j a : ℕ) → j < length (aid_of g (MinNode pairs) ∷ Kids pairs) → F (key.Node (get_or (aid_of g (MinNode pairs) ∷ Kids pairs) j a)) ≡ V (get_or (aid_of g (MinNode pairs) ∷ Kids pairs) j a) *ℤ pos 1
    unfolding F
    named_right j a l = let b = named_z j a l in world_right (get_or (aid_of g (MinNode pairs) ∷ Kids pairs) j a) (omega (arith, b, lt)) (named j a l)

    chosen_at : (pair : ℕ) → pair < length pairs → F (key.Selector z pair) ≡ w pair *ℤ pos 1
    unfolding F w
    chosen_at pair less =
        let there = selector_there g stands z pair (subst (λ (m : Formula). HasPairAt pair m → IsOnMap g stands (key.Selector z pair)) e (has.chosen pair) less) in
        selector_reads g stands 1 Q z pair ∙ q_stand (column_of stands (stand.Selector z pair)) (stand.Selector z pair) there (stand_there stands (stand.Selector z pair) there)
        ∙ ap (chosen_by V z pair) e ∙ sym (times_one (chosen_by V z pair (MinNode pairs)))

    min_hold : Hold 1 (reading g stands 1 Q) (forms_of g z (node g z))
    unfolding F w
    min_hold =
        let aid = min_aid g world fold has_all z lt pairs e in
        let b = aid_of g (MinNode pairs) in
        let any : V b ≡ as_number (list_any (λ (p : Pair). holds V p.truth) pairs) = ap V (min_place g z fold lt pairs aid.0) ∙ aid.1 in
        let i = inside_is g world fold has_all z lt in
        let ins = pairs_in pairs less pair_kinds in
        let is : V z ≡ least (map (λ (p : Pair). V p.number) (filter (λ (p : Pair). holds V p.truth) pairs)) = value_here g world fold z lt ∙ ap (value_of world V) e in
        let narrow : list_any (λ (p : Pair). holds V p.truth) pairs ≡ true → ((narrow_span (range g) pairs).lo ≤ℤ V z) × (V z ≤ℤ (narrow_span (range g) pairs).hi) =
        λ t. let n = subst (IsIn (narrow_span (range g) pairs)) (sym is) (narrow_in g V pairs (numbers_in pairs ins) (value_one g world fold) t) in (n.low, n.high) in
        let picks = picks_first V (V z) (λ k. (range g k).lo) (λ k. (range g k).hi) w 0 pairs (λ j k l same_k. ap (λ k. as_number (is_first (has_least V (V z)) pairs k)) (zero_plus j k same_k)) in
        let held = min_held V w (range g z) (range g) z (narrow_span (range g) pairs) b pairs any ins i.low i.high narrow is picks in
        let forms = min_forms (range g z) (narrow_span (range g) pairs) (range g) b z pairs in
        let names = names_min (Is 1 F (keyed V z w)) (range g z) (narrow_span (range g) pairs) (range g) b z pairs (λ j a l. named_right (suc j) a (omega (arith, l))) (named_right 0 0 (omega arith)) (world_right z lt on) chosen_at in
        subst (λ (m : Formula). Hold 1 F (forms_of g z m)) (sym e) (up 1 F (keyed V z w) forms names held)

  pub least_hold : (z : ℕ) → z < size g → IsOnMap g stands (key.Node z) → (pairs : List Pair) → node g z ≡ MinNode pairs → Hold 1 (reading g stands 1 Q) (forms_of g z (node g z))
  least_hold z lt on pairs e = min_hold z lt on pairs e

  -- ---- the rows of a node

  module _ (z : ℕ) (lt : z < size g) (on : IsOnMap g stands (key.Node z)) (own : has_column (node g z) ≡ true) (made : List IpRow) (are : AreRows g stands (forms_of g z (node g z)) made) where
    has_rows : HasRows program g stands z
    has_rows =
        let there = own_there g stands z own on in
        matched.rows (column_of stands (stand.Node z)) z there (stand_there stands (stand.Node z) there)

    right_named : All (IsRight g stands world 1 Q) (named_by g (node g z))
    right_named = λ j a l. let b = named_less g z fold lt j a l in world_right (get_or (named_by g (node g z)) j a) (omega (arith, b, lt)) (has_rows.named j a l)

    own_bit : is_switch (node g z) ≡ true → IsBit 1 (reading g stands 1 Q (key.Node z))
    own_bit e = subst (IsBit 1) (sym (world_right z lt on)) (bit_by (int_eq (V z) (pos 1)) (V z) (truth_at z lt (switch_truth (node g z) e)))

    prepared : (named : List ℕ) → All (IsRight g stands world 1 Q) named → IsPrepared g stands z named world 1 Q
    prepared named right = record { numbers = has_all; some = omega arith; right = right; bit = own_bit }

    by_joined : (m : Formula) → node g z ≡ m → is_joined m ≡ true → forms_of g z m ≡ bool_forms z m → named_by g m ≡ kids_of m → All (HoldsOver 1 Q) made
    unfolding Tells
    by_joined m e joined forms names =
        let rows : AreRows g stands (bool_forms z (node g z)) made =
        subst (λ (m : Formula). AreRows g stands (bool_forms z m) made) (sym e) (subst (λ fs. AreRows g stands fs made) forms (subst (λ (m : Formula). AreRows g stands (forms_of g z m) made) e are)) in
        let right : All (IsRight g stands world 1 Q) (kids_of (node g z)) =
        subst (λ (m : Formula). All (IsRight g stands world 1 Q) (kids_of m)) (sym e) (subst (λ ks. All (IsRight g stands world 1 Q) ks) names (subst (λ (m : Formula). All (IsRight g stands world 1 Q) (named_by g m)) e right_named)) in
        (joined_tells g stands z made fold lt (ap is_joined e ∙ joined) rows world 1 Q (prepared (kids_of (node g z)) right)).1 (world_right z lt on)

    by_compared : is_compared (node g z) ≡ true → All (HoldsOver 1 Q) made
    unfolding Tells
    by_compared compared = (compared_tells g stands z made fold lt compared are world 1 Q (prepared (named_by g (node g z)) right_named)).1 (world_right z lt on)

    by_least : (pairs : List Pair) → node g z ≡ MinNode pairs → All (HoldsOver 1 Q) made
    by_least pairs e = hold_rows g stands 1 Q (forms_of g z (node g z)) made are (least_hold z lt on pairs e)

    rows_by : (m : Formula) → node g z ≡ m → All (HoldsOver 1 Q) made
    rows_by (AndNode kids) e = by_joined (AndNode kids) e refl refl refl
    rows_by (OrNode kids) e = by_joined (OrNode kids) e refl refl refl
    rows_by (PosNode n) e = by_compared (ap is_compared e)
    rows_by (GuardNode t n) e = by_compared (ap is_compared e)
    rows_by (AbsNode n) e = by_compared (ap is_compared e)
    rows_by (TotNode n) e = by_compared (ap is_compared e)
    rows_by (MinNode pairs) e = by_least pairs e
    rows_by FalseNode e = absurd (none_own (sym (ap has_column e) ∙ own))
    rows_by TrueNode e = absurd (none_own (sym (ap has_column e) ∙ own))
    rows_by (PresNode c) e = absurd (none_own (sym (ap has_column e) ∙ own))
    rows_by (CellNode c) e = absurd (none_own (sym (ap has_column e) ∙ own))
    rows_by (NotNode t) e = absurd (none_own (sym (ap has_column e) ∙ own))
    rows_by (LinNode c terms) e = absurd (none_own (sym (ap has_column e) ∙ own))

    pub world_rows : All (HoldsOver 1 Q) made
    world_rows = rows_by (node g z) refl
