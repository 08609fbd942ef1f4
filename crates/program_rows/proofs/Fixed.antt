-- What comes to nothing at columns with one number alone.
use Rattle.std.proofs.Common.{◌≡◌, ◌∙◌, sym, ap, subst, refl, ℕ, suc, ◌<◌, if◌then◌else◌, ℤ, pos, negsuc, ◌+ℤ◌, ◌*ℤ◌, Bool, true, false, List, [], ◌∷◌, map, length, get_or, All, Contains, arith}
use Rattle.std.specs.Prelude.{◌<ℤ◌}
use Rattle.std.specs.Ordering.{int_eq}
use Rattle.std.proofs.lemmas.Int.{ints}
use Rattle.std.proofs.lemmas.Bool.Decides.{Decides-int_eq}
use Rattle.std.proofs.lemmas.List.{get_or-map}
use Rattle.ip_rows.specs.declared.Bounds.{Bounds}
use Rattle.ip_rows.specs.declared.rows.Coef.{Coef}
use Rattle.ip_rows.specs.declared.rows.IpRow.{IpRow}
use Rattle.ip_rows.specs.declared.program.ColumnKind.TheVariants as kind
use Rattle.ip_rows.specs.declared.program.IpColumn.{IpColumn}
use Rattle.ip_rows.specs.Programs.{fixed_sum, is_fixed, sides_of}
use Rattle.ip_rows.specs.Rows.{side_at}
use Rattle.prov_arena.specs.declared.part.Term.{Term}
use Rattle.prov_arena.specs.Formulas.{Formula, FalseNode, TrueNode, PresNode, CellNode, PosNode, NotNode, AndNode, OrNode, LinNode, GuardNode, AbsNode, TotNode, MinNode}
use Rattle.prov_fold.specs.Graphs.{Graph, node, range, size, Fits}
use Rattle.prov_fold.specs.Folds.{IsFold}
use Rattle.prov_fold.specs.Kinds.{is_number, is_term}
use Rattle.prov_fold.proofs.SameLemmas.{All_cons, All_head, All_tail}
use Rattle.bool_encode.specs.declared.stand.Stand.{Stand}
use Rattle.bool_encode.specs.declared.stand.Stand.TheVariants as stand
use Rattle.bool_encode.specs.declared.form.Key.{Key}
use Rattle.bool_encode.specs.declared.form.Key.TheVariants as key
use Rattle.bool_encode.specs.declared.form.Piece.{Piece}
use Rattle.bool_encode.specs.Columns.{coef, column_at, columns_of, stand_by}
use Rattle.bool_encode.specs.Forms.{Form}
use Rattle.bool_encode.specs.Rows.{IsRowOf}
use Rattle.bool_encode.specs.Stands.{column_of, stand_at}
use Rattle.bool_encode.proofs.FormLemmas.{NamesOnly, names_and, names_or}
use Rattle.cmp_encode.specs.Spans.{narrow_span}
use Rattle.cmp_encode.specs.Tables.{aid_of, forms_of}
use Rattle.cmp_encode.proofs.Named.{names_pos, names_guard, names_tot, names_abs}
use Rattle.whole_points.proofs.LeastNames.{names_min}
use Rattle.whole_points.specs.Matched.{IsChoice, IsColumnOf, bounds_of}
use Rattle.whole_points.specs.Matched as matched
use Rattle.whole_points.proofs.Places.{stand_there}
use Rattle.used_columns.specs.Laid.{IsLaid}
use Rattle.used_columns.specs.Seeds.{terms_of}
use Rattle.used_columns.proofs.NameLemmas.{aid_less, terms_below}
use Rattle.used_columns.proofs.Readings.{plain_term}
use Rattle.program_rows.specs.Fair.{IsFair}
use Rattle.program_rows.proofs.Fairness.{asked_there}
use Rattle.program_rows.proofs.Joining.{key_placed}
use Rattle.program_rows.proofs.Laying.{all_has, has_at}
use Rattle.bool_encode.proofs.RowSizes.{row_named}
use Rattle.program_rows.proofs.Selecting.{names_has, selector_column}

-- the column has more than one number
abbrev pub IsWide : List Bounds → ℕ → Type 0
IsWide sides c = (side_at sides c).lo <ℤ (side_at sides c).hi

wide_free : (sides : List Bounds) (c : ℕ) → IsWide sides c → is_fixed sides c ≡ false
wide_free sides c wide = by_test (int_eq (side_at sides c).lo (side_at sides c).hi) refl
  where
    by_test : (b : Bool) → int_eq (side_at sides c).lo (side_at sides c).hi ≡ b → b ≡ false
    by_test true e = let same = (Decides-int_eq (side_at sides c).lo (side_at sides c).hi).0 e in absurd (omega (arith, ints, same, wide))
    by_test false e = refl

nothing_more : (a b : ℤ) → b ≡ pos 0 → pos 0 +ℤ b ≡ pos 0
nothing_more a b e = omega (arith, ints, e)

pub fixed_none : (sides : List Bounds) (terms : List Coef) → All (λ (t : Coef). IsWide sides t.column) terms → fixed_sum sides terms ≡ pos 0
fixed_none sides [] wide = refl
fixed_none sides (t ∷ terms) wide =
    let free = wide_free sides t.column (All_head (λ (t : Coef). IsWide sides t.column) t terms wide) in
    let rest = fixed_none sides terms (All_tail (λ (t : Coef). IsWide sides t.column) t terms wide) in
    ap (λ (b : Bool). (if b then t.factor *ℤ (side_at sides t.column).lo else pos 0) +ℤ fixed_sum sides terms) free ∙ nothing_more (pos 0) (fixed_sum sides terms) rest

term_no_number : (m : Formula) → is_term m ≡ true → is_number m ≡ false
term_no_number FalseNode e = refl
term_no_number TrueNode e = refl
term_no_number (PresNode column) e = refl
term_no_number (CellNode column) e = refl
term_no_number (PosNode n) e = refl
term_no_number (NotNode truth) e = refl
term_no_number (AndNode kids) e = refl
term_no_number (OrNode kids) e = refl
term_no_number (LinNode c terms) e = cc
term_no_number (GuardNode t n) e = refl
term_no_number (AbsNode n) e = refl
term_no_number (TotNode n) e = refl
term_no_number (MinNode pairs) e = refl

module _ (g : Graph) (fold : IsFold g) (seeds : List ℕ) (stands : List Stand) (columns : List IpColumn) (are : IsLaid g seeds stands columns) where
  node_wide : (n : ℕ) → n < size g → is_term (node g n) ≡ true → (range g n).lo <ℤ (range g n).hi
  node_wide n lt e = (fold.fits n lt).wide (term_no_number (node g n) e)

  side_is : (c : ℕ) → c < length stands → side_at (sides_of columns) c ≡ (matched.column_at columns c).sides
  side_is c lt =
      let count = are.count in
      get_or-map (λ (column : IpColumn). column.sides) columns c (matched.column kind.World (record { lo = pos 0; hi = pos 0 })) (record { lo = pos 0; hi = pos 0 }) (omega (arith, lt, count))

  module _ (n : ℕ) (lt : n < size g) where
    side_range : (m : Formula) (c : IpColumn) → m ≡ node g n → is_term m ≡ true → IsColumnOf g stands (stand_by n m) c → c.sides ≡ bounds_of (range g n)
    side_range FalseNode c e t is = cc
    side_range TrueNode c e t is = cc
    side_range (NotNode truth) c e t is = cc
    side_range (LinNode k terms) c e t is = cc
    side_range (PresNode column) c e t is = is.1 n lt (subst (IsChoice column) e refl)
    side_range (CellNode column) c e t is = is.1 n lt (subst (IsChoice column) e refl)
    side_range (PosNode number) c e t is = ap (λ (c : IpColumn). c.sides) is.is
    side_range (AndNode kids) c e t is = ap (λ (c : IpColumn). c.sides) is.is
    side_range (OrNode kids) c e t is = ap (λ (c : IpColumn). c.sides) is.is
    side_range (GuardNode truth number) c e t is = ap (λ (c : IpColumn). c.sides) is.is
    side_range (AbsNode number) c e t is = ap (λ (c : IpColumn). c.sides) is.is
    side_range (TotNode number) c e t is = ap (λ (c : IpColumn). c.sides) is.is
    side_range (MinNode pairs) c e t is = ap (λ (c : IpColumn). c.sides) is.is

    -- the column of what may stand in terms
    pub term_wide : is_term (node g n) ≡ true → column_at g stands n < length stands → IsWide (sides_of columns) (column_at g stands n)
    term_wide term there =
        let at = stand_there stands (stand_by n (node g n)) there in
        let its : IsColumnOf g stands (stand_by n (node g n)) (matched.column_at columns (column_at g stands n)) =
        subst (λ (s : Stand). IsColumnOf g stands s (matched.column_at columns (column_at g stands n))) at (are.columns (column_at g stands n) there) in
        let same = side_is (column_at g stands n) there ∙ side_range (node g n) (matched.column_at columns (column_at g stands n)) refl term its in
        subst (λ (b : Bounds). b.lo <ℤ b.hi) (sym same) (node_wide n lt term)

  -- the column of a selector
  pub selector_wide : (c z pair : ℕ) → c < length stands → stand_at stands c ≡ stand.Selector z pair → IsWide (sides_of columns) c
  selector_wide c z pair there at =
      let its = subst (λ (s : Stand). IsColumnOf g stands s (matched.column_at columns c)) at (are.columns c there) in
      let same = side_is c there ∙ ap (λ (c : IpColumn). c.sides) its.is in
      subst (λ (b : Bounds). b.lo <ℤ b.hi) (sym same) (omega (arith, ints))

  abbrev IsWideIf : Coef → Type 0
  IsWideIf u = u.column < length stands → IsWide (sides_of columns) u.column

  placed_wide : (ts : List Term) → All (λ (t : Term). (t.node < size g) × (is_term (node g t.node) ≡ true)) ts → All IsWideIf (map (λ (t : Term). coef t.factor (column_at g stands t.node)) ts)
  placed_wide [] h = λ j d lt. absurd (omega (arith, lt))
  placed_wide (t ∷ ts) h =
      let good = h 0 t (omega arith) in
      All_cons IsWideIf (coef t.factor (column_at g stands t.node)) (map (λ (t : Term). coef t.factor (column_at g stands t.node)) ts) (λ there. term_wide t.node good.0 good.1 there) (placed_wide ts (λ j d lt. h (suc j) d (omega (arith, lt))))

  one_good : (f : ℤ) (z : ℕ) → z < size g → is_term (node g z) ≡ true → All (λ (t : Term). (t.node < size g) × (is_term (node g t.node) ≡ true)) (record { factor = f; node = z } ∷ [])
  one_good f z lt e = All_cons (λ (t : Term). (t.node < size g) × (is_term (node g t.node) ≡ true)) (record { factor = f; node = z }) [] (lt, e) (λ j d less. absurd (omega (arith, less)))

  module _ (k : ℕ) (lt : k < size g) where
    own_good : (m : Formula) → m ≡ node g k → is_term m ≡ true → All (λ (t : Term). (t.node < size g) × (is_term (node g t.node) ≡ true)) (record { factor = pos 1; node = k } ∷ [])
    own_good m e t = one_good (pos 1) k lt (subst (λ (f : Formula). is_term f ≡ true) e t)

    good_by : (m : Formula) → m ≡ node g k → Fits g (range g k) m → All (λ (t : Term). (t.node < size g) × (is_term (node g t.node) ≡ true)) (terms_of k m)
    good_by FalseNode e fits = λ j d less. absurd (omega (arith, less))
    good_by TrueNode e fits = λ j d less. absurd (omega (arith, less))
    good_by (NotNode truth) e fits = one_good (negsuc 0) truth (fits.kids 0 0 (omega arith)) (plain_term (node g truth) fits.typed)
    good_by (LinNode c terms) e fits = λ j d less. (terms_below (size g) (size g) terms (omega arith) fits.kids j d less, fits.typed.kinds j d less)
    good_by (PresNode column) e fits = own_good (PresNode column) e refl
    good_by (CellNode column) e fits = own_good (CellNode column) e refl
    good_by (PosNode number) e fits = own_good (PosNode number) e refl
    good_by (AndNode kids) e fits = own_good (AndNode kids) e refl
    good_by (OrNode kids) e fits = own_good (OrNode kids) e refl
    good_by (GuardNode truth number) e fits = own_good (GuardNode truth number) e refl
    good_by (AbsNode number) e fits = own_good (AbsNode number) e refl
    good_by (TotNode number) e fits = own_good (TotNode number) e refl
    good_by (MinNode pairs) e fits = own_good (MinNode pairs) e refl

    key_wide : All IsWideIf (columns_of g stands (key.Node k)).terms
    key_wide = subst (All IsWideIf) (sym (key_placed g stands k)) (placed_wide (terms_of k (node g k)) (good_by (node g k) refl (fold.fits k lt)))

  -- a node of the list, or a selector
  abbrev pub IsNamed : Key → Type 0
  IsNamed (key.Node k) = k < size g
  IsNamed (key.Selector z pair) = Unit {0}

  by_key : (k : Key) (u : Coef) → IsNamed k → Contains (columns_of g stands k).terms u → u.column < length stands → IsWide (sides_of columns) u.column
  by_key (key.Node k) u named has there = all_has IsWideIf (columns_of g stands (key.Node k)).terms u (key_wide k named) has there
  by_key (key.Selector z pair) u named has there =
      let at = selector_column g stands z pair u has in
      let it : column_of stands (stand.Selector z pair) < length stands = subst (λ (c : ℕ). c < length stands) (sym at) there in
      selector_wide u.column z pair there (ap (stand_at stands) (sym at) ∙ stand_there stands (stand.Selector z pair) it)

  -- no column of such a row has one number alone
  pub row_free : (r : Form) (row : IpRow) → All (λ (p : Piece). IsNamed p.key) r.pieces → IsRowOf g stands r row → fixed_sum (sides_of columns) row.terms ≡ pos 0
  row_free r row named is =
      fixed_none (sides_of columns) row.terms (λ j d lt.
      let (p, in_pieces, u, in_terms, same) = row_named g stands r row is (get_or row.terms j d) (has_at row.terms j d lt) in
      let there : u.column < length stands = subst (λ (c : ℕ). c < length stands) (sym same) (is.formed.there j d lt) in
      subst (IsWide (sides_of columns)) same (by_key p.key u (all_has (λ (p : Piece). IsNamed p.key) r.pieces p named in_pieces) in_terms there))

  pub fair_free : (r : Form) (row : IpRow) → IsFair g r → IsRowOf g stands r row → fixed_sum (sides_of columns) row.terms ≡ pos 0
  fair_free r row fair is = row_free r row (λ j d lt. let names = fair.nodes j d lt in subst IsNamed (sym names.is) (asked_there g names.node names.asked)) is

  module _ (y : ℕ) (lt : y < size g) where
    aid_there : (m : Formula) → m ≡ node g y → aid_of g m < size g
    aid_there m e = aid_less g fold y (aid_of g m) lt (ap (aid_of g) e)

    named_forms : (m : Formula) → m ≡ node g y → Fits g (range g y) m → NamesOnly IsNamed (forms_of g y m)
    named_forms (PosNode n) e fits = names_pos IsNamed (range g n) n y (fits.kids 0 0 (omega arith)) lt
    named_forms (GuardNode t n) e fits = names_guard IsNamed (range g n) t n y (fits.kids 0 0 (omega arith)) (fits.kids 1 0 (omega arith)) lt
    named_forms (AbsNode n) e fits = names_abs IsNamed (range g n) n (aid_of g (AbsNode n)) y (fits.kids 0 0 (omega arith)) (aid_there (AbsNode n) e) lt
    named_forms (TotNode n) e fits = names_tot IsNamed n y (fits.kids 0 0 (omega arith)) lt
    named_forms (MinNode pairs) e fits = names_min IsNamed (range g y) (narrow_span (range g) pairs) (range g) (aid_of g (MinNode pairs)) y pairs fits.kids (aid_there (MinNode pairs) e) lt (λ j less. tt)
    named_forms (AndNode kids) e fits = names_and IsNamed kids y fits.kids lt
    named_forms (OrNode kids) e fits = names_or IsNamed kids y fits.kids lt
    named_forms FalseNode e fits = tt
    named_forms TrueNode e fits = tt
    named_forms (PresNode column) e fits = tt
    named_forms (CellNode column) e fits = tt
    named_forms (NotNode truth) e fits = tt
    named_forms (LinNode c terms) e fits = tt

    pub node_free : (r : Form) (row : IpRow) → Contains (forms_of g y (node g y)) r → IsRowOf g stands r row → fixed_sum (sides_of columns) row.terms ≡ pos 0
    node_free r row has is = row_free r row (names_has IsNamed (forms_of g y (node g y)) r (named_forms (node g y) refl (fold.fits y lt)) has) is
