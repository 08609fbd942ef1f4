-- Only the rows of a Min name its selectors.
use Rattle.std.proofs.Common.{◌≡◌, ◌∙◌, sym, ap, subst, refl, ℕ, zero, suc, ◌<◌, if◌then◌else◌, ⊎_elim, Bool, true, false, List, [], ◌∷◌, map, flat_map, length, All, Contains, arith}
use Rattle.std.proofs.lemmas.List.Elements.{Contains-append_cases}
use Rattle.ip_rows.specs.declared.rows.Coef.{Coef}
use Rattle.ip_rows.specs.declared.rows.IpRow.{IpRow}
use Rattle.prov_arena.specs.declared.part.Term.{Term}
use Rattle.prov_arena.specs.Formulas.{Formula, FalseNode, TrueNode, PresNode, CellNode, PosNode, NotNode, AndNode, OrNode, LinNode, GuardNode, AbsNode, TotNode, MinNode}
use Rattle.prov_fold.specs.Graphs.{Graph, node, range}
use Rattle.prov_fold.proofs.SameLemmas.{All_cons}
use Rattle.bool_encode.specs.declared.form.Key.{Key}
use Rattle.bool_encode.specs.declared.form.Key.TheVariants as key
use Rattle.bool_encode.specs.declared.form.Piece.{Piece}
use Rattle.bool_encode.specs.declared.stand.Stand.{Stand}
use Rattle.bool_encode.specs.declared.stand.Stand.TheVariants as stand
use Rattle.bool_encode.specs.Columns.{coef, column_at, columns_of, stand_by}
use Rattle.bool_encode.specs.Forms.{Form}
use Rattle.bool_encode.specs.Rows.{IsRowOf}
use Rattle.bool_encode.specs.Stands.{column_of, stand_at}
use Rattle.bool_encode.proofs.FormLemmas.{NamesOnly, names_and, names_or}
use Rattle.cmp_encode.specs.Spans.{narrow_span}
use Rattle.cmp_encode.specs.Tables.{aid_of, forms_of}
use Rattle.cmp_encode.proofs.Named.{names_pos, names_guard, names_tot, names_abs}
use Rattle.whole_points.specs.Matched.{IsRowIn, NamesSelector}
use Rattle.whole_points.proofs.LeastNames.{names_min}
use Rattle.whole_points.proofs.Places.{stand_there}
use Rattle.used_columns.specs.Seeds.{key_terms}
use Rattle.program_rows.specs.Fair.{IsFair, NamesNode}
use Rattle.program_rows.proofs.Joining.{key_placed}
use Rattle.program_rows.proofs.Laying.{all_has}
use Rattle.bool_encode.proofs.RowSizes.{row_named}

-- ---- what the forms of a node name

-- a node, or a selector of this node
abbrev pub OwnKey : ℕ → Key → Type 0
OwnKey y (key.Node k) = Unit {0}
OwnKey y (key.Selector w pair) = w ≡ y

kids_own : (y : ℕ) (kids : List ℕ) → All (λ (k : ℕ). OwnKey y (key.Node k)) kids
kids_own y kids = λ j d lt. tt

names_by : (g : Graph) (y : ℕ) (m : Formula) → NamesOnly (OwnKey y) (forms_of g y m)
names_by g y (PosNode n) = names_pos (OwnKey y) (range g n) n y tt tt
names_by g y (GuardNode t n) = names_guard (OwnKey y) (range g n) t n y tt tt tt
names_by g y (AbsNode n) = names_abs (OwnKey y) (range g n) n (aid_of g (AbsNode n)) y tt tt tt
names_by g y (TotNode n) = names_tot (OwnKey y) n y tt tt
names_by g y (MinNode pairs) = names_min (OwnKey y) (range g y) (narrow_span (range g) pairs) (range g) (aid_of g (MinNode pairs)) y pairs (λ j d lt. tt) tt tt (λ j lt. refl)
names_by g y (AndNode kids) = names_and (OwnKey y) kids y (kids_own y kids) tt
names_by g y (OrNode kids) = names_or (OwnKey y) kids y (kids_own y kids) tt
names_by g y FalseNode = tt
names_by g y TrueNode = tt
names_by g y (PresNode column) = tt
names_by g y (CellNode column) = tt
names_by g y (NotNode truth) = tt
names_by g y (LinNode c terms) = tt

pub names_has : (P : Key → Type 0) (forms : List Form) (r : Form) → NamesOnly P forms → Contains forms r → All (λ (p : Piece). P p.key) r.pieces
names_has P [] r h (k, lt, e) = absurd (omega (arith, lt))
names_has P (x ∷ forms) r h (zero, lt, e) = subst (λ (f : Form). All (λ (p : Piece). P p.key) f.pieces) e h.0
names_has P (x ∷ forms) r h (suc k, lt, e) = names_has P forms r h.1 (k, omega arith, e)

-- ---- the columns of nodes

stand_by_none : (z : ℕ) (m : Formula) (y pair : ℕ) → stand_by z m ≡ stand.Selector y pair → ⊥
stand_by_none z (PresNode column) y pair e = cc
stand_by_none z (CellNode column) y pair e = cc
stand_by_none z FalseNode y pair e = cc
stand_by_none z TrueNode y pair e = cc
stand_by_none z (PosNode n) y pair e = cc
stand_by_none z (NotNode truth) y pair e = cc
stand_by_none z (AndNode kids) y pair e = cc
stand_by_none z (OrNode kids) y pair e = cc
stand_by_none z (LinNode c terms) y pair e = cc
stand_by_none z (GuardNode t n) y pair e = cc
stand_by_none z (AbsNode n) y pair e = cc
stand_by_none z (TotNode n) y pair e = cc
stand_by_none z (MinNode pairs) y pair e = cc

module _ (g : Graph) (stands : List Stand) where
  abbrev IsNodeColumn : Coef → Type 0
  IsNodeColumn u = (n : ℕ) × (u.column ≡ column_at g stands n)

  placed_columns : (ts : List Term) → All IsNodeColumn (map (λ (t : Term). coef t.factor (column_at g stands t.node)) ts)
  placed_columns [] = λ j d lt. absurd (omega (arith, lt))
  placed_columns (t ∷ ts) = All_cons IsNodeColumn (coef t.factor (column_at g stands t.node)) (map (λ (t : Term). coef t.factor (column_at g stands t.node)) ts) (t.node, refl) (placed_columns ts)

  node_columns : (k : ℕ) → All IsNodeColumn (columns_of g stands (key.Node k)).terms
  node_columns k = subst (All IsNodeColumn) (sym (key_placed g stands k)) (placed_columns (key_terms g (key.Node k)))

  node_none : (k : ℕ) (u : Coef) (z pair : ℕ) → Contains (columns_of g stands (key.Node k)).terms u → u.column < length stands → stand_at stands u.column ≡ stand.Selector z pair → ⊥
  node_none k u z pair has lt is =
      let at = all_has IsNodeColumn (columns_of g stands (key.Node k)).terms u (node_columns k) has in
      let there : column_at g stands at.0 < length stands = subst (λ (c : ℕ). c < length stands) at.1 lt in
      stand_by_none at.0 (node g at.0) z pair (sym (stand_there stands (stand_by at.0 (node g at.0)) there) ∙ ap (stand_at stands) (sym at.1) ∙ is)

  pub selector_column : (w i : ℕ) (u : Coef) → Contains (columns_of g stands (key.Selector w i)).terms u → column_of stands (stand.Selector w i) ≡ u.column
  unfolding columns_of
  selector_column w i u (zero, lt, e) = ap (λ (t : Coef). t.column) e
  selector_column w i u (suc k, lt, e) = absurd (omega (arith, lt))

  node_of : Stand → ℕ
  node_of (stand.Selector w i) = w
  node_of (stand.Node k) = k
  node_of (stand.World c) = c

  selector_own : (w i : ℕ) (u : Coef) (z pair : ℕ) → Contains (columns_of g stands (key.Selector w i)).terms u → u.column < length stands → stand_at stands u.column ≡ stand.Selector z pair → w ≡ z
  unfolding node_of
  selector_own w i u z pair has lt is =
      let at = selector_column w i u has in
      let there : column_of stands (stand.Selector w i) < length stands = subst (λ (c : ℕ). c < length stands) (sym at) lt in
      ap node_of (sym (stand_there stands (stand.Selector w i) there) ∙ ap (stand_at stands) at ∙ is)

  -- a form of nodes alone has no selector in its row
  pub fair_none : (r : Form) (row : IpRow) (z pair : ℕ) → IsFair g r → IsRowOf g stands r row → NamesSelector stands z pair row.terms → ⊥
  fair_none r row z pair fair is (t, has, at) =
      let (p, in_pieces, u, in_terms, same) = row_named g stands r row is t has in
      let names = all_has (NamesNode g) r.pieces p fair.nodes in_pieces in
      let lt : u.column < length stands = subst (λ (c : ℕ). c < length stands) (sym same) (all_has (λ (c : Coef). c.column < length stands) row.terms t is.formed.there has) in
      node_none names.node u z pair (subst (λ (k : Key). Contains (columns_of g stands k).terms u) names.is in_terms) lt (ap (stand_at stands) same ∙ at)

  by_key : (y : ℕ) (k : Key) (u : Coef) (z pair : ℕ) → OwnKey y k → Contains (columns_of g stands k).terms u → u.column < length stands → stand_at stands u.column ≡ stand.Selector z pair → y ≡ z
  by_key y (key.Node k) u z pair own has lt is = absurd (node_none k u z pair has lt is)
  by_key y (key.Selector w i) u z pair own has lt is = sym own ∙ selector_own w i u z pair has lt is

  -- and a form of a node has those of the node alone
  pub own_selector : (y : ℕ) (r : Form) (row : IpRow) (z pair : ℕ) → Contains (forms_of g y (node g y)) r → IsRowOf g stands r row → NamesSelector stands z pair row.terms → IsRowIn g stands z row
  own_selector y r row z pair has_form is (t, has, at) =
      let (p, in_pieces, u, in_terms, same) = row_named g stands r row is t has in
      let own = all_has (λ (p : Piece). OwnKey y p.key) r.pieces p (names_has (OwnKey y) (forms_of g y (node g y)) r (names_by g y (node g y)) has_form) in_pieces in
      let lt : u.column < length stands = subst (λ (c : ℕ). c < length stands) (sym same) (all_has (λ (c : Coef). c.column < length stands) row.terms t is.formed.there has) in
      let same_node = by_key y p.key u z pair own in_terms lt (ap (stand_at stands) same ∙ at) in
      (r, subst (λ (n : ℕ). Contains (forms_of g n (node g n)) r) same_node has_form, is)

pub flat_from : (f : ℕ → List Form) (xs : List ℕ) (r : Form) → Contains (flat_map f xs) r → (y : ℕ) × Contains (f y) r
flat_from f [] r (k, lt, e) = absurd (omega (arith, lt))
flat_from f (x ∷ xs) r has = ⊎_elim (λ (h : Contains (f x) r). (x, h)) (λ (h : Contains (flat_map f xs) r). flat_from f xs r h) (Contains-append_cases (f x) (flat_map f xs) r has)

pub marked_has : (forms : List Form) (r : Form) (b : Bool) → Contains (if b then forms else []) r → Contains forms r
marked_has forms r true has = has
marked_has forms r false (k, lt, e) = absurd (omega (arith, lt))
