-- A point over d of a matched program and the point of its world differ at selectors alone, and the latter is a whole point.
use Rattle.std.proofs.Common.{◌≡◌, ◌∙◌, sym, ap, subst, refl, ℕ, zero, suc, ◌<◌, ◌⊎◌, inl, inr, ℤ, pos, negsuc, ◌+ℤ◌, ◌*ℤ◌, ◌≤ℤ◌, List, [], ◌∷◌, map, length, get_or, All, Contains, arith}
use Rattle.std.proofs.lemmas.Int.{ints}
use Rattle.ip_rows.specs.declared.rows.Coef.{Coef}
use Rattle.ip_rows.specs.declared.rows.IpRow.{IpRow}
use Rattle.ip_rows.specs.declared.program.Program.{Program}
use Rattle.ip_rows.specs.Programs.{Holds, IsWellFormed, number_at, sum_at}
use Rattle.ip_rows.specs.Rows.{AreTerms}
use Rattle.prov_arena.specs.declared.part.Term.{Term}
use Rattle.prov_arena.specs.Formulas.{Formula, FalseNode, TrueNode, PresNode, CellNode, PosNode, NotNode, AndNode, OrNode, LinNode, GuardNode, AbsNode, TotNode, MinNode}
use Rattle.prov_fold.specs.Graphs.{Graph, node, size}
use Rattle.prov_fold.specs.Folds.{IsFold}
use Rattle.prov_fold.specs.Meanings.{values_in}
use Rattle.prov_fold.proofs.SameLemmas.{All_cons}
use Rattle.bool_encode.specs.declared.form.Key.{Key}
use Rattle.bool_encode.specs.declared.form.Key.TheVariants as key
use Rattle.bool_encode.specs.declared.stand.Stand.{Stand}
use Rattle.bool_encode.specs.declared.stand.Stand.TheVariants as stand
use Rattle.bool_encode.specs.Forms.{Form, form_at, Hold}
use Rattle.bool_encode.specs.Stands.{column_of, stand_at}
use Rattle.bool_encode.specs.Columns.{coef, column_at as node_column, columns_by, reading, stand_by, IsOnMap}
use Rattle.bool_encode.specs.Points.{HasPairAt, number_by, point_of}
use Rattle.bool_encode.specs.Rows.{HoldsOver}
use Rattle.bool_encode.proofs.Each.{All_none}
use Rattle.bool_encode.proofs.Numbers.{cancel_le, times_one, zero_d}
use Rattle.bool_encode.proofs.StandLemmas.{column_is}
use Rattle.cmp_encode.specs.Tables.{forms_of}
use Rattle.whole_points.specs.Matched.{IsMatched, IsColumnOf, IsOwn, IsSelector, NamesSelector, column_at, world_count}
use Rattle.whole_points.proofs.AtWorlds.{least_hold, q_stand, world_between}
use Rattle.whole_points.proofs.WorldNumbers.{at_any, world_less}
use Rattle.whole_points.specs.Points.{AgreeOver, IsNoSelector, IsPointOver, IsWholePoint, IsWorldOver, IsWorldWithin}
use Rattle.whole_points.proofs.Places.{AreThere, own_on, own_reads, stand_there}
use Rattle.whole_points.proofs.Rights.{factor_step, right_at, within}

-- ---- what columns stand for

plain_stand : (z : ℕ) (m : Formula) → IsNoSelector (stand_by z m)
plain_stand z FalseNode = tt
plain_stand z TrueNode = tt
plain_stand z (PresNode c) = tt
plain_stand z (CellNode c) = tt
plain_stand z (PosNode n) = tt
plain_stand z (NotNode t) = tt
plain_stand z (AndNode kids) = tt
plain_stand z (OrNode kids) = tt
plain_stand z (LinNode c terms) = tt
plain_stand z (GuardNode t n) = tt
plain_stand z (AbsNode n) = tt
plain_stand z (TotNode n) = tt
plain_stand z (MinNode pairs) = tt

module _ (g : Graph) (stands : List Stand) where
  abbrev pub Plain : List Coef → Type 0
  Plain terms = All (λ (t : Coef). IsNoSelector (stand_at stands t.column)) terms

  plain_column : (s : Stand) → IsNoSelector s → column_of stands s < length stands → IsNoSelector (stand_at stands (column_of stands s))
  plain_column s plain lt = subst IsNoSelector (sym (stand_there stands s lt)) plain

  plain_node : (k : ℕ) → node_column g stands k < length stands → IsNoSelector (stand_at stands (node_column g stands k))
  plain_node k lt = plain_column (stand_by k (node g k)) (plain_stand k (node g k)) lt

  one_plain : (f : ℤ) (column : ℕ) → IsNoSelector (stand_at stands column) → Plain (coef f column ∷ [])
  one_plain f column plain = All_cons (λ (t : Coef). IsNoSelector (stand_at stands t.column)) (coef f column) [] plain (All_none (λ (t : Coef). IsNoSelector (stand_at stands t.column)))

  terms_plain : (terms : List Term) → AreThere stands (map (λ (t : Term). coef t.factor (node_column g stands t.node)) terms) → Plain (map (λ (t : Term). coef t.factor (node_column g stands t.node)) terms)
  terms_plain [] there = All_none (λ (t : Coef). IsNoSelector (stand_at stands t.column))
  terms_plain (t ∷ terms) there =
      All_cons (λ (t : Coef). IsNoSelector (stand_at stands t.column)) (coef t.factor (node_column g stands t.node)) (map (λ (t : Term). coef t.factor (node_column g stands t.node)) terms) (plain_node t.node (there 0 (coef (pos 0) 0) (omega arith)))
      (terms_plain terms (λ j a l. there (suc j) a (omega arith)))

  once_plain : (z : ℕ) (m : Formula) → column_of stands (stand_by z m) < length stands → Plain (coef (pos 1) (column_of stands (stand_by z m)) ∷ [])
  once_plain z m lt = one_plain (pos 1) (column_of stands (stand_by z m)) (plain_column (stand_by z m) (plain_stand z m) lt)

  pub columns_plain : (z : ℕ) (m : Formula) → AreThere stands (columns_by g stands z m).terms → Plain (columns_by g stands z m).terms
  columns_plain z FalseNode there = All_none (λ (t : Coef). IsNoSelector (stand_at stands t.column))
  columns_plain z TrueNode there = All_none (λ (t : Coef). IsNoSelector (stand_at stands t.column))
  columns_plain z (NotNode t) there = one_plain (negsuc 0) (node_column g stands t) (plain_node t (there 0 (coef (pos 0) 0) (omega arith)))
  columns_plain z (LinNode c terms) there = terms_plain terms there
  columns_plain z (PresNode c) there = once_plain z (PresNode c) (there 0 (coef (pos 0) 0) (omega arith))
  columns_plain z (CellNode c) there = once_plain z (CellNode c) (there 0 (coef (pos 0) 0) (omega arith))
  columns_plain z (PosNode n) there = once_plain z (PosNode n) (there 0 (coef (pos 0) 0) (omega arith))
  columns_plain z (AndNode kids) there = once_plain z (AndNode kids) (there 0 (coef (pos 0) 0) (omega arith))
  columns_plain z (OrNode kids) there = once_plain z (OrNode kids) (there 0 (coef (pos 0) 0) (omega arith))
  columns_plain z (GuardNode t n) there = once_plain z (GuardNode t n) (there 0 (coef (pos 0) 0) (omega arith))
  columns_plain z (AbsNode n) there = once_plain z (AbsNode n) (there 0 (coef (pos 0) 0) (omega arith))
  columns_plain z (TotNode n) there = once_plain z (TotNode n) (there 0 (coef (pos 0) 0) (omega arith))
  columns_plain z (MinNode pairs) there = once_plain z (MinNode pairs) (there 0 (coef (pos 0) 0) (omega arith))

-- either the terms name a selector, or none
abbrev pub Named : List Stand → List Coef → Type 0
Named stands terms = (z : ℕ) × (pair : ℕ) × NamesSelector stands z pair terms

later_named : (stands : List Stand) (t : Coef) (terms : List Coef) → Named stands terms → Named stands (t ∷ terms)
later_named stands t terms (z, pair, n) = (z, pair, (n.0, (suc n.1.0, omega (arith, n.1.1), n.1.2), n.2))

named_step : (stands : List Stand) (t : Coef) (terms : List Coef) (s : Stand) → stand_at stands t.column ≡ s → Named stands terms ⊎ All (λ (t : Coef). IsNoSelector (stand_at stands t.column)) terms → Named stands (t ∷ terms) ⊎ All (λ (t : Coef). IsNoSelector (stand_at stands t.column)) (t ∷ terms)
named_step stands t terms (stand.Selector z pair) e rest = inl (z, pair, (t, (0, omega arith, refl), e))
named_step stands t terms (stand.World c) e (inl n) = inl (later_named stands t terms n)
named_step stands t terms (stand.World c) e (inr p) = inr (All_cons (λ (t : Coef). IsNoSelector (stand_at stands t.column)) t terms (subst IsNoSelector (sym e) tt) p)
named_step stands t terms (stand.Node z) e (inl n) = inl (later_named stands t terms n)
named_step stands t terms (stand.Node z) e (inr p) = inr (All_cons (λ (t : Coef). IsNoSelector (stand_at stands t.column)) t terms (subst IsNoSelector (sym e) tt) p)

named_or : (stands : List Stand) (terms : List Coef) → Named stands terms ⊎ All (λ (t : Coef). IsNoSelector (stand_at stands t.column)) terms
named_or stands [] = inr (All_none (λ (t : Coef). IsNoSelector (stand_at stands t.column)))
named_or stands (t ∷ terms) = named_step stands t terms (stand_at stands t.column) refl (named_or stands terms)

hold_in : (d : ℕ) (f : Key → ℤ) (forms : List Form) (r : Form) → Hold d f forms → Contains forms r → pos 0 ≤ℤ form_at d f r
hold_in d f [] r h (k, lt, is) = absurd (omega (arith, lt))
hold_in d f (s ∷ forms) r h (zero, lt, is) = subst (λ (r : Form). pos 0 ≤ℤ form_at d f r) is h.0
hold_in d f (s ∷ forms) r h (suc k, lt, is) = hold_in d f forms r h.1 (k, omega (arith, lt), is)

row_by : (s f l m : ℤ) → s ≡ f +ℤ l → l ≡ m → pos 0 ≤ℤ f → m ≤ℤ s
row_by s f l m e is h = omega (arith, ints, e, is, h)

module _ (program : Program) (g : Graph) (stands : List Stand) (world : List ℤ) (d : ℕ) (point : List ℤ) (fold : IsFold g) (matched : IsMatched program g stands) (over : IsPointOver d program point) (long : length world ≡ world_count stands) (same : IsWorldOver d stands world point) where
  abbrev pub Q : List ℤ
  Q = point_of g stands world

  abbrev V : ℕ → ℤ
  V = values_in g world

  right : (z : ℕ) → z < size g → IsOnMap g stands (key.Node z) → reading g stands d point (key.Node z) ≡ V z *ℤ pos d
  right z lt on = right_at program g stands world d point fold matched over long same z lt on

  world_in : IsWorldWithin program stands world
  world_in = within program g stands world d point fold matched over long same

  q_at : (number : ℕ) (s : Stand) → number < length stands → stand_at stands number ≡ s → number_at Q number ≡ number_by g world V s
  q_at number s lt is = q_stand program g stands world fold matched world_in number s lt is

  -- ---- they agree but at selectors

  agree_by : (number : ℕ) → number < length stands → (s : Stand) → stand_at stands number ≡ s → IsNoSelector s → number_at point number ≡ number_at Q number *ℤ pos d
  agree_by number lt (stand.World c) is plain =
      let less = world_less program g stands world matched number c lt is in
      same number less ∙ ap (λ (x : ℤ). x *ℤ pos d) (sym (q_at number (stand.World number) lt (matched.begins.first number less)))
  agree_by number lt (stand.Node z) is plain =
      let own : IsOwn g z (column_at program.columns number) = subst (λ (s : Stand). IsColumnOf g stands s (column_at program.columns number)) is (matched.columns number lt) in
      let at : number ≡ column_of stands (stand.Node z) = column_is stands number (stand.Node z) matched.map lt is in
      let on = own_on g stands z own.kind (subst (λ k. k < length stands) at lt) in
      ap (number_at point) at ∙ sym (own_reads g stands d point z own.kind) ∙ right z own.there on ∙ ap (λ (x : ℤ). x *ℤ pos d) (sym (q_at number (stand.Node z) lt is))
  agree_by number lt (stand.Selector z pair) is plain = absurd plain

  pub agree : AgreeOver d stands point Q
  agree = λ number lt plain. agree_by number lt (stand_at stands number) refl plain

  sums_agree : (terms : List Coef) → AreThere stands terms → Plain g stands terms → sum_at point terms ≡ sum_at Q terms *ℤ pos d
  sums_agree [] there plain = sym (zero_d d)
  sums_agree (t ∷ terms) there plain =
      let here = agree t.column (there 0 t (omega arith)) (plain 0 t (omega arith)) in
      let rest = sums_agree terms (λ j a l. there (suc j) a (omega arith)) (λ j a l. plain (suc j) a (omega arith)) in
      (λ i. t.factor *ℤ here i +ℤ rest i) ∙ factor_step t.factor (number_at Q t.column) (sum_at Q terms) d

  hold_by : (z pair : ℕ) → z < size g → IsOnMap g stands (key.Node z) → (m : Formula) → node g z ≡ m → HasPairAt pair m → Hold 1 (reading g stands 1 Q) (forms_of g z (node g z))
  hold_by z pair lt on (MinNode pairs) e own = least_hold program g stands world fold matched world_in z lt on pairs e
  hold_by z pair lt on FalseNode e own = absurd own
  hold_by z pair lt on TrueNode e own = absurd own
  hold_by z pair lt on (PresNode c) e own = absurd own
  hold_by z pair lt on (CellNode c) e own = absurd own
  hold_by z pair lt on (PosNode n) e own = absurd own
  hold_by z pair lt on (NotNode t) e own = absurd own
  hold_by z pair lt on (AndNode kids) e own = absurd own
  hold_by z pair lt on (OrNode kids) e own = absurd own
  hold_by z pair lt on (LinNode c terms) e own = absurd own
  hold_by z pair lt on (GuardNode t n) e own = absurd own
  hold_by z pair lt on (AbsNode n) e own = absurd own
  hold_by z pair lt on (TotNode n) e own = absurd own

  -- ---- each row holds

  module _ (row : IpRow) (in_program : Contains program.rows row) (formed : AreTerms (length program.columns) row.terms) (held : HoldsOver d point row) where
    there : AreThere stands row.terms
    there = λ j a l. let t = formed.there j a l in let count = matched.count in omega (arith, t, count)

    plain_holds : Plain g stands row.terms → Holds Q row
    plain_holds plain = cancel_le row.least (sum_at Q row.terms) d over.some (subst (λ (x : ℤ). (row.least *ℤ pos d) ≤ℤ x) (sums_agree row.terms there plain) held)

    least_holds : (z pair : ℕ) → NamesSelector stands z pair row.terms → Holds Q row
    least_holds z pair (t, in_terms, at) =
        let t_there : t.column < length stands = subst (λ (t : Coef). t.column < length stands) in_terms.2 (there in_terms.0 t in_terms.1) in
        let own : IsSelector g stands z pair (column_at program.columns t.column) = subst (λ (s : Stand). IsColumnOf g stands s (column_at program.columns t.column)) at (matched.columns t.column t_there) in
        let form = matched.selectors row z pair in_program (t, in_terms, at) in
        let hold = hold_in 1 (reading g stands 1 Q) (forms_of g z (node g z)) form.0 (hold_by z pair own.there own.beside (node g z) refl own.has) form.1 in
        row_by (sum_at Q row.terms) (form_at 1 (reading g stands 1 Q) form.0) (row.least *ℤ pos 1) row.least (form.2.same 1 Q) (times_one row.least) hold

    row_holds : Named stands row.terms ⊎ Plain g stands row.terms → Holds Q row
    row_holds (inl (z, pair, names)) = least_holds z pair names
    row_holds (inr plain) = plain_holds plain

  -- the point of the world is a whole point
  pub whole : IsWellFormed program → IsWholePoint program Q
  whole formed = record {
    between = world_between program g stands world fold matched world_in;
    rows = λ k a lt. row_holds (get_or program.rows k a) (k, lt, at_any program.rows k a (get_or program.rows k a) lt) (formed.rows k a lt) (over.rows k a lt) (named_or stands (get_or program.rows k a).terms);
  }
