-- Where each seed of a form is on the map, like columns cancel at each column that is not there.
use Rattle.std.proofs.Common.{◌≡◌, ◌≢◌, ◌∙◌, sym, ap, subst, refl, ℕ, ◌<◌, ◌==◌, ℤ, pos, negsuc, ◌+ℤ◌, ◌*ℤ◌, if◌then◌else◌, Bool, true, false, List, [], ◌∷◌, ◌++◌, map, length, All, arith}
use Rattle.std.proofs.lemmas.Int.{ints}
use Rattle.std.proofs.lemmas.Bool.Decides.{Decides-eqb}
use Rattle.ip_rows.specs.declared.rows.Coef.{Coef}
use Rattle.prov_arena.specs.declared.part.Term.{Term}
use Rattle.prov_arena.specs.Formulas.{Formula, FalseNode, TrueNode, PresNode, CellNode, PosNode, NotNode, AndNode, OrNode, LinNode, GuardNode, AbsNode, TotNode, MinNode}
use Rattle.prov_fold.specs.Graphs.{Graph, node, IsTyped}
use Rattle.prov_fold.specs.Folds.{IsFold}
use Rattle.prov_fold.specs.Kinds.{is_term}
use Rattle.prov_fold.specs.Rules.{factor_at, scaled}
use Rattle.prov_fold.specs.Sums.{total_by}
use Rattle.prov_fold.proofs.SameLemmas.{All_head, All_tail, All_cons}
use Rattle.prov_fold.proofs.SpreadLemmas.{total_append}
use Rattle.bool_encode.specs.declared.form.Key.{Key}
use Rattle.bool_encode.specs.declared.form.Key.TheVariants as key
use Rattle.bool_encode.specs.declared.form.Piece.{Piece}
use Rattle.bool_encode.specs.declared.stand.Stand.{Stand}
use Rattle.bool_encode.specs.Columns.{coef, column_at, columns_by, columns_of, stand_by, IsOnMap}
use Rattle.bool_encode.specs.Rows.{IsJoinedOn, column_factor, factor_there}
use Rattle.bool_encode.specs.Scraps as scraps
use Rattle.bool_encode.specs.Stands.{column_of}
use Rattle.used_columns.specs.Seeds.{terms_of, key_terms, form_terms, IsSeed}
use Rattle.used_columns.proofs.Linear.{IsNodePiece, sums_same}
use Rattle.used_columns.proofs.Readings.{plain_term}

all_none : {A : Type 0} (P : A → Type 0) → All P []
all_none P j d lt = absurd (omega (arith, lt))

all_both : {A : Type 0} (P : A → Type 0) (xs ys : List A) → All P xs → All P ys → All P (xs ++ ys)
all_both P [] ys h k = k
all_both P (x ∷ xs) ys h k = All_cons P x (xs ++ ys) (All_head P x xs h) (all_both P xs ys (All_tail P x xs h) k)

zero_plus : (a : ℤ) → pos 0 +ℤ a ≡ a
zero_plus a = omega (arith, ints)

-- ---- seeds may stand in terms

some_step : (P : ℕ → Type 0) (t : Term) (ts : List Term) (z : ℕ) (same : Bool) → (t.node == z) ≡ same → P t.node → (factor_at ts z ≢ pos 0 → P z) → (if same then t.factor else pos 0) +ℤ factor_at ts z ≢ pos 0 → P z
some_step P t ts z true e p rest ne = subst P ((Decides-eqb t.node z).0 e) p
some_step P t ts z false e p rest ne = rest (λ is. ne (zero_plus (factor_at ts z) ∙ is))

-- a node whose factor is left is that of a term
pub node_in : (P : ℕ → Type 0) (ts : List Term) (z : ℕ) → All (λ (t : Term). P t.node) ts → factor_at ts z ≢ pos 0 → P z
node_in P [] z h ne = absurd (ne refl)
node_in P (t ∷ ts) z h ne = some_step P t ts z (t.node == z) refl (All_head (λ (t : Term). P t.node) t ts h) (node_in P ts z (All_tail (λ (t : Term). P t.node) t ts h)) ne

module _ (g : Graph) (fold : IsFold g) where
  abbrev Terms : List Term → Type 0
  Terms ts = All (λ (t : Term). is_term (node g t.node) ≡ true) ts

  one_term : (k : ℤ) (z : ℕ) → is_term (node g z) ≡ true → Terms (record { factor = k; node = z } ∷ [])
  one_term k z e = All_cons (λ (t : Term). is_term (node g t.node) ≡ true) (record { factor = k; node = z }) [] e (all_none (λ (t : Term). is_term (node g t.node) ≡ true))

  own_term : (z : ℕ) (m : Formula) → node g z ≡ m → is_term m ≡ true → Terms (record { factor = pos 1; node = z } ∷ [])
  own_term z m e is = one_term (pos 1) z (ap (λ (m : Formula). is_term m) e ∙ is)

  terms_by : (z : ℕ) (m : Formula) → node g z ≡ m → IsTyped g m → Terms (terms_of z m)
  terms_by z FalseNode e typed = all_none (λ (t : Term). is_term (node g t.node) ≡ true)
  terms_by z TrueNode e typed = all_none (λ (t : Term). is_term (node g t.node) ≡ true)
  terms_by z (NotNode truth) e typed = one_term (negsuc 0) truth (plain_term (node g truth) typed)
  terms_by z (LinNode c terms) e typed = typed.kinds
  terms_by z (PresNode column) e typed = own_term z (PresNode column) e refl
  terms_by z (CellNode column) e typed = own_term z (CellNode column) e refl
  terms_by z (PosNode number) e typed = own_term z (PosNode number) e refl
  terms_by z (AndNode kids) e typed = own_term z (AndNode kids) e refl
  terms_by z (OrNode kids) e typed = own_term z (OrNode kids) e refl
  terms_by z (GuardNode truth number) e typed = own_term z (GuardNode truth number) e refl
  terms_by z (AbsNode number) e typed = own_term z (AbsNode number) e refl
  terms_by z (TotNode number) e typed = own_term z (TotNode number) e refl
  terms_by z (MinNode pairs) e typed = own_term z (MinNode pairs) e refl

  scaled_terms : (k : ℤ) (ts : List Term) → Terms ts → Terms (scaled k ts)
  scaled_terms k [] h = all_none (λ (t : Term). is_term (node g t.node) ≡ true)
  scaled_terms k (t ∷ ts) h =
      All_cons (λ (u : Term). is_term (node g u.node) ≡ true) (record { factor = k *ℤ t.factor; node = t.node }) (scaled k ts) (All_head (λ (u : Term). is_term (node g u.node) ≡ true) t ts h)
      (scaled_terms k ts (All_tail (λ (u : Term). is_term (node g u.node) ≡ true) t ts h))

  piece_terms : (p : Piece) → IsNodePiece g p → Terms (scaled p.factor (key_terms g p.key))
  piece_terms p is = subst (λ (k : Key). Terms (scaled p.factor (key_terms g k))) (sym is.2) (scaled_terms p.factor (terms_of is.0 (node g is.0)) (terms_by is.0 (node g is.0) refl (fold.fits is.0 is.1).typed))

  pieces_terms : (pieces : List Piece) → All (IsNodePiece g) pieces → Terms (form_terms g pieces)
  pieces_terms [] h = all_none (λ (t : Term). is_term (node g t.node) ≡ true)
  pieces_terms (p ∷ pieces) h =
      all_both (λ (t : Term). is_term (node g t.node) ≡ true) (scaled p.factor (key_terms g p.key)) (form_terms g pieces) (piece_terms p (All_head (IsNodePiece g) p pieces h)) (pieces_terms pieces (All_tail (IsNodePiece g) p pieces h))

  -- a seed of a form may stand in a term
  pub seed_term : (pieces : List Piece) (z : ℕ) → All (IsNodePiece g) pieces → IsSeed g pieces z → is_term (node g z) ≡ true
  seed_term pieces z nodes seed = node_in (λ (k : ℕ). is_term (node g k) ≡ true) (form_terms g pieces) z (pieces_terms pieces nodes) seed

-- ---- terms of nodes as terms of columns

module _ (g : Graph) (stands : List Stand) where
  abbrev placed : Term → Coef
  placed t = coef t.factor (column_at g stands t.node)

  own_placed : (z : ℕ) (m : Formula) → node g z ≡ m → coef (pos 1) (column_of stands (stand_by z m)) ∷ [] ≡ coef (pos 1) (column_at g stands z) ∷ []
  own_placed z m e = ap (λ (f : Formula). coef (pos 1) (column_of stands (stand_by z f)) ∷ []) (sym e)

  node_placed : (z : ℕ) (m : Formula) → node g z ≡ m → (columns_by g stands z m).terms ≡ map placed (terms_of z m)
  node_placed z FalseNode e = refl
  node_placed z TrueNode e = refl
  node_placed z (NotNode truth) e = refl
  node_placed z (LinNode c terms) e = refl
  node_placed z (PresNode column) e = own_placed z (PresNode column) e
  node_placed z (CellNode column) e = own_placed z (CellNode column) e
  node_placed z (PosNode number) e = own_placed z (PosNode number) e
  node_placed z (AndNode kids) e = own_placed z (AndNode kids) e
  node_placed z (OrNode kids) e = own_placed z (OrNode kids) e
  node_placed z (GuardNode truth number) e = own_placed z (GuardNode truth number) e
  node_placed z (AbsNode number) e = own_placed z (AbsNode number) e
  node_placed z (TotNode number) e = own_placed z (TotNode number) e
  node_placed z (MinNode pairs) e = own_placed z (MinNode pairs) e

  key_placed : (p : Piece) → IsNodePiece g p → (columns_of g stands p.key).terms ≡ map placed (key_terms g p.key)
  unfolding columns_of
  key_placed p is = subst (λ (k : Key). (columns_of g stands k).terms ≡ map placed (key_terms g k)) (sym is.2) (node_placed is.0 (node g is.0) refl)

  module _ (c : ℕ) where
    -- 1 at the nodes whose column this is
    abbrev mark : ℕ → ℤ
    mark z = if column_at g stands z == c then pos 1 else pos 0

    times_mark : (x : ℤ) (b : Bool) → (if b then x else pos 0) ≡ x *ℤ (if b then pos 1 else pos 0)
    times_mark x true = omega (arith, ints)
    times_mark x false = omega (arith, ints)

    scaled_there : (k : ℤ) (ts : List Term) → total_by (factor_there c) (scraps.scaled k (map placed ts)) ≡ total_by (λ (t : Term). t.factor *ℤ mark t.node) (scaled k ts)
    scaled_there k [] = refl
    scaled_there k (t ∷ ts) = λ i. times_mark (k *ℤ t.factor) (column_at g stands t.node == c) i +ℤ scaled_there k ts i

    spread_there : (pieces : List Piece) → All (IsNodePiece g) pieces → column_factor (scraps.spread g stands pieces) c ≡ total_by (λ (t : Term). t.factor *ℤ mark t.node) (form_terms g pieces)
    spread_there [] h = refl
    spread_there (p ∷ pieces) h =
        let here : total_by (factor_there c) (scraps.scaled p.factor (columns_of g stands p.key).terms) ≡ total_by (λ (t : Term). t.factor *ℤ mark t.node) (scaled p.factor (key_terms g p.key)) =
        ap (λ (l : List Coef). total_by (factor_there c) (scraps.scaled p.factor l)) (key_placed p (All_head (IsNodePiece g) p pieces h)) ∙ scaled_there p.factor (key_terms g p.key) in
        let rest = spread_there pieces (All_tail (IsNodePiece g) p pieces h) in
        total_append (factor_there c) (scraps.scaled p.factor (columns_of g stands p.key).terms) (scraps.spread g stands pieces) ∙ (λ i. here i +ℤ rest i)
        ∙ sym (total_append (λ (t : Term). t.factor *ℤ mark t.node) (scaled p.factor (key_terms g p.key)) (form_terms g pieces))

    not_mark : (z : ℕ) (b : Bool) → (column_at g stands z == c) ≡ b → column_at g stands z ≢ c → (if b then pos 1 else pos 0) ≡ pos 0
    not_mark z true e ne = absurd (ne ((Decides-eqb (column_at g stands z) c).0 e))
    not_mark z false e ne = refl

  no_marks : (ts : List Term) → total_by (λ (t : Term). t.factor *ℤ pos 0) ts ≡ pos 0
  no_marks [] = refl
  no_marks (t ∷ ts) = (λ i. none t.factor i +ℤ no_marks ts i) ∙ zero_plus (pos 0)
    where
      none : (x : ℤ) → x *ℤ pos 0 ≡ pos 0
      none x = omega (arith, ints)

  own_column : (z : ℕ) (m : Formula) → is_term m ≡ true → All (λ (t : Coef). t.column < length stands) (columns_by g stands z m).terms → column_of stands (stand_by z m) < length stands
  own_column z FalseNode e h = cc
  own_column z TrueNode e h = cc
  own_column z (NotNode truth) e h = cc
  own_column z (LinNode c terms) e h = cc
  own_column z (PresNode column) e h = h 0 (coef (pos 0) 0) (omega arith)
  own_column z (CellNode column) e h = h 0 (coef (pos 0) 0) (omega arith)
  own_column z (PosNode number) e h = h 0 (coef (pos 0) 0) (omega arith)
  own_column z (AndNode kids) e h = h 0 (coef (pos 0) 0) (omega arith)
  own_column z (OrNode kids) e h = h 0 (coef (pos 0) 0) (omega arith)
  own_column z (GuardNode truth number) e h = h 0 (coef (pos 0) 0) (omega arith)
  own_column z (AbsNode number) e h = h 0 (coef (pos 0) 0) (omega arith)
  own_column z (TotNode number) e h = h 0 (coef (pos 0) 0) (omega arith)
  own_column z (MinNode pairs) e h = h 0 (coef (pos 0) 0) (omega arith)

  term_column : (z : ℕ) → is_term (node g z) ≡ true → IsOnMap g stands (key.Node z) → column_at g stands z < length stands
  unfolding IsOnMap columns_of
  term_column z e on = own_column z (node g z) e on

  -- with each seed on the map, like columns cancel where they are not there
  pub seeds_joined : (fold : IsFold g) (pieces : List Piece) → All (IsNodePiece g) pieces → ((z : ℕ) → IsSeed g pieces z → IsOnMap g stands (key.Node z)) → IsJoinedOn g stands pieces
  unfolding IsJoinedOn
  seeds_joined fold pieces nodes on = λ c le.
      spread_there c pieces nodes
      ∙ sums_same (mark c) (λ z. pos 0) (form_terms g pieces)
      (λ z seed. let lt = term_column z (seed_term g fold pieces z nodes seed) (on z seed) in not_mark c z (column_at g stands z == c) refl (λ is. absurd (omega (arith, lt, le, is))))
      ∙ no_marks (form_terms g pieces)
