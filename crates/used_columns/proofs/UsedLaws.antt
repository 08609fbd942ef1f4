-- What the columns of used nodes are for: the map is a map that begins with the world, the columns are those of what they stand for,
-- and all that the rows of a node on the map name is on the map.
use Rattle.std.proofs.Common.{◌≡◌, ◌∙◌, sym, ap, subst, refl, ℕ, zero, suc, ◌<◌, ◌≤◌, if◌then◌else◌, Bool, true, pos, negsuc, List, [], ◌∷◌, length, map, get_or, All, Contains, arith}
use Rattle.std.proofs.lemmas.List.{get_or-map, get_or_default, length-map}
use Rattle.ip_rows.specs.declared.Bounds.{Bounds}
use Rattle.ip_rows.specs.declared.rows.Coef.{Coef}
use Rattle.ip_rows.specs.declared.program.ColumnKind.TheVariants as kind
use Rattle.prov_arena.specs.declared.part.Term.{Term}
use Rattle.prov_arena.specs.Formulas.{Formula, FalseNode, TrueNode, PresNode, CellNode, PosNode, NotNode, AndNode, OrNode, LinNode, GuardNode, AbsNode, TotNode, MinNode, kids_of}
use Rattle.prov_fold.specs.Graphs.{Graph, node, size, IsTyped}
use Rattle.prov_fold.specs.Kinds.{is_plain, is_term}
use Rattle.prov_fold.specs.Folds.{IsFold}
use Rattle.bool_encode.specs.declared.form.Key.TheVariants as key
use Rattle.bool_encode.specs.declared.stand.Stand.{Stand}
use Rattle.bool_encode.specs.declared.stand.Stand.TheVariants as stand
use Rattle.bool_encode.specs.Stands.{IsMap, stand_at, column_of}
use Rattle.bool_encode.specs.Columns.{IsOnMap, coef, columns_by, columns_of, column_at, stand_by}
use Rattle.bool_encode.specs.Points.{HasPairAt}
use Rattle.bool_encode.proofs.StandLemmas.{column_is}
use Rattle.cmp_encode.specs.Tables.{named_by}
use Rattle.whole_points.specs.Matched.{BeginsWithWorld, HasRows, IsChoice, IsColumnOf, bounds_of, has_column, world_count}
use Rattle.whole_points.specs.Matched as matched
use Rattle.whole_points.proofs.Named.{named_less}
use Rattle.used_columns.specs.Used.{made_of, all_made_of, names, mark_at, IsUsed, AreUsed}
use Rattle.used_columns.specs.Columns.{column_for, stands_for}
use Rattle.used_columns.specs.Laid.{HasChoices, IsLaid}
use Rattle.used_columns.specs.Places.{IsIn}
use Rattle.used_columns.proofs.NameLemmas.{terms_below}
use Rattle.used_columns.proofs.ListedLemmas.{Listed, apart_stands, flat_has, has_node, has_selector, has_world, listed, none_behind, world_at, world_count_is, worlds_within}

-- ---- the seeds are used, and so is what the rows of used nodes name; no other set has the seeds and is so closed without having all used nodes

pub seeds_used : (g : Graph) (seeds : List ℕ) → All (IsUsed g seeds) seeds
seeds_used g seeds j d lt = IsUsed.Seed (get_or seeds j d) (j, lt, get_or_default seeds j (get_or seeds j d) d lt)

pub names_used : (g : Graph) (seeds : List ℕ) (y : ℕ) → IsUsed g seeds y → All (IsUsed g seeds) (names g y)
names_used g seeds y u j d lt = IsUsed.Named y (get_or (names g y) j d) u (j, lt, get_or_default (names g y) j (get_or (names g y) j d) d lt)

pub used_least : (g : Graph) (seeds : List ℕ) (P : ℕ → Type 0) → ((z : ℕ) → Contains seeds z → P z) → ((y z : ℕ) → P y → Contains (names g y) z → P z) → (z : ℕ) → IsUsed g seeds z → P z
used_least g seeds P first next z (IsUsed.Seed _ c) = first z c
used_least g seeds P first next z (IsUsed.Named y _ u c) = next y z (used_least g seeds P first next y u) c

-- ---- kinds

plain_term : (m : Formula) → is_plain m ≡ true → is_term m ≡ true
plain_term FalseNode e = cc
plain_term TrueNode e = cc
plain_term (PresNode c) e = refl
plain_term (CellNode c) e = refl
plain_term (PosNode n) e = refl
plain_term (NotNode t) e = cc
plain_term (AndNode kids) e = refl
plain_term (OrNode kids) e = refl
plain_term (LinNode c terms) e = cc
plain_term (GuardNode t n) e = refl
plain_term (AbsNode n) e = refl
plain_term (TotNode n) e = refl
plain_term (MinNode pairs) e = refl

-- a node with a column makes itself up
made_self : (z : ℕ) (m : Formula) → has_column m ≡ true → made_of z m ≡ z ∷ []
made_self z FalseNode e = cc
made_self z TrueNode e = cc
made_self z (PresNode c) e = refl
made_self z (CellNode c) e = refl
made_self z (PosNode n) e = refl
made_self z (NotNode t) e = cc
made_self z (AndNode kids) e = refl
made_self z (OrNode kids) e = refl
made_self z (LinNode c terms) e = cc
made_self z (GuardNode t n) e = refl
made_self z (AbsNode n) e = refl
made_self z (TotNode n) e = refl
made_self z (MinNode pairs) e = refl

pair_column : (pair : ℕ) (m : Formula) → HasPairAt pair m → has_column m ≡ true
pair_column pair (MinNode pairs) h = refl
pair_column pair FalseNode h = absurd h
pair_column pair TrueNode h = absurd h
pair_column pair (PresNode c) h = absurd h
pair_column pair (CellNode c) h = absurd h
pair_column pair (PosNode n) h = absurd h
pair_column pair (NotNode t) h = absurd h
pair_column pair (AndNode kids) h = absurd h
pair_column pair (OrNode kids) h = absurd h
pair_column pair (LinNode c terms) h = absurd h
pair_column pair (GuardNode t n) h = absurd h
pair_column pair (AbsNode n) h = absurd h
pair_column pair (TotNode n) h = absurd h

-- what may stand in a term makes itself up
made_term : (z : ℕ) (m : Formula) → is_term m ≡ true → made_of z m ≡ z ∷ []
made_term z FalseNode e = cc
made_term z TrueNode e = cc
made_term z (PresNode c) e = refl
made_term z (CellNode c) e = refl
made_term z (PosNode n) e = refl
made_term z (NotNode t) e = cc
made_term z (AndNode kids) e = refl
made_term z (OrNode kids) e = refl
made_term z (LinNode c terms) e = cc
made_term z (GuardNode t n) e = refl
made_term z (AbsNode n) e = refl
made_term z (TotNode n) e = refl
made_term z (MinNode pairs) e = refl

one_term : (P : Coef → Type 0) (t : Coef) → P t → All P (t ∷ [])
one_term P t p zero d lt = p
one_term P t p (suc j) d lt = absurd (omega arith)

none_term : (P : Coef → Type 0) → All P []
none_term P j d lt = absurd (omega arith)

in_by : (g : Graph) (used : List Bool) (sides : List Bounds) (s : Stand) → Listed g used (length sides) s → IsIn g sides s
in_by g used sides (stand.World number) h = h
in_by g used sides (stand.Node z) h = h.0
in_by g used sides (stand.Selector z pair) h = tt

-- ---- the list, the marks and the world's sides

module _ (g : Graph) (seeds : List ℕ) (used : List Bool) (sides : List Bounds) (fold : IsFold g) (are : AreUsed g seeds used) (has : HasChoices g sides) (few : length (stands_for g (length sides) used) ≤ 100000) where
  abbrev stands : List Stand
  stands = stands_for g (length sides) used

  pub is_map : IsMap stands
  is_map = record {
    few = omega (arith, few);
    once = apart_stands g used (length sides);
  }

  -- what is among the columns has its number
  column_there : (s : Stand) → Contains stands s → column_of stands s < length stands
  column_there s c =
      let lt = c.1 in
      let is : c.0 ≡ column_of stands s = column_is stands c.0 s is_map lt (get_or_default stands c.0 (stand.World 0) s lt ∙ c.2) in
      omega (arith, lt, is)

  world_there : (z number : ℕ) → z < size g → IsChoice number (node g z) → column_of stands (stand.World number) < length stands
  world_there z number lt choice = column_there (stand.World number) (has_world g used (length sides) number (has.there z number lt choice))

  node_there : (z : ℕ) → z < size g → mark_at used z ≡ true → has_column (node g z) ≡ true → column_of stands (stand.Node z) < length stands
  node_there z lt e h = column_there (stand.Node z) (has_node g used (length sides) z lt e h)

  -- a marked node that may stand in a term has its column
  term_by : (z : ℕ) (m : Formula) → z < size g → mark_at used z ≡ true → node g z ≡ m → is_term m ≡ true → column_of stands (stand_by z m) < length stands
  term_by z FalseNode lt e is h = cc
  term_by z TrueNode lt e is h = cc
  term_by z (PresNode c) lt e is h = world_there z c lt (subst (IsChoice c) (sym is) refl)
  term_by z (CellNode c) lt e is h = world_there z c lt (subst (IsChoice c) (sym is) refl)
  term_by z (PosNode n) lt e is h = node_there z lt e (ap has_column is)
  term_by z (NotNode t) lt e is h = cc
  term_by z (AndNode kids) lt e is h = node_there z lt e (ap has_column is)
  term_by z (OrNode kids) lt e is h = node_there z lt e (ap has_column is)
  term_by z (LinNode c terms) lt e is h = cc
  term_by z (GuardNode t n) lt e is h = node_there z lt e (ap has_column is)
  term_by z (AbsNode n) lt e is h = node_there z lt e (ap has_column is)
  term_by z (TotNode n) lt e is h = node_there z lt e (ap has_column is)
  term_by z (MinNode pairs) lt e is h = node_there z lt e (ap has_column is)

  term_there : (z : ℕ) → z < size g → mark_at used z ≡ true → is_term (node g z) ≡ true → column_at g stands z < length stands
  term_there z lt e h = term_by z (node g z) lt e refl h

  abbrev Below : Coef → Type 0
  Below t = t.column < length stands

  terms_there : (terms : List Term) → All (λ (t : Term). t.node < size g) terms → All (λ (t : Term). is_term (node g t.node) ≡ true) terms → All (λ z. mark_at used z ≡ true) (map (λ (t : Term). t.node) terms)
      → All Below (map (λ (t : Term). coef t.factor (column_at g stands t.node)) terms)
  terms_there [] lt h e j d less = absurd (omega arith)
  terms_there (t ∷ ts) lt h e zero d less = term_there t.node (lt 0 t (omega arith)) (e 0 0 (omega arith)) (h 0 t (omega arith))
  terms_there (t ∷ ts) lt h e (suc j) d less =
      terms_there ts (λ k x l. lt (suc k) x (omega arith)) (λ k x l. h (suc k) x (omega arith)) (λ k x l. e (suc k) x (omega arith)) j d (omega arith)

  abbrev Marked : ℕ → Type 0
  Marked z = mark_at used z ≡ true

  one_mark : (z : ℕ) → mark_at used z ≡ true → All Marked (z ∷ [])
  one_mark z e zero d lt = e
  one_mark z e (suc j) d lt = absurd (omega arith)

  kids_at : (k : ℕ) (m : Formula) → k < size g → node g k ≡ m → All (λ kid. kid < size g) (kids_of m)
  kids_at k m lt is = subst (λ (m : Formula). All (λ kid. kid < size g) (kids_of m)) is (fold.fits k lt).kids

  typed_at : (k : ℕ) (m : Formula) → k < size g → node g k ≡ m → IsTyped g m
  typed_at k m lt is = subst (IsTyped g) is (fold.fits k lt).typed

  self_by : (k : ℕ) (m : Formula) → k < size g → node g k ≡ m → is_term m ≡ true → All Marked (k ∷ []) → All Below (coef (pos 1) (column_of stands (stand_by k m)) ∷ [])
  self_by k m lt is h e = one_term Below (coef (pos 1) (column_of stands (stand_by k m))) (term_by k m lt (e 0 0 (omega arith)) is h)

  -- a node is on the map where all that makes it up is marked
  key_by : (k : ℕ) (m : Formula) → k < size g → node g k ≡ m → All Marked (made_of k m) → All Below (columns_by g stands k m).terms
  key_by k FalseNode lt is e = none_term Below
  key_by k TrueNode lt is e = none_term Below
  key_by k (NotNode t) lt is e =
      one_term Below (coef (negsuc 0) (column_at g stands t)) (term_there t (kids_at k (NotNode t) lt is 0 0 (omega arith)) (e 0 0 (omega arith)) (plain_term (node g t) (typed_at k (NotNode t) lt is)))
  key_by k (LinNode c terms) lt is e =
      terms_there terms (terms_below (size g) (size g) terms (omega arith) (kids_at k (LinNode c terms) lt is)) (typed_at k (LinNode c terms) lt is).kinds e
  key_by k (PresNode c) lt is e = self_by k (PresNode c) lt is refl e
  key_by k (CellNode c) lt is e = self_by k (CellNode c) lt is refl e
  key_by k (PosNode n) lt is e = self_by k (PosNode n) lt is refl e
  key_by k (AndNode kids) lt is e = self_by k (AndNode kids) lt is refl e
  key_by k (OrNode kids) lt is e = self_by k (OrNode kids) lt is refl e
  key_by k (GuardNode t n) lt is e = self_by k (GuardNode t n) lt is refl e
  key_by k (AbsNode n) lt is e = self_by k (AbsNode n) lt is refl e
  key_by k (TotNode n) lt is e = self_by k (TotNode n) lt is refl e
  key_by k (MinNode pairs) lt is e = self_by k (MinNode pairs) lt is refl e

  key_there : (k : ℕ) → k < size g → All Marked (made_of k (node g k)) → IsOnMap g stands (key.Node k)
  unfolding IsOnMap columns_of
  key_there k lt e = key_by k (node g k) lt refl e

  -- a marked node with a column is on the map
  own_there : (z : ℕ) → z < size g → mark_at used z ≡ true → has_column (node g z) ≡ true → IsOnMap g stands (key.Node z)
  own_there z lt e h = key_there z lt (subst (All Marked) (sym (made_self z (node g z) h)) (one_mark z e))

  -- and so are its selectors
  selector_there : (z pair : ℕ) → z < size g → mark_at used z ≡ true → HasPairAt pair (node g z) → IsOnMap g stands (key.Selector z pair)
  unfolding IsOnMap columns_of
  selector_there z pair lt e h = one_term Below (coef (pos 1) (column_of stands (stand.Selector z pair))) (column_there (stand.Selector z pair) (has_selector g used (length sides) z pair lt e h))

  -- ---- what a column stands for

  abbrev Is : Stand → Type 0
  Is s = Listed g used (length sides) s

  stand_is : (number : ℕ) (s : Stand) → number < length stands → stand_at stands number ≡ s → Is s
  stand_is number s lt is = subst Is is (listed g used (length sides) number (stand.World 0) lt)

  column_by : (s : Stand) → Is s → IsColumnOf g stands s (column_for g sides s)
  column_by (stand.World number) h = (refl, λ z lt choice. has.ranged z number lt choice)
  column_by (stand.Node z) (lt, e, h) = record { there = lt; kind = h; is = refl }
  column_by (stand.Selector z pair) (lt, e, h) = record {
    there = lt;
    has = h;
    beside = own_there z lt e (pair_column pair (node g z) h);
    is = refl;
  }

  pub columns_are : (number : ℕ) → number < length stands → IsColumnOf g stands (stand_at stands number) (matched.column_at (map (column_for g sides) stands) number)
  columns_are number lt =
      subst (IsColumnOf g stands (stand_at stands number)) (sym (get_or-map (column_for g sides) stands number (stand.World 0) (matched.column kind.World (record { lo = pos 0; hi = pos 0 })) lt))
      (column_by (stand_at stands number) (stand_is number (stand_at stands number) lt refl))

  -- ---- what the rows of a node on the map name

  named_mark : (z k w : ℕ) → mark_at used z ≡ true → has_column (node g z) ≡ true → Contains (named_by g (node g z)) k → Contains (made_of k (node g k)) w → mark_at used w ≡ true
  unfolding names
  named_mark z k w e h ck cw =
      let in_names : Contains (names g z) w = subst (λ b. Contains (if b then all_made_of g (named_by g (node g z)) else []) w) (sym h) (flat_has (λ k. made_of k (node g k)) (named_by g (node g z)) k w ck cw) in
      (are.each w).1 (IsUsed.Named z w ((are.each z).0 e) in_names)

  named_by_node : (z : ℕ) → z < size g → mark_at used z ≡ true → has_column (node g z) ≡ true → All (λ k. IsOnMap g stands (key.Node k)) (named_by g (node g z))
  named_by_node z lt e h j d less =
      let ks = named_by g (node g z) in
      let k = get_or ks j d in
      let below = named_less g z fold lt j d less in
      key_there k (omega (arith, below, lt)) (λ i x l. named_mark z k (get_or (made_of k (node g k)) i x) e h (j, less, get_or_default ks j k d less) (i, l, get_or_default (made_of k (node g k)) i (get_or (made_of k (node g k)) i x) x l))

  pub named_there : (number z : ℕ) → number < length stands → stand_at stands number ≡ stand.Node z → All (λ k. IsOnMap g stands (key.Node k)) (named_by g (node g z))
  named_there number z lt is = let (less, e, h) = stand_is number (stand.Node z) lt is in named_by_node z less e h

  pub chosen_there : (number z pair : ℕ) → number < length stands → stand_at stands number ≡ stand.Node z → HasPairAt pair (node g z) → IsOnMap g stands (key.Selector z pair)
  chosen_there number z pair lt is at = let (less, e, h) = stand_is number (stand.Node z) lt is in selector_there z pair less e at

  -- a used node that may stand in a term is on the map
  pub reached_there : (z : ℕ) → z < size g → is_term (node g z) ≡ true → IsUsed g seeds z → IsOnMap g stands (key.Node z)
  reached_there z lt h u = key_there z lt (subst (All Marked) (sym (made_term z (node g z) h)) (one_mark z ((are.each z).1 u)))

  begins_with : BeginsWithWorld stands (length sides)
  begins_with = record {
    within = worlds_within g used (length sides);
    first = world_at g used (length sides);
    last = none_behind g used (length sides);
  }

  count_is : world_count stands ≡ length sides
  count_is = world_count_is g used (length sides)

  pub laws : IsLaid g seeds stands (map (column_for g sides) stands)
  laws = record {
    map = is_map;
    begins = subst (BeginsWithWorld stands) (sym count_is) begins_with;
    choices = λ z number lt choice. subst (λ n. number < n) (sym count_is) (has.there z number lt choice);
    count = length-map stands (column_for g sides);
    columns = columns_are;
    named = named_there;
    chosen = chosen_there;
    reached = reached_there;
  }

-- what the columns are made of is there, whatever is marked
pub all_in : (g : Graph) (used : List Bool) (sides : List Bounds) → All (IsIn g sides) (stands_for g (length sides) used)
all_in g used sides = λ j d lt. in_by g used sides (get_or (stands_for g (length sides) used) j d) (listed g used (length sides) j d lt)
