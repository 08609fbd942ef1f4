-- What the columns of a program are for its forms and its nodes.
use Rattle.std.proofs.Common.{◌≡◌, ◌∙◌, sym, ap, subst, refl, ℕ, suc, ◌<◌, ◌≤◌, if◌then◌else◌, Bool, true, false, List, [], ◌∷◌, map, length, get_or, All, Contains, arith}
use Rattle.std.specs.Prelude.{nat_le, Result, Ok, Err}
use Rattle.std.proofs.lemmas.List.{get_or_default}
use Rattle.std.proofs.lemmas.Bool.Decides.{nat_tests}
use Rattle.ip_rows.specs.declared.Bounds.{Bounds}
use Rattle.ip_rows.specs.declared.program.IpColumn.{IpColumn}
use Rattle.prov_arena.specs.Formulas.{Formula, FalseNode, TrueNode, PresNode, CellNode, PosNode, NotNode, AndNode, OrNode, LinNode, GuardNode, AbsNode, TotNode, MinNode}
use Rattle.prov_fold.specs.Graphs.{Graph, node, size}
use Rattle.prov_fold.specs.Folds.{IsFold}
use Rattle.prov_fold.specs.Kinds.{is_term}
use Rattle.prov_fold.proofs.SameLemmas.{All_cons}
use Rattle.bool_encode.specs.declared.form.Key.TheVariants as key
use Rattle.bool_encode.specs.declared.stand.Stand.{Stand}
use Rattle.bool_encode.specs.declared.stand.Stand.TheVariants as stand
use Rattle.bool_encode.specs.Columns.{IsOnMap}
use Rattle.bool_encode.specs.Forms.{Form}
use Rattle.bool_encode.specs.Points.{HasPairAt}
use Rattle.bool_encode.specs.Stands.{column_of}
use Rattle.bool_encode.proofs.Each.{All_none}
use Rattle.cmp_encode.specs.Tables.{named_by}
use Rattle.whole_points.specs.Matched.{has_column}
use Rattle.whole_points.proofs.Places.{own_there, stand_there}
use Rattle.root_encode.specs.Roots.{AreJoinedOn}
use Rattle.used_columns.specs.declared.fault.ColumnsFault.{ColumnsFault}
use Rattle.used_columns.specs.declared.layout.Layout.{Layout}
use Rattle.used_columns.specs.declared.fault.ColumnsFault.TheVariants as fault
use Rattle.used_columns.specs.Columns.{column_for, laid, laid_by, stands_for}
use Rattle.used_columns.specs.Laid.{IsLaid}
use Rattle.used_columns.specs.Used.{AreUsed, IsUsed, mark_at}
use Rattle.used_columns.proofs.JoinedSeeds.{seed_term, seeds_joined}
use Rattle.program_rows.specs.Fair.{IsFair}
use Rattle.program_rows.specs.Gathering.{HasNames}
use Rattle.program_rows.specs.Goals.{AreSeedsOf}
use Rattle.bool_encode.specs.Rows.{IsJoinedOn}
use Rattle.program_rows.proofs.Joining.{fair_nodes, seed_below}

pub all_has : {X : Type 0} (P : X → Type 0) (xs : List X) (x : X) → All P xs → Contains xs x → P x
all_has P xs x all (k, lt, e) = subst P e (all k x lt)

pub has_at : {X : Type 0} (xs : List X) (k : ℕ) (d : X) → k < length xs → Contains xs (get_or xs k d)
has_at xs k d lt = (k, lt, get_or_default xs k (get_or xs k d) d lt)

-- ---- which kinds have columns

column_term : (m : Formula) → has_column m ≡ true → is_term m ≡ true
column_term FalseNode e = cc
column_term TrueNode e = cc
column_term (PresNode column) e = refl
column_term (CellNode column) e = refl
column_term (PosNode number) e = refl
column_term (NotNode truth) e = cc
column_term (AndNode kids) e = refl
column_term (OrNode kids) e = refl
column_term (LinNode c terms) e = cc
column_term (GuardNode truth number) e = refl
column_term (AbsNode number) e = refl
column_term (TotNode number) e = refl
column_term (MinNode pairs) e = refl

pair_column : (pair : ℕ) (m : Formula) → HasPairAt pair m → has_column m ≡ true
pair_column pair (MinNode pairs) h = refl
pair_column pair FalseNode h = absurd h
pair_column pair TrueNode h = absurd h
pair_column pair (PresNode column) h = absurd h
pair_column pair (CellNode column) h = absurd h
pair_column pair (PosNode number) h = absurd h
pair_column pair (NotNode truth) h = absurd h
pair_column pair (AndNode kids) h = absurd h
pair_column pair (OrNode kids) h = absurd h
pair_column pair (LinNode c terms) h = absurd h
pair_column pair (GuardNode truth number) h = absurd h
pair_column pair (AbsNode number) h = absurd h
pair_column pair (TotNode number) h = absurd h

-- ---- forms whose like columns cancel where they are not there

module _ (g : Graph) (stands : List Stand) where
  pub all_joined : (forms : List Form) → All (λ (r : Form). IsJoinedOn g stands r.pieces) forms → AreJoinedOn g stands forms
  all_joined [] h = tt
  all_joined (r ∷ forms) h = (h 0 r (omega arith), all_joined forms (λ j d lt. h (suc j) d (omega (arith, lt))))

  pub each_joined : (forms : List Form) → AreJoinedOn g stands forms → All (λ (r : Form). IsJoinedOn g stands r.pieces) forms
  each_joined [] h = All_none (λ (r : Form). IsJoinedOn g stands r.pieces)
  each_joined (r ∷ forms) h = All_cons (λ (r : Form). IsJoinedOn g stands r.pieces) r forms h.0 (each_joined forms h.1)

-- ---- the seeds of fair forms

pub seeds_below : (g : Graph) (fold : IsFold g) (forms : List Form) (seeds : List ℕ) → All (IsFair g) forms → AreSeedsOf g forms seeds → All (λ z. z < size g) seeds
seeds_below g fold forms seeds fair sown = λ k d lt.
    let named = (sown (get_or seeds k d)).0 (has_at seeds k d lt) in
    seed_below g fold named.0 (get_or seeds k d) (all_has (IsFair g) forms named.0 fair named.1) named.2

module _ (g : Graph) (fold : IsFold g) (seeds : List ℕ) (stands : List Stand) (made : List IpColumn) (are : IsLaid g seeds stands made) where
  pub form_joined : (forms : List Form) → All (IsFair g) forms → AreSeedsOf g forms seeds → (r : Form) → Contains forms r → IsJoinedOn g stands r.pieces
  form_joined forms fair sown r has =
      let its = all_has (IsFair g) forms r fair has in
      let nodes = fair_nodes g r its in
      seeds_joined g stands fold r.pieces nodes (λ z seed. are.reached z (seed_below g fold r z its seed) (seed_term g fold r.pieces z nodes seed) (IsUsed.Seed z ((sown z).1 (r, has, seed))))

  module _ (marks : List Bool) (used : AreUsed g seeds marks) (z : ℕ) (lt : z < size g) (marked : mark_at marks z ≡ true) where
    own_on : has_column (node g z) ≡ true → IsOnMap g stands (key.Node z)
    own_on h = are.reached z lt (column_term (node g z) h) ((used.each z).0 marked)

    at_own : has_column (node g z) ≡ true → column_of stands (stand.Node z) < length stands
    at_own h = own_there g stands z h (own_on h)

    pub has_names : HasNames g stands z
    has_names = record {
      named = λ h. All_cons (λ k. IsOnMap g stands (key.Node k)) z (named_by g (node g z)) (own_on h) (are.named (column_of stands (stand.Node z)) z (at_own h) (stand_there stands (stand.Node z) (at_own h)));
      chosen = λ pair has. let h = pair_column pair (node g z) has in are.chosen (column_of stands (stand.Node z)) z pair (at_own h) (stand_there stands (stand.Node z) (at_own h)) has;
    }

-- ---- the stands of a layout

stands_in : Result Layout ColumnsFault → List Stand
stands_in (Ok layout) = layout.map.stands
stands_in (Err e) = []

columns_in : Result Layout ColumnsFault → List IpColumn
columns_in (Ok layout) = layout.columns
columns_in (Err e) = []

le_of : (m n : ℕ) → nat_le m n ≡ true → m ≤ n
le_of m n e = grind (arith, nat_tests)

by_count : (g : Graph) (sides : List Bounds) (stands : List Stand) (layout : Layout) (few : Bool) → nat_le (length stands) 100000 ≡ few → laid_by g sides stands ≡ Ok layout
    → (layout.map.stands ≡ stands) × (length stands ≤ 100000) × (layout.columns ≡ map (column_for g sides) stands)
unfolding stands_in columns_in
by_count g sides stands layout true e is =
    let ok : ◌≡◌ {A = Result Layout ColumnsFault} (Ok (record { map = record { stands = stands }; columns = map (column_for g sides) stands })) (Ok layout) =
    sym (ap (λ (b : Bool). if b then Ok (record { map = record { stands = stands }; columns = map (column_for g sides) stands }) else Err (fault.TooManyColumns (length stands))) e) ∙ is in
    (sym (ap stands_in ok), le_of (length stands) 100000 e, sym (ap columns_in ok))
by_count g sides stands layout false e is =
    absurd
    (let no : ◌≡◌ {A = Result Layout ColumnsFault} (Err (fault.TooManyColumns (length stands))) (Ok layout) =
    sym (ap (λ (b : Bool). if b then Ok (record { map = record { stands = stands }; columns = map (column_for g sides) stands }) else Err (fault.TooManyColumns (length stands))) e) ∙ is in cc)

pub laid_stands : (g : Graph) (sides : List Bounds) (marks : List Bool) (layout : Layout) → laid g sides marks ≡ Ok layout
    → (layout.map.stands ≡ stands_for g (length sides) marks) × (length (stands_for g (length sides) marks) ≤ 100000) × (layout.columns ≡ map (column_for g sides) (stands_for g (length sides) marks))
unfolding laid
laid_stands g sides marks layout is = by_count g sides (stands_for g (length sides) marks) layout (nat_le (length (stands_for g (length sides) marks)) 100000) refl is
