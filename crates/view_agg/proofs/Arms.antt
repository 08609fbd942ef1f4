-- the selects of a view, one after the other
use Rattle.std.proofs.Common.{◌≡◌, ◌∙◌, sym, ap, ap₂, subst, refl, ℕ, zero, suc, ◌+◌, ◌<◌, ◌≤◌, ℤ, false, List, [], ◌∷◌, ◌++◌, length, map, flat_map, get_or, take, drop, All, arith, Result, Ok, Err, append-nil, Option, Some}
use Rattle.std.specs.Prelude.{slice_get, unwrap_or, option_map}
use Rattle.std.specs.List.{AllZip}
use Rattle.std.proofs.lemmas.Bool.{le-ltb}
use Rattle.std.proofs.lemmas.List.{drop_more, drop_all, take_more, take_all}
use Rattle.std.proofs.lemmas.Grind.{flat_map-append}
use Rattle.std.proofs.lemmas.List.Elements.{All-nil, All-cons, All-head, All-tail, All-append}
use Rattle.std.proofs.lemmas.Option.{get_or_from_slice_get, slice_get_within}
use Rattle.tiql_query.specs.declared.relation.Column.{Column}
use Rattle.tiql_query.specs.declared.relation.Source.{Source}
use Rattle.tiql_query.specs.declared.relation.Source.TheVariants as sources
use Rattle.tiql_query.specs.declared.view.Select.{Select}
use Rattle.tiql_query.specs.declared.view.QView.{QView}
use Rattle.tiql_query.specs.declared.query.Query.{Query}
use Rattle.tiql_query.specs.WellFormed.{columns_of, scope_of, IsEarlier, IsSelectFit, IsWellFormed, item_kind}
use Rattle.tiql_query.specs.Kinds.{is_unknown}
use Rattle.prov_fold.specs.Graphs.{Graph, Keeps}
use Rattle.prov_fold.specs.Meanings.{Means, values_in}
use Rattle.prov_fold.proofs.StandLemmas.{keeps_same, keeps_on}
use Rattle.prov_fold.proofs.PlaceLemmas.{later_of, means_by, told_by}
use Rattle.view_select.specs.Selects.{Rows, select_rows}
use Rattle.sym_rows.specs.declared.fault.WalkFault.{WalkFault}
use Rattle.sym_rows.specs.declared.row.SymRow.{SymRow}
use Rattle.sym_rows.specs.declared.row.Known.{Known}
use Rattle.sym_rows.specs.Cells.{AreRowsOf, rows_in}
use Rattle.sym_rows.specs.Walks.{Walked, gives, ◌>>=◌, through, Makes}
use Rattle.sym_rows.proofs.Makes.{makes_so, makes_is, makes_gives, makes_then, makes_stop, still}
use Rattle.sym_rows.proofs.Hypos.{rows_kept, rows_append}
use Rattle.sym_values.specs.Meanings.{IsRowFit}
use Rattle.view_join.specs.Sources.{rows_at, sources_of}
use Rattle.view_agg.specs.Views.{rows_of_select, few, select_more, view_walk, IsGroupedBy, IsKnownFit, IsReady, AreViewRows, AreOfView}
use Rattle.view_agg.specs.Selecting.{AreSelectRows, AreRowsOfSelect, AreFew, AreSame, IsSelectReady, AreMore, AreOfMore, AreArmRows, AreOfArms}
use Rattle.tiql_query.specs.declared.relation.QTable.{QTable}
use Rattle.tiql_query.specs.declared.relation.QHypo.{QHypo}
use Rattle.std.proofs.lemmas.Simd.{map-map}
use Rattle.view_agg.proofs.Marked.{all_from, selects_fit}

-- ---- one more select

-- rows that are not too many
pub few_done : (rows : List SymRow) (g : Graph) → length rows ≤ 200000 → Makes (few rows g) (AreFew rows) (AreSame rows) g (Ok rows) g
few_done rows g le =
    makes_is (AreFew rows) (AreSame rows) (gives rows g) (few rows g) g g (Ok rows) (sym (rw (le-ltb 200000 (length rows) le) refl))
    (makes_gives (AreFew rows) (AreSame rows) rows g (record { same = refl; few = le }) (λ l world later. refl))

module _ (query : Query) (columns : List Column) (known : Known) (select : Select) (before : List SymRow) (g mid : Graph) (are : AreRowsOf g before) where
  more_few : (more all : List SymRow) (h : Graph) (r : Result (List SymRow) WalkFault) → all ≡ before ++ more
      → AreSelectRows (scope_of query select) columns select (sources_of known select) mid more → Keeps g mid → Means mid (AreRowsOfSelect (scope_of query select) columns select (sources_of known select) more)
      → Makes (few all mid) (AreFew all) (AreSame all) mid r h → Makes (few (before ++ more) mid) (AreMore query columns known select before) (AreOfMore query columns known select before) mid r h
  more_few more all h r same good kept means k =
      makes_is (AreMore query columns known select before) (AreOfMore query columns known select before) (few all mid) (few (before ++ more) mid) mid h r (ap (λ (l : List SymRow). few l mid) same)
      (makes_so (AreFew all) (AreSame all) (few all mid) (AreMore query columns known select before) (AreOfMore query columns known select before) mid h r
      (λ made is. let whole : made ≡ before ++ more = is.same ∙ same in record {
        rows = subst (AreRowsOf h) (sym whole) (All-append (Rattle.sym_rows.specs.Cells.IsRowOf h) before more (rows_kept g h before (keeps_on g mid h kept k.kept) are) (rows_kept mid h more k.kept good.rows));
        few = is.few;
        fit = λ fits ready. subst (λ (l : List SymRow). All (IsRowFit columns) l) (sym whole) (All-append (IsRowFit columns) before more fits (good.fit ready.finishing ready.sources));
      })
      (λ made l world later is ready.
      ap (rows_in (values_in l world)) (is ∙ same) ∙ rows_append (values_in l world) before more
      ∙ ap (λ (rows : Rows). rows_in (values_in l world) before ++ rows) (still mid h l world (AreRowsOfSelect (scope_of query select) columns select (sources_of known select) more) k.kept later means ready.finishing ready.sources)) k)

  pub more_then : (more all : List SymRow) (h : Graph) (r : Result (List SymRow) WalkFault) → all ≡ before ++ more
      → Makes (rows_of_select (scope_of query select) columns select (sources_of known select) g) (AreSelectRows (scope_of query select) columns select (sources_of known select)) (AreRowsOfSelect (scope_of query select) columns select (sources_of known select)) g (Ok more) mid
      → Makes (few all mid) (AreFew all) (AreSame all) mid r h → Makes (select_more query columns known select before g) (AreMore query columns known select before) (AreOfMore query columns known select before) g r h
  unfolding select_more
  more_then more all h r same one k =
      makes_then (AreSelectRows (scope_of query select) columns select (sources_of known select)) (AreRowsOfSelect (scope_of query select) columns select (sources_of known select)) (AreMore query columns known select before) (AreOfMore query columns known select before)
      (rows_of_select (scope_of query select) columns select (sources_of known select) g) (λ more g. few (before ++ more) g) g mid more h r one (more_few more all h r same one.good one.kept one.means k)

  pub more_stop : (e : WalkFault)
      → Makes (rows_of_select (scope_of query select) columns select (sources_of known select) g) (AreSelectRows (scope_of query select) columns select (sources_of known select)) (AreRowsOfSelect (scope_of query select) columns select (sources_of known select)) g (Err e) mid
      → Makes (select_more query columns known select before g) (AreMore query columns known select before) (AreOfMore query columns known select before) g (Err e) mid
  unfolding select_more
  more_stop e one =
      makes_stop (AreSelectRows (scope_of query select) columns select (sources_of known select)) (AreRowsOfSelect (scope_of query select) columns select (sources_of known select)) (AreMore query columns known select before) (AreOfMore query columns known select before)
      (rows_of_select (scope_of query select) columns select (sources_of known select) g) (λ more g. few (before ++ more) g) g mid e one

-- ---- all selects

-- the sources of a select stay known in a later list
pub sources_kept : (known : Known) (view : QView) (i : ℕ) (select : Select) (g h : Graph) → i < length view.arms → select ≡ get_or view.arms i select → Keeps g h → All (λ (select : Select). All (AreRowsOf g) (sources_of known select)) view.arms → All (AreRowsOf h) (sources_of known select)
sources_kept known view i select g h lt is kept all = λ k d l. rows_kept g h (get_or (sources_of known select) k d) kept (subst (λ (s : Select). All (AreRowsOf g) (sources_of known s)) (sym is) (all i select lt) k d l)

-- the select that a loop has come to
pub arm_at : (view : QView) (i : ℕ) (select : Select) (items : List Select) → items ≡ view.arms → select ≡ get_or items i select → select ≡ get_or view.arms i select
arm_at view i select items same is = is ∙ ap (λ (l : List Select). get_or l i select) same

pub arm_below : (view : QView) (i : ℕ) (items : List Select) → items ≡ view.arms → i < length items → i < length view.arms
arm_below view i items same lt = let l = ap (λ (l : List Select). length l) same in omega (arith, l, lt)

module _ (query : Query) (known : Known) (view : QView) (g0 : Graph) where
  -- what a select adds
  abbrev pub added : (ℕ → ℤ) → Select → Rows
  added v select = select_rows select (map (rows_in v) (sources_of known select))

  abbrev pub AreSoFar : ℕ → List SymRow → List ℤ → (ℕ → ℤ) → Type 0
  AreSoFar i made numbers v = All (IsSelectReady query view.columns known) view.arms → rows_in v made ≡ flat_map (added v) (take i view.arms)

  -- how far the loop has come
  pub record Going (i : ℕ) (made : List SymRow) (g : Graph) : Type 0 where
    pub follows : through (select_more query view.columns known) (drop i view.arms) made g ≡ through (select_more query view.columns known) view.arms [] g0
    pub kept : Keeps g0 g
    pub rows : AreRowsOf g made
    pub few : length made ≤ 200000
    pub fit : All (IsSelectReady query view.columns known) view.arms → All (IsRowFit view.columns) made
    pub means : Means g (AreSoFar i made)

  pub going_init : (made : List SymRow) → made ≡ [] → Going 0 made g0
  going_init made is = subst (λ (l : List SymRow). Going 0 l g0) (sym is) (record {
    follows = refl;
    kept = keeps_same g0;
    rows = All-nil (Rattle.sym_rows.specs.Cells.IsRowOf g0);
    few = omega arith;
    fit = λ ready. All-nil (IsRowFit view.columns);
    means = means_by g0 (AreSoFar 0 []) (λ h world later ready. refl);
  })

  flat_take : (v : ℕ → ℤ) (i : ℕ) (d : Select) → i < length view.arms → flat_map (added v) (take (i + 1) view.arms) ≡ flat_map (added v) (take i view.arms) ++ added v (get_or view.arms i d)
  flat_take v i d lt = ap (flat_map (added v)) (take_more view.arms i d lt) ∙ flat_map-append (added v) (take i view.arms) (get_or view.arms i d ∷ []) ∙ ap (λ (l : Rows). flat_map (added v) (take i view.arms) ++ l) (append-nil (added v (get_or view.arms i d)))

  module _ (i : ℕ) (select : Select) (so_far : List SymRow) (g after : Graph) (lt : i < length view.arms) (is : select ≡ get_or view.arms i select) (going : Going i so_far g) where
    next_is : (select_more query view.columns known select so_far g >>= λ more g. through (select_more query view.columns known) (drop (i + 1) view.arms) more g) ≡ through (select_more query view.columns known) (drop i view.arms) so_far g
    unfolding through
    next_is = rw (drop_more view.arms i select lt) (ap (λ (s : Select). select_more query view.columns known s so_far g >>= λ more g. through (select_more query view.columns known) (drop (i + 1) view.arms) more g) is)

    walk_step : (r : Walked (List SymRow)) → select_more query view.columns known select so_far g ≡ r
        → (r >>= λ more g. through (select_more query view.columns known) (drop (i + 1) view.arms) more g) ≡ through (select_more query view.columns known) view.arms [] g0
    walk_step r e = ap (λ (w : Walked (List SymRow)). w >>= λ more g. through (select_more query view.columns known) (drop (i + 1) view.arms) more g) (sym e) ∙ next_is ∙ going.follows

    pub going_step : (next : List SymRow) → Makes (select_more query view.columns known select so_far g) (AreMore query view.columns known select so_far) (AreOfMore query view.columns known select so_far) g (Ok next) after → Going (i + 1) next after
    going_step next one = record {
      follows = walk_step (Ok (next, after)) one.follows;
      kept = keeps_on g0 g after going.kept one.kept;
      rows = one.good.rows;
      few = one.good.few;
      fit = λ ready. one.good.fit (going.fit ready) (subst (IsSelectReady query view.columns known) (sym is) (ready i select lt));
      means = means_by after (AreSoFar (i + 1) next) (λ h world later ready.
          told_by after (AreOfMore query view.columns known select so_far next) one.means h world later (subst (IsSelectReady query view.columns known) (sym is) (ready i select lt))
          ∙ ap (λ (l : Rows). l ++ added (values_in h world) select) (told_by g (AreSoFar i so_far) going.means h world (later_of g after h world one.kept later) ready)
          ∙ ap (λ (s : Select). flat_map (added (values_in h world)) (take i view.arms) ++ added (values_in h world) s) is
          ∙ sym (flat_take (values_in h world) i select lt));
    }

    pub going_err : (e : WalkFault) → Makes (select_more query view.columns known select so_far g) (AreMore query view.columns known select so_far) (AreOfMore query view.columns known select so_far) g (Err e) after
        → Makes (view_walk query known view g0) (AreArmRows query known view) (AreOfArms query known view) g0 (Err e) after
    unfolding view_walk
    going_err e one = record { follows = λ ne. sym (walk_step (Err (e, after)) (one.follows ne)); kept = keeps_on g0 g after going.kept one.kept; good = tt; means = tt }

  pub going_end : (i : ℕ) (made : List SymRow) (g : Graph) → length view.arms ≤ i → Going i made g → Makes (view_walk query known view g0) (AreArmRows query known view) (AreOfArms query known view) g0 (Ok made) g
  unfolding view_walk through
  going_end i made g le going = record {
    follows = sym going.follows ∙ rw (drop_all i view.arms le) refl;
    kept = going.kept;
    good = record { rows = going.rows; few = going.few; fit = going.fit };
    means = means_by g (AreOfArms query known view made) (λ h world later ready. told_by g (AreSoFar i made) going.means h world later ready ∙ ap (flat_map (added (values_in h world))) (take_all i view.arms le));
  }

-- ---- a view of a query that is well formed

mapped_there : {X : Type 0} (f : X → List Column) (xs : List X) (n : ℕ) → n < length xs → (columns : List Column) × (option_map f (slice_get xs n) ≡ Some columns)
mapped_there f [] n lt = absurd (omega (arith, lt))
mapped_there f (x ∷ xs) zero lt = (f x, refl)
mapped_there f (x ∷ xs) (suc n) lt = mapped_there f xs n (omega (arith, lt))

module _ (query : Query) (fit : IsWellFormed query) (n : ℕ) (view : QView) (there : slice_get query.views n ≡ Some view) (known : Known) where
  columns_there : (source : Source) → IsEarlier query n source → (columns : List Column) × (columns_of query source ≡ Some columns)
  unfolding columns_of
  columns_there (sources.Table k) earlier = mapped_there (λ (table : QTable). table.columns) query.tables k earlier
  columns_there (sources.Hypo k) earlier = mapped_there (λ (hypo : QHypo). hypo.columns) query.hypos k earlier
  columns_there (sources.View k) earlier = mapped_there (λ (view : QView). view.columns) query.views k (let m = slice_get_within query.views n view there in omega (arith, earlier, m))

  sources_fit : (ss : List Source) → All (IsEarlier query n) ss → All (IsKnownFit query known) ss → AllZip (λ (columns : List Column) (rows : List SymRow). All (IsRowFit columns) rows) (map (λ (source : Source). unwrap_or (columns_of query source) []) ss) (map (rows_at known) ss)
  sources_fit [] earlier fits = tt
  sources_fit (source ∷ ss) earlier fits =
      let c = columns_there source (All-head (IsEarlier query n) source ss earlier) in (
        subst (λ (o : Option (List Column)). All (IsRowFit (unwrap_or o [])) (rows_at known source)) (sym c.1) (All-head (IsKnownFit query known) source ss fits c.0 c.1),
        sources_fit ss (All-tail (IsEarlier query n) source ss earlier) (All-tail (IsKnownFit query known) source ss fits),
      )

  arm_ready : IsReady query known view → (k : ℕ) (select : Select) → slice_get view.arms k ≡ Some select → IsSelectReady query view.columns known select
  arm_ready ready k select is =
      let mine : IsSelectFit query n view.columns select = subst (IsSelectFit query n view.columns) (get_or_from_slice_get view.arms k select select is) ((fit.views n view there).arms k select (slice_get_within view.arms k select is)) in record {
        finishing = record {
          selected = selects_fit query fit n view there k select is;
          groups = subst IsGroupedBy (get_or_from_slice_get view.arms k select select is) (ready.groups k select (slice_get_within view.arms k select is));
          distinct = λ once. unmapped (item_kind (scope_of query select)) (λ it. is_unknown it ≡ false) select.items (mine.distinct once);
        };
        sources = sources_fit select.sources mine.sources (subst (λ (s : Select). All (IsKnownFit query known) s.sources) (get_or_from_slice_get view.arms k select select is) (ready.sources k select (slice_get_within view.arms k select is)));
      }
    where
      unmapped : {X Y : Type 0} (f : X → Y) (P : Y → Type 0) (xs : List X) → All P (map f xs) → All (λ x. P (f x)) xs
      unmapped f P [] all = All-nil (λ x. P (f x))
      unmapped f P (x ∷ xs) all = All-cons (λ x. P (f x)) x xs (All-head P (f x) (map f xs) all) (unmapped f P xs (All-tail P (f x) (map f xs) all))

  arms_ready : IsReady query known view → All (IsSelectReady query view.columns known) view.arms
  arms_ready ready = all_from (IsSelectReady query view.columns known) view.arms (arm_ready ready)

  -- the whole view
  pub view_done : (g after : Graph) (r : Result (List SymRow) WalkFault) → Makes (view_walk query known view g) (AreArmRows query known view) (AreOfArms query known view) g r after
      → Makes (view_walk query known view g) (AreViewRows query known view) (AreOfView query known view) g r after
  view_done g after r h =
      makes_so (AreArmRows query known view) (AreOfArms query known view) (view_walk query known view g) (AreViewRows query known view) (AreOfView query known view) g after r
      (λ made good. record { rows = good.rows; few = good.few; fit = λ ready. good.fit (arms_ready ready) })
      (λ made l world later so ready. so (arms_ready ready) ∙ same_flat (values_in l world) view.arms) h
    where
      same_flat : (v : ℕ → ℤ) (arms : List Select) → flat_map (λ (select : Select). select_rows select (map (rows_in v) (sources_of known select))) arms ≡ flat_map (λ (select : Select). select_rows select (map (λ source. rows_in v (rows_at known source)) select.sources)) arms
      same_flat v [] = refl
      same_flat v (select ∷ arms) = ap₂ (λ (one other : Rows). one ++ other) (ap (select_rows select) (map-map (rows_in v) (rows_at known) select.sources)) (same_flat v arms)

-- the view with this number
pub same_view : (query : Query) (n : ℕ) (view it : QView) (items : List QView) → items ≡ query.views → view ≡ get_or items n view → slice_get query.views n ≡ Some it → view ≡ it
same_view query n view it items same is there = is ∙ ap (λ (l : List QView). get_or l n view) same ∙ get_or_from_slice_get query.views n it view there

pub view_of : (query : Query) (known : Known) (view it : QView) (g after : Graph) (r : Result (List SymRow) WalkFault) → view ≡ it → Makes (view_walk query known view g) (AreArmRows query known view) (AreOfArms query known view) g r after
    → Makes (view_walk query known it g) (AreArmRows query known it) (AreOfArms query known it) g r after
view_of query known view it g after r same h = subst (λ (v : QView). Makes (view_walk query known v g) (AreArmRows query known v) (AreOfArms query known v) g r after) same h
