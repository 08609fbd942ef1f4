-- the views of a query, one after the other
use Rattle.std.proofs.Common.{◌≡◌, ◌∙◌, sym, ap, ap₂, subst, refl, ℕ, ◌+◌, ◌<◌, ◌≤◌, ℤ, List, [], ◌∷◌, ◌++◌, length, map, take, get_or, All, Option, Some, Result, Ok, Err}
use Rattle.std.specs.Prelude.{slice_get, option_map}
use Rattle.std.proofs.lemmas.List.{length_push, map_push, take_more, take_all}
use Rattle.std.proofs.lemmas.List.Elements.{All-nil, All-map}
use Rattle.std.proofs.lemmas.Option.{get_or_from_slice_get}
use Rattle.tiql_query.specs.declared.query.Query.{Query}
use Rattle.tiql_query.specs.declared.relation.Column.{Column}
use Rattle.tiql_query.specs.declared.relation.QHypo.{QHypo}
use Rattle.tiql_query.specs.declared.relation.QTable.{QTable}
use Rattle.tiql_query.specs.declared.relation.Source.{Source}
use Rattle.tiql_query.specs.declared.relation.Source.TheVariants as sources
use Rattle.tiql_query.specs.declared.view.QView.{QView}
use Rattle.tiql_query.specs.Rows.{AreTables}
use Rattle.tiql_query.specs.WellFormed.{IsWellFormed, columns_of}
use Rattle.world_def.specs.declared.world.World.{World}
use Rattle.world_def.specs.Columns.{Rows, Tables}
use Rattle.world_def.specs.Relations.{rows_over, rows_of_view, views_from}
use Rattle.prov_fold.specs.Folds.{IsFold}
use Rattle.prov_fold.specs.Graphs.{Graph, Keeps}
use Rattle.prov_fold.specs.Meanings.{values_in}
use Rattle.prov_fold.proofs.StandLemmas.{keeps_on}
use Rattle.sym_rows.specs.declared.fault.WalkFault.{WalkFault}
use Rattle.sym_rows.specs.declared.row.Known.{Known}
use Rattle.sym_rows.specs.declared.row.SymRow.{SymRow}
use Rattle.sym_rows.specs.Cells.{IsRowOf, AreRowsOf, rows_in}
use Rattle.sym_rows.specs.Walks as walks
use Rattle.sym_rows.proofs.Hypos.{rows_kept}
use Rattle.sym_values.specs.Meanings.{IsRowFit}
use Rattle.view_join.specs.Sources.{rows_at}
use Rattle.view_agg.specs.Views.{view_walk, AreSourcesKnown, AreViewRows, AreOfView, IsKnownFit, IsReady, IsGroupedBy}
use Rattle.view_agg.specs.Views as views
use Rattle.sym_query.specs.declared.fault.QueryFault.{QueryFault}
use Rattle.sym_query.specs.declared.fault.QueryFault.TheVariants as fault
use Rattle.sym_query.specs.Meant.{AreGroupedBy}
use Rattle.sym_query.specs.Walks.{Walked, gives, ◌>>=◌, of, told_of, before_views, with_view, view_more, views_walk, Makes}
use Rattle.sym_query.specs.Relations.{at, there_at, AreHypos, AreKnown, AreOn, AreViewsOf}
use Rattle.sym_query.proofs.Making.{makes_memory, Going, going_init, going_step, going_err, going_end, made_ok, made_err}
use Rattle.sym_query.proofs.Places.{there, mapped_some, at_push, on_rows, sure_tables_are, sure_tables_fit}

-- ---- before the views

module _ (query : Query) (tables : Tables) (hypos : List (List SymRow)) (g : Graph) (fold : IsFold g) (fit : IsWellFormed query) (are : AreTables query tables) (mine : AreHypos query g hypos) where
  rows_before : (source : Source) → AreRowsOf g (rows_at (before_views tables hypos) source)
  unfolding rows_at
  rows_before (sources.Table n) = sure_tables_are g fold tables n
  rows_before (sources.Hypo n) = mine.rows n
  rows_before (sources.View n) = All-nil (IsRowOf g)

  fit_before : (source : Source) → IsKnownFit query (before_views tables hypos) source
  unfolding rows_at columns_of
  fit_before (sources.Table n) columns is =
      let table = mapped_some (λ (table : QTable). table.columns) (slice_get query.tables n) columns is in
      subst (λ (l : List Column). All (IsRowFit l) (at (before_views tables hypos).tables n)) table.2 (sure_tables_fit query.tables tables fit.tables are n table.0 table.1)
  fit_before (sources.Hypo n) columns is =
      let hypo = mapped_some (λ (hypo : QHypo). hypo.columns) (slice_get query.hypos n) columns is in
      subst (λ (l : List Column). All (IsRowFit l) (at hypos n)) hypo.2 (mine.fit n hypo.0 hypo.1)
  fit_before (sources.View n) columns is = All-nil (IsRowFit columns)

  pub known_before : AreKnown query g (before_views tables hypos)
  known_before = record { rows = rows_before; fit = λ grouped. fit_before }

-- ---- one more view

-- the sources of a view are known
pub sources_known : (query : Query) (known : Known) (g : Graph) (n : ℕ) → AreKnown query g known → (view : QView) → slice_get query.views n ≡ Some view → AreSourcesKnown known view g
sources_known query known g n are view is = λ k d lt. from_all (get_or view.arms k d).sources
  where
    from_all : (ss : List Source) → All (AreRowsOf g) (map (rows_at known) ss)
    from_all ss = All-map (AreRowsOf g) (rows_at known) ss (λ j e lt. are.rows (get_or ss j e))

module _ (tables : Tables) (world : World) where
  pub views_more : (views so_far : List Rows) (vs : List QView) (view : QView) → views ≡ views_from tables world so_far vs → views_from tables world so_far (vs ++ view ∷ []) ≡ views ++ rows_of_view tables world views view ∷ []
  unfolding views_from
  views_more views so_far [] view is = ap (λ (l : List Rows). l ++ rows_of_view tables world l view ∷ []) (sym is)
  views_more views so_far (one ∷ vs) view is = views_more views (so_far ++ rows_of_view tables world so_far one ∷ []) vs view is

  -- the rows of a view over those of its sources
  view_is : (rows : Source → Rows) (so_far : List Rows) (view : QView) → rows ≡ rows_over tables world so_far → views.rows_over rows view ≡ rows_of_view tables world so_far view
  unfolding rows_of_view
  view_is rows so_far view is = ap (λ (r : Source → Rows). views.rows_over r view) is

module _ (query : Query) (before : Known) (g0 : Graph) where
  -- so many views were walked
  pub record AreKnownUpTo (i : ℕ) (g : Graph) (known : Known) : Type 0 where
    pub count : length known.views ≡ i
    pub are : AreKnown query g known

  abbrev pub AreViewsSo : ℕ → Known → List ℤ → (ℕ → ℤ) → Type 0
  AreViewsSo i known numbers v = AreGroupedBy query → (tables : Tables) (world : World) → AreOn tables world [] before v → AreOn tables world (views_from tables world [] (take i query.views)) known v

  abbrev pub ViewsGoing : ℕ → Known → Graph → Type 0
  ViewsGoing = Going (view_more query) query.views before AreKnownUpTo AreViewsSo g0

  pub views_init : before.views ≡ [] → AreKnown query g0 before → ViewsGoing 0 before g0
  unfolding views_from
  views_init none are =
      going_init (view_more query) query.views before AreKnownUpTo AreViewsSo g0 (record { count = ap length none; are = are }) (λ h world later grouped tables chosen on. on)

  module _ (i : ℕ) (known : Known) (g after : Graph) (lt : i < length query.views) (going : ViewsGoing i known g) (r : Result (List SymRow) WalkFault)
      (made : (it : QView) → slice_get query.views i ≡ Some it → walks.Makes (view_walk query known it g) (AreViewRows query known it) (AreOfView query known it) g r after) where
    view : QView
    view = (there query.views i lt).0

    view_there : slice_get query.views i ≡ Some view
    unfolding view
    view_there = (there query.views i lt).1

    view_same : view ≡ get_or query.views i view
    view_same = sym (get_or_from_slice_get query.views i view view view_there)

    one : walks.Makes (view_walk query known view g) (AreViewRows query known view) (AreOfView query known view) g r after
    one = made view view_there

    more_is : (w : Walked (List SymRow)) → of (sources.View i) (view_walk query known view g) ≡ w → view_more query view known g ≡ (w >>= λ rows g. gives (with_view known rows) g)
    unfolding view_more
    more_is w is =
        ap (λ (n : ℕ). of (sources.View n) (view_walk query known view g) >>= λ rows g. gives (with_view known rows) g) going.good.count
        ∙ ap (λ (w : Walked (List SymRow)). w >>= λ rows g. gives (with_view known rows) g) is

    ready : AreGroupedBy query → IsReady query known view
    ready grouped = record {
      groups = subst (λ (it : QView). All IsGroupedBy it.arms) (get_or_from_slice_get query.views i view view view_there) (grouped i view lt);
      sources = λ k d lt j e below. going.good.are.fit grouped (get_or (get_or view.arms k d).sources j e);
    }

    module _ (rows : List SymRow) where
      module _ (good : AreViewRows query known view after rows) (kept : Keeps g after) where
        rows_with : (source : Source) → AreRowsOf after (rows_at (with_view known rows) source)
        unfolding rows_at
        rows_with (sources.Table n) = rows_kept g after (at known.tables n) kept (going.good.are.rows (sources.Table n))
        rows_with (sources.Hypo n) = rows_kept g after (at known.hypos n) kept (going.good.are.rows (sources.Hypo n))
        rows_with (sources.View n) = at_push (λ n rows. AreRowsOf after rows) known.views rows (λ m. rows_kept g after (at known.views m) kept (going.good.are.rows (sources.View m))) good.rows n

        fit_with : AreGroupedBy query → (source : Source) → IsKnownFit query (with_view known rows) source
        unfolding rows_at columns_of
        fit_with grouped (sources.Table n) = going.good.are.fit grouped (sources.Table n)
        fit_with grouped (sources.Hypo n) = going.good.are.fit grouped (sources.Hypo n)
        fit_with grouped (sources.View n) =
            at_push (λ n rows. (columns : List Column) → option_map (λ view. view.columns) (slice_get query.views n) ≡ Some columns → All (IsRowFit columns) rows) known.views rows (λ m. going.good.are.fit grouped (sources.View m))
            (λ columns is. subst (λ (l : List Column). All (IsRowFit l) rows) (same_some view.columns columns (sym (ap (option_map (λ (it : QView). it.columns)) (ap (slice_get query.views) going.good.count ∙ view_there)) ∙ is)) (good.fit (ready grouped))) n
          where
            same_some : (a b : List Column) → ◌≡◌ {A = Option (List Column)} (Some a) (Some b) → a ≡ b
            same_some a b e = cc

        with_good : AreKnownUpTo (i + 1) after (with_view known rows)
        with_good = record { count = length_push known.views rows ∙ ap (λ (n : ℕ). n + 1) going.good.count; are = record { rows = rows_with; fit = fit_with } }

      told_more : (numbers : List ℤ) (v : ℕ → ℤ) → AreViewsSo i known numbers v → AreOfView query known view rows numbers v → AreViewsSo (i + 1) (with_view known rows) numbers v
      told_more numbers v so here grouped tables world on =
          let old = so grouped tables world on in
          let so_far = views_from tables world [] (take i query.views) in
          record {
            of_tables = old.of_tables;
            of_hypos = old.of_hypos;
            of_views =
                map_push (rows_in v) known.views rows
                ∙ ap₂ (λ (l : List Rows) (x : Rows). l ++ x ∷ []) old.of_views (here (ready grouped) ∙ view_is tables world (there_at v known) so_far view (on_rows tables world so_far known v old))
                ∙ sym (ap (views_from tables world []) (take_more query.views i view lt ∙ ap (λ (it : QView). take i query.views ++ it ∷ []) (sym view_same)) ∙ views_more tables world so_far [] (take i query.views) view refl);
          }

      pub views_step : (all : List (List SymRow)) → all ≡ known.views ++ rows ∷ [] → ◌≡◌ {A = Result (List SymRow) QueryFault} (Ok rows) (told_of (sources.View i) r) → ViewsGoing (i + 1) (record { tables = known.tables; hypos = known.hypos; views = all }) after
      views_step all same is =
          let k = made_ok (sources.View i) (view_walk query known view g) (AreViewRows query known view) (AreOfView query known view) g after r rows is one in
          subst (λ (l : List (List SymRow)). ViewsGoing (i + 1) (record { tables = known.tables; hypos = known.hypos; views = l }) after) (sym same)
          (going_step (view_more query) query.views before AreKnownUpTo AreViewsSo g0 i view known g after lt view_same going (with_view known rows) (AreOfView query known view rows)
          (more_is (Ok (rows, after)) (ap (of (sources.View i)) k.follows)) k.kept (λ so. with_good k.good k.kept) k.means (λ h world later so here. told_more world (values_in h world) so here))

    pub views_err : (e : QueryFault) → ◌≡◌ {A = Result (List SymRow) QueryFault} (Err e) (told_of (sources.View i) r) → Makes (views_walk query before g0) (AreKnown query) (AreViewsOf query before) g0 (Err e) after
    unfolding views_walk
    views_err e is =
        let k = made_err (sources.View i) (view_walk query known view g) (AreViewRows query known view) (AreOfView query known view) g after r e is one in
        going_err (view_more query) query.views before AreKnownUpTo AreViewsSo g0 i view known g after lt view_same going e (AreKnown query) (AreViewsOf query before) (λ ne. more_is (Err (e, after)) (k.1 ne)) k.0

    -- memory was wanting for one more
    pub views_memory : Makes (views_walk query before g0) (AreKnown query) (AreViewsOf query before) g0 (Err fault.Memory) after
    views_memory = makes_memory (AreKnown query) (AreViewsOf query before) (views_walk query before g0) g0 after (keeps_on g0 g after going.kept one.kept)

  pub views_end : (i : ℕ) (known : Known) (g : Graph) → length query.views ≤ i → ViewsGoing i known g → Makes (views_walk query before g0) (AreKnown query) (AreViewsOf query before) g0 (Ok known) g
  unfolding views_walk
  views_end i known g le going =
      going_end (view_more query) query.views before AreKnownUpTo AreViewsSo g0 i known g (AreKnown query) (AreViewsOf query before) le (λ so. so.are)
      (λ h world later so grouped tables chosen on. subst (λ (l : List QView). AreOn tables chosen (views_from tables chosen [] l) known (values_in h world)) (take_all i query.views le) (so grouped tables chosen on)) going
