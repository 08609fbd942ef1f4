-- the hypothetical tables of a query, one after the other
use Rattle.std.proofs.Common.{◌≡◌, ◌∙◌, sym, ap, ap₂, subst, refl, ℕ, ◌+◌, ◌<◌, ◌≤◌, ℤ, List, [], ◌∷◌, ◌++◌, length, map, take, get_or, All, arith, Some, Result, Ok, Err}
use Rattle.std.specs.Prelude.{slice_get}
use Rattle.std.proofs.lemmas.List.{length-map, length_push, map_push, take_more, take_all}
use Rattle.std.proofs.lemmas.List.Elements.{All-nil}
use Rattle.std.proofs.lemmas.Option.{get_or_from_slice_get, unwrap_or-slice_get}
use Rattle.tiql_query.specs.declared.query.Query.{Query}
use Rattle.tiql_query.specs.declared.relation.QHypo.{QHypo}
use Rattle.tiql_query.specs.declared.relation.Source.TheVariants as sources
use Rattle.tiql_query.specs.declared.world_column.WorldColumn.{WorldColumn}
use Rattle.tiql_query.specs.Rows.{AreTables}
use Rattle.tiql_query.specs.WellFormed.{IsWellFormed, IsHypoFit}
use Rattle.world_def.specs.declared.world.World.{World}
use Rattle.world_def.specs.Columns.{Rows, Tables, rows_of, columns_of}
use Rattle.world_def.specs.Meaning.{IsPossible}
use Rattle.world_def.specs.Meaning as meaning
use Rattle.prov_fold.specs.Graphs.{Graph}
use Rattle.prov_fold.specs.Meanings.{values_in}
use Rattle.prov_fold.proofs.StandLemmas.{keeps_on}
use Rattle.sym_rows.specs.declared.fault.WalkFault.{WalkFault}
use Rattle.sym_rows.specs.declared.row.SymRow.{SymRow}
use Rattle.sym_rows.specs.Cells.{IsRowOf, AreRowsOf, rows_in}
use Rattle.sym_rows.specs.Hypos.{hypo_rows}
use Rattle.sym_rows.specs.Possible.{AreOfWorlds}
use Rattle.sym_rows.specs.Walks as walks
use Rattle.sym_rows.proofs.Hypos.{rows_kept}
use Rattle.sym_values.specs.Meanings.{IsRowFit}
use Rattle.view_agg.proofs.Fits.{hypo_fit}
use Rattle.sym_query.specs.declared.fault.QueryFault.{QueryFault}
use Rattle.sym_query.specs.declared.fault.QueryFault.TheVariants as fault
use Rattle.sym_query.specs.Walks.{Walked, gives, ◌>>=◌, of, told_of, hypo_more, hypos_walk, Makes}
use Rattle.sym_query.specs.Relations.{at, hypos_in, AreHypos, AreHyposOf}
use Rattle.sym_query.proofs.Making.{makes_memory, Going, going_init, going_step, going_err, going_end, made_ok, made_err}
use Rattle.sym_query.proofs.Places.{there, at_push}

module _ (query : Query) (tables : Tables) (columns : List WorldColumn) (g0 : Graph) where
  -- so many hypothetical tables were walked
  pub record AreHyposUpTo (i : ℕ) (g : Graph) (made : List (List SymRow)) : Type 0 where
    pub count : length made ≡ i
    pub are : AreHypos query g made

  abbrev pub AreHyposSo : ℕ → List (List SymRow) → List ℤ → (ℕ → ℤ) → Type 0
  AreHyposSo i made numbers v = (world : World) → IsPossible query tables world → numbers ≡ meaning.numbers columns world → map (rows_in v) made ≡ take i (hypos_in world)

  abbrev pub HyposGoing : ℕ → List (List SymRow) → Graph → Type 0
  HyposGoing = Going (hypo_more query tables columns) query.hypos [] AreHyposUpTo AreHyposSo g0

  none_made : AreHypos query g0 []
  none_made = record { rows = λ n. All-nil (IsRowOf g0); fit = λ n hypo is. All-nil (IsRowFit hypo.columns) }

  pub hypos_init : (made : List (List SymRow)) → made ≡ [] → HyposGoing 0 made g0
  hypos_init made is =
      subst (λ (l : List (List SymRow)). HyposGoing 0 l g0) (sym is)
      (going_init (hypo_more query tables columns) query.hypos [] AreHyposUpTo AreHyposSo g0 (record { count = refl; are = none_made }) (λ h world later chosen possible same. refl))

  module _ (i : ℕ) (made : List (List SymRow)) (g after : Graph) (lt : i < length query.hypos) (going : HyposGoing i made g) (r : Result (List SymRow) WalkFault)
      (one : walks.Makes (hypo_rows query tables columns i g) AreRowsOf (AreOfWorlds query tables columns i) g r after) where
    hypo : QHypo
    hypo = (there query.hypos i lt).0

    hypo_there : slice_get query.hypos i ≡ Some hypo
    unfolding hypo
    hypo_there = (there query.hypos i lt).1

    hypo_is : hypo ≡ get_or query.hypos i hypo
    hypo_is = sym (get_or_from_slice_get query.hypos i hypo hypo hypo_there)

    more_is : (w : Walked (List SymRow)) → of (sources.Hypo i) (hypo_rows query tables columns i g) ≡ w → hypo_more query tables columns hypo made g ≡ (w >>= λ rows g. gives (made ++ rows ∷ []) g)
    unfolding hypo_more
    more_is w is =
        ap (λ (n : ℕ). of (sources.Hypo n) (hypo_rows query tables columns n g) >>= λ rows g. gives (made ++ rows ∷ []) g) going.good.count
        ∙ ap (λ (w : Walked (List SymRow)). w >>= λ rows g. gives (made ++ rows ∷ []) g) is

    module _ (fit : IsWellFormed query) (are : AreTables query tables) (told : columns_of query tables ≡ Ok columns) (rows : List SymRow) (more : List (List SymRow)) (same : more ≡ made ++ rows ∷ []) where
      with_rows : walks.Makes (hypo_rows query tables columns i g) AreRowsOf (AreOfWorlds query tables columns i) g (Ok rows) after → AreHyposUpTo i g made → AreHyposUpTo (i + 1) after (made ++ rows ∷ [])
      with_rows k so = record {
        count = length_push made rows ∙ ap (λ (n : ℕ). n + 1) so.count;
        are = record {
          rows = at_push (λ n rows. AreRowsOf after rows) made rows (λ n. rows_kept g after (at made n) k.kept (so.are.rows n)) k.good;
          fit = at_push (λ n rows. (hypo : QHypo) → slice_get query.hypos n ≡ Some hypo → All (IsRowFit hypo.columns) rows) made rows so.are.fit
              (λ other is. let here : slice_get query.hypos i ≡ Some other = ap (slice_get query.hypos) (sym so.count) ∙ is in
              hypo_fit query tables columns i other g after rows
              (subst (IsHypoFit query) (get_or_from_slice_get query.hypos i other other here) (fit.hypos i other lt)) are told here k.follows);
        };
      }

      told_more : (numbers : List ℤ) (v : ℕ → ℤ) → AreHyposSo i made numbers v → AreOfWorlds query tables columns i rows numbers v → AreHyposSo (i + 1) (made ++ rows ∷ []) numbers v
      unfolding rows_of
      told_more numbers v so here world possible chosen =
          let long = possible.long in
          let all = length-map world.tables (λ table. table.rows) in
          map_push (rows_in v) made rows
          ∙ ap₂ (λ (l : List Rows) (x : Rows). l ++ x ∷ []) (so world possible chosen) (here world possible chosen ∙ unwrap_or-slice_get (hypos_in world) i [])
          ∙ sym (take_more (hypos_in world) i [] (omega (arith, long, all, lt)))

      pub hypos_step : ◌≡◌ {A = Result (List SymRow) QueryFault} (Ok rows) (told_of (sources.Hypo i) r) → HyposGoing (i + 1) more after
      hypos_step is =
          let k = made_ok (sources.Hypo i) (hypo_rows query tables columns i g) AreRowsOf (AreOfWorlds query tables columns i) g after r rows is one in
          subst (λ (l : List (List SymRow)). HyposGoing (i + 1) l after) (sym same)
          (going_step (hypo_more query tables columns) query.hypos [] AreHyposUpTo AreHyposSo g0 i hypo made g after lt hypo_is going (made ++ rows ∷ []) (AreOfWorlds query tables columns i rows)
          (more_is (Ok (rows, after)) (ap (of (sources.Hypo i)) k.follows)) k.kept (with_rows k) k.means (λ h world later so here. told_more world (values_in h world) so here))

    pub hypos_err : (e : QueryFault) → ◌≡◌ {A = Result (List SymRow) QueryFault} (Err e) (told_of (sources.Hypo i) r) → Makes (hypos_walk query tables columns g0) (AreHypos query) (AreHyposOf query tables columns) g0 (Err e) after
    unfolding hypos_walk
    hypos_err e is =
        let k = made_err (sources.Hypo i) (hypo_rows query tables columns i g) AreRowsOf (AreOfWorlds query tables columns i) g after r e is one in
        going_err (hypo_more query tables columns) query.hypos [] AreHyposUpTo AreHyposSo g0 i hypo made g after lt hypo_is going e (AreHypos query) (AreHyposOf query tables columns) (λ ne. more_is (Err (e, after)) (k.1 ne)) k.0

    -- memory was wanting for one more
    pub hypos_memory : Makes (hypos_walk query tables columns g0) (AreHypos query) (AreHyposOf query tables columns) g0 (Err fault.Memory) after
    hypos_memory = makes_memory (AreHypos query) (AreHyposOf query tables columns) (hypos_walk query tables columns g0) g0 after (keeps_on g0 g after going.kept one.kept)

  pub hypos_end : (i : ℕ) (made : List (List SymRow)) (g : Graph) → length query.hypos ≤ i → HyposGoing i made g → Makes (hypos_walk query tables columns g0) (AreHypos query) (AreHyposOf query tables columns) g0 (Ok made) g
  unfolding hypos_walk
  hypos_end i made g le going =
      going_end (hypo_more query tables columns) query.hypos [] AreHyposUpTo AreHyposSo g0 i made g (AreHypos query) (AreHyposOf query tables columns) le (λ so. so.are)
      (λ h world later so chosen possible same. let long = possible.long in let all = length-map chosen.tables (λ table. table.rows) in so chosen possible same ∙ take_all i (hypos_in chosen) (omega (arith, long, all, le))) going
