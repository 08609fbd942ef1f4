-- the walk of all relations, and of the whole query
use Rattle.std.proofs.Common.{◌≡◌, ◌∙◌, sym, ap, subst, refl, ℕ, ℤ, List, [], map, Result, Ok, Err}
use Rattle.std.specs.List.{list_all}
use Rattle.tiql_query.specs.declared.query.Query.{Query}
use Rattle.tiql_query.specs.declared.relation.Source.{Source}
use Rattle.tiql_query.specs.declared.world_column.WorldColumn.{WorldColumn}
use Rattle.tiql_query.specs.Rows.{AreTables}
use Rattle.tiql_query.specs.WellFormed.{IsWellFormed}
use Rattle.world_def.specs.declared.world.World.{World}
use Rattle.world_def.specs.Columns.{Rows, Tables}
use Rattle.world_def.specs.Judging.{source_of}
use Rattle.world_def.specs.Meaning.{is_met, score_by, score}
use Rattle.world_def.specs.Relations.{views_from, rows_in}
use Rattle.prov_fold.specs.Folds.{IsFold}
use Rattle.prov_fold.specs.Graphs.{Graph}
use Rattle.prov_fold.specs.Meanings.{values_in}
use Rattle.prov_fold.specs.Values.{holds}
use Rattle.prov_fold.proofs.StandLemmas.{keeps_same}
use Rattle.prov_fold.proofs.PlaceLemmas.{value_one}
use Rattle.sym_rows.specs.declared.row.Known.{Known}
use Rattle.sym_rows.specs.declared.row.SymRow.{SymRow}
use Rattle.sym_rows.specs.Cells.{sure_row}
use Rattle.sym_query.specs.declared.fault.QueryFault.{QueryFault}
use Rattle.sym_query.specs.declared.fault.QueryFault.TheVariants as fault
use Rattle.sym_query.specs.declared.goals.Goals.{Goals}
use Rattle.sym_query.specs.Meant.{aim_in, AreGoals, AreGoalsOn, AreGoalsOf}
use Rattle.sym_query.specs.Walks.{Walk, hypos_walk, views_walk, before_views, known_walk, goals_walk, query_walk, Makes}
use Rattle.sym_query.specs.Relations.{there_at, AreHypos, AreHyposOf, AreKnown, AreOn, AreViewsOf, AreKnownOf, AreGoalsOver}
use Rattle.sym_query.proofs.Making.{makes_memory, makes_then, makes_stop}
use Rattle.sym_query.proofs.Places.{on_rows, sure_tables_in}
use Rattle.sym_query.proofs.Views.{known_before}

module _ (query : Query) (tables : Tables) (columns : List WorldColumn) (g mid : Graph) where
  abbrev pub then_views : List (List SymRow) → Walk Known
  then_views hypos g = views_walk query (before_views tables hypos) g

  pub known_memory : Makes (known_walk query tables columns g) (AreKnown query) (AreKnownOf query tables columns) g (Err fault.Memory) g
  known_memory = makes_memory (AreKnown query) (AreKnownOf query tables columns) (known_walk query tables columns g) g g (keeps_same g)

  pub known_stop : (e : QueryFault) → Makes (hypos_walk query tables columns g) (AreHypos query) (AreHyposOf query tables columns) g (Err e) mid → Makes (known_walk query tables columns g) (AreKnown query) (AreKnownOf query tables columns) g (Err e) mid
  unfolding known_walk
  known_stop e h = makes_stop (AreHypos query) (AreHyposOf query tables columns) (AreKnown query) (AreKnownOf query tables columns) (hypos_walk query tables columns g) then_views g mid e h

  module _ (hypos : List (List SymRow)) (sure : List (List SymRow)) (views : List (List SymRow)) (sure_is : sure ≡ map (map sure_row) tables) (none : views ≡ []) (one : Makes (hypos_walk query tables columns g) (AreHypos query) (AreHyposOf query tables columns) g (Ok hypos) mid) where
    abbrev pub before : Known
    before = record { tables = sure; hypos = hypos; views = views }

    before_is : before ≡ before_views tables hypos
    before_is = λ i. record { tables = sure_is i; hypos = hypos; views = none i }

    pub before_known : IsFold mid → IsWellFormed query → AreTables query tables → AreKnown query mid before
    before_known fold fit are = subst (AreKnown query mid) (sym before_is) (known_before query tables hypos mid fold fit are one.good)

    pub known_ok : (after : Graph) (r : Result Known QueryFault) → Makes (views_walk query before mid) (AreKnown query) (AreViewsOf query before) mid r after → Makes (known_walk query tables columns g) (AreKnown query) (AreKnownOf query tables columns) g r after
    unfolding known_walk
    known_ok after r h =
        makes_then (AreHypos query) (AreHyposOf query tables columns) (AreKnown query) (AreKnownOf query tables columns) (hypos_walk query tables columns g) then_views g mid hypos after r (AreViewsOf query (before_views tables hypos)) one
        (subst (λ (k : Known). Makes (views_walk query k mid) (AreKnown query) (AreViewsOf query k) mid r after) before_is h)
        (λ known l world later so late grouped chosen possible same. late grouped tables chosen (record { of_tables = sure_tables_in (values_in l world) (value_one l world later.fold) tables; of_hypos = so chosen possible same; of_views = refl }))

module _ (query : Query) (tables : Tables) (columns : List WorldColumn) (g mid : Graph) where
  pub query_stop : (e : QueryFault) → Makes (known_walk query tables columns g) (AreKnown query) (AreKnownOf query tables columns) g (Err e) mid → Makes (query_walk query tables columns g) AreGoals (AreGoalsOf query tables columns) g (Err e) mid
  unfolding query_walk
  query_stop e h = makes_stop (AreKnown query) (AreKnownOf query tables columns) AreGoals (AreGoalsOf query tables columns) (known_walk query tables columns g) (goals_walk query) g mid e h

  module _ (known : Known) (world : World) (goals : Goals) (v : ℕ → ℤ) where
    goals_on : AreOn tables world (views_from tables world [] query.views) known v
        → (list_all (holds v) goals.roots ≡ list_all (λ need. is_met need (there_at v known (source_of need))) query.requires_) × (aim_in v goals.aim ≡ score_by query.aim (there_at v known))
        → AreGoalsOn query tables world goals v
    unfolding rows_in score
    goals_on on both =
        let same = on_rows tables world (views_from tables world [] query.views) known v on in
        record {
          met = both.0 ∙ ap (λ (rows : Source → Rows). list_all (λ need. is_met need (rows (source_of need))) query.requires_) same;
          score = both.1 ∙ ap (score_by query.aim) same;
        }

  pub query_ok : (known : Known) (after : Graph) (r : Result Goals QueryFault) → Makes (known_walk query tables columns g) (AreKnown query) (AreKnownOf query tables columns) g (Ok known) mid → Makes (goals_walk query known mid) AreGoals (AreGoalsOver query known) mid r after
      → Makes (query_walk query tables columns g) AreGoals (AreGoalsOf query tables columns) g r after
  unfolding query_walk
  query_ok known after r one h =
      makes_then (AreKnown query) (AreKnownOf query tables columns) AreGoals (AreGoalsOf query tables columns) (known_walk query tables columns g) (goals_walk query) g mid known after r (AreGoalsOver query known) one h
      (λ goals l world later so late grouped chosen possible same. goals_on known chosen goals (values_in l world) (so grouped chosen possible same) (late (one.good.fit grouped)))
