-- what a text asks: a sound query
use Rattle.std.specs.Prelude.{◌≡◌, ◌≢◌, ◌<◌, ℕ, List, length, Result, Ok, Err}
use Rattle.base_kit.specs.declared.place.Place.{Place}
use Rattle.tiql_tree.specs.declared.tree.Tree.{Tree}
use Rattle.tiql_tree.specs.Spelled.{Spelled, IsStop}
use Rattle.tiql_query.specs.declared.query.Query.{Query}
use Rattle.tiql_query.specs.WellFormed.{IsWellFormed}
use Rattle.tiql_check.specs.declared.fault.SoundFault.{SoundFault}
use Rattle.tiql_check.specs.declared.fault.SoundFault.TheVariants as rules
use Rattle.tiql_check.specs.Sound.{Sound, FirstBroken}
use Rattle.job_intake.specs.declared.refusal.Refusal.{Refusal}
use Rattle.job_intake.specs.declared.refusal.Refusal.TheVariants as refusal
use Rattle.job_intake.specs.Steps.{Then}

-- the tree that the bytes spell, or the place at which they stop
abbrev pub TreeComes : List ℕ → Result Tree Refusal → Type 0
TreeComes bytes (Ok tree) = Spelled bytes tree
TreeComes bytes (Err why) = (place : Place) × (why ≡ refusal.Syntax place) × IsStop bytes place

-- the query that the tree says, or the rule that it breaks first
abbrev pub QueryComes : Tree → Result Query Refusal → Type 0
QueryComes tree (Ok query) = Sound tree query
QueryComes tree (Err why) = (fault : SoundFault) × (why ≡ refusal.Unsound fault) × (fault ≢ rules.Memory) × FirstBroken tree fault

-- what a text asks: first its tree, and then the query of that
abbrev pub AskComes : List ℕ → Result Query Refusal → Type 0
AskComes bytes = Then (TreeComes bytes) QueryComes

-- the query has as few hypothetical tables, views and requirements as 32 bits number
pub record IsNumbered (query : Query) : Type 0 where
  pub hypos : length query.hypos < 4294967295
  pub views : length query.views < 4294967295
  pub requires_ : length query.requires_ < 4294967295

-- a query that fits together
pub record IsAsked (query : Query) : Type 0 where
  pub fit : IsWellFormed query
  pub numbered : IsNumbered query
