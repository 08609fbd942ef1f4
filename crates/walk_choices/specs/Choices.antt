-- The choices of the list that the walk of a query makes: the world columns, with their sides.
use Rattle.std.specs.Prelude.{◌≡◌, List, [], ◌∷◌, Ok}
use Rattle.tiql_query.specs.declared.query.Query.{Query}
use Rattle.tiql_query.specs.declared.world_column.WorldColumn.{WorldColumn}
use Rattle.world_def.specs.Columns.{Tables, columns_of}
use Rattle.prov_arena.specs.Formulas.{FalseNode, TrueNode}
use Rattle.prov_fold.specs.Graphs.{Graph}
use Rattle.prov_fold.specs.Spans.{truth_span}
use Rattle.world_points.specs.Points.{root}
use Rattle.used_columns.specs.Laid.{HasChoices}
use Rattle.sym_query.specs.declared.goals.Goals.{Goals}
use Rattle.sym_query.specs.Walks.{query_walk}

-- the list with which a walk begins: False and True
abbrev pub start : Graph
start = record { parts = FalseNode ∷ TrueNode ∷ []; ranges = truth_span ∷ truth_span ∷ [] }

-- each presence and each cell of the list that the walk makes is a world column of the query, whose sides are its range
abbrev pub WalksOverChoices : Type 0
WalksOverChoices = (query : Query) (tables : Tables) (columns : List WorldColumn) (goals : Goals) (g : Graph)
    → columns_of query tables ≡ Ok columns → query_walk query tables columns start ≡ Ok (goals, g) → HasChoices g (root columns)
