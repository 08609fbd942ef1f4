-- how the points of a listing are judged
use Rattle.std.specs.Prelude.{ℤ, List, Option, Result}
use Rattle.world_def.specs.declared.fault.EvalFault.{EvalFault}
use Rattle.world_points.specs.Points.{judged_at, cost_at}
use Rattle.world_listing.specs.declared.search.Judge.{Judge}

-- the cost of a point
abbrev pub value_by : Judge → List ℤ → Option ℤ
value_by judge = cost_at judge.query.now judge.tables.now judge.columns.now

-- and as it is asked
abbrev pub judged_by : Judge → List ℤ → Result (Option ℤ) EvalFault
judged_by judge = judged_at judge.query.now judge.tables.now judge.columns.now
