-- points: one number for each world column, which possible world they are, and its cost
use Rattle.std.specs.Prelude.{ℤ, pos, neg_ℤ, int_lt, Bool, ◌&&◌, if◌then◌else◌, List, map, Option, None, option_map, is_none, Result, Ok}
use Rattle.std.specs.Ordering.{int_eq}
use Rattle.std.specs.Cmp.Lexicographic.{pointwise}
use Rattle.base_kit.specs.Asking.{and_then}
use Rattle.ip_rows.specs.declared.Bounds.{Bounds}
use Rattle.tiql_query.specs.declared.aim.Aim.{Aim}
use Rattle.tiql_query.specs.declared.aim.Aim.TheVariants as aims
use Rattle.tiql_query.specs.declared.query.Query.{Query}
use Rattle.tiql_query.specs.declared.world_column.WorldColumn.{WorldColumn}
use Rattle.world_def.specs.declared.fault.EvalFault.{EvalFault}
use Rattle.world_def.specs.declared.world.World.{World}
use Rattle.world_def.specs.Columns.{Tables}
use Rattle.world_def.specs.Worlds.{first_impossible, world_numbers, tables_at}
use Rattle.world_def.specs.Meaning as meaning
use Rattle.world_def.specs.Judging as judging

-- the lesser of two numbers
abbrev pub least : ℤ → ℤ → ℤ
least m n = if int_lt n m then n else m

-- the greater of two numbers
abbrev pub greatest : ℤ → ℤ → ℤ
greatest m n = if int_lt m n then n else m

-- the sides of a column: its bounds, which hold 0 as well where its row may be left out
unfoldable pub side : WorldColumn → Bounds
side column = if column.droppable then record { lo = least column.lo (pos 0); hi = greatest column.hi (pos 0) } else record { lo = column.lo; hi = column.hi }

-- the box of the columns
abbrev pub root : List WorldColumn → List Bounds
root columns = map side columns

-- a score as a cost: less is better
unfoldable pub cost : Aim → ℤ → ℤ
cost aims.Find n = n
cost (aims.Sum maximize source part) n = if maximize then neg_ℤ n else n

-- the cost of a world, where it meets what is required
abbrev pub world_cost : Query → Tables → World → Option ℤ
world_cost query tables world = option_map (cost query.aim) (meaning.score_met query tables world)

-- the same as it is asked, up to the first fault
unfoldable pub judged : Query → Tables → World → Result (Option ℤ) EvalFault
judged query tables world = and_then (judging.judged query tables world) (λ score. Ok (option_map (cost query.aim) score))

-- the numbers of a world's columns
abbrev pub numbers : Query → Tables → List WorldColumn → World → List ℤ
numbers query tables columns world = world_numbers tables world.tables 0 query.hypos columns

-- the world that a point gives
unfoldable pub world_at : Query → Tables → List WorldColumn → List ℤ → World
world_at query tables columns point = record { tables = tables_at tables 0 query.hypos columns point }

-- the world is possible, and these are its numbers
abbrev pub has_numbers : Query → Tables → List WorldColumn → World → List ℤ → Bool
has_numbers query tables columns world point = is_none (first_impossible tables world.tables 0 query.hypos columns) && pointwise int_eq (numbers query tables columns world) point

-- the point's numbers are those of a possible world, which is then the one that the point gives
abbrev pub is_of_world : Query → Tables → List WorldColumn → List ℤ → Bool
is_of_world query tables columns point = has_numbers query tables columns (world_at query tables columns point) point

-- the cost of a point, where its numbers are those of a possible world that meets what is required
unfoldable pub cost_at : Query → Tables → List WorldColumn → List ℤ → Option ℤ
cost_at query tables columns point = if is_of_world query tables columns point then world_cost query tables (world_at query tables columns point) else None

-- the same as it is asked
unfoldable pub judged_at : Query → Tables → List WorldColumn → List ℤ → Result (Option ℤ) EvalFault
judged_at query tables columns point = if is_of_world query tables columns point then judged query tables (world_at query tables columns point) else Ok None
