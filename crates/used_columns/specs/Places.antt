-- What a column may be made of.
use Rattle.std.specs.Prelude.{◌<◌, if◌then◌else◌, List, length}
use Rattle.ip_rows.specs.declared.Bounds.{Bounds}
use Rattle.ip_rows.specs.declared.program.ColumnKind.{ColumnKind}
use Rattle.ip_rows.specs.declared.program.ColumnKind.TheVariants as kind
use Rattle.prov_arena.specs.Formulas.{Formula}
use Rattle.prov_fold.specs.Graphs.{Graph, size}
use Rattle.bool_encode.specs.declared.stand.Stand.{Stand}
use Rattle.bool_encode.specs.declared.stand.Stand.TheVariants as stand
use Rattle.bool_encode.specs.Tellings.{is_switch}

-- what a column stands for is there: a world column has sides, and a node stands in the list
abbrev pub IsIn : Graph → List Bounds → Stand → Type 0
IsIn g sides (stand.World number) = number < length sides
IsIn g sides (stand.Node z) = z < size g
IsIn g sides (stand.Selector z pair) = Unit {0}

-- the kind of the column of a formula
abbrev pub kind_of : Formula → ColumnKind
kind_of m = if is_switch m then kind.Switch else kind.Value
