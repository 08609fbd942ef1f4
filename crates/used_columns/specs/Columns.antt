-- The columns of a program: first the world's, then those of the used nodes in rising order, each Min with its selectors behind it.
use Rattle.std.specs.Prelude.{◌≢◌, ◌≡◌, nat_le, ℕ, pos, Bool, if◌then◌else◌, List, [], ◌∷◌, ◌++◌, map, flat_map, length, slice_index_or, Result, Ok, Err}
use Rattle.std.specs.List.{range_with_len}
use Rattle.ip_rows.specs.declared.Bounds.{Bounds}
use Rattle.ip_rows.specs.declared.program.ColumnKind.TheVariants as kind
use Rattle.ip_rows.specs.declared.program.IpColumn.{IpColumn}
use Rattle.prov_arena.specs.Formulas.{Formula, MinNode}
use Rattle.prov_fold.specs.Graphs.{Graph, node, size}
use Rattle.bool_encode.specs.declared.stand.Stand.{Stand}
use Rattle.bool_encode.specs.declared.stand.Stand.TheVariants as stand
use Rattle.whole_points.specs.Matched.{column, has_column, own_column}
use Rattle.used_columns.specs.declared.fault.ColumnsFault.{ColumnsFault}
use Rattle.used_columns.specs.declared.fault.ColumnsFault.TheVariants as fault
use Rattle.used_columns.specs.declared.layout.Layout.{Layout}
use Rattle.used_columns.specs.Used.{mark_at}

-- what the columns of the formula at the place z stand for: a Min has one for each pair behind its own
abbrev pub own_stands : ℕ → Formula → List Stand
own_stands z (MinNode pairs) = stand.Node z ∷ map (λ pair. stand.Selector z pair) (range_with_len 0 (length pairs))
own_stands z m = if has_column m then stand.Node z ∷ [] else []

-- the same where the node is marked
abbrev pub marked_stands : Graph → List Bool → ℕ → List Stand
marked_stands g used z = if mark_at used z then own_stands z (node g z) else []

-- what the columns stand for, by how many are the world's
unfoldable pub stands_for : Graph → ℕ → List Bool → List Stand
stands_for g worlds used = map (λ number. stand.World number) (range_with_len 0 worlds) ++ flat_map (marked_stands g used) (range_with_len 0 (size g))

-- the sides of a world column
abbrev pub side_at : List Bounds → ℕ → Bounds
side_at sides number = slice_index_or sides number (record { lo = pos 0; hi = pos 0 })

-- the column of what it stands for
abbrev pub column_for : Graph → List Bounds → Stand → IpColumn
column_for g sides (stand.World number) = column kind.World (side_at sides number)
column_for g sides (stand.Node z) = own_column g z
column_for g sides (stand.Selector z pair) = column kind.Switch (record { lo = pos 0; hi = pos 1 })

-- the map and the columns, where there are not more of them than there may be
abbrev pub laid_by : Graph → List Bounds → List Stand → Result Layout ColumnsFault
laid_by g sides stands =
    if nat_le (length stands) 100000 then Ok (record { map = record { stands = stands }; columns = map (column_for g sides) stands })
    else Err (fault.TooManyColumns (length stands))

unfoldable pub laid : Graph → List Bounds → List Bool → Result Layout ColumnsFault
laid g sides used = laid_by g sides (stands_for g (length sides) used)

-- a call gives this, unless memory is wanting
abbrev pub Gives : Result Layout ColumnsFault → Result Layout ColumnsFault → Type 0
Gives outcome (Ok layout) = outcome ≡ Ok layout
Gives outcome (Err e) = e ≢ fault.Memory → outcome ≡ Err e
