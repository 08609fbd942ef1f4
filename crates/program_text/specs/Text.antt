-- The text of a program: a line for each formula, column and row, and one for what is to be least.
use Rattle.std.specs.Prelude.{ℕ, suc, ◌+◌, ℤ, List, [], ◌∷◌, ◌++◌, length, codes, decimal, flat_map, slice_get, Option, Some, None}
use Rattle.std.specs.Fmt.{signed_decimal}
use Rattle.prov_arena.specs.Formulas.{Formula, FalseNode, TrueNode, PresNode, CellNode, PosNode, NotNode, AndNode, OrNode, LinNode, GuardNode, AbsNode, TotNode, MinNode}
use Rattle.prov_arena.specs.declared.part.Term.{Term}
use Rattle.prov_arena.specs.declared.part.Pair.{Pair}
use Rattle.ip_rows.specs.declared.Bounds.{Bounds}
use Rattle.ip_rows.specs.declared.rows.Coef.{Coef}
use Rattle.ip_rows.specs.declared.rows.IpRow.{IpRow}
use Rattle.ip_rows.specs.declared.program.ColumnKind.{ColumnKind}
use Rattle.ip_rows.specs.declared.program.ColumnKind.TheVariants as kind
use Rattle.ip_rows.specs.declared.program.IpColumn.{IpColumn}
use Rattle.ip_rows.specs.declared.program.Program.{Program}
use Rattle.bool_encode.specs.declared.stand.Stand.{Stand}
use Rattle.bool_encode.specs.declared.stand.Stand.TheVariants as stand

-- the lines of items in turn, which are numbered from this number on
unfoldable pub numbered : {A : Type 0} → (ℕ → A → List ℕ) → ℕ → List A → List ℕ
numbered line n [] = []
numbered line n (item ∷ items) = line n item ++ numbered line (n + 1) items

-- the line before things of one kind: what they are, and how many
unfoldable pub heading : List ℕ → ℕ → List ℕ
heading word count = word ++ codes " " ++ decimal count ++ codes "\n"

-- a place, or the number of a column, behind a space
unfoldable pub place : ℕ → List ℕ
place n = codes " " ++ decimal n

-- a factor times what stands in a place, behind a space
unfoldable pub product : ℤ → ℕ → List ℕ
product factor n = codes " " ++ signed_decimal factor ++ codes "*" ++ decimal n

-- ---- formulas

abbrev pub term_word : Term → List ℕ
term_word term = product term.factor term.node

-- the truth and the number of a pair
unfoldable pub pair_word : Pair → List ℕ
pair_word pair = place pair.truth ++ codes ":" ++ decimal pair.number

abbrev pub sum_words : ℤ → List Term → List ℕ
sum_words constant terms = codes " lin " ++ signed_decimal constant ++ flat_map term_word terms

abbrev pub guard_words : ℕ → ℕ → List ℕ
guard_words truth number = (codes " guard" ++ place truth) ++ place number

abbrev pub least_words : List Pair → List ℕ
least_words pairs = codes " min" ++ flat_map pair_word pairs

-- what a formula says
unfoldable pub formula_words : Formula → List ℕ
formula_words FalseNode = codes " false"
formula_words TrueNode = codes " true"
formula_words (PresNode column) = codes " pres" ++ place column
formula_words (CellNode column) = codes " cell" ++ place column
formula_words (PosNode number) = codes " pos" ++ place number
formula_words (NotNode truth) = codes " not" ++ place truth
formula_words (AndNode kids) = codes " and" ++ flat_map place kids
formula_words (OrNode kids) = codes " or" ++ flat_map place kids
formula_words (LinNode constant terms) = sum_words constant terms
formula_words (GuardNode truth number) = guard_words truth number
formula_words (AbsNode number) = codes " abs" ++ place number
formula_words (TotNode number) = codes " tot" ++ place number
formula_words (MinNode pairs) = least_words pairs

-- the line of the formula in this place
unfoldable pub node_line : ℕ → Formula → List ℕ
node_line n formula = decimal n ++ formula_words formula ++ codes "\n"

unfoldable pub nodes_bytes : List Formula → List ℕ
nodes_bytes formulas = heading (codes "nodes") (length formulas) ++ numbered node_line 0 formulas

-- ---- columns

-- the word of a kind, between spaces
abbrev pub kind_word : ColumnKind → List ℕ
kind_word kind.World = codes " world "
kind_word kind.Switch = codes " switch "
kind_word kind.Value = codes " value "

unfoldable pub node_words : ℕ → List ℕ
node_words node = codes " node" ++ place node

-- a selector by its Min and the number of its pair, from 1
unfoldable pub selector_words : ℕ → ℕ → List ℕ
selector_words node pair = node_words node ++ codes " pair " ++ decimal (suc pair)

-- what a column stands for; nothing where it is a choice of the query
unfoldable pub stand_words : Option Stand → List ℕ
stand_words None = []
stand_words (Some (stand.World column)) = []
stand_words (Some (stand.Node node)) = node_words node
stand_words (Some (stand.Selector node pair)) = selector_words node pair

-- the least and the greatest number of a column
unfoldable pub sides_words : Bounds → List ℕ
sides_words sides = signed_decimal sides.lo ++ codes " " ++ signed_decimal sides.hi

-- the line of the column with this number
unfoldable pub column_line : List Stand → ℕ → IpColumn → List ℕ
column_line stands n column =
    decimal n ++ kind_word column.kind ++ sides_words column.sides ++ stand_words (slice_get stands n) ++ codes "\n"

unfoldable pub columns_bytes : List Stand → List IpColumn → List ℕ
columns_bytes stands columns = heading (codes "columns") (length columns) ++ numbered (column_line stands) 0 columns

-- ---- rows, and what is to be least

abbrev pub coef_word : Coef → List ℕ
coef_word coef = product coef.factor coef.column

-- the line of the row with this number
unfoldable pub row_line : ℕ → IpRow → List ℕ
row_line n row = decimal n ++ codes " >= " ++ signed_decimal row.least ++ flat_map coef_word row.terms ++ codes "\n"

unfoldable pub rows_bytes : List IpRow → List ℕ
rows_bytes rows = heading (codes "rows") (length rows) ++ numbered row_line 0 rows

unfoldable pub aim_line : ℤ → List Coef → List ℕ
aim_line constant aim = codes "objective " ++ signed_decimal constant ++ flat_map coef_word aim ++ codes "\n"

-- ---- the whole

unfoldable pub program_bytes : List Formula → List Stand → Program → List ℕ
program_bytes formulas stands program =
    codes "tiresias program 1\n" ++ nodes_bytes formulas ++ columns_bytes stands program.columns ++ rows_bytes program.rows
    ++ aim_line program.constant program.aim ++ codes "end\n"
