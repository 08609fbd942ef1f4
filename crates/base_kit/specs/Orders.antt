-- the order of values and of rows
use Rattle.std.specs.Prelude.{List}
use Rattle.std.specs.declared.cmp.Ordering.{Ordering}
use Rattle.std.specs.declared.cmp.Ordering.TheVariants.{Less, Greater}
use Rattle.std.specs.Ordering.{nat_cmp, int_cmp}
use Rattle.std.specs.Cmp.Lexicographic.{slice_cmp}
use Rattle.base_kit.specs.declared.value.Value.{Value}
use Rattle.base_kit.specs.declared.value.Value.TheVariants.{Int, Text}

-- numbers by size, texts by their bytes, and every number before every text
abbrev pub value_order : Value → Value → Ordering
value_order (Int m) (Int n) = int_cmp m n
value_order (Int m) (Text t) = Less
value_order (Text s) (Int n) = Greater
value_order (Text s) (Text t) = slice_cmp nat_cmp s t

-- by the first column that differs, and a beginning before the whole
abbrev pub row_order : List Value → List Value → Ordering
row_order = slice_cmp value_order
