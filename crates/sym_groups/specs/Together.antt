-- rows that are put together by their keys, as they are made
use Rattle.std.specs.Prelude.{List, map}
use Rattle.std.specs.Borrow.{Bor}
use Rattle.std.specs.BTreeMap.{BTreeMap, values}
use Rattle.std.specs.Global.{Vec}
use Rattle.base_kit.specs.declared.value.Value.{Value}
use Rattle.sym_rows.specs.declared.row.SymRow.{SymRow}

-- the rows of each key, by keys that are lent
abbrev pub Lent : Type 0
Lent = BTreeMap (Bor (List Value)) (Vec (Bor SymRow))

-- rows that are lent
abbrev pub lent_rows : Vec (Bor SymRow) → List SymRow
lent_rows group = map (λ row. row.now) group.items

-- the rows of all groups
unfoldable pub lists_in : Lent → List (List SymRow)
lists_in groups = map lent_rows (values groups)
