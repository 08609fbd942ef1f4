use Rattle.std.proofs.Common.{◌≡◌, map}
use Rattle.sym_rows.specs.Cells.{IsCellOf}
use Rattle.sym_rows.specs.Hypos.{is_unknown_in}
use Rattle.sym_rows.proofs.Each.{Going}
use Rattle.sym_groups.specs.Aggregates.{item_cell, argument_place}
use Rattle.sym_groups.proofs.ItemCells.{ItemsSo}
use Rattle.sym_groups.proofs.items.item_cells.Given as goal

abbrev pub invariant-loop-at : goal.invariant-loop-at
invariant-loop-at l =
    Going (λ i item. item_cell (is_unknown_in l.columns i) l.keys (argument_place l.keys l.items i) (map (λ row. row.now) l.group) item) l.items IsCellOf (ItemsSo l.columns l.keys l.items (map (λ row. row.now) l.group)) l.fn.fold l.at l.made l.fold
    × (l.place ≡ argument_place l.keys l.items l.at)
