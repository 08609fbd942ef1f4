use Rattle.std.proofs.Common.{◌≡◌, ◌++◌, drop}
use Rattle.std.specs.List.{flat_map}
use Rattle.tiql_tree.specs.Bytes.{listed, comma_space, item_bytes}
use Rattle.tiql_tree.proofs.write_select.put_items.Given as goal

abbrev pub invariant-loop-item : goal.invariant-loop-item
invariant-loop-item l =
    l.out.items ++ flat_map (λ other. comma_space ++ item_bytes other) (drop l.item-index l.more) ≡ l.fn.out.items ++ listed comma_space item_bytes l.items
