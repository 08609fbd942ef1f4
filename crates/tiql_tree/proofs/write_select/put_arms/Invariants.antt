use Rattle.std.proofs.Common.{◌≡◌, ◌++◌, drop}
use Rattle.std.specs.List.{flat_map}
use Rattle.tiql_tree.specs.Bytes.{listed, union_all, select_bytes}
use Rattle.tiql_tree.proofs.write_select.put_arms.Given as goal

abbrev pub invariant-loop-select : goal.invariant-loop-select
invariant-loop-select l =
    l.out.items ++ flat_map (λ other. union_all ++ select_bytes other) (drop l.select-index l.more) ≡ l.fn.out.items ++ listed union_all select_bytes l.arms
