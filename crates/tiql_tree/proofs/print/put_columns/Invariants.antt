use Rattle.std.proofs.Common.{◌≡◌, ◌++◌, drop}
use Rattle.std.specs.List.{flat_map}
use Rattle.tiql_tree.specs.Bytes.{listed, comma_space, column_bytes}
use Rattle.tiql_tree.proofs.print.put_columns.Given as goal

abbrev pub invariant-loop-column : goal.invariant-loop-column
invariant-loop-column l =
    l.out.items ++ flat_map (λ other. comma_space ++ column_bytes other) (drop l.column-index l.more) ≡ l.fn.out.items ++ listed comma_space column_bytes l.columns
