use Rattle.std.proofs.Common.{◌≡◌, ◌++◌, drop}
use Rattle.std.specs.List.{flat_map}
use Rattle.tiql_tree.specs.Bytes.{listed, comma_space, bound_bytes}
use Rattle.tiql_tree.proofs.print.put_bounds.Given as goal

abbrev pub invariant-loop-bound : goal.invariant-loop-bound
invariant-loop-bound l =
    l.out.items ++ flat_map (λ other. comma_space ++ bound_bytes other) (drop l.bound-index l.more) ≡ l.fn.out.items ++ listed comma_space bound_bytes l.bounds
