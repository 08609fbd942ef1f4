use Rattle.std.proofs.Common.{◌≡◌, ◌++◌, drop}
use Rattle.std.specs.List.{flat_map}
use Rattle.tiql_tree.specs.Bytes.{listed, comma_space, spot_bytes}
use Rattle.tiql_tree.proofs.print.put_names.Given as goal

abbrev pub invariant-loop-spot : goal.invariant-loop-spot
invariant-loop-spot l =
    l.out.items ++ flat_map (λ other. comma_space ++ spot_bytes other) (drop l.spot-index l.more) ≡ l.fn.out.items ++ listed comma_space spot_bytes l.names
