use Rattle.std.proofs.Common.{◌≡◌, ◌++◌, drop}
use Rattle.std.specs.List.{flat_map}
use Rattle.tiql_tree.specs.Bytes.{listed, comma_space, source_bytes}
use Rattle.tiql_tree.proofs.write_select.put_sources.Given as goal

abbrev pub invariant-loop-source : goal.invariant-loop-source
invariant-loop-source l =
    l.out.items ++ flat_map (λ other. comma_space ++ source_bytes other) (drop l.source-index l.more) ≡ l.fn.out.items ++ listed comma_space source_bytes l.sources
