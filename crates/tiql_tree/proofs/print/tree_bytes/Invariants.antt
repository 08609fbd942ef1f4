use Rattle.std.proofs.Common.{◌≡◌, ◌++◌, drop}
use Rattle.std.specs.List.{flat_map}
use Rattle.tiql_tree.specs.Bytes.{decl_bytes}
use Rattle.tiql_tree.proofs.print.tree_bytes.Given as goal

abbrev pub invariant-loop-decl : goal.invariant-loop-decl
invariant-loop-decl l = l.out.items ++ flat_map decl_bytes (drop l.decl-index l.tree.decls) ≡ flat_map decl_bytes l.tree.decls
