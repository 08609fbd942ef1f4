use Rattle.std.proofs.Common.{◌∙◌, ap, arith}
use Rattle.prov_arena.specs.Graphs.{at}
use Rattle.used_columns.proofs.CountLemmas.{pairs_few}
use Rattle.used_columns.proofs.layout.add_own.Goals as goal

pub overflow_cast-pairs : goal.overflow_cast-pairs
overflow_cast-pairs c =
    let few = pairs_few c.args.fold.now c.args.id c.in-Min.pairs.now 100000 (c.in-Min.ensures.part ∙ ap (λ parts. at parts c.args.id) c.prov.ensures) c.requires.few in
    omega (arith, few)
