use Rattle.std.proofs.Common.{◌∙◌, ap, List}
use Rattle.prov_arena.specs.Formulas.{Formula}
use Rattle.prov_arena.specs.Graphs.{at}
use Rattle.least_encode.proofs.Ready.{aid_ready, least_if, own_ready, pairs_ready}
use Rattle.least_encode.proofs.rows.least_rows.Goals as goal

pub rows_of-requires-clause-pairs : goal.rows_of-requires-clause-pairs
rows_of-requires-clause-pairs c =
    pairs_ready c.args.fold.now c.args.map.now.stands c.args.id c.range-range.ensures.fold c.requires.there c.requires.named c.in-Min.pairs.now (c.in-Min.ensures.part ∙ ap (λ (ps : List Formula). at ps c.args.id) c.prov.ensures) c.requires.chosen

pub rows_of-requires-clause-some_pair : goal.rows_of-requires-clause-some_pair
rows_of-requires-clause-some_pair c =
    aid_ready c.args.fold.now c.args.map.now.stands c.args.id c.range-range.ensures.fold c.requires.there c.requires.named c.in-Min.pairs.now (c.in-Min.ensures.part ∙ ap (λ (ps : List Formula). at ps c.args.id) c.prov.ensures) c.args.some_pair c.requires.some_pair

pub rows_of-requires-clause-node : goal.rows_of-requires-clause-node
rows_of-requires-clause-node c =
    own_ready c.args.fold.now c.args.map.now.stands c.args.id c.range-range.ensures.fold c.requires.there c.requires.named c.in-Min.pairs.now (c.in-Min.ensures.part ∙ ap (λ (ps : List Formula). at ps c.args.id) c.prov.ensures)

pub returns-clause-tells : goal.returns-clause-tells
returns-clause-tells c =
    least_if c.args.fold.now c.args.map.now.stands c.args.id c.args.some_pair c.range-range.ensures.fold c.requires.there c.in-Min.pairs.now (c.in-Min.ensures.part ∙ ap (λ (ps : List Formula). at ps c.args.id) c.prov.ensures) c.requires.some_pair c.rows_of.result c.rows_of.ensures
