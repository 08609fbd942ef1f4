use Rattle.std.proofs.Common.{◌∙◌, ap, List}
use Rattle.prov_arena.specs.Formulas.{Formula, AndNode, OrNode}
use Rattle.prov_arena.specs.Graphs.{at}
use Rattle.bool_encode.proofs.Telling.{and_ready, or_ready, joined_if}
use Rattle.bool_encode.proofs.rows.bool_rows.Goals as goal

pub and_rows-requires-clause-kids : goal.and_rows-requires-clause-kids
and_rows-requires-clause-kids c =
    and_ready c.args.fold.now c.args.map.now.stands c.args.id c.range-range.ensures.fold c.requires.there c.in-And.kids.now (c.in-And.ensures.part ∙ ap (λ (ps : List Formula). at ps c.args.id) c.prov.ensures) c.requires.named

pub or_rows-requires-clause-kids : goal.or_rows-requires-clause-kids
or_rows-requires-clause-kids c =
    or_ready c.args.fold.now c.args.map.now.stands c.args.id c.range-range.ensures.fold c.requires.there c.in-Or.kids.now (c.in-Or.ensures.part ∙ ap (λ (ps : List Formula). at ps c.args.id) c.prov.ensures) c.requires.named

pub returns-in-And-clause-tells : goal.returns-in-And-clause-tells
returns-in-And-clause-tells c =
    joined_if c.args.fold.now c.args.map.now.stands c.args.id c.range-range.ensures.fold c.requires.there c.and_rows.result (AndNode c.in-And.kids.now) (c.in-And.ensures.part ∙ ap (λ (ps : List Formula). at ps c.args.id) c.prov.ensures) c.requires.kind c.and_rows.ensures

pub returns-in-Or-clause-tells : goal.returns-in-Or-clause-tells
returns-in-Or-clause-tells c =
    joined_if c.args.fold.now c.args.map.now.stands c.args.id c.range-range.ensures.fold c.requires.there c.or_rows.result (OrNode c.in-Or.kids.now) (c.in-Or.ensures.part ∙ ap (λ (ps : List Formula). at ps c.args.id) c.prov.ensures) c.requires.kind c.or_rows.ensures
