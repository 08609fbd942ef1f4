use Rattle.std.proofs.Common.{◌∙◌, ap, List}
use Rattle.prov_arena.specs.Formulas.{Formula, PosNode, GuardNode, AbsNode, TotNode}
use Rattle.prov_arena.specs.Graphs.{at}
use Rattle.cmp_encode.proofs.Ready.{pos_ready, guard_ready, abs_ready, tot_ready, compared_if}
use Rattle.cmp_encode.proofs.rows.number_rows.Goals as goal

pub pos_rows-requires-clause-number : goal.pos_rows-requires-clause-number
pos_rows-requires-clause-number c =
    (pos_ready c.args.fold.now c.args.map.now.stands c.args.id c.range-range.ensures.fold c.requires.there c.requires.named c.in-Pos.number (c.in-Pos.ensures.part ∙ ap (λ (ps : List Formula). at ps c.args.id) c.prov.ensures)).0

pub pos_rows-requires-clause-node : goal.pos_rows-requires-clause-node
pos_rows-requires-clause-node c =
    (pos_ready c.args.fold.now c.args.map.now.stands c.args.id c.range-range.ensures.fold c.requires.there c.requires.named c.in-Pos.number (c.in-Pos.ensures.part ∙ ap (λ (ps : List Formula). at ps c.args.id) c.prov.ensures)).1

pub guard_rows-requires-clause-truth : goal.guard_rows-requires-clause-truth
guard_rows-requires-clause-truth c =
    (guard_ready c.args.fold.now c.args.map.now.stands c.args.id c.range-range.ensures.fold c.requires.there c.requires.named c.in-Guard.truth c.in-Guard.number (c.in-Guard.ensures.part ∙ ap (λ (ps : List Formula). at ps c.args.id) c.prov.ensures)).0

pub guard_rows-requires-clause-number : goal.guard_rows-requires-clause-number
guard_rows-requires-clause-number c =
    (guard_ready c.args.fold.now c.args.map.now.stands c.args.id c.range-range.ensures.fold c.requires.there c.requires.named c.in-Guard.truth c.in-Guard.number (c.in-Guard.ensures.part ∙ ap (λ (ps : List Formula). at ps c.args.id) c.prov.ensures)).1

pub guard_rows-requires-clause-node : goal.guard_rows-requires-clause-node
guard_rows-requires-clause-node c =
    (guard_ready c.args.fold.now c.args.map.now.stands c.args.id c.range-range.ensures.fold c.requires.there c.requires.named c.in-Guard.truth c.in-Guard.number (c.in-Guard.ensures.part ∙ ap (λ (ps : List Formula). at ps c.args.id) c.prov.ensures)).2

pub abs_rows-requires-clause-number : goal.abs_rows-requires-clause-number
abs_rows-requires-clause-number c =
    (abs_ready c.args.fold.now c.args.map.now.stands c.args.id c.range-range.ensures.fold c.requires.there c.requires.named c.in-Abs.number (c.in-Abs.ensures.part ∙ ap (λ (ps : List Formula). at ps c.args.id) c.prov.ensures)).0

pub abs_rows-requires-clause-node : goal.abs_rows-requires-clause-node
abs_rows-requires-clause-node c =
    (abs_ready c.args.fold.now c.args.map.now.stands c.args.id c.range-range.ensures.fold c.requires.there c.requires.named c.in-Abs.number (c.in-Abs.ensures.part ∙ ap (λ (ps : List Formula). at ps c.args.id) c.prov.ensures)).1

pub abs_rows-requires-clause-aid : goal.abs_rows-requires-clause-aid
abs_rows-requires-clause-aid c =
    (abs_ready c.args.fold.now c.args.map.now.stands c.args.id c.range-range.ensures.fold c.requires.there c.requires.named c.in-Abs.number (c.in-Abs.ensures.part ∙ ap (λ (ps : List Formula). at ps c.args.id) c.prov.ensures)).2

pub tot_rows-requires-clause-number : goal.tot_rows-requires-clause-number
tot_rows-requires-clause-number c =
    (tot_ready c.args.fold.now c.args.map.now.stands c.args.id c.range-range.ensures.fold c.requires.there c.requires.named c.in-Tot.number (c.in-Tot.ensures.part ∙ ap (λ (ps : List Formula). at ps c.args.id) c.prov.ensures)).0

pub tot_rows-requires-clause-node : goal.tot_rows-requires-clause-node
tot_rows-requires-clause-node c =
    (tot_ready c.args.fold.now c.args.map.now.stands c.args.id c.range-range.ensures.fold c.requires.there c.requires.named c.in-Tot.number (c.in-Tot.ensures.part ∙ ap (λ (ps : List Formula). at ps c.args.id) c.prov.ensures)).1

pub returns-in-Pos-clause-tells : goal.returns-in-Pos-clause-tells
returns-in-Pos-clause-tells c =
    compared_if c.args.fold.now c.args.map.now.stands c.args.id c.range-range.ensures.fold c.requires.there c.pos_rows.result (PosNode c.in-Pos.number) (c.in-Pos.ensures.part ∙ ap (λ (ps : List Formula). at ps c.args.id) c.prov.ensures) c.requires.kind c.pos_rows.ensures

pub returns-in-Guard-clause-tells : goal.returns-in-Guard-clause-tells
returns-in-Guard-clause-tells c =
    compared_if c.args.fold.now c.args.map.now.stands c.args.id c.range-range.ensures.fold c.requires.there c.guard_rows.result (GuardNode c.in-Guard.truth c.in-Guard.number) (c.in-Guard.ensures.part ∙ ap (λ (ps : List Formula). at ps c.args.id) c.prov.ensures) c.requires.kind c.guard_rows.ensures

pub returns-in-Abs-clause-tells : goal.returns-in-Abs-clause-tells
returns-in-Abs-clause-tells c =
    compared_if c.args.fold.now c.args.map.now.stands c.args.id c.range-range.ensures.fold c.requires.there c.abs_rows.result (AbsNode c.in-Abs.number) (c.in-Abs.ensures.part ∙ ap (λ (ps : List Formula). at ps c.args.id) c.prov.ensures) c.requires.kind c.abs_rows.ensures

pub returns-in-Tot-clause-tells : goal.returns-in-Tot-clause-tells
returns-in-Tot-clause-tells c =
    compared_if c.args.fold.now c.args.map.now.stands c.args.id c.range-range.ensures.fold c.requires.there c.tot_rows.result (TotNode c.in-Tot.number) (c.in-Tot.ensures.part ∙ ap (λ (ps : List Formula). at ps c.args.id) c.prov.ensures) c.requires.kind c.tot_rows.ensures
