use Rattle.std.proofs.Common.{◌∙◌, sym, ap, subst, List, OnOk, arith}
use Rattle.prov_arena.specs.Formulas.{Formula, AndNode, OrNode, NotNode}
use Rattle.prov_arena.specs.Graphs.{at}
use Rattle.bool_encode.specs.Forms.{Form}
use Rattle.bool_encode.proofs.LightLemmas.{truth_light}
use Rattle.root_encode.specs.Roots.{AreJoinedOn, root_forms}
use Rattle.root_encode.specs.Told.{Adds}
use Rattle.root_encode.proofs.ByKind.{not_is, and_held, and_lacks, or_held, or_lacks, pos_is, pres_is, false_is, true_is, below, not_kid, and_kids, or_kids, and_light, or_light, pos_light, and_joined, or_joined, pos_joined, pres_joined, one_joined, adds_more}
use Rattle.root_encode.proofs.ask.+ask.Goals as goal

pub ask-ask-requires : goal.ask-ask-requires
ask-ask-requires t c =
    let k = below c.args.fold.now c.range-range.ensures.fold c.args.id c.requires.truth.below (NotNode c.in-Not.truth) (c.in-Not.ensures.part ∙ ap (λ (ps : List Formula). at ps c.args.id) c.prov.ensures) 0 0 (omega arith) in
    (omega (arith, c.decreases, k), (c.requires.map, (not_kid c.args.fold.now c.range-range.ensures.fold c.args.id c.requires.truth.below c.in-Not.truth (c.in-Not.ensures.part ∙ ap (λ (ps : List Formula). at ps c.args.id) c.prov.ensures), (subst (AreJoinedOn c.args.fold.now c.args.map.now.stands) (sym (not_is c.args.fold.now c.range-range.ensures.fold c.args.id c.requires.truth.below c.args.holds c.in-Not.truth (c.in-Not.ensures.part ∙ ap (λ (ps : List Formula). at ps c.args.id) c.prov.ensures))) c.requires.named))))

pub ask-ask_each-requires : goal.ask-ask_each-requires
ask-ask_each-requires t c =
    (omega (arith, c.decreases), (c.requires.map, (below c.args.fold.now c.range-range.ensures.fold c.args.id c.requires.truth.below (AndNode c.in-And.kids.now) (c.in-And.ensures.part ∙ ap (λ (ps : List Formula). at ps c.args.id) c.prov.ensures), (and_kids c.args.fold.now c.range-range.ensures.fold c.args.id c.requires.truth.below c.in-And.kids.now (c.in-And.ensures.part ∙ ap (λ (ps : List Formula). at ps c.args.id) c.prov.ensures), (subst (AreJoinedOn c.args.fold.now c.args.map.now.stands) (sym (and_held c.args.fold.now c.range-range.ensures.fold c.args.id c.requires.truth.below c.args.holds c.in-And.kids.now (c.in-And.ensures.part ∙ ap (λ (ps : List Formula). at ps c.args.id) c.prov.ensures) c.if-holds.true)) c.requires.named)))))

pub ask-ask_each-requires-else-holds-2 : goal.ask-ask_each-requires-else-holds-2
ask-ask_each-requires-else-holds-2 t c =
    (omega (arith, c.decreases), (c.requires.map, (below c.args.fold.now c.range-range.ensures.fold c.args.id c.requires.truth.below (OrNode c.in-Or.kids.now) (c.in-Or.ensures.part ∙ ap (λ (ps : List Formula). at ps c.args.id) c.prov.ensures), (or_kids c.args.fold.now c.range-range.ensures.fold c.args.id c.requires.truth.below c.in-Or.kids.now (c.in-Or.ensures.part ∙ ap (λ (ps : List Formula). at ps c.args.id) c.prov.ensures), (subst (AreJoinedOn c.args.fold.now c.args.map.now.stands) (sym (or_lacks c.args.fold.now c.range-range.ensures.fold c.args.id c.requires.truth.below c.args.holds c.in-Or.kids.now (c.in-Or.ensures.part ∙ ap (λ (ps : List Formula). at ps c.args.id) c.prov.ensures) c.if-holds-2.false)) c.requires.named)))))

pub ask-ask_lack-requires-clause-kids : goal.ask-ask_lack-requires-clause-kids
ask-ask_lack-requires-clause-kids t c =
    and_light c.args.fold.now c.range-range.ensures.fold c.args.id c.requires.truth.below c.args.map.now.stands c.in-And.kids.now (c.in-And.ensures.part ∙ ap (λ (ps : List Formula). at ps c.args.id) c.prov.ensures)

pub ask-ask_lack-requires-clause-named : goal.ask-ask_lack-requires-clause-named
ask-ask_lack-requires-clause-named t c =
    and_joined c.args.fold.now c.range-range.ensures.fold c.args.id c.requires.truth.below c.args.map.now.stands c.args.holds c.in-And.kids.now (c.in-And.ensures.part ∙ ap (λ (ps : List Formula). at ps c.args.id) c.prov.ensures) c.if-holds.false c.requires.named

pub ask-ask_one-requires-clause-kids : goal.ask-ask_one-requires-clause-kids
ask-ask_one-requires-clause-kids t c =
    or_light c.args.fold.now c.range-range.ensures.fold c.args.id c.requires.truth.below c.args.map.now.stands c.in-Or.kids.now (c.in-Or.ensures.part ∙ ap (λ (ps : List Formula). at ps c.args.id) c.prov.ensures)

pub ask-ask_one-requires-clause-named : goal.ask-ask_one-requires-clause-named
ask-ask_one-requires-clause-named t c =
    or_joined c.args.fold.now c.range-range.ensures.fold c.args.id c.requires.truth.below c.args.map.now.stands c.args.holds c.in-Or.kids.now (c.in-Or.ensures.part ∙ ap (λ (ps : List Formula). at ps c.args.id) c.prov.ensures) c.if-holds-2.true c.requires.named

pub ask-ask_pos-requires-clause-number : goal.ask-ask_pos-requires-clause-number
ask-ask_pos-requires-clause-number t c =
    pos_light c.args.fold.now c.range-range.ensures.fold c.args.id c.requires.truth.below c.args.map.now.stands c.in-Pos.number (c.in-Pos.ensures.part ∙ ap (λ (ps : List Formula). at ps c.args.id) c.prov.ensures)

pub ask-ask_pos-requires-clause-named : goal.ask-ask_pos-requires-clause-named
ask-ask_pos-requires-clause-named t c =
    pos_joined c.args.fold.now c.range-range.ensures.fold c.args.id c.requires.truth.below c.args.map.now.stands c.args.holds c.in-Pos.number (c.in-Pos.ensures.part ∙ ap (λ (ps : List Formula). at ps c.args.id) c.prov.ensures) c.requires.named

pub ask-ask_pres-requires-clause-node : goal.ask-ask_pres-requires-clause-node
ask-ask_pres-requires-clause-node t c =
    record { there = c.requires.truth.below; light = truth_light c.args.fold.now c.args.map.now.stands c.args.id c.requires.truth.kind }

pub ask-ask_pres-requires-clause-named : goal.ask-ask_pres-requires-clause-named
ask-ask_pres-requires-clause-named t c =
    pres_joined c.args.fold.now c.range-range.ensures.fold c.args.id c.requires.truth.below c.args.map.now.stands c.args.holds c.in-Pres.field-0 (c.in-Pres.ensures.part ∙ ap (λ (ps : List Formula). at ps c.args.id) c.prov.ensures) c.requires.named

pub ask-returns-in-Not : goal.ask-returns-in-Not
ask-returns-in-Not t c =
    subst (λ (fs : List Form). OnOk c.ask.result (Adds c.args.fold.now c.args.map.now.stands fs c.args.rows.now c.ask.new.rows)) (not_is c.args.fold.now c.range-range.ensures.fold c.args.id c.requires.truth.below c.args.holds c.in-Not.truth (c.in-Not.ensures.part ∙ ap (λ (ps : List Formula). at ps c.args.id) c.prov.ensures)) c.ask.ensures

pub ask-returns-then-holds : goal.ask-returns-then-holds
ask-returns-then-holds t c =
    subst (λ (fs : List Form). OnOk c.ask_each.result (Adds c.args.fold.now c.args.map.now.stands fs c.args.rows.now c.ask_each.new.rows)) (and_held c.args.fold.now c.range-range.ensures.fold c.args.id c.requires.truth.below c.args.holds c.in-And.kids.now (c.in-And.ensures.part ∙ ap (λ (ps : List Formula). at ps c.args.id) c.prov.ensures) c.if-holds.true) c.ask_each.ensures

pub ask-returns-else-holds : goal.ask-returns-else-holds
ask-returns-else-holds t c =
    subst (λ (fs : List Form). OnOk c.ask_lack.result (Adds c.args.fold.now c.args.map.now.stands fs c.args.rows.now c.ask_lack.new.rows)) (and_lacks c.args.fold.now c.range-range.ensures.fold c.args.id c.requires.truth.below c.args.holds c.in-And.kids.now (c.in-And.ensures.part ∙ ap (λ (ps : List Formula). at ps c.args.id) c.prov.ensures) c.if-holds.false) c.ask_lack.ensures

pub ask-returns-then-holds-2 : goal.ask-returns-then-holds-2
ask-returns-then-holds-2 t c =
    subst (λ (fs : List Form). OnOk c.ask_one.result (Adds c.args.fold.now c.args.map.now.stands fs c.args.rows.now c.ask_one.new.rows)) (or_held c.args.fold.now c.range-range.ensures.fold c.args.id c.requires.truth.below c.args.holds c.in-Or.kids.now (c.in-Or.ensures.part ∙ ap (λ (ps : List Formula). at ps c.args.id) c.prov.ensures) c.if-holds-2.true) c.ask_one.ensures

pub ask-returns-else-holds-2 : goal.ask-returns-else-holds-2
ask-returns-else-holds-2 t c =
    subst (λ (fs : List Form). OnOk c.ask_each-else-holds-2.result (Adds c.args.fold.now c.args.map.now.stands fs c.args.rows.now c.ask_each-else-holds-2.new.rows)) (or_lacks c.args.fold.now c.range-range.ensures.fold c.args.id c.requires.truth.below c.args.holds c.in-Or.kids.now (c.in-Or.ensures.part ∙ ap (λ (ps : List Formula). at ps c.args.id) c.prov.ensures) c.if-holds-2.false) c.ask_each-else-holds-2.ensures

pub ask-returns-in-Pos : goal.ask-returns-in-Pos
ask-returns-in-Pos t c =
    subst (λ (fs : List Form). OnOk c.ask_pos.result (Adds c.args.fold.now c.args.map.now.stands fs c.args.rows.now c.ask_pos.new.rows)) (pos_is c.args.fold.now c.range-range.ensures.fold c.args.id c.requires.truth.below c.args.holds c.in-Pos.number (c.in-Pos.ensures.part ∙ ap (λ (ps : List Formula). at ps c.args.id) c.prov.ensures)) c.ask_pos.ensures

pub ask-returns-in-Pres : goal.ask-returns-in-Pres
ask-returns-in-Pres t c =
    subst (λ (fs : List Form). OnOk c.ask_pres.result (Adds c.args.fold.now c.args.map.now.stands fs c.args.rows.now c.ask_pres.new.rows)) (pres_is c.args.fold.now c.range-range.ensures.fold c.args.id c.requires.truth.below c.args.holds c.in-Pres.field-0 (c.in-Pres.ensures.part ∙ ap (λ (ps : List Formula). at ps c.args.id) c.prov.ensures)) c.ask_pres.ensures

pub ask-returns-in-False : goal.ask-returns-in-False
ask-returns-in-False t c =
    subst (λ (fs : List Form). OnOk c.ask_known.result (Adds c.args.fold.now c.args.map.now.stands fs c.args.rows.now c.ask_known.new.rows)) (false_is c.args.fold.now c.range-range.ensures.fold c.args.id c.requires.truth.below c.args.holds (c.in-False.ensures.part ∙ ap (λ (ps : List Formula). at ps c.args.id) c.prov.ensures)) c.ask_known.ensures

pub ask-returns-in-True : goal.ask-returns-in-True
ask-returns-in-True t c =
    subst (λ (fs : List Form). OnOk c.ask_known-in-True.result (Adds c.args.fold.now c.args.map.now.stands fs c.args.rows.now c.ask_known-in-True.new.rows)) (true_is c.args.fold.now c.range-range.ensures.fold c.args.id c.requires.truth.below c.args.holds (c.in-True.ensures.part ∙ ap (λ (ps : List Formula). at ps c.args.id) c.prov.ensures)) c.ask_known-in-True.ensures

pub ask_each-ask-requires : goal.ask_each-ask-requires
ask_each-ask-requires t c =
    let k = c.requires.below c.loop-kid.kid-index 0 c.loop-kid-test.true in
    (omega (arith, c.decreases, k), (c.requires.map, (c.requires.truths c.loop-kid.kid-index 0 c.loop-kid-test.true, one_joined c.args.fold.now c.args.map.now.stands (root_forms c.args.fold.now c.args.holds) c.args.kids.now c.loop-kid.kid-index c.loop-kid-test.true c.requires.named)))

pub ask_each-loop-kid-preserved : goal.ask_each-loop-kid-preserved
ask_each-loop-kid-preserved t c =
    adds_more c.args.fold.now c.args.map.now.stands (root_forms c.args.fold.now c.args.holds) c.args.kids.now c.loop-kid.kid-index c.args.rows.now c.loop-kid.rows c.ask.new.rows c.loop-kid-test.true c.loop-kid.invariant c.in_ok-ask.ensures
