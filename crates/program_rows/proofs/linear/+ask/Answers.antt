use Rattle.std.proofs.Common.{rules, ◌≡◌, ◌∙◌, ap, subst, ℤ, pos, negsuc, ◌-ℤ◌, [], ◌∷◌, to_z, of_z, FitsSigned, w64, List, length, OnOk}
use Rattle.std.proofs.Math.Facts.{to_z-of_z}
use Rattle.prov_arena.specs.Formulas.{Formula}
use Rattle.prov_arena.specs.Graphs.{at}
use Rattle.bool_encode.specs.Forms.{Form}
use Rattle.root_encode.specs.Roots.{root_forms, sum_form}
use Rattle.root_encode.proofs.ByKind.{not_is, and_held, and_lacks, or_held, or_lacks, false_is, true_is}
use Rattle.program_rows.specs.Fair.{Asks}
use Rattle.program_rows.proofs.Asking.{asks_more}
use Rattle.program_rows.proofs.AskKinds.{pos_held, pos_lacks, pres_held, pres_lacks}
use Rattle.program_rows.proofs.linear.+ask.Goals as goal

pub ask-returns-in-Not : goal.ask-returns-in-Not
ask-returns-in-Not t c = subst (λ (fs : List Form). OnOk c.ask.result (Asks c.args.fold.now fs c.args.forms.now c.ask.new.forms)) (not_is c.args.fold.now c.range-range.ensures.fold c.args.id c.requires.below c.args.holds c.in-Not.truth (c.in-Not.ensures.part ∙ ap (λ (ps : List Formula). at ps c.args.id) c.prov.ensures)) c.ask.ensures

pub ask-returns-then-holds : goal.ask-returns-then-holds
ask-returns-then-holds t c = subst (λ (fs : List Form). OnOk c.ask_each.result (Asks c.args.fold.now fs c.args.forms.now c.ask_each.new.forms)) (and_held c.args.fold.now c.range-range.ensures.fold c.args.id c.requires.below c.args.holds c.in-And.kids.now (c.in-And.ensures.part ∙ ap (λ (ps : List Formula). at ps c.args.id) c.prov.ensures) c.if-holds.true) c.ask_each.ensures

pub ask-returns-else-holds : goal.ask-returns-else-holds
ask-returns-else-holds t c =
    let fits : FitsSigned w64 c.all_but_one.result = search rules in
    let count : to_z w64 (of_z w64 c.all_but_one.result) ≡ pos (length c.in-And.kids.now) -ℤ pos 1 = to_z-of_z fits ∙ c.all_but_one.ensures.value in
    subst (λ (fs : List Form). OnOk c.ask_sum.result (Asks c.args.fold.now fs c.args.forms.now c.ask_sum.new.forms)) (ap (λ (n : ℤ). sum_form n (negsuc 0) c.in-And.kids.now ∷ []) count ∙ and_lacks c.args.fold.now c.range-range.ensures.fold c.args.id c.requires.below c.args.holds c.in-And.kids.now (c.in-And.ensures.part ∙ ap (λ (ps : List Formula). at ps c.args.id) c.prov.ensures) c.if-holds.false) c.ask_sum.ensures

pub ask-returns-then-holds-2 : goal.ask-returns-then-holds-2
ask-returns-then-holds-2 t c = subst (λ (fs : List Form). OnOk c.ask_sum-then-holds-2.result (Asks c.args.fold.now fs c.args.forms.now c.ask_sum-then-holds-2.new.forms)) (or_held c.args.fold.now c.range-range.ensures.fold c.args.id c.requires.below c.args.holds c.in-Or.kids.now (c.in-Or.ensures.part ∙ ap (λ (ps : List Formula). at ps c.args.id) c.prov.ensures) c.if-holds-2.true) c.ask_sum-then-holds-2.ensures

pub ask-returns-else-holds-2 : goal.ask-returns-else-holds-2
ask-returns-else-holds-2 t c = subst (λ (fs : List Form). OnOk c.ask_each-else-holds-2.result (Asks c.args.fold.now fs c.args.forms.now c.ask_each-else-holds-2.new.forms)) (or_lacks c.args.fold.now c.range-range.ensures.fold c.args.id c.requires.below c.args.holds c.in-Or.kids.now (c.in-Or.ensures.part ∙ ap (λ (ps : List Formula). at ps c.args.id) c.prov.ensures) c.if-holds-2.false) c.ask_each-else-holds-2.ensures

pub ask-returns-then-holds-3 : goal.ask-returns-then-holds-3
ask-returns-then-holds-3 t c = subst (λ (fs : List Form). OnOk c.ask_term.result (Asks c.args.fold.now fs c.args.forms.now c.ask_term.new.forms)) (pos_held c.args.fold.now c.range-range.ensures.fold c.args.id c.requires.below c.args.holds c.in-Pos.number (c.in-Pos.ensures.part ∙ ap (λ (ps : List Formula). at ps c.args.id) c.prov.ensures) c.if-holds-3.true) c.ask_term.ensures

pub ask-returns-else-holds-3 : goal.ask-returns-else-holds-3
ask-returns-else-holds-3 t c = subst (λ (fs : List Form). OnOk c.ask_term-else-holds-3.result (Asks c.args.fold.now fs c.args.forms.now c.ask_term-else-holds-3.new.forms)) (pos_lacks c.args.fold.now c.range-range.ensures.fold c.args.id c.requires.below c.args.holds c.in-Pos.number (c.in-Pos.ensures.part ∙ ap (λ (ps : List Formula). at ps c.args.id) c.prov.ensures) c.if-holds-3.false) c.ask_term-else-holds-3.ensures

pub ask-returns-then-holds-4 : goal.ask-returns-then-holds-4
ask-returns-then-holds-4 t c = subst (λ (fs : List Form). OnOk c.ask_term-then-holds-4.result (Asks c.args.fold.now fs c.args.forms.now c.ask_term-then-holds-4.new.forms)) (pres_held c.args.fold.now c.range-range.ensures.fold c.args.id c.requires.below c.args.holds c.in-Pres.field-0 (c.in-Pres.ensures.part ∙ ap (λ (ps : List Formula). at ps c.args.id) c.prov.ensures) c.if-holds-4.true) c.ask_term-then-holds-4.ensures

pub ask-returns-else-holds-4 : goal.ask-returns-else-holds-4
ask-returns-else-holds-4 t c = subst (λ (fs : List Form). OnOk c.ask_term-else-holds-4.result (Asks c.args.fold.now fs c.args.forms.now c.ask_term-else-holds-4.new.forms)) (pres_lacks c.args.fold.now c.range-range.ensures.fold c.args.id c.requires.below c.args.holds c.in-Pres.field-0 (c.in-Pres.ensures.part ∙ ap (λ (ps : List Formula). at ps c.args.id) c.prov.ensures) c.if-holds-4.false) c.ask_term-else-holds-4.ensures

pub ask-returns-in-False : goal.ask-returns-in-False
ask-returns-in-False t c = subst (λ (fs : List Form). OnOk c.ask_known.result (Asks c.args.fold.now fs c.args.forms.now c.ask_known.new.forms)) (false_is c.args.fold.now c.range-range.ensures.fold c.args.id c.requires.below c.args.holds (c.in-False.ensures.part ∙ ap (λ (ps : List Formula). at ps c.args.id) c.prov.ensures)) c.ask_known.ensures

pub ask-returns-in-True : goal.ask-returns-in-True
ask-returns-in-True t c = subst (λ (fs : List Form). OnOk c.ask_known-in-True.result (Asks c.args.fold.now fs c.args.forms.now c.ask_known-in-True.new.forms)) (true_is c.args.fold.now c.range-range.ensures.fold c.args.id c.requires.below c.args.holds (c.in-True.ensures.part ∙ ap (λ (ps : List Formula). at ps c.args.id) c.prov.ensures)) c.ask_known-in-True.ensures

pub ask_each-loop-kid-preserved : goal.ask_each-loop-kid-preserved
ask_each-loop-kid-preserved t c = asks_more c.args.fold.now (root_forms c.args.fold.now c.args.holds) c.args.kids.now c.loop-kid.kid-index c.args.forms.now c.loop-kid.forms c.ask.new.forms c.loop-kid-test.true c.loop-kid.invariant c.in_ok-ask.ensures
