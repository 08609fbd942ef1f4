use Rattle.std.proofs.Common.{◌<◌, sym, ◌∙◌, ap, subst}
use Rattle.ip_rows.specs.Rows.{AreTerms}
use Rattle.dict_pivot.specs.First.{is_up}
use Rattle.dict_pivot.proofs.Kept.{stored}
use Rattle.dict_pivot.proofs.StartRows.{none_marked}
use Rattle.dict_pivot.proofs.begin.upper_starts.Goals as goal

pub mark_upper_starts-requires-clause-aim : goal.mark_upper_starts-requires-clause-aim
mark_upper_starts-requires-clause-aim c = subst (λ n. AreTerms n c.args.aim.now) (sym (c.as_mut_slice.ensures.len ∙ c.in_ok-up.ensures.len)) c.requires

pub mark_upper_starts-requires-clause-none : goal.mark_upper_starts-requires-clause-none
mark_upper_starts-requires-clause-none c = none_marked c.as_mut_slice.result.now c.args.columns (c.as_mut_slice.ensures.value ∙ c.in_ok-up.ensures.items_if_clones_equal (λ y e. e))

pub returns-clause-each : goal.returns-clause-each
returns-clause-each c = λ j l.
    ap (λ us. is_up us j) (stored c.in_ok-up.up.len c.mark_upper_starts.new.up c.in_ok-up.up.items (c.mark_upper_starts.auto.up ∙ c.as_mut_slice.ensures.len)) ∙ c.mark_upper_starts.ensures j (subst (λ n. j < n) (sym (c.as_mut_slice.ensures.len ∙ c.in_ok-up.ensures.len)) l)
