use Rattle.std.proofs.Common.{arith, length, refl, sym}
use Rattle.std.proofs.lemmas.Option.{slice_get_read}
use Rattle.answer_text.proofs.Worlds.{sections_more}
use Rattle.answer_text.proofs.world.sections.Goals as goal

pub loop-number-preserved : goal.loop-number-preserved
loop-number-preserved c =
    let hypos = c.as_slice-hypo-items.result.now in
    sections_more c.args.query.now c.args.tables.now c.args.query.now.hypos c.args.worlds.now c.loop-number.made _ c.loop-number.number c.hypo-item.result c.in-Some.section.now c.in-Some-2.found
    c.loop-number.invariant (rw c.as_slice-hypo-items.ensures at (slice_get_read hypos (length hypos) c.loop-number.number c.hypo-item.result refl (omega arith) c.hypo-item.is))
    (sym c.in-Some.ensures.value) (rw c.in-Some-2.is at c.in_ok-found.ensures) c.in_ok-push.ensures.ok
