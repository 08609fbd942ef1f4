use Rattle.std.proofs.Common.{◌≡◌, pos, get_or, set, subst, refl, sym, ◌<◌, arith}
use Rattle.std.proofs.lemmas.List.{get_or_default}
use Rattle.ip_rows.specs.declared.rows.Coef.{Coef}
use Rattle.dict_pivot.proofs.StartLaws.{apart}
use Rattle.dict_pivot.proofs.StartRows.{starts_none, starts_more, starts_done, length-set}
use Rattle.dict_pivot.proofs.begin.mark_upper_starts.Goals as goal

pub loop-term-init : goal.loop-term-init
loop-term-init c = starts_none c.args.up.now c.args.aim.now c.requires.none

pub bounds-up-term : goal.bounds-up-term
bounds-up-term c = let l = c.requires.aim.there c.loop-term.term-index (record { factor = pos 0; column = 0 }) c.loop-term-test.true in omega (arith, l, c.loop-term.auto.up)

pub loop-term-preserved : goal.loop-term-preserved
loop-term-preserved c =
    let i = c.loop-term.term-index in
    let t : Coef = get_or c.args.aim.now i (record { factor = pos 0; column = 0 }) in
    let l = c.requires.aim.there i (record { factor = pos 0; column = 0 }) c.loop-term-test.true in
    let is : t ≡ get_or c.args.aim.now i t = get_or_default c.args.aim.now i (record { factor = pos 0; column = 0 }) t c.loop-term-test.true in
    λ j m. starts_more c.loop-term.up (set c.loop-term.up t.column c.is_negative.result) c.args.aim.now i t c.is_negative.result (apart c.args.aim.now c.requires.aim.rising) c.loop-term-test.true is (omega (arith, l, c.loop-term.auto.up)) refl c.is_negative.ensures c.loop-term.invariant j (subst (λ n. j < n) (length-set c.loop-term.up t.column c.is_negative.result) m)

pub returns : goal.returns
returns c = λ j l. starts_done c.loop-term.up c.args.aim.now c.loop-term.term-index c.loop-term-test.false c.loop-term.invariant j (subst (λ n. j < n) (sym c.loop-term.auto.up) l)
