use Rattle.std.proofs.Common.{◌≡◌, ◌<◌, ap, pos, length, get_or, arith, refl, sym, ◌∙◌, subst, to_z, to_z-of_z}
use Rattle.std.specs.Int.{w128}
use Rattle.std.specs.Prelude.{IsSome}
use Rattle.rat128.specs.Fractions.{whole_fraction}
use Rattle.dict_pivot.specs.Dictionaries.{number}
use Rattle.dict_pivot.proofs.RowLemmas.{number_is, get_or_any, new_at_tested, zero_row, written_first, written_more, left_more}
use Rattle.dict_pivot.proofs.cells.change_row.Goals as goal

pub returns-then-num-eq0 : goal.returns-then-num-eq0
returns-then-num-eq0 c = λ j l.
    let z : (number c.args.row.now c.args.column).num ≡ pos 0 = ap (λ p. p.num) (sym (number_is c.args.row.now c.args.column _ c.requires.column c.index-row-column.is)) ∙ sym c.num.ensures.value ∙ sym (to_z-of_z {w = w128} (record { sfits = c.num.type_inv })) ∙ ap (λ n. to_z w128 n) c.if-num-eq0.true in
    zero_row c.args.row.now c.args.shares.now c.args.column (length c.args.row.now) c.requires.column c.requires.narrow z j l (c.requires.narrow_shares j l)

pub loop-s-init : goal.loop-s-init
loop-s-init c = record {
  done = written_first c.args.row.now c.args.shares.now c.args.active.now c.args.column (length c.args.row.now) c.requires.column c.requires.active c.requires.narrow c.requires.narrow_shares;
  left = λ t le l. refl;
}

pub bounds-row-j : goal.bounds-row-j
bounds-row-j c = let w = c.requires.active.within c.loop-s.s c.loop-s-test.true in omega (arith, w, c.loop-s.auto.row)

pub bounds-shares-j : goal.bounds-shares-j
bounds-shares-j c = let w = c.requires.active.within c.loop-s.s c.loop-s-test.true in omega (arith, w, c.requires.same)

pub sure-requires : goal.sure-requires
sure-requires c =
    let j = get_or c.args.active.now c.loop-s.s 0 in
    let w = c.requires.active.within c.loop-s.s c.loop-s-test.true in
    let inside : j < length c.loop-s.row = omega (arith, w, c.loop-s.auto.row) in
    let shared : j < length c.args.shares.now = omega (arith, w, c.requires.same) in
    subst IsSome (sym (new_at_tested c.args.row.now c.args.shares.now c.args.column j _ _ _ (get_or_any c.loop-s.row j _ (whole_fraction (pos 0)) inside ∙ c.loop-s.invariant.left c.loop-s.s (omega arith) c.loop-s-test.true) (number_is _ _ _ c.requires.column c.index-row-column.is) (number_is _ _ _ shared c.index-shares-j.is))) (c.requires.fits j w)

pub loop-s-preserved : goal.loop-s-preserved
loop-s-preserved c =
    let j = get_or c.args.active.now c.loop-s.s 0 in
    let w = c.requires.active.within c.loop-s.s c.loop-s-test.true in
    let inside : j < length c.loop-s.row = omega (arith, w, c.loop-s.auto.row) in
    let shared : j < length c.args.shares.now = omega (arith, w, c.requires.same) in
    record {
      done = written_more c.args.row.now c.loop-s.row _ c.args.shares.now c.args.active.now c.args.column c.loop-s.s j (length c.args.row.now) c.sure.result inside refl refl (sym (new_at_tested c.args.row.now c.args.shares.now c.args.column j _ _ _ (get_or_any c.loop-s.row j _ (whole_fraction (pos 0)) inside ∙ c.loop-s.invariant.left c.loop-s.s (omega arith) c.loop-s-test.true) (number_is _ _ _ c.requires.column c.index-row-column.is) (number_is _ _ _ shared c.index-shares-j.is)) ∙ c.sure.ensures) c.loop-s.invariant.done;
      left = left_more c.args.row.now c.loop-s.row _ c.args.shares.now c.args.active.now c.args.column c.loop-s.s j (length c.args.row.now) c.sure.result refl refl c.requires.active c.loop-s.invariant.left;
    }

pub returns : goal.returns
returns c = λ j l. c.loop-s.invariant.done j l (λ t le m. absurd (omega (arith, le, m, c.loop-s-test.false)))
