use Rattle.std.proofs.Common.{◌≡◌, ◌*◌, ◌<◌, length, sym, ◌∙◌, ap, subst, arith, Some}
use Rattle.std.specs.Prelude.{IsSome}
use Rattle.rat128.specs.Operations.{IsNarrow}
use Rattle.dict_pivot.specs.Dictionaries.{line, number}
use Rattle.dict_pivot.specs.Steps.{new_at, AreActive}
use Rattle.dict_pivot.proofs.Lines.{length-line, line_other, rows_done, row_same}
use Rattle.dict_pivot.proofs.pivot.write_rows.Goals as goal
use Rattle.dict_pivot.proofs.pivot.write_rows.Goals.{then-i-row, else-i-row}

pub change_row-requires-clause-same : goal.change_row-requires-clause-same
change_row-requires-clause-same c = c.requires.same ∙ sym (length-line c.loop-i.cells c.args.width c.loop-i.i c.args.height c.loop-i-test.true (c.loop-i.auto.cells ∙ c.requires.size))

pub change_row-requires-clause-column : goal.change_row-requires-clause-column
change_row-requires-clause-column c = subst (λ n. c.args.column < n) (sym (length-line c.loop-i.cells c.args.width c.loop-i.i c.args.height c.loop-i-test.true (c.loop-i.auto.cells ∙ c.requires.size))) c.requires.column

pub change_row-requires-clause-active : goal.change_row-requires-clause-active
change_row-requires-clause-active c = subst (λ n. AreActive c.args.active.now c.args.column n c.args.shares.now) (sym (length-line c.loop-i.cells c.args.width c.loop-i.i c.args.height c.loop-i-test.true (c.loop-i.auto.cells ∙ c.requires.size))) c.requires.active

pub change_row-requires-clause-narrow : goal.change_row-requires-clause-narrow
change_row-requires-clause-narrow c =
    row_same (λ xs j. IsNarrow (number xs j)) c.args.cells.now c.loop-i.cells c.args.width c.loop-i.i c.args.height c.loop-i-test.true (c.loop-i.auto.cells ∙ c.requires.size) (c.loop-i.invariant.left c.loop-i.i (omega arith) c.loop-i-test.true) (λ j m. c.requires.narrow c.loop-i.i j c.loop-i-test.true m)

pub change_row-requires-clause-narrow_shares : goal.change_row-requires-clause-narrow_shares
change_row-requires-clause-narrow_shares c = λ j l. c.requires.narrow_shares j (subst (λ n. j < n) (length-line c.loop-i.cells c.args.width c.loop-i.i c.args.height c.loop-i-test.true (c.loop-i.auto.cells ∙ c.requires.size)) l)

pub change_row-requires-clause-fits : goal.change_row-requires-clause-fits
change_row-requires-clause-fits c =
    row_same (λ xs j. IsSome (new_at xs c.args.column c.args.shares.now j)) c.args.cells.now c.loop-i.cells c.args.width c.loop-i.i c.args.height c.loop-i-test.true (c.loop-i.auto.cells ∙ c.requires.size) (c.loop-i.invariant.left c.loop-i.i (omega arith) c.loop-i-test.true) (λ j m. c.requires.fits c.loop-i.i j c.loop-i-test.true c.if-i-row.true m)

pub loop-i-preserved : goal.loop-i-preserved
loop-i-preserved c = elim c.if-i-row.branch [
  | then-i-row w ↦
      let size : length c.loop-i.cells ≡ c.args.height * c.args.width = c.loop-i.auto.cells ∙ c.requires.size in
      let long : length w.change_row.new.row ≡ c.args.width = w.change_row.auto.row ∙ length-line c.loop-i.cells c.args.width c.loop-i.i c.args.height c.loop-i-test.true size in
      record {
        done = rows_done c.args.cells.now c.loop-i.cells c.if-i-row.cells w.change_row.new.row c.args.shares.now c.args.width c.args.column c.loop-i.i c.args.height c.args.row w.cells-is c.loop-i-test.true size long (c.loop-i.invariant.left c.loop-i.i (omega arith) c.loop-i-test.true) w.change_row.ensures c.loop-i.invariant.done;
        own = line_other c.loop-i.cells c.if-i-row.cells w.change_row.new.row c.args.width c.loop-i.i c.args.row c.args.height w.cells-is c.loop-i-test.true size long (λ e. w.if-i-row.true (sym e)) ∙ c.loop-i.invariant.own;
        left = λ k le below. line_other c.loop-i.cells c.if-i-row.cells w.change_row.new.row c.args.width c.loop-i.i k c.args.height w.cells-is c.loop-i-test.true size long (λ e. absurd (omega (arith, le, e))) ∙ c.loop-i.invariant.left k (omega (arith, le)) below;
      }
  | else-i-row w ↦ record {
    done = λ k j l ne m. c.loop-i.invariant.done k j (omega (arith, l, ne, w.if-i-row.false)) ne m ∙ ap (λ cells. Some (number (line cells c.args.width k) j)) (sym w.cells-is);
    own = ap (λ cells. line cells c.args.width c.args.row) w.cells-is ∙ c.loop-i.invariant.own;
    left = λ k le below. ap (λ cells. line cells c.args.width k) w.cells-is ∙ c.loop-i.invariant.left k (omega (arith, le)) below;
  }
]

pub returns : goal.returns
returns c = record {
  own = c.loop-i.invariant.own;
  others = λ i j l ne m. c.loop-i.invariant.done i j (omega (arith, l, c.loop-i-test.false)) ne m;
}
