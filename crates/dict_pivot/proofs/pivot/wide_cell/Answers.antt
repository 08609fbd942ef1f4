use Rattle.std.proofs.Common.{◌<◌, arith, sym, ◌∙◌, subst}
use Rattle.dict_pivot.proofs.Lines.{length-line, rows_fit}
use Rattle.dict_pivot.proofs.pivot.wide_cell.Goals as goal
use Rattle.dict_pivot.proofs.pivot.wide_cell.Goals.{then-i-row+in_default, else-i-row}

pub wide_in_row-requires-clause-same : goal.wide_in_row-requires-clause-same
wide_in_row-requires-clause-same c = c.requires.same ∙ sym (length-line c.args.cells.now c.args.width c.loop-i.i c.args.height c.loop-i-test.true c.requires.size)

pub wide_in_row-requires-clause-column : goal.wide_in_row-requires-clause-column
wide_in_row-requires-clause-column c = subst (λ n. c.args.column < n) (sym (length-line c.args.cells.now c.args.width c.loop-i.i c.args.height c.loop-i-test.true c.requires.size)) c.requires.column

pub wide_in_row-requires-clause-end : goal.wide_in_row-requires-clause-end
wide_in_row-requires-clause-end c = let e = length-line c.args.cells.now c.args.width c.loop-i.i c.args.height c.loop-i-test.true c.requires.size in omega (arith, e)

pub wide_in_row-requires-clause-active : goal.wide_in_row-requires-clause-active
wide_in_row-requires-clause-active c = c.requires.active

pub wide_in_row-requires-clause-narrow : goal.wide_in_row-requires-clause-narrow
wide_in_row-requires-clause-narrow c = λ j l. c.requires.narrow c.loop-i.i j c.loop-i-test.true (subst (λ n. j < n) (length-line c.args.cells.now c.args.width c.loop-i.i c.args.height c.loop-i-test.true c.requires.size) l)

pub wide_in_row-requires-clause-narrow_shares : goal.wide_in_row-requires-clause-narrow_shares
wide_in_row-requires-clause-narrow_shares c = c.requires.narrow_shares

pub loop-i-preserved : goal.loop-i-preserved
loop-i-preserved c = elim c.if-i-row.branch [
  | then-i-row+in_default w ↦ rows_fit c.args.cells.now c.args.shares.now c.args.width c.args.height c.args.column c.args.row c.loop-i.i c.loop-i-test.true c.loop-i.invariant (λ ne. w.in_default.ensures)
  | else-i-row w ↦ rows_fit c.args.cells.now c.args.shares.now c.args.width c.args.height c.args.column c.args.row c.loop-i.i c.loop-i-test.true c.loop-i.invariant (λ ne. absurd (ne w.if-i-row.false))
]

pub returns-in-Some : goal.returns-in-Some
returns-in-Some c = (c.loop-i-test.true, c.if-i-row.true, c.in-Some.ensures.0, c.in-Some.ensures.1, c.in-Some.ensures.2, c.loop-i.invariant)
