use Rattle.std.proofs.Common.{◌≡◌, length, refl, ◌∙◌, ap, arith, pos}
use Rattle.rat128.specs.Fractions.{whole_fraction}
use Rattle.dict_pivot.specs.Dictionaries.{number}
use Rattle.dict_pivot.specs.Quantities.{meaning, growth_of}
use Rattle.dict_pivot.specs.First.{corner_of, IsWritten}
use Rattle.dict_pivot.proofs.Lines.{length-line, line_other, lines_done, zero_line}
use Rattle.dict_pivot.proofs.begin.write_start.Goals as goal

pub write_row-requires-clause-size : goal.write_row-requires-clause-size
write_row-requires-clause-size c = length-line c.loop-i.cells c.args.width c.loop-i.i c.args.height c.loop-i-test.true (c.loop-i.auto.cells ∙ c.requires.size) ∙ c.requires.width

pub write_row-requires-clause-zeros : goal.write_row-requires-clause-zeros
write_row-requires-clause-zeros c = λ j.
    ap (λ xs. number xs j) (c.loop-i.invariant.left c.loop-i.i (omega arith) c.loop-i-test.true) ∙ zero_line c.args.cells.now c.args.width c.loop-i.i (whole_fraction (pos 0)) refl c.requires.zeros j

pub loop-i-preserved : goal.loop-i-preserved
loop-i-preserved c =
    let long : length c.write_row.new.row ≡ c.args.width = c.write_row.auto.row ∙ length-line c.loop-i.cells c.args.width c.loop-i.i c.args.height c.loop-i-test.true (c.loop-i.auto.cells ∙ c.requires.size) in
    record {
      done = lines_done (λ k row. IsWritten c.args.up.now (length c.args.lp.now.sides) (corner_of c.args.lp.now c.args.up.now (meaning (length c.args.lp.now.sides) k)) (growth_of c.args.lp.now (meaning (length c.args.lp.now.sides) k)) row) c.loop-i.cells _ c.write_row.new.row c.args.width c.loop-i.i c.args.height refl c.loop-i-test.true (c.loop-i.auto.cells ∙ c.requires.size) long c.write_row.ensures c.loop-i.invariant.done;
      left = λ k le below. line_other c.loop-i.cells _ c.write_row.new.row c.args.width c.loop-i.i k c.args.height refl c.loop-i-test.true (c.loop-i.auto.cells ∙ c.requires.size) long (λ e. absurd (omega (arith, le, e))) ∙ c.loop-i.invariant.left k (omega (arith, le)) below;
    }

pub returns : goal.returns
returns c = λ i l. c.loop-i.invariant.done i (omega (arith, l, c.loop-i-test.false))
