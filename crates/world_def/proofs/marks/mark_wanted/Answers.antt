use Rattle.std.proofs.Common.{◌∙◌, arith}
use Rattle.world_def.specs.Views.{wanted}
use Rattle.world_def.proofs.Marking.{left_first, left_last, left_marked, left_other}
use Rattle.world_def.proofs.marks.mark_wanted.Goals as goal

pub loop-at-init : goal.loop-at-init
loop-at-init c = (c.requires.long, omega (arith, c.requires.long), left_first c.args.views.now c.args.number c.args.marks.now c.requires.long c.requires.marks)

pub loop-at-preserved-then-marks-at : goal.loop-at-preserved-then-marks-at
loop-at-preserved-then-marks-at c =
    let long = c.loop-at.invariant.0 in let within = c.loop-at.invariant.1 in let there = c.requires.there in (
      c.mark_reads.ensures.long ∙ long,
      omega (arith, within),
      left_marked c.args.views.now (wanted c.args.views.now c.args.number) c.loop-at.at c.loop-at.marks (omega arith) (omega (arith, long, within)) c.loop-at.invariant.2
          c.index-views-at.result c.mark_reads.new.marks (omega (arith, within, there)) c.index-views-at.is c.if-marks-at.true c.mark_reads.ensures,
    )

pub loop-at-preserved : goal.loop-at-preserved
loop-at-preserved c =
    let long = c.loop-at.invariant.0 in let within = c.loop-at.invariant.1 in (
      long,
      omega (arith, within),
      left_other c.args.views.now (wanted c.args.views.now c.args.number) c.loop-at.at c.loop-at.marks (omega arith) (omega (arith, long, within)) c.loop-at.invariant.2 c.if-marks-at.false,
    )

pub returns-clause-marks : goal.returns-clause-marks
returns-clause-marks c = left_last c.args.views.now (wanted c.args.views.now c.args.number) c.loop-at.at c.loop-at.marks (omega arith) c.loop-at.invariant.2
