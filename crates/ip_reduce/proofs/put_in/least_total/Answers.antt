use Rattle.std.proofs.Common.{◌∙◌, sym}
use Rattle.ip_rows.specs.Programs.{sides_of}
use Rattle.ip_reduce.specs.Rows.{least_part}
use Rattle.ip_reduce.proofs.SumLemmas.{least_is, least_bounded, column_there, way_begins, way_fits, way_goes_on, way_ends}
use Rattle.ip_reduce.proofs.put_in.least_total.Goals as goal

pub loop-term-init : goal.loop-term-init
loop-term-init c = way_begins (sides_of c.args.columns.now) (least_part (sides_of c.args.columns.now)) c.args.terms.now c.requires

pub least_of-sum-requires : goal.least_of-sum-requires
least_of-sum-requires c = column_there c.args.columns.now c.args.terms.now c.loop-term.term-index _ c.requires c.loop-term-test.true

pub overflow_add-sum : goal.overflow_add-sum
overflow_add-sum c =
    way_fits (sides_of c.args.columns.now) (least_part (sides_of c.args.columns.now)) (least_bounded (sides_of c.args.columns.now)) c.args.terms.now c.loop-term.term-index _ _ c.loop-term-test.true c.least_of-sum.ensures c.loop-term.invariant (record { sfits = c.least_of-sum.type_inv })

pub loop-term-preserved : goal.loop-term-preserved
loop-term-preserved c =
    way_goes_on (sides_of c.args.columns.now) (least_part (sides_of c.args.columns.now)) (least_bounded (sides_of c.args.columns.now)) c.args.terms.now c.loop-term.term-index _ _ c.loop-term-test.true c.least_of-sum.ensures c.loop-term.invariant (record { sfits = c.least_of-sum.type_inv })

pub returns : goal.returns
returns c = (way_ends (sides_of c.args.columns.now) (least_part (sides_of c.args.columns.now)) c.args.terms.now c.loop-term.term-index _ c.loop-term-test.false c.loop-term.invariant).0 ∙ sym (least_is (sides_of c.args.columns.now) c.args.terms.now)
