use Rattle.std.proofs.Common.{ap, arith, List, length, rules}
use Rattle.tiql_query.specs.declared.view.Select.{Select}
use Rattle.view_agg.proofs.Arms.{going_init, going_step, going_err, going_end, sources_kept, arm_at, arm_below}
use Rattle.view_agg.proofs.view.rows_of_view.Goals as goal

pub loop-select-init : goal.loop-select-init
loop-select-init c = going_init c.args.query.now c.args.known.now c.args.view.now c.args.fold.now c.new-made.result c.new-made.ensures

pub select_more-requires-clause-known : goal.select_more-requires-clause-known
select_more-requires-clause-known c =
    sources_kept c.args.known.now c.args.view.now c.loop-select.select-index c.select-item.result c.args.fold.now c.loop-select.fold (arm_below c.args.view.now c.loop-select.select-index c.as_slice-select-items.result.now c.as_slice-select-items.ensures c.loop-select-test.true)
    (arm_at c.args.view.now c.loop-select.select-index c.select-item.result c.as_slice-select-items.result.now c.as_slice-select-items.ensures c.select-item.is) c.loop-select.invariant.kept c.requires.known

pub select_more-requires-clause-made : goal.select_more-requires-clause-made
select_more-requires-clause-made c = c.loop-select.invariant.rows

pub returns-in_err-made : goal.returns-in_err-made
returns-in_err-made c =
    search (
      rules,
      going_err c.args.query.now c.args.known.now c.args.view.now c.args.fold.now c.loop-select.select-index c.select-item.result c.loop-select.made c.loop-select.fold c.select_more.new.fold
          (arm_below c.args.view.now c.loop-select.select-index c.as_slice-select-items.result.now c.as_slice-select-items.ensures c.loop-select-test.true)
          (arm_at c.args.view.now c.loop-select.select-index c.select-item.result c.as_slice-select-items.result.now c.as_slice-select-items.ensures c.select-item.is) c.loop-select.invariant _ c.in_err-made.ensures,
    )

pub loop-select-preserved : goal.loop-select-preserved
loop-select-preserved c =
    going_step c.args.query.now c.args.known.now c.args.view.now c.args.fold.now c.loop-select.select-index c.select-item.result c.loop-select.made c.loop-select.fold c.select_more.new.fold
    (arm_below c.args.view.now c.loop-select.select-index c.as_slice-select-items.result.now c.as_slice-select-items.ensures c.loop-select-test.true)
    (arm_at c.args.view.now c.loop-select.select-index c.select-item.result c.as_slice-select-items.result.now c.as_slice-select-items.ensures c.select-item.is) c.loop-select.invariant c.in_ok-made.made c.in_ok-made.ensures

pub returns : goal.returns
returns c =
    going_end c.args.query.now c.args.known.now c.args.view.now c.args.fold.now c.loop-select.select-index c.loop-select.made c.loop-select.fold
    (let l = ap (λ (l : List Select). length l) c.as_slice-select-items.ensures in omega (arith, l, c.loop-select-test.false)) c.loop-select.invariant
