use Rattle.std.proofs.Common.{ap}
use Rattle.cross_links.specs.Layout.{Layout}
use Rattle.ip_reduce.proofs.ReduceLemmas.{slices_entered, slices_few, slices_fit, slices_short, columns_few, made_reduced, made_keeps}
use Rattle.ip_reduce.proofs.work.reduce.Goals as goal

pub grid_of-requires-clause-entered : goal.grid_of-requires-clause-entered
grid_of-requires-clause-entered c = slices_entered c.args.program.now c.requires.formed c.requires.measured c.as_slice-columns.result.now c.as_slice-rows.result.now c.as_slice-columns.ensures c.as_slice-rows.ensures

pub grid_of-requires-clause-few : goal.grid_of-requires-clause-few
grid_of-requires-clause-few c = slices_few c.args.program.now c.requires.formed c.requires.measured c.as_slice-columns.result.now c.as_slice-rows.result.now c.as_slice-columns.ensures c.as_slice-rows.ensures

pub sift-requires-clause-entered : goal.sift-requires-clause-entered
sift-requires-clause-entered c = slices_entered c.args.program.now c.requires.formed c.requires.measured c.as_slice-columns.result.now c.as_slice-rows.result.now c.as_slice-columns.ensures c.as_slice-rows.ensures

pub sift-requires-clause-fits : goal.sift-requires-clause-fits
sift-requires-clause-fits c = slices_fit c.args.program.now c.requires.formed c.requires.measured c.as_slice-columns.result.now c.as_slice-rows.result.now c.as_slice-columns.ensures c.as_slice-rows.ensures

pub sift-requires-clause-few : goal.sift-requires-clause-few
sift-requires-clause-few c = slices_short c.args.program.now c.requires.formed c.requires.measured c.as_slice-columns.result.now c.as_slice-rows.result.now c.as_slice-columns.ensures c.as_slice-rows.ensures

pub sift-requires-clause-size : goal.sift-requires-clause-size
sift-requires-clause-size c = ap (λ (g : Layout). g.rows) c.in_ok-grid.ensures

pub sift-requires-clause-linked : goal.sift-requires-clause-linked
sift-requires-clause-linked c = ap (λ (g : Layout). g.unlinked) c.in_ok-grid.ensures

pub open_columns-requires : goal.open_columns-requires
open_columns-requires c = columns_few c.args.program.now c.requires.formed c.requires.measured c.as_slice-columns.result.now c.as_slice-rows.result.now c.as_slice-columns.ensures c.as_slice-rows.ensures

pub returns-clause-reduced : goal.returns-clause-reduced
returns-clause-reduced c =
    made_reduced c.args.program.now c.requires.formed c.requires.measured c.as_slice-columns.result.now c.as_slice-rows.result.now c.as_slice-columns.ensures c.as_slice-rows.ensures
    c.in_ok-open_columns.field-0 c.in_ok-sieve.sieve.full.items c.from_vec-2.result c.in_ok-sieve.sieve.rows.items c.from_vec.result c.in_ok-sieve.sieve.false_row c.sift.new.grid c.in_ok-grid.grid
    c.in_ok-open_columns.ensures c.in_ok-sieve.ensures.sieved c.in_ok-sieve.ensures.linked c.in_ok-grid.ensures c.in_ok-sieve.ensures.grid c.from_vec.ensures c.from_vec-2.ensures

pub returns-clause-points : goal.returns-clause-points
returns-clause-points c =
    made_keeps c.args.program.now c.requires.formed c.requires.measured c.as_slice-columns.result.now c.as_slice-rows.result.now c.as_slice-columns.ensures c.as_slice-rows.ensures
    c.in_ok-open_columns.field-0 c.in_ok-sieve.sieve.full.items c.from_vec-2.result c.in_ok-sieve.sieve.rows.items c.from_vec.result c.in_ok-sieve.sieve.false_row c.sift.new.grid c.in_ok-grid.grid
    c.in_ok-open_columns.ensures c.in_ok-sieve.ensures.sieved c.in_ok-sieve.ensures.linked c.in_ok-grid.ensures c.in_ok-sieve.ensures.grid c.from_vec.ensures c.from_vec-2.ensures
