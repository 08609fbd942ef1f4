use Rattle.std.proofs.Common.{◌≡◌, ◌∙◌, List, [], length, subst, arith}
use Rattle.std.specs.Result.{IfOk}
use Rattle.cross_links.specs.declared.entry.Entry.{Entry}
use Rattle.cross_links.specs.Layout.{Layout}
use Rattle.ip_reduce.proofs.EntryLemmas.{all_within, all_rise, all_few}
use Rattle.ip_reduce.proofs.entries.grid_of.Goals as goal

pub build-requires-clause-within : goal.build-requires-clause-within
build-requires-clause-within c = all_within c.args.columns.now c.args.rows.now c.as_slice.result.now c.requires.entered (c.as_slice.ensures.value ∙ c.in_ok-entries.ensures)

pub build-requires-clause-rising : goal.build-requires-clause-rising
build-requires-clause-rising c = all_rise c.args.columns.now c.args.rows.now c.as_slice.result.now c.requires.entered (c.as_slice.ensures.value ∙ c.in_ok-entries.ensures)

pub build-requires-clause-few : goal.build-requires-clause-few
build-requires-clause-few c = let few = all_few c.args.columns.now c.args.rows.now c.as_slice.result.now c.requires.entered (c.as_slice.ensures.value ∙ c.in_ok-entries.ensures) in omega (arith, few, c.requires.few)

pub returns : goal.returns
returns c =
    subst (λ (es : List Entry). IfOk c.build.result (λ (grid : Layout). ◌≡◌ {A = Layout} grid (record { rows = length c.args.rows.now; columns = length c.args.columns.now; entries = es; unlinked = [] })))
    (c.as_slice.ensures.value ∙ c.in_ok-entries.ensures) c.build.ensures
