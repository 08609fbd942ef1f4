use Rattle.std.proofs.Common.{◌∙◌, ap, List, length, get_or, arith, rules}
use Rattle.tiql_query.specs.declared.aim.Require.{Require}
use Rattle.sym_query.proofs.Needs.{known_kept, roots_init, roots_step, roots_err, roots_memory, roots_end}
use Rattle.sym_query.proofs.goals.roots_of_all.Goals as goal

pub loop-need-init : goal.loop-need-init
loop-need-init c = roots_init c.args.query.now c.args.known.now c.args.fold.now c.new-all.result c.new-all.ensures

pub roots_of_one-requires : goal.roots_of_one-requires
roots_of_one-requires c = known_kept c.args.query.now c.args.known.now c.args.fold.now c.loop-need.fold c.loop-need.invariant.kept c.requires.known

pub loop-need-preserved : goal.loop-need-preserved
loop-need-preserved c =
    let all = c.as_slice-need-items.ensures in
    let many = ap (λ (l : List Require). length l) all in
    roots_step c.args.query.now c.args.known.now c.args.fold.now c.requires.fit c.loop-need.need-index c.need-item.result c.loop-need.all c.loop-need.fold c.roots_of_one.new.fold (omega (arith, many)) (c.need-item.is ∙ ap (λ (l : List Require). get_or l c.loop-need.need-index c.need-item.result) all) c.loop-need.invariant c.in_ok-roots_of_one.field-0 c.append.new.self
    c.in_ok-append.ensures c.in_ok-roots_of_one.ensures

pub returns-in_err-roots_of_one : goal.returns-in_err-roots_of_one
returns-in_err-roots_of_one c =
    let all = c.as_slice-need-items.ensures in
    let many = ap (λ (l : List Require). length l) all in
    search (rules, roots_err c.args.query.now c.args.known.now c.args.fold.now c.requires.fit c.loop-need.need-index c.need-item.result c.loop-need.all c.loop-need.fold c.roots_of_one.new.fold (omega (arith, many)) (c.need-item.is ∙ ap (λ (l : List Require). get_or l c.loop-need.need-index c.need-item.result) all) c.loop-need.invariant c.in_err-roots_of_one.field-0.0 c.in_err-roots_of_one.ensures)

pub returns-in_err-append : goal.returns-in_err-append
returns-in_err-append c =
    let all = c.as_slice-need-items.ensures in
    let many = ap (λ (l : List Require). length l) all in
    search (rules, roots_memory c.args.query.now c.args.known.now c.args.fold.now c.requires.fit c.loop-need.need-index c.need-item.result c.loop-need.all c.loop-need.fold c.roots_of_one.new.fold (omega (arith, many)) (c.need-item.is ∙ ap (λ (l : List Require). get_or l c.loop-need.need-index c.need-item.result) all) c.loop-need.invariant c.in_ok-roots_of_one.field-0 c.in_ok-roots_of_one.ensures)

pub returns : goal.returns
returns c =
    let many = ap (λ (l : List Require). length l) c.as_slice-need-items.ensures in
    roots_end c.args.query.now c.args.known.now c.args.fold.now c.loop-need.need-index c.loop-need.all c.loop-need.fold (omega (arith, many)) c.loop-need.invariant
