use Rattle.std.proofs.Common.{◌≡◌, ℤ, ap, sym, ◌∙◌, subst, refl, rules}
use Rattle.std.proofs.lemmas.Int.{to_z-of_z}
use Rattle.std.proofs.lemmas.Result.{err_from_is_err_and}
use mir.Val.{to_z, of_z, SFits}
use mir.Syntax.{w128}
use Rattle.std.specs.Prelude.{Option, Some, None, Ok, position}
use Rattle.branch_tree.specs.Listing.{AreFixed, AreSides, has_two, lows}
use Rattle.branch_tree.proofs.Columns.{one_point}
use Rattle.world_points.specs.Points.{judged_at, root}
use Rattle.branch_tree.specs.Faults.{fault_of}
use Rattle.world_listing.specs.declared.search.Found.{Found}
use Rattle.world_points.proofs.Ordered.{sides_there}
use Rattle.world_listing.proofs.Tells.{one_best, one_fails, tells_none, tells_one, tells_optimal}
use Rattle.world_listing.proofs.answer.judge_world.Goals as goal

pub returns-in_err-cost-clause-fault : goal.returns-in_err-cost-clause-fault
returns-in_err-cost-clause-fault c =
    let p = err_from_is_err_and c.from_residual-in_err-cost.result c.from_residual-in_err-cost.ensures.1 in
    let fixed : AreFixed (root c.args.judge.now.columns.now) = subst AreFixed c.requires.root (one_point c.args.root.now (subst AreSides (sym c.requires.root) (sides_there c.args.judge.now.query.now c.args.judge.now.tables.now c.args.judge.now.columns.now c.requires.asked.made)) c.requires.none) in
    let none : position has_two (root c.args.judge.now.columns.now) ≡ None = ap (position has_two) (sym c.requires.root) ∙ c.requires.none in
    let lowest : c.in_ok-point.point ≡ lows (root c.args.judge.now.columns.now) = c.in_ok-point.ensures ∙ ap lows c.requires.root in
    rw (p.1, p.2) (tells_one c.args.judge.now.query.now c.args.judge.now.tables.now c.args.judge.now.columns.now c.in_ok-point.point c.in_err-cost.field-0.0 none fixed lowest c.in_err-cost.ensures)

pub returns-in_ok-optimal-in-Some-clause-answer : goal.returns-in_ok-optimal-in-Some-clause-answer
returns-in_ok-optimal-in-Some-clause-answer c = λ budget.
    let fixed : AreFixed (root c.args.judge.now.columns.now) = subst AreFixed c.requires.root (one_point c.args.root.now (subst AreSides (sym c.requires.root) (sides_there c.args.judge.now.query.now c.args.judge.now.tables.now c.args.judge.now.columns.now c.requires.asked.made)) c.requires.none) in
    let none : position has_two (root c.args.judge.now.columns.now) ≡ None = ap (position has_two) (sym c.requires.root) ∙ c.requires.none in
    let lowest : c.in_ok-point.point ≡ lows (root c.args.judge.now.columns.now) = c.in_ok-point.ensures ∙ ap lows c.requires.root in
    let wide : SFits w128 c.in-Some.cost = search rules in
    let same : to_z w128 (of_z w128 c.in-Some.cost) ≡ c.in-Some.cost = to_z-of_z w128 c.in-Some.cost wide in
    let found : Found = record { cost = to_z w128 (of_z w128 c.in-Some.cost); point = c.in_ok-point.point } in
    let value : judged_at c.args.judge.now.query.now c.args.judge.now.tables.now c.args.judge.now.columns.now c.in_ok-point.point ≡ Ok (Some found.cost) = c.in_ok-cost.ensures ∙ ap (λ (o : Option ℤ). Ok o) (c.in-Some.is ∙ ap (λ (n : ℤ). Some n) (sym same)) in
    tells_optimal c.args.judge.now.query.now c.args.judge.now.tables.now c.args.judge.now.columns.now budget found c.new.result c.in_ok-optimal-in-Some.field-0 c.in_ok-optimal-in-Some.ensures
    (one_best c.args.judge.now.query.now c.args.judge.now.tables.now c.args.judge.now.columns.now c.requires.asked fixed c.in_ok-point.point found.cost lowest value)
    value
    (tells_none c.args.judge.now.query.now c.args.judge.now.tables.now c.args.judge.now.columns.now budget (Some found.cost) c.new.result none c.new.ensures (ap fault_of (ap (judged_at c.args.judge.now.query.now c.args.judge.now.tables.now c.args.judge.now.columns.now) (sym lowest) ∙ value)))

pub returns-in-None-clause-answer : goal.returns-in-None-clause-answer
returns-in-None-clause-answer c = λ budget.
    let fixed : AreFixed (root c.args.judge.now.columns.now) = subst AreFixed c.requires.root (one_point c.args.root.now (subst AreSides (sym c.requires.root) (sides_there c.args.judge.now.query.now c.args.judge.now.tables.now c.args.judge.now.columns.now c.requires.asked.made)) c.requires.none) in
    let none : position has_two (root c.args.judge.now.columns.now) ≡ None = ap (position has_two) (sym c.requires.root) ∙ c.requires.none in
    let lowest : c.in_ok-point.point ≡ lows (root c.args.judge.now.columns.now) = c.in_ok-point.ensures ∙ ap lows c.requires.root in
    let value : judged_at c.args.judge.now.query.now c.args.judge.now.tables.now c.args.judge.now.columns.now c.in_ok-point.point ≡ Ok None = c.in_ok-cost.ensures ∙ ap (λ (o : Option ℤ). Ok o) c.in-None.is in
    record {
      first = refl;
      fixed = fixed;
      none = one_fails c.args.judge.now.query.now c.args.judge.now.tables.now c.args.judge.now.columns.now c.requires.asked fixed c.in_ok-point.point lowest value;
      sound = ap fault_of (ap (judged_at c.args.judge.now.query.now c.args.judge.now.tables.now c.args.judge.now.columns.now) (sym lowest) ∙ value);
    }
