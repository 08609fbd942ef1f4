use Rattle.std.proofs.Common.{◌≡◌, ◌∙◌, ap, sym, rules, arith, Some}
use Rattle.std.specs.Int.{w128}
use mir.Val.{to_z, of_z}
use Rattle.std.specs.Prelude.{ℤ, Ok}
use Rattle.std.proofs.lemmas.Int.{to_z-of_z, ints}
use Rattle.world_def.proofs.Begun.{none_right}
use Rattle.world_def.proofs.Judging.{judged-err, judged-broken, judged-wide, judged-score}
use Rattle.world_def.proofs.Told.{judged_told}
use Rattle.world_def.proofs.judge.score_met.Goals as goal

pub first_of-requires-clause-made : goal.first_of-requires-clause-made
first_of-requires-clause-made c = none_right c.args.query.now c.args.tables.now c.args.world.now _ c.in_ok-views.ensures

pub returns-in_err-first_of-clause-told : goal.returns-in_err-first_of-clause-told
returns-in_err-first_of-clause-told c = search (rules, judged-err c.args.query.now c.args.tables.now c.args.world.now c.in_err-first_of.field-0.0 c.in_err-first_of.ensures.told)

pub returns-in-Some-clause-told : goal.returns-in-Some-clause-told
returns-in-Some-clause-told c = judged-broken c.args.query.now c.args.tables.now c.args.world.now _ _ c.in_ok-first_of.ensures.told c.in-Some.is

pub returns-in-Some-clause-value : goal.returns-in-Some-clause-value
returns-in-Some-clause-value c = judged_told c.args.query.now c.args.tables.now c.args.world.now c.requires.fit (Ok Rattle.std.proofs.Common.None) (returns-in-Some-clause-told c)

pub returns-in_err-score-in-None-clause-told : goal.returns-in_err-score-in-None-clause-told
returns-in_err-score-in-None-clause-told c = search (rules, judged-wide c.args.query.now c.args.tables.now c.args.world.now _ c.in_err-score-in-None.field-0.0 c.in_ok-first_of.ensures.told c.in-None.is c.in_err-score-in-None.ensures.value)

pub returns-clause-told : goal.returns-clause-told
returns-clause-told c =
    let same : to_z w128 (of_z w128 c.in_ok-score-in-None.score) ≡ c.in_ok-score-in-None.score = to_z-of_z w128 c.in_ok-score-in-None.score (search rules) in
    judged-score c.args.query.now c.args.tables.now c.args.world.now _ _ c.in_ok-first_of.ensures.told c.in-None.is (c.in_ok-score-in-None.ensures.value ∙ ap (λ (n : ℤ). Ok n) (sym same))

pub returns-clause-value : goal.returns-clause-value
returns-clause-value c = judged_told c.args.query.now c.args.tables.now c.args.world.now c.requires.fit (Ok (Some _)) (returns-clause-told c)
