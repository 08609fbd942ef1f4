use Rattle.std.proofs.Common.{◌<◌, sym, subst, length, ℕ, List, All, Option, arith}
use Rattle.tiql_query.specs.declared.world_column.WorldColumn.{WorldColumn}
use Rattle.prov_fold.specs.Folds.{IsFold}
use Rattle.world_points.specs.Points.{root}
use Rattle.used_columns.specs.Laid.{HasChoices}
use Rattle.sym_rows.proofs.FewColumns.{columns_few}
use Rattle.program_rows.specs.declared.goal.Goal.{Goal}
use Rattle.program_rows.specs.Programs.{IsProgramOf}
use Rattle.program_rows.specs.Worlds.{AreLed, IsRanged}
use Rattle.agg_encode.specs.Built.{TellsFault, goal_of}
use Rattle.agg_encode.proofs.Building.{choices_in, stopped}
use Rattle.agg_encode.proofs.Encoded.{begins, encodes}
use Rattle.agg_encode.proofs.SmallValues.{small_values}
use Rattle.agg_encode.proofs.WorldColumns.{columns_led, columns_ranged}
use Rattle.agg_encode.proofs.built.build.Goals as goal

pub returns-in-Err-walk_query-clause-fault : goal.returns-in-Err-walk_query-clause-fault
returns-in-Err-walk_query-clause-fault c =
    subst (TellsFault c.args.query.now c.args.tables.now c.args.columns.now) (sym c.of_walk.ensures)
    (stopped c.args.query.now c.args.tables.now c.args.columns.now c.in-Ok.fold c.in-Ok.ensures c.in-Err-walk_query.fault c.walk_query.new.fold c.in-Err-walk_query.ensures.follows)

pub program_of-requires-clause-few : goal.program_of-requires-clause-few
program_of-requires-clause-few c =
    let few = (columns_few c.args.query.now c.args.tables.now c.args.columns.now c.requires.columns).few in
    subst (λ (columns : List WorldColumn). length columns < 4294967296) (sym c.as_slice.ensures) (omega (arith, few))

pub program_of-requires-clause-ranged : goal.program_of-requires-clause-ranged
program_of-requires-clause-ranged c = subst (All IsRanged) (sym c.as_slice.ensures) (columns_ranged c.args.query.now c.args.tables.now c.args.columns.now c.requires.columns)

pub program_of-requires-clause-led : goal.program_of-requires-clause-led
program_of-requires-clause-led c = subst AreLed (sym c.as_slice.ensures) (columns_led c.args.query.now c.args.tables.now c.args.columns.now c.requires.columns)

pub program_of-requires-clause-choices : goal.program_of-requires-clause-choices
program_of-requires-clause-choices c =
    subst (λ (columns : List WorldColumn). HasChoices c.walk_query.new.fold (root columns)) (sym c.as_slice.ensures)
    (choices_in c.args.query.now c.args.tables.now c.args.columns.now c.in-Ok.fold c.in-Ok.ensures c.in-Ok-walk_query.goals c.walk_query.new.fold c.requires.columns c.in-Ok-walk_query.ensures.follows)

pub returns-in-Ok-program_of-clause-begins : goal.returns-in-Ok-program_of-clause-begins
returns-in-Ok-program_of-clause-begins c =
    let g = c.walk_query.new.fold in
    let goals = c.in-Ok-walk_query.goals in
    let program = c.in-Ok-program_of.field-0.program in
    let stands = c.in-Ok-program_of.field-0.map.stands in
    let is : IsProgramOf c.args.columns.now g goals.roots (goal_of c.args.query.now.aim goals.aim) program stands =
    subst (λ (columns : List WorldColumn). IsProgramOf columns g goals.roots (goal_of c.args.query.now.aim goals.aim) program stands) c.as_slice.ensures
    (subst (λ (roots : List ℕ). IsProgramOf c.as_slice.result.now g roots (goal_of c.args.query.now.aim goals.aim) program stands) c.as_slice-2.ensures
    (subst (λ (aim : Option Goal). IsProgramOf c.as_slice.result.now g c.as_slice-2.result.now aim program stands) c.goal_of-aim.ensures c.in-Ok-program_of.ensures.made)) in
    begins c.args.columns.now g (subst IsFold c.fold.view_is c.fold.invariant) goals.roots (goal_of c.args.query.now.aim goals.aim) program stands is
    (choices_in c.args.query.now c.args.tables.now c.args.columns.now c.in-Ok.fold c.in-Ok.ensures goals g c.requires.columns c.in-Ok-walk_query.ensures.follows)

pub returns-in-Ok-program_of-clause-small : goal.returns-in-Ok-program_of-clause-small
returns-in-Ok-program_of-clause-small c =
    let g = c.walk_query.new.fold in
    let goals = c.in-Ok-walk_query.goals in
    let program = c.in-Ok-program_of.field-0.program in
    let stands = c.in-Ok-program_of.field-0.map.stands in
    let is : IsProgramOf c.args.columns.now g goals.roots (goal_of c.args.query.now.aim goals.aim) program stands =
    subst (λ (columns : List WorldColumn). IsProgramOf columns g goals.roots (goal_of c.args.query.now.aim goals.aim) program stands) c.as_slice.ensures
    (subst (λ (roots : List ℕ). IsProgramOf c.as_slice.result.now g roots (goal_of c.args.query.now.aim goals.aim) program stands) c.as_slice-2.ensures
    (subst (λ (aim : Option Goal). IsProgramOf c.as_slice.result.now g c.as_slice-2.result.now aim program stands) c.goal_of-aim.ensures c.in-Ok-program_of.ensures.made)) in
    small_values c.args.query.now c.args.columns.now g (subst IsFold c.fold.view_is c.fold.invariant) goals program stands is
    (choices_in c.args.query.now c.args.tables.now c.args.columns.now c.in-Ok.fold c.in-Ok.ensures goals g c.requires.columns c.in-Ok-walk_query.ensures.follows)
    c.in-Ok-program_of.ensures.matched c.in-Ok-walk_query.ensures.good

pub returns-in-Ok-program_of-clause-encodes : goal.returns-in-Ok-program_of-clause-encodes
returns-in-Ok-program_of-clause-encodes c =
    let g = c.walk_query.new.fold in
    let goals = c.in-Ok-walk_query.goals in
    let program = c.in-Ok-program_of.field-0.program in
    let stands = c.in-Ok-program_of.field-0.map.stands in
    let is : IsProgramOf c.args.columns.now g goals.roots (goal_of c.args.query.now.aim goals.aim) program stands =
    subst (λ (columns : List WorldColumn). IsProgramOf columns g goals.roots (goal_of c.args.query.now.aim goals.aim) program stands) c.as_slice.ensures
    (subst (λ (roots : List ℕ). IsProgramOf c.as_slice.result.now g roots (goal_of c.args.query.now.aim goals.aim) program stands) c.as_slice-2.ensures
    (subst (λ (aim : Option Goal). IsProgramOf c.as_slice.result.now g c.as_slice-2.result.now aim program stands) c.goal_of-aim.ensures c.in-Ok-program_of.ensures.made)) in
    λ grouped. encodes c.args.query.now c.args.tables.now c.args.columns.now c.requires.columns c.requires.fit c.requires.tables g (subst IsFold c.fold.view_is c.fold.invariant) goals program stands is
    (choices_in c.args.query.now c.args.tables.now c.args.columns.now c.in-Ok.fold c.in-Ok.ensures goals g c.requires.columns c.in-Ok-walk_query.ensures.follows)
    c.in-Ok-program_of.ensures.matched c.in-Ok-walk_query.ensures.good c.in-Ok-walk_query.ensures.means grouped
