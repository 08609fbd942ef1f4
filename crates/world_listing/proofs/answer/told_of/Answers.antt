use Rattle.std.proofs.Common.{◌≡◌, ap, ◌∙◌, refl, arith}
use Rattle.std.specs.Prelude.{Some}
use Rattle.branch_tree.specs.Tree.{pending_nodes}
use Rattle.world_listing.specs.Works.{best_value}
use Rattle.world_listing.specs.Parts.{IsWhole}
use Rattle.world_listing.proofs.Tells.{found_best, found_judged, found_long, found_none, listed_of, lists_done, lists_undone, tells_optimal, tells_parts}
use Rattle.world_listing.proofs.answer.told_of.Goals as goal

pub returns-then-pending-gt0 : goal.returns-then-pending-gt0
returns-then-pending-gt0 c = record {
  spent = refl;
  several = c.requires.several;
  part = c.part_of-part.result;
  one = c.in_ok-one_of.ensures;
  listed = listed_of c.args.judge.now.query.now c.args.judge.now.tables.now c.args.judge.now.columns.now c.args.budget c.args.listed c.part_of-part.result c.requires.lists c.part_of-part.ensures.number (c.part_of-part.ensures.columns ∙ c.requires.columns) (c.part_of-part.ensures.best ∙ c.cost_of.ensures) c.part_of-part.ensures.tree;
  undone = lists_undone c.args.judge.now.query.now c.args.judge.now.tables.now c.args.judge.now.columns.now c.requires.asked c.args.budget c.args.listed c.requires.lists (let count = c.pending-pending.ensures in let some = c.if-pending-gt0.true in omega arith);
}

pub optimal-requires-clause-long : goal.optimal-requires-clause-long
optimal-requires-clause-long c = found_long c.args.judge.now.query.now c.args.judge.now.tables.now c.args.judge.now.columns.now c.requires.asked c.args.budget c.args.listed c.requires.lists c.in-Some.found c.in-Some.is

pub optimal-requires-clause-value : goal.optimal-requires-clause-value
optimal-requires-clause-value c = found_judged c.args.judge.now.query.now c.args.judge.now.tables.now c.args.judge.now.columns.now c.requires.asked c.args.budget c.args.listed c.requires.lists c.in-Some.found c.in-Some.is

pub returns-in_ok-optimal-in-Some : goal.returns-in_ok-optimal-in-Some
returns-in_ok-optimal-in-Some c =
    let none : pending_nodes c.args.listed.tree ≡ 0 = let count = c.pending-pending.ensures in let few = c.if-pending-gt0.false in omega arith in
    let whole : IsWhole c.args.judge.now.query.now c.args.judge.now.tables.now c.args.judge.now.columns.now c.args.budget (Some c.in-Some.found.cost) c.part_of-part.result = record {
      listed = listed_of c.args.judge.now.query.now c.args.judge.now.tables.now c.args.judge.now.columns.now c.args.budget c.args.listed c.part_of-part.result c.requires.lists c.part_of-part.ensures.number (c.part_of-part.ensures.columns ∙ c.requires.columns) (c.part_of-part.ensures.best ∙ c.cost_of.ensures) c.part_of-part.ensures.tree;
      done = lists_done c.args.judge.now.query.now c.args.judge.now.tables.now c.args.judge.now.columns.now c.requires.asked c.args.budget c.args.listed c.requires.lists none;
      found = c.part_of-part.ensures.best ∙ c.cost_of.ensures ∙ ap best_value c.in-Some.is;
    } in
    tells_optimal c.args.judge.now.query.now c.args.judge.now.tables.now c.args.judge.now.columns.now c.args.budget c.in-Some.found c.in_ok-one_of-in-Some.field-0 c.in_ok-optimal-in-Some.field-0 c.in_ok-optimal-in-Some.ensures
    (found_best c.args.judge.now.query.now c.args.judge.now.tables.now c.args.judge.now.columns.now c.requires.asked c.args.budget c.args.listed c.requires.lists c.in-Some.found c.in-Some.is none)
    (found_judged c.args.judge.now.query.now c.args.judge.now.tables.now c.args.judge.now.columns.now c.requires.asked c.args.budget c.args.listed c.requires.lists c.in-Some.found c.in-Some.is)
    (tells_parts c.args.judge.now.query.now c.args.judge.now.tables.now c.args.judge.now.columns.now c.args.budget (Some c.in-Some.found.cost) c.part_of-part.result c.in_ok-one_of-in-Some.field-0 c.requires.several c.in_ok-one_of-in-Some.ensures whole)

pub returns-in-None : goal.returns-in-None
returns-in-None c =
    let none : pending_nodes c.args.listed.tree ≡ 0 = let count = c.pending-pending.ensures in let few = c.if-pending-gt0.false in omega arith in
    record {
      several = c.requires.several;
      whole = record {
        listed = listed_of c.args.judge.now.query.now c.args.judge.now.tables.now c.args.judge.now.columns.now c.args.budget c.args.listed c.part_of-part.result c.requires.lists c.part_of-part.ensures.number (c.part_of-part.ensures.columns ∙ c.requires.columns) (c.part_of-part.ensures.best ∙ c.cost_of.ensures) c.part_of-part.ensures.tree;
        done = lists_done c.args.judge.now.query.now c.args.judge.now.tables.now c.args.judge.now.columns.now c.requires.asked c.args.budget c.args.listed c.requires.lists none;
        found = c.part_of-part.ensures.best ∙ c.cost_of.ensures ∙ ap best_value c.in-None.is;
      };
      none = found_none c.args.judge.now.query.now c.args.judge.now.tables.now c.args.judge.now.columns.now c.requires.asked c.args.budget c.args.listed c.requires.lists c.in-None.is none;
    }
