-- an answer of a listing whose text is not too long has that text
use Rattle.std.proofs.Common.{◌≡◌, ℕ, ◌^◌, ◌<◌, ◌≤◌, ℤ, pos, unsigned_abs, Bool, true, false, List, [], ◌∷◌, length, refl, sym, subst, arith, Option, Some, None, if◌then◌else◌}
use Rattle.std.specs.Prelude.{Ok, All, IfSome, int_lt, position}
use mir.Syntax.{w64}
use Rattle.std.specs.List.Sorted.{IsStrictlyIncreasing}
use Rattle.std.proofs.lemmas.Int.{ints, fits_signed_from_abs}
use Rattle.std.proofs.lemmas.List.Elements.{All-cons, All-nil}
use Rattle.ip_rows.specs.declared.Bounds.{Bounds}
use Rattle.branch_tree.specs.Faults.{NoFault}
use Rattle.branch_tree.specs.Listing.{has_two}
use Rattle.branch_tree.specs.Tree.{Tree}
use Rattle.branch_tree.proofs.Faults.{leaf_judged}
use Rattle.branch_tree.proofs.Numbering.{open_rising, open_small}
use Rattle.tiql_query.specs.Rows.{AreTables}
use Rattle.tiql_query.specs.WellFormed.{IsWellFormed}
use Rattle.tiql_query.specs.declared.aim.Aim.{Aim}
use Rattle.tiql_query.specs.declared.aim.Aim.TheVariants as aims
use Rattle.tiql_query.specs.declared.query.Query.{Query}
use Rattle.tiql_query.specs.declared.world_column.WorldColumn.{WorldColumn}
use Rattle.world_def.specs.Columns.{Tables, columns_of}
use Rattle.world_def.proofs.Bounded.{AreBounded, IsBounded, columns_bounded}
use Rattle.world_points.specs.Points.{cost, cost_at, greatest, judged_at, least, root, side}
use Rattle.world_points.proofs.Told.{agree}
use Rattle.answer_text.specs.Answers.{AnswerText, IsAnswer, IsNode, IsPart, IsVerdict}
use Rattle.answer_text.specs.Text.{answer_bytes, found_bytes}
use Rattle.answer_text.specs.Worlds.{IsWorldOf}
use Rattle.answer_text.specs.declared.answer.Answer.{Answer}
use Rattle.answer_text.specs.declared.answer.PartAnswer.{PartAnswer}
use Rattle.answer_text.specs.declared.answer.Verdict.{Verdict}
use Rattle.answer_text.specs.declared.answer.Verdict.TheVariants as verdict
use Rattle.answer_text.specs.declared.answer.WorldText.{WorldText}
use Rattle.answer_text.proofs.Spelled.{AreSmall, answer_within, tree_nodes, worlds_spelled, worlds_within}
use Rattle.answer_text.proofs.Written.{rows_read}
use Rattle.world_listing.specs.Parts.{Answers, ArePartsFor, IsListed, IsOptimal, IsReached, IsVerdictFor}
use Rattle.world_listing.proofs.Sizes.{columns_few, judged_small, judged_world_small}
use Rattle.world_listing.proofs.Tells.{root_long}

-- ---- the sides of the box

least_small : (n : ℤ) (most : ℕ) → unsigned_abs n ≤ most → unsigned_abs (least n (pos 0)) ≤ most
least_small n most small = by_test (int_lt (pos 0) n)
  where
    by_test : (b : Bool) → unsigned_abs (if b then pos 0 else n) ≤ most
    by_test true = omega arith
    by_test false = small

greatest_small : (n : ℤ) (most : ℕ) → unsigned_abs n ≤ most → unsigned_abs (greatest n (pos 0)) ≤ most
greatest_small n most small = by_test (int_lt n (pos 0))
  where
    by_test : (b : Bool) → unsigned_abs (if b then pos 0 else n) ≤ most
    by_test true = omega arith
    by_test false = small

both_sides : Bool → WorldColumn → Bounds
both_sides b c = if b then record { lo = least c.lo (pos 0); hi = greatest c.hi (pos 0) } else record { lo = c.lo; hi = c.hi }

side_small : (c : WorldColumn) → IsBounded c → (unsigned_abs (side c).lo ≤ 10 ^ 15) × (unsigned_abs (side c).hi ≤ 10 ^ 15)
unfolding side both_sides
side_small c is = by_test c.droppable
  where
    by_test : (b : Bool) → (unsigned_abs (both_sides b c).lo ≤ 10 ^ 15) × (unsigned_abs (both_sides b c).hi ≤ 10 ^ 15)
    by_test true = (least_small c.lo _ is.lo, greatest_small c.hi _ is.hi)
    by_test false = (is.lo, is.hi)

root_small : (columns : List WorldColumn) → AreBounded columns → AreSmall (root columns)
root_small [] all = tt
root_small (c ∷ columns) all = let here = side_small c all.0 in (here.0, here.1, root_small columns all.1)

-- ---- sizes of values

cost_size : (aim : Aim) (n : ℤ) → unsigned_abs (cost aim n) ≡ unsigned_abs n
unfolding cost
cost_size aims.Find n = refl
cost_size (aims.Sum true source part) n = omega (arith, ints)
cost_size (aims.Sum false source part) n = refl

module _ (query : Query) (tables : Tables) (columns : List WorldColumn) where
  best_small : IsWellFormed query → (best : Option ℤ) (tree : Tree) → NoFault (judged_at query tables columns) tree (root columns) → IsReached query tables columns tree best → IfSome best (λ value. unsigned_abs value < 2 ^ 127)
  best_small fit None tree sound reached = tt
  best_small fit (Some best) tree sound reached =
      let small = judged_small query tables columns reached.0 best (leaf_judged (cost_at query tables columns) (judged_at query tables columns) (agree query tables columns fit) reached.0 best tree (root columns) sound reached.1) in
      omega (arith, small)

  -- ---- what an answer carries

  module _ (budget : ℕ) (fit : IsWellFormed query) (are : AreTables query tables) (made : columns_of query tables ≡ Ok columns) (some : All (λ table. 0 < length table.columns) query.tables) where
    root_few : length (root columns) ≤ 20000000
    root_few = let long = root_long columns in let few = columns_few query tables columns made in omega (arith, long, few)

    part_spelled : (part : PartAnswer) → IsListed query tables columns budget part → IsPart part
    part_spelled part listed = record {
      number = let one = listed.number in omega (arith, one);
      columns = subst (All (λ column. column < 2 ^ 32)) (sym listed.columns) (open_small (2 ^ 32) 0 (root columns) (let few = root_few in omega (arith, few)));
      rising = subst IsStrictlyIncreasing (sym listed.columns) (open_rising 0 (root columns));
      best = best_small fit part.best listed.tree listed.sound listed.reached;
      tree = (listed.tree, sym listed.nodes);
      nodes = subst (All IsNode) (sym listed.nodes)
          (tree_nodes (cost_at query tables columns) part.best listed.tree (root columns) root_few (root_small columns (columns_bounded query tables columns made)) listed.closes);
    }

    parts_spelled : (best : Option ℤ) (column : Option ℕ) (parts : List PartAnswer) → ArePartsFor query tables columns budget best column parts → All IsPart parts
    parts_spelled best None parts are = subst (All IsPart) (sym are.0) (All-nil IsPart)
    parts_spelled best (Some column) parts are = subst (All IsPart) (sym are.1) (All-cons IsPart are.0 [] (part_spelled are.0 are.2.listed) (All-nil IsPart))

    -- the sections of an optimal answer are read as its world
    pub optimal_read : (objective : ℤ) (worlds : List WorldText) (parts : List PartAnswer) (optimal : IsOptimal query tables columns budget objective worlds parts) → IsWorldOf query tables worlds optimal.world
    optimal_read objective worlds parts optimal = rows_read query tables columns worlds optimal.world fit are made some optimal.best.possible optimal.sections

    verdict_spelled : (verdict : Verdict) → budget < 2 ^ 32 → IsVerdictFor query tables columns budget verdict → length (found_bytes verdict) < 2 ^ 32 → IsVerdict verdict
    verdict_spelled (verdict.Optimal objective worlds parts) most tells short =
        let small = judged_world_small query tables tells.world (cost query.aim objective) tells.sound in
        let same = cost_size query.aim objective in
        let inside = worlds_within objective worlds parts in (
          fits_signed_from_abs w64 objective (omega (arith, small, same)),
          worlds_spelled query tables query.hypos tells.world.tables worlds tells.sections (optimal_read objective worlds parts tells) (omega (arith, inside, short)),
          parts_spelled (Some (cost query.aim objective)) (position has_two (root columns)) parts tells.listed,
        )
    verdict_spelled (verdict.FalseRow row) most tells short = let first = tells.first in omega (arith, first)
    verdict_spelled (verdict.NoWorld part) most tells short = part_spelled part tells.whole.listed
    verdict_spelled (verdict.Unfinished nodes parts) most tells short =
        let spent = tells.spent in
        (omega (arith, spent, most), subst (All IsPart) (sym tells.one) (All-cons IsPart tells.part [] (part_spelled tells.part tells.listed) (All-nil IsPart)))

-- an answer of at most 512 MiB is one that is written and read again
pub listed_spelled : (query : Query) (tables : Tables) (columns : List WorldColumn) (budget : ℕ) (answer : Answer) → IsWellFormed query → AreTables query tables → columns_of query tables ≡ Ok columns
    → All (λ table. 0 < length table.columns) query.tables → budget < 2 ^ 32 → Answers query tables columns budget answer → length (answer_bytes answer) ≤ 536870912 → IsAnswer answer
listed_spelled query tables columns budget answer fit are made some most answers short = record {
  columns = let none = answers.columns in omega (arith, none);
  rows = let none = answers.rows in omega (arith, none);
  formulas = let none = answers.formulas in omega (arith, none);
  verdict = verdict_spelled query tables columns budget fit are made some answer.verdict most answers.verdict (let inside = answer_within answer in omega (arith, inside, short));
}

-- and these bytes are its text
pub listed_text : (query : Query) (tables : Tables) (columns : List WorldColumn) (budget : ℕ) (answer : Answer) → IsWellFormed query → AreTables query tables → columns_of query tables ≡ Ok columns
    → All (λ table. 0 < length table.columns) query.tables → budget < 2 ^ 32 → Answers query tables columns budget answer → length (answer_bytes answer) ≤ 536870912 → AnswerText answer (answer_bytes answer)
listed_text query tables columns budget answer fit are made some most answers short = record { meets = listed_spelled query tables columns budget answer fit are made some most answers short; spelled = refl }
