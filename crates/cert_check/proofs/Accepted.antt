-- What an accepted answer says: it is valid, and then its world is best, or no world meets.
use Rattle.std.proofs.Common.{◌≡◌, ℕ, ℤ, ◌≤ℤ◌, true, false, not, List, [], ◌∷◌, refl, sym, ◌∙◌, ap, subst, arith}
use Rattle.std.specs.Prelude.{Option, Some, None, Ok, Err, IfOk, MatchResult, IsSome, is_some, is_none, position, ◌==◌, ◌&&◌, All}
use Rattle.std.specs.List.{AllZip}
use Rattle.std.proofs.lemmas.Bool.{eqb-true, eq-eqb, and_parts, and_from, not-true}
use Rattle.std.proofs.lemmas.Bool.Decides.{Decides-int_eq}
use Rattle.std.proofs.lemmas.Int.{ints}
use Rattle.std.proofs.lemmas.Slice.Eq.{bytes_eq-Decides}
use Rattle.tiql_query.specs.declared.query.Query.{Query}
use Rattle.tiql_query.specs.declared.world_column.WorldColumn.{WorldColumn}
use Rattle.tiql_query.specs.WellFormed.{IsWellFormed}
use Rattle.tiql_query.specs.Rows.{AreTables}
use Rattle.branch_tree.specs.Faults.{IsSound}
use Rattle.branch_tree.proofs.Faults.{sound_ok}
use Rattle.branch_tree.specs.Tree.{Tree, preorder}
use Rattle.branch_tree.specs.Listing.{AreSides, AreFixed, Closes, InBox, NoBetter, has_two, lows, is_done}
use Rattle.branch_tree.proofs.Covering.{covers, one_inside, lows_inside}
use Rattle.branch_tree.proofs.Trees.{one_tree}
use Rattle.answer_text.specs.declared.answer.Answer.{Answer}
use Rattle.answer_text.specs.declared.answer.PartAnswer.{PartAnswer}
use Rattle.answer_text.specs.declared.answer.Verdict.{Verdict}
use Rattle.answer_text.specs.declared.answer.Verdict.TheVariants as verdict
use Rattle.answer_text.specs.declared.answer.WorldText.{WorldText}
use Rattle.world_def.specs.declared.world.World.{World}
use Rattle.world_def.specs.declared.world.WorldTable.{WorldTable}
use Rattle.world_def.specs.Columns.{Tables, columns_of}
use Rattle.world_def.specs.Meaning.{IsBest, IsPossible, Meets, NoneMeets, score}
use Rattle.row_values.proofs.Agreed.{and_then-Ok}
use Rattle.world_def.proofs.Choices.{columns_told}
use Rattle.world_def.proofs.Restored.{world_restored}
use Rattle.world_points.specs.Points as points
use Rattle.world_points.specs.Points.{judged, judged_at, numbers, root, cost_at, cost}
use Rattle.cert_check.specs.declared.fault.Reject.TheVariants as reject
use Rattle.cert_check.specs.declared.fault.CheckFault.TheVariants as fault
use Rattle.branch_tree.specs.Listing.{open_columns}
use Rattle.cert_check.specs.Reasons.{Outcome, ◌>>◌, OrElse, unless, is_same, have_two, are_open, is_the_part, are_all_parts, is_finished, has_no_program, parts_of, cost_of, in_part, in_parts, of_parts, of_world, of_row, of_verdict, Give, IsGiven, IsOfVerdict, IsOutcome, TellsFirst}
use Rattle.cert_check.specs.Valid.{IsClosed, AreClosedFor, IsValidOptimal, IsValidRow, IsValidPart, IsValidVerdict, IsValid, IsRight, IsSoundPart, NoFaults}
use Rattle.cert_check.proofs.Nodes.{unless_ok}
use Rattle.cert_check.proofs.Sound.{first_ok, next_ok, both_ok, holds_ok, choice_position, fixed_of_test, test_of_fixed, tree_right, right_tree}
use Rattle.answer_text.proofs.Worlds.{world_one}
use Rattle.world_points.proofs.Laws.{own_inside, best_of, none_there, best_there}
use Rattle.world_points.proofs.Ordered.{sides_there}
use Rattle.world_points.proofs.Told.{agree}
use Rattle.cert_check.proofs.Costs.{asked_ok, ok_asked, cost_is, is_cost}

pub same_values : (one other : Option ℤ) → is_same one other ≡ true → one ≡ other
same_values None None is = refl
same_values None (Some m) is = cc
same_values (Some m) None is = cc
same_values (Some m) (Some n) is = ap Some ((Decides-int_eq m n).0 is)

pub values_same : (one other : Option ℤ) → one ≡ other → is_same one other ≡ true
values_same None None is = refl
values_same None (Some m) is = cc
values_same (Some m) None is = cc
values_same (Some m) (Some n) is = (Decides-int_eq m n).1 (inside is)
  where
    inside : {a b : ℤ} → ◌≡◌ {A = Option ℤ} (Some a) (Some b) → a ≡ b
    inside e = cc

module _ (query : Query) (tables : Tables) (columns : List WorldColumn) (made : columns_of query tables ≡ Ok columns) (fit : IsWellFormed query) where
  all_sides : AreSides (root columns)
  all_sides = sides_there query tables columns made

  part_is : (part : PartAnswer) → is_the_part (root columns) part ≡ true → (part.number ≡ 1) × (part.columns ≡ open_columns (root columns))
  part_is part is = let two = and_parts (part.number == 1) (are_open part.columns (root columns)) is in
      (eqb-true part.number 1 two.0, (bytes_eq-Decides part.columns (open_columns (root columns))).0 two.1)

  is_part : (part : PartAnswer) → part.number ≡ 1 → part.columns ≡ open_columns (root columns) → is_the_part (root columns) part ≡ true
  is_part part number shown = and_from (part.number == 1) (are_open part.columns (root columns)) (eq-eqb part.number 1 number) ((bytes_eq-Decides part.columns (open_columns (root columns))).1 shown)

  -- a part in which nothing is wrong is closed
  part_closed : (best : Option ℤ) (part : PartAnswer) (tree : Tree) → is_the_part (root columns) part ≡ true → part.tree ≡ preorder tree → in_part query tables columns best part tree ≡ Ok tt → IsClosed query tables columns best part
  part_closed best part tree the has right =
      let is = part_is part the in
      let same = unless_ok (is_same part.best best) reject.BestDiffers part.number 0 (first_ok (unless (is_same part.best best) reject.BestDiffers part.number 0) _ right) in
      let closes = tree_right query tables columns fit best part.number tree (root columns) 1 all_sides (next_ok (unless (is_same part.best best) reject.BestDiffers part.number 0) _ right) in
      record { number = is.0; shown = is.1; found = same_values part.best best same; tree = tree; nodes = has; done = closes.0; closes = closes.1 }

  -- and nothing is wrong in a part that is closed, where no world is at fault
  closed_part : (best : Option ℤ) (part : PartAnswer) (tree : Tree) → part.tree ≡ preorder tree → IsClosed query tables columns best part → IsSoundPart query tables columns part → in_part query tables columns best part tree ≡ Ok tt
  closed_part best part tree has whole sound =
      let one : whole.tree ≡ tree = one_tree whole.tree tree (sym whole.nodes ∙ has) in
      both_ok (unless (is_same part.best best) reject.BestDiffers part.number 0) _ (holds_ok (is_same part.best best) reject.BestDiffers part.number 0 (values_same part.best best whole.found))
      (right_tree query tables columns fit best part.number tree (root columns) 1 (subst (λ (t : Tree). is_done t ≡ true) one whole.done) (subst (λ (t : Tree). Closes (cost_at query tables columns) best t (root columns)) one whole.closes) (sound tree has))

  choice : have_two (root columns) ≡ is_some (position has_two (root columns))
  choice = choice_position (root columns) all_sides

  no_choice : have_two (root columns) ≡ false → position has_two (root columns) ≡ None
  no_choice is = by_first (position has_two (root columns)) (sym choice ∙ is)
    where
      by_first : (o : Option ℕ) → is_some o ≡ false → o ≡ None
      by_first None e = refl
      by_first (Some column) e = cc

  -- the parts, where nothing is wrong in them
  all_closed : (best : Option ℤ) (parts : List PartAnswer) (trees : List Tree) → AllZip (λ part tree. part.tree ≡ preorder tree) parts trees → are_all_parts (root columns) parts ≡ true → in_parts query tables columns best parts trees ≡ Ok tt →
      AreClosedFor query tables columns best (position has_two (root columns)) parts
  all_closed best [] trees have all right = subst (λ (o : Option ℕ). AreClosedFor query tables columns best o []) (sym (no_choice (not-true (have_two (root columns)) all))) refl
  all_closed best (part ∷ []) [] have all right = absurd have
  all_closed best (part ∷ []) (tree ∷ []) have all right =
      let two = and_parts (have_two (root columns)) (is_the_part (root columns) part) all in
      let whole = part_closed best part tree two.1 have.0 (first_ok (in_part query tables columns best part tree) (Ok tt) right) in
      by_first (position has_two (root columns)) (sym choice ∙ two.0) whole
    where
      by_first : (o : Option ℕ) → is_some o ≡ true → IsClosed query tables columns best part → AreClosedFor query tables columns best o (part ∷ [])
      by_first None e whole = cc
      by_first (Some column) e whole = (part, refl, whole)
  all_closed best (part ∷ []) (tree ∷ next ∷ more) have all right = absurd have.1
  all_closed best (part ∷ next ∷ more) trees have all right = cc

  none_wrong : (best : Option ℤ) (parts : List PartAnswer) (trees : List Tree) (first : Option ℕ) → position has_two (root columns) ≡ first → AllZip (λ part tree. part.tree ≡ preorder tree) parts trees → AreClosedFor query tables columns best first parts
      → All (IsSoundPart query tables columns) parts → (are_all_parts (root columns) parts ≡ true) × (in_parts query tables columns best parts trees ≡ Ok tt)
  none_wrong best [] trees None is have are sound = (ap not (choice ∙ ap is_some is), refl)
  none_wrong best (part ∷ parts) trees None is have are sound = cc
  none_wrong best [] trees (Some column) is have are sound = cc
  none_wrong best (part ∷ []) [] (Some column) is have are sound = absurd have
  none_wrong best (part ∷ []) (tree ∷ trees) (Some column) is have are sound =
      let same : are.0 ≡ part = inside (sym are.1) in
      let whole = subst (IsClosed query tables columns best) same are.2 in (
        and_from (have_two (root columns)) (is_the_part (root columns) part) (choice ∙ ap is_some is) (is_part part whole.number whole.shown),
        both_ok (in_part query tables columns best part tree) (Ok tt) (closed_part best part tree have.0 whole (sound 0 part (omega arith))) refl,
      )
    where
      inside : {a b : PartAnswer} → a ∷ [] ≡ b ∷ [] → a ≡ b
      inside e = cc
  none_wrong best (part ∷ next ∷ more) trees (Some column) is have are sound = cc

  world_is : (world : World) → IsPossible query tables world → points.world_at query tables columns (numbers query tables columns world) ≡ world
  unfolding points.world_at
  world_is world possible = ap (λ (t : List WorldTable). record { tables = t }) (world_restored query tables columns world (columns_told query tables columns made) possible)

  at_most_itself : (m n : ℤ) → m ≡ n → m ≤ℤ n
  at_most_itself m n same = omega (arith, ints)

  -- where no column has two values, a point of the box is the one of a value that is there
  only_point : AreFixed (root columns) → (point : List ℤ) (value : ℤ) → InBox (root columns) point → cost_at query tables columns point ≡ Some value → (other : List ℤ) → InBox (root columns) other → NoBetter (Some value) (cost_at query tables columns other)
  only_point fixed point value there is other inside =
      let same : point ≡ other = one_inside (root columns) point fixed there ∙ sym (one_inside (root columns) other fixed inside) in
      subst (NoBetter (Some value)) (sym is ∙ ap (cost_at query tables columns) same) (at_most_itself value value refl)

  module _ (are : AreTables query tables) where
    -- a possible world that meets is best where no column has two values
    fixed_least : AreFixed (root columns) → (world : World) → IsPossible query tables world → Meets query tables world → (other : List ℤ) → InBox (root columns) other
        → NoBetter (Some (cost query.aim (score query tables world))) (cost_at query tables columns other)
    fixed_least fixed world possible meets other inside = by_value (cost_at query tables columns other) refl
      where
        same : other ≡ numbers query tables columns world
        same = one_inside (root columns) other fixed inside ∙ sym (one_inside (root columns) (numbers query tables columns world) fixed (own_inside query tables columns made fit are world possible))

        by_value : (o : Option ℤ) → cost_at query tables columns other ≡ o → NoBetter (Some (cost query.aim (score query tables world))) o
        by_value None is = tt
        by_value (Some value) is =
            let best = best_there query tables columns made fit are other value is (only_point fixed other value inside is) in
            let its : points.world_at query tables columns other ≡ world = ap (points.world_at query tables columns) same ∙ world_is world possible in
            at_most_itself (cost query.aim (score query tables world)) value (sym (best.1 ∙ ap (λ (w : World). cost query.aim (score query tables w)) its))

    -- an optimal answer that is valid has the best world
    pub valid_best : (objective : ℤ) (worlds : List WorldText) (parts : List PartAnswer) (valid : IsValidOptimal query tables columns objective worlds parts) → IsBest query tables valid.world
    valid_best objective worlds parts valid = best_of query tables columns made fit are valid.world valid.possible valid.meets (by_first (position has_two (root columns)) refl valid.closed)
      where
        by_first : (o : Option ℕ) → position has_two (root columns) ≡ o → AreClosedFor query tables columns (Some (cost query.aim objective)) o parts → (other : List ℤ) → InBox (root columns) other
            → NoBetter (Some (cost query.aim (score query tables valid.world))) (cost_at query tables columns other)
        by_first None is closed other inside = fixed_least (fixed_of_test (root columns) all_sides (choice ∙ ap is_some is)) valid.world valid.possible valid.meets other inside
        by_first (Some column) is closed other inside =
            subst (λ (n : ℤ). NoBetter (Some (cost query.aim n)) (cost_at query tables columns other)) valid.value
            (covers (cost_at query tables columns) (Some (cost query.aim objective)) closed.2.tree (root columns) closed.2.closes closed.2.done other inside)

    -- where an impossible answer is valid, no world meets
    pub valid_part_none : (part : PartAnswer) → IsValidPart query tables columns part → NoneMeets query tables
    valid_part_none part valid = none_there query tables columns made fit are (λ other inside. covers (cost_at query tables columns) None valid.closed.tree (root columns) valid.closed.closes valid.closed.done other inside)

    -- the row of an impossible answer
    row_valid : (row : ℕ) → of_row query tables columns row ≡ Ok tt → IsValidRow query tables columns row
    row_valid row right =
        let before = unless (row == 0 && not (have_two (root columns))) reject.RowHolds 0 0 in
        let inner = and_parts (row == 0) (not (have_two (root columns))) (unless_ok (row == 0 && not (have_two (root columns))) reject.RowHolds 0 0 (first_ok before _ right)) in
        let fixed = fixed_of_test (root columns) all_sides (not-true (have_two (root columns)) inner.1) in
        let told = asked_ok (judged_at query tables columns (lows (root columns))) (λ value. unless (is_none value) reject.RowHolds 0 0) tt (next_ok before _ right) in
        let none = unless_ok (is_none told.0) reject.RowHolds 0 0 told.2 in
        record {
          first = eqb-true row 0 inner.0;
          fixed = fixed;
          none = none_there query tables columns made fit are (λ other inside.
              subst (NoBetter None) (sym (agree query tables columns fit (lows (root columns)) told.0 told.1) ∙ ap (cost_at query tables columns) (sym (one_inside (root columns) other fixed inside))) (by_value told.0 none));
        }
      where
        by_value : (o : Option ℤ) → is_none o ≡ true → NoBetter None o
        by_value None e = tt
        by_value (Some value) e = cc

    valid_row : (row : ℕ) → IsValidRow query tables columns row → IsSound (judged_at query tables columns (lows (root columns))) → of_row query tables columns row ≡ Ok tt
    valid_row row valid sound =
        let told = sound_ok (judged_at query tables columns (lows (root columns))) sound in
        both_ok (unless (row == 0 && not (have_two (root columns))) reject.RowHolds 0 0) _
        (holds_ok (row == 0 && not (have_two (root columns))) reject.RowHolds 0 0 (and_from (row == 0) (not (have_two (root columns))) (eq-eqb row 0 valid.first) (ap not (test_of_fixed (root columns) valid.fixed))))
        (ok_asked (judged_at query tables columns (lows (root columns))) (λ value. unless (is_none value) reject.RowHolds 0 0) told.0 tt told.1
        (holds_ok (is_none told.0) reject.RowHolds 0 0 (by_value told.0 (agree query tables columns fit (lows (root columns)) told.0 told.1))))
      where
        by_value : (o : Option ℤ) → cost_at query tables columns (lows (root columns)) ≡ o → is_none o ≡ true
        by_value None e = refl
        by_value (Some value) e =
            let best = best_there query tables columns made fit are (lows (root columns)) value e (only_point valid.fixed (lows (root columns)) value (lows_inside (root columns) valid.fixed) e) in
            absurd (valid.none (points.world_at query tables columns (lows (root columns))) best.0.possible best.0.meets)

    -- a verdict with which nothing is wrong is valid
    optimal_valid : (objective : ℤ) (worlds : List WorldText) (parts : List PartAnswer) (given : Option World) (trees : List Tree) → Give query tables worlds given → AllZip (λ part tree. part.tree ≡ preorder tree) parts trees →
        of_world query tables columns objective parts trees given ≡ Ok tt → IsValidOptimal query tables columns objective worlds parts
    optimal_valid objective worlds parts None trees gives have right = cc
    optimal_valid objective worlds parts (Some world) trees gives have right =
        let told = and_then-Ok (cost_of query tables objective world) (λ best. of_parts query tables columns (Some best) parts trees) tt right in
        let its = cost_is query tables fit objective world told.0 told.1 in
        let parted = unless (are_all_parts (root columns) parts) reject.WrongParts 0 0 in
        record {
          world = world;
          given = gives.0;
          possible = gives.1;
          meets = its.meets;
          value = its.value;
          closed = subst (λ (v : ℤ). AreClosedFor query tables columns (Some v) (position has_two (root columns)) parts) its.same
              (all_closed (Some told.0) parts trees have (unless_ok (are_all_parts (root columns) parts) reject.WrongParts 0 0 (first_ok parted _ told.2)) (next_ok parted _ told.2));
        }

    valid_optimal : (objective : ℤ) (worlds : List WorldText) (parts : List PartAnswer) (given : Option World) (trees : List Tree) → Give query tables worlds given → AllZip (λ part tree. part.tree ≡ preorder tree) parts trees →
        IsValidOptimal query tables columns objective worlds parts → NoFaults query tables columns (verdict.Optimal objective worlds parts) → of_world query tables columns objective parts trees given ≡ Ok tt
    valid_optimal objective worlds parts None trees gives have valid sound = absurd (gives valid.world valid.given valid.possible)
    valid_optimal objective worlds parts (Some world) trees gives have valid sound =
        let same : valid.world ≡ world = world_one query tables are worlds valid.world world valid.given gives.0 in
        let its : cost_of query tables objective world ≡ Ok (cost query.aim objective) =
        is_cost query tables fit objective world (subst (Meets query tables) same valid.meets) (valid.value ∙ ap (score query tables) same) (sound.0 world gives.0) in
        let right = none_wrong (Some (cost query.aim objective)) parts trees (position has_two (root columns)) refl have valid.closed sound.1 in
        rw its (both_ok (unless (are_all_parts (root columns) parts) reject.WrongParts 0 0) _ (holds_ok (are_all_parts (root columns) parts) reject.WrongParts 0 0 right.0) right.1)

    verdict_valid : (told : Verdict) → IsOfVerdict query tables columns told (Ok tt) → is_finished told ≡ true → IsValidVerdict query tables columns told
    verdict_valid (verdict.Optimal objective worlds parts) of finished = optimal_valid objective worlds parts of.given of.trees of.worlds of.parts (sym of.first)
    verdict_valid (verdict.FalseRow row) of finished = row_valid row (sym of.first)
    verdict_valid (verdict.NoWorld part) of finished = by_trees of.trees of.parts (sym of.first)
      where
        by_trees : (trees : List Tree) → AllZip (λ part tree. part.tree ≡ preorder tree) (part ∷ []) trees →
            (unless (have_two (root columns) && is_the_part (root columns) part) reject.WrongParts 0 0 >> in_parts query tables columns None (part ∷ []) trees) ≡ Ok tt → IsValidPart query tables columns part
        by_trees [] have right = absurd have
        by_trees (tree ∷ trees) have right =
            let parted = unless (have_two (root columns) && is_the_part (root columns) part) reject.WrongParts 0 0 in
            let two = and_parts (have_two (root columns)) (is_the_part (root columns) part) (unless_ok (have_two (root columns) && is_the_part (root columns) part) reject.WrongParts 0 0 (first_ok parted _ right)) in
            record { several = several_of (position has_two (root columns)) (sym choice ∙ two.0); closed = part_closed None part tree two.1 have.0 (first_ok (in_part query tables columns None part tree) _ (next_ok parted _ right)) }
          where
            several_of : (o : Option ℕ) → is_some o ≡ true → IsSome o
            several_of None e = cc
            several_of (Some column) e = e
    verdict_valid (verdict.Unfinished nodes parts) of finished = cc

    valid_verdict : (told : Verdict) (outcome : Outcome) → IsValidVerdict query tables columns told → NoFaults query tables columns told → IsOfVerdict query tables columns told outcome → outcome ≡ Ok tt
    valid_verdict (verdict.Optimal objective worlds parts) outcome valid sound of = of.first ∙ valid_optimal objective worlds parts of.given of.trees of.worlds of.parts valid sound
    valid_verdict (verdict.FalseRow row) outcome valid sound of = of.first ∙ valid_row row valid sound
    valid_verdict (verdict.NoWorld part) outcome valid sound of = of.first ∙ by_trees of.trees of.parts
      where
        some_of : (o : Option ℕ) → IsSome o → is_some o ≡ true
        some_of None some = cc
        some_of (Some column) some = refl

        by_trees : (trees : List Tree) → AllZip (λ part tree. part.tree ≡ preorder tree) (part ∷ []) trees → (unless (have_two (root columns) && is_the_part (root columns) part) reject.WrongParts 0 0 >> in_parts query tables columns None (part ∷ []) trees) ≡ Ok tt
        by_trees [] have = absurd have
        by_trees (tree ∷ trees) have =
            both_ok (unless (have_two (root columns) && is_the_part (root columns) part) reject.WrongParts 0 0) _
            (holds_ok (have_two (root columns) && is_the_part (root columns) part) reject.WrongParts 0 0 (and_from (have_two (root columns)) (is_the_part (root columns) part) (choice ∙ some_of (position has_two (root columns)) valid.several) (is_part part valid.closed.number valid.closed.shown)))
            (both_ok (in_part query tables columns None part tree) _ (closed_part None part tree have.0 valid.closed sound) refl)
    valid_verdict (verdict.Unfinished nodes parts) outcome valid sound of = absurd valid

    module _ (answer : Answer) where
      before_is : (Rest : Outcome → Type 0) (outcome : Outcome) → OrElse (unless (is_finished answer.verdict) reject.Unfinished 0 0 >> unless (has_no_program answer) reject.WrongProgram 0 0) outcome (Rest outcome) →
          (before : Outcome) → (unless (is_finished answer.verdict) reject.Unfinished 0 0 >> unless (has_no_program answer) reject.WrongProgram 0 0) ≡ before → OrElse before outcome (Rest outcome)
      before_is Rest outcome of before is = subst (λ (o : Outcome). OrElse o outcome (Rest outcome)) is of

      -- an answer for which no reason comes is valid
      pub accepted_valid : IsOutcome query tables columns answer (Ok tt) → IsValid query tables columns answer
      accepted_valid of = by_before (unless (is_finished answer.verdict) reject.Unfinished 0 0 >> unless (has_no_program answer) reject.WrongProgram 0 0) refl
        where
          by_before : (before : Outcome) → (unless (is_finished answer.verdict) reject.Unfinished 0 0 >> unless (has_no_program answer) reject.WrongProgram 0 0) ≡ before → IsValid query tables columns answer
          by_before (Err e) is = let wrong = before_is (IsOfVerdict query tables columns answer.verdict) (Ok tt) of (Err e) is in cc
          by_before (Ok x) is =
              let rest = before_is (IsOfVerdict query tables columns answer.verdict) (Ok tt) of (Ok tt) is in
              let finished = unless_ok (is_finished answer.verdict) reject.Unfinished 0 0 (first_ok (unless (is_finished answer.verdict) reject.Unfinished 0 0) _ is) in
              let program = unless_ok (has_no_program answer) reject.WrongProgram 0 0 (next_ok (unless (is_finished answer.verdict) reject.Unfinished 0 0) _ is) in
              let outer = and_parts (answer.columns == 0 && answer.rows == 0) (answer.formulas == 0) program in
              let inner = and_parts (answer.columns == 0) (answer.rows == 0) outer.0 in
              record { no_columns = eqb-true answer.columns 0 inner.0; no_rows = eqb-true answer.rows 0 inner.1; no_formulas = eqb-true answer.formulas 0 outer.1; verdict = verdict_valid answer.verdict rest finished }

      -- and for a valid answer none comes, where no world is at fault
      pub valid_accepted : (outcome : Outcome) → IsValid query tables columns answer → NoFaults query tables columns answer.verdict → IsOutcome query tables columns answer outcome → outcome ≡ Ok tt
      valid_accepted outcome valid sound of =
          let finished : is_finished answer.verdict ≡ true = is_done_verdict answer.verdict valid.verdict in
          let program : has_no_program answer ≡ true = and_from (answer.columns == 0 && answer.rows == 0) (answer.formulas == 0)
          (and_from (answer.columns == 0) (answer.rows == 0) (eq-eqb answer.columns 0 valid.no_columns) (eq-eqb answer.rows 0 valid.no_rows)) (eq-eqb answer.formulas 0 valid.no_formulas) in
          let none : (unless (is_finished answer.verdict) reject.Unfinished 0 0 >> unless (has_no_program answer) reject.WrongProgram 0 0) ≡ Ok tt =
          both_ok (unless (is_finished answer.verdict) reject.Unfinished 0 0) _ (holds_ok (is_finished answer.verdict) reject.Unfinished 0 0 finished) (holds_ok (has_no_program answer) reject.WrongProgram 0 0 program) in
          valid_verdict answer.verdict outcome valid.verdict sound (before_is (IsOfVerdict query tables columns answer.verdict) outcome of (Ok tt) none)
        where
          is_done_verdict : (told : Verdict) → IsValidVerdict query tables columns told → is_finished told ≡ true
          is_done_verdict (verdict.Optimal objective worlds parts) holds = refl
          is_done_verdict (verdict.FalseRow row) holds = refl
          is_done_verdict (verdict.NoWorld part) holds = refl
          is_done_verdict (verdict.Unfinished nodes parts) holds = absurd holds

      -- what is told of an answer: it is valid, or a valid one is not refused
      pub told_valid : (told : Outcome) → TellsFirst query tables columns answer told → IfOk told (λ x. IsValid query tables columns answer)
      told_valid (Ok x) tells = accepted_valid tells
      told_valid (Err e) tells = tt

      pub told_accepted : (told : Outcome) → TellsFirst query tables columns answer told → IsValid query tables columns answer → NoFaults query tables columns answer.verdict → MatchResult told (λ x. Unit {0}) (λ e. e ≡ fault.Memory)
      told_accepted (Ok x) tells valid sound = tt
      told_accepted (Err fault.Memory) tells valid sound = refl
      told_accepted (Err (fault.Wide source number)) tells valid sound = let wrong = valid_accepted (Err (fault.Wide source number)) valid sound (tells (λ same. cc)) in cc
      told_accepted (Err (fault.TooManyRows view limit)) tells valid sound = let wrong = valid_accepted (Err (fault.TooManyRows view limit)) valid sound (tells (λ same. cc)) in cc
      told_accepted (Err (fault.Rejected reason part node)) tells valid sound = let wrong = valid_accepted (Err (fault.Rejected reason part node)) valid sound (tells (λ same. cc)) in cc

      -- a valid answer is right
      right_verdict : (told : Verdict) → IsValidVerdict query tables columns told → IsRight query tables told
      right_verdict (verdict.Optimal objective worlds parts) valid = (valid.world, valid.given, valid_best objective worlds parts valid, valid.value)
      right_verdict (verdict.FalseRow row) valid = valid.none
      right_verdict (verdict.NoWorld part) valid = valid_part_none part valid
      right_verdict (verdict.Unfinished nodes parts) valid = absurd valid

      pub valid_right : IsValid query tables columns answer → IsRight query tables answer.verdict
      valid_right valid = right_verdict answer.verdict valid.verdict

      pub told_right : (told : Outcome) → TellsFirst query tables columns answer told → IfOk told (λ x. IsRight query tables answer.verdict)
      told_right (Ok x) tells = valid_right (accepted_valid tells)
      told_right (Err e) tells = tt

-- a check comes to one outcome
module _ (query : Query) (tables : Tables) (columns : List WorldColumn) (are : AreTables query tables) where
  same_trees : (parts : List PartAnswer) (one other : List Tree) → AllZip (λ part tree. part.tree ≡ preorder tree) parts one → AllZip (λ part tree. part.tree ≡ preorder tree) parts other → one ≡ other
  same_trees [] [] [] a b = refl
  same_trees [] [] (tree ∷ other) a b = absurd b
  same_trees [] (tree ∷ one) other a b = absurd a
  same_trees (part ∷ parts) [] other a b = absurd a
  same_trees (part ∷ parts) (tree ∷ one) [] a b = absurd b
  same_trees (part ∷ parts) (tree ∷ one) (tree' ∷ other) a b =
      let first : tree ≡ tree' = one_tree tree tree' (sym a.0 ∙ b.0) in let rest : one ≡ other = same_trees parts one other a.1 b.1 in cc

  same_given : (worlds : List WorldText) (one other : Option World) → Give query tables worlds one → Give query tables worlds other → one ≡ other
  same_given worlds None None a b = refl
  same_given worlds None (Some world) a b = absurd (a world b.0 b.1)
  same_given worlds (Some world) None a b = absurd (b world a.0 a.1)
  same_given worlds (Some world) (Some other) a b = ap Some (world_one query tables are worlds world other a.0 b.0)

  one_given : (told : Verdict) (one other : Option World) → IsGiven query tables told one → IsGiven query tables told other → one ≡ other
  one_given (verdict.Optimal objective worlds parts) one other a b = same_given worlds one other a b
  one_given (verdict.FalseRow row) one other a b = a ∙ sym b
  one_given (verdict.NoWorld part) one other a b = a ∙ sym b
  one_given (verdict.Unfinished nodes parts) one other a b = a ∙ sym b

  same_of_verdict : (told : Verdict) (one other : Outcome) → IsOfVerdict query tables columns told one → IsOfVerdict query tables columns told other → one ≡ other
  same_of_verdict told one other a b =
      let given = one_given told a.given b.given a.worlds b.worlds in
      let trees = same_trees (parts_of told) a.trees b.trees a.parts b.parts in
      a.first ∙ ap (λ (g : Option World). of_verdict query tables columns g a.trees told) given ∙ ap (λ (t : List Tree). of_verdict query tables columns b.given t told) trees ∙ sym b.first

  same_or_else : (before one other : Outcome) (Rest : Outcome → Type 0) → ((a b : Outcome) → Rest a → Rest b → a ≡ b) → OrElse before one (Rest one) → OrElse before other (Rest other) → one ≡ other
  same_or_else (Err e) one other Rest same a b = a ∙ sym b
  same_or_else (Ok x) one other Rest same a b = same one other a b

  pub one_outcome : (answer : Answer) (one other : Outcome) → IsOutcome query tables columns answer one → IsOutcome query tables columns answer other → one ≡ other
  one_outcome answer one other a b =
      same_or_else (unless (is_finished answer.verdict) reject.Unfinished 0 0 >> unless (has_no_program answer) reject.WrongProgram 0 0) one other (IsOfVerdict query tables columns answer.verdict) (same_of_verdict answer.verdict) a b
