-- From what the parts of a check tell to what the check tells.
use Rattle.std.proofs.Common.{◌≡◌, ℕ, ℤ, List, [], ◌∷◌, Bool, true, refl, sym, ◌∙◌, ap, subst}
use Rattle.std.specs.Prelude.{None, Ok, Err, ◌&&◌}
use Rattle.std.specs.List.{All, AllByRecursion, AllZip}
use Rattle.std.proofs.lemmas.List.Elements.{recursion_from_All}
use Rattle.tiql_query.specs.declared.query.Query.{Query}
use Rattle.tiql_query.specs.declared.world_column.WorldColumn.{WorldColumn}
use Rattle.branch_tree.specs.Tree.{Tree, preorder}
use Rattle.answer_text.specs.Answers.{IsPart}
use Rattle.answer_text.specs.declared.answer.Answer.{Answer}
use Rattle.answer_text.specs.declared.answer.PartAnswer.{PartAnswer}
use Rattle.answer_text.specs.declared.answer.Verdict.{Verdict}
use Rattle.answer_text.specs.declared.answer.Verdict.TheVariants as verdict
use Rattle.answer_text.specs.declared.answer.WorldText.{WorldText}
use Rattle.world_def.specs.Columns.{Tables}
use Rattle.world_points.specs.Points.{root}
use Rattle.cert_check.specs.declared.fault.Reject.TheVariants as reject
use Rattle.cert_check.specs.Reasons.{Outcome, ◌>>◌, OrElse, unless, is_finished, has_no_program, have_two, is_the_part, in_part, of_row, IsOfVerdict, IsOutcome, TellsFirst}
use Rattle.cert_check.specs.Checks.{TellsOutcome, TellsOptimal, IsOptimalOutcome, of_part}
use Rattle.cert_check.proofs.Nodes.{then_ok}

abbrev pub HasTree : PartAnswer → Tree → Type 0
HasTree part tree = part.tree ≡ preorder tree

-- parts that are kept have trees
have_trees : (parts : List PartAnswer) → AllByRecursion IsPart parts → (trees : List Tree) × AllZip HasTree parts trees
have_trees [] all = ([], tt)
have_trees (part ∷ parts) all = let rest = have_trees parts all.1 in let tree = all.0.tree in (tree.0 ∷ rest.0, (sym tree.1, rest.1))

pub trees_of : (parts : List PartAnswer) → All IsPart parts → (trees : List Tree) × AllZip HasTree parts trees
trees_of parts all = have_trees parts (recursion_from_All IsPart parts all)

module _ (query : Query) (tables : Tables) (columns : List WorldColumn) (answer : Answer) (program : unless (has_no_program answer) reject.WrongProgram 0 0 ≡ Ok tt) where
  -- what is wrong with a verdict is wrong with the answer, where nothing is wrong before
  of_its_verdict : (verdict : Verdict) (outcome : Outcome) → answer.verdict ≡ verdict → is_finished verdict ≡ true → IsOfVerdict query tables columns verdict outcome → IsOutcome query tables columns answer outcome
  of_its_verdict told outcome is finished of =
      let before : (unless (is_finished answer.verdict) reject.Unfinished 0 0 >> unless (has_no_program answer) reject.WrongProgram 0 0) ≡ Ok tt =
      ap (λ (v : Verdict). unless (is_finished v) reject.Unfinished 0 0 >> unless (has_no_program answer) reject.WrongProgram 0 0) is
      ∙ ap (λ (b : Bool). unless b reject.Unfinished 0 0 >> unless (has_no_program answer) reject.WrongProgram 0 0) finished ∙ program in
      subst (λ (o : Outcome). OrElse o outcome (IsOfVerdict query tables columns answer.verdict outcome)) (sym before) (subst (λ (v : Verdict). IsOfVerdict query tables columns v outcome) (sym is) of)

  module _ (objective : ℤ) (worlds : List WorldText) (parts : List PartAnswer) (is : answer.verdict ≡ verdict.Optimal objective worlds parts) (all : All IsPart parts) where
    optimal_of : (outcome : Outcome) → IsOptimalOutcome query tables columns objective worlds parts outcome → IsOutcome query tables columns answer outcome
    optimal_of outcome of = of_its_verdict (verdict.Optimal objective worlds parts) outcome is refl
        (let trees = trees_of parts all in record { given = of.given; worlds = of.world; trees = trees.0; parts = trees.1; first = of.first trees.0 trees.1 })

    pub tells_optimal : (outcome : Outcome) → TellsOptimal query tables columns objective worlds parts outcome → TellsFirst query tables columns answer outcome
    tells_optimal (Ok x) of = optimal_of (Ok tt) of
    tells_optimal (Err told) of = λ other. optimal_of (Err told) (of other)

  module _ (row : ℕ) (is : answer.verdict ≡ verdict.FalseRow row) where
    row_of : (outcome : Outcome) → of_row query tables columns row ≡ outcome → IsOutcome query tables columns answer outcome
    row_of outcome of = of_its_verdict (verdict.FalseRow row) outcome is refl (record { given = None; worlds = refl; trees = []; parts = tt; first = sym of })

    pub tells_row : (outcome : Outcome) → TellsOutcome (of_row query tables columns row) outcome → TellsFirst query tables columns answer outcome
    tells_row (Ok x) of = row_of (Ok tt) of
    tells_row (Err told) of = λ other. row_of (Err told) (of other)

  module _ (part : PartAnswer) (is : answer.verdict ≡ verdict.NoWorld part) (whole : IsPart part) where
    no_world_of : (outcome : Outcome) → (tree : Tree) → part.tree ≡ preorder tree → of_part query tables columns part tree ≡ outcome → IsOutcome query tables columns answer outcome
    no_world_of outcome tree has of = of_its_verdict (verdict.NoWorld part) outcome is refl
        (record {
          given = None;
          worlds = refl;
          trees = tree ∷ [];
          parts = (has, tt);
          first = sym of ∙ ap (λ (o : Outcome). unless (have_two (root columns) && is_the_part (root columns) part) reject.WrongParts 0 0 >> o) (sym (then_ok (in_part query tables columns None part tree)));
        })

    pub tells_no_world : (outcome : Outcome) → ((tree : Tree) → part.tree ≡ preorder tree → TellsOutcome (of_part query tables columns part tree) outcome) → TellsFirst query tables columns answer outcome
    tells_no_world (Ok x) of = no_world_of (Ok tt) whole.tree.0 (sym whole.tree.1) (of whole.tree.0 (sym whole.tree.1))
    tells_no_world (Err told) of = λ other. no_world_of (Err told) whole.tree.0 (sym whole.tree.1) (of whole.tree.0 (sym whole.tree.1) other)
