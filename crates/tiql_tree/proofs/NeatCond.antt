-- the text of a condition with the signs that group it only where they are needed
use Rattle.std.proofs.Common.{◌≡◌, ◌+◌, ◌≤◌, List, [], ◌∷◌, ◌++◌, map, length, drop, codes, refl, sym, ◌∙◌, ap, arith}
use Rattle.std.specs.List.{AllByRecursion}
use denote.Hole.Carrier.{roll}
use Rattle.tiql_tree.specs.declared.expression.TreeExpr.{TreeExpr}
use Rattle.tiql_tree.specs.declared.condition.TreeCmp.{TreeCmp}
use Rattle.tiql_tree.specs.declared.condition.TreeCond.{TreeCond}
use Rattle.tiql_tree.specs.declared.condition.TreeCond.TheOpen.{TreeCond-F}
use Rattle.tiql_tree.specs.declared.condition.TreeCond.TheFolds.{fold-roll-TreeCond}
use Rattle.tiql_tree.specs.declared.condition.TreeCond.TheVariants.{Compare}
use Rattle.tiql_tree.specs.declared.condition.TreeCond.TheViews.{Not, And, Or, roll-TreeCond}
use Rattle.tiql_tree.specs.Words.{Word, sign}
use Rattle.tiql_tree.specs.Texts.{CondText, ConjText, UnitText}
use Rattle.tiql_tree.specs.Texts.CondText.{last_conj, next_conj}
use Rattle.tiql_tree.specs.Texts.ConjText.{last_unit, next_unit}
use Rattle.tiql_tree.specs.Texts.UnitText.{denied, bracketed, compared}
use Rattle.tiql_tree.specs.Grammar.{expr_words, cond_words, conj_words, unit_words}
use Rattle.tiql_tree.specs.Nesting.{cond_depth, conj_depth, unit_depth}
use Rattle.tiql_tree.specs.Trees.{Places, expr_tree, cond_tree, or_parts, conj_tree, and_parts, unit_tree}
use Rattle.tiql_tree.specs.Unplaced.{expr_only, cond_step, cond_only}
use Rattle.tiql_tree.specs.Printed.{ExprMade, as_expr, expr_made, CondMade, made_unit, made_conj, made_cond, as_cond, as_conj, as_unit, or_from, and_from, cond_made}
use Rattle.tiql_tree.proofs.CondMaking.{made-Compare, made-Not, made-And, made-Or}
use Rattle.tiql_tree.proofs.GoodWords.{all_append, all_front, all_back, bracket_good, end_bracket_good}
use Rattle.tiql_tree.proofs.Neat.{neat_expr, made_expr, same_expr, neat_tree, neat_depth, neat_good}
use Rattle.tiql_tree.proofs.Written.{Good}

mutual
  pub neat_cond : CondText → CondMade
  neat_cond (last_conj conj) = neat_conj conj
  neat_cond (next_conj conj more) = made_cond (next_conj (as_conj (neat_conj conj)) (neat_or more))

  pub neat_or : CondText → CondText
  neat_or (last_conj conj) = last_conj (as_conj (neat_conj conj))
  neat_or (next_conj conj more) = next_conj (as_conj (neat_conj conj)) (neat_or more)

  pub neat_conj : ConjText → CondMade
  neat_conj (last_unit unit) = neat_unit unit
  neat_conj (next_unit unit more) = made_conj (next_unit (as_unit (neat_unit unit)) (neat_and more))

  pub neat_and : ConjText → ConjText
  neat_and (last_unit unit) = last_unit (as_unit (neat_unit unit))
  neat_and (next_unit unit more) = next_unit (as_unit (neat_unit unit)) (neat_and more)

  pub neat_unit : UnitText → CondMade
  neat_unit (denied unit) = made_unit (denied (as_unit (neat_unit unit)))
  neat_unit (bracketed cond) = neat_cond cond
  neat_unit (compared cmp one other) = made_unit (compared cmp (as_expr (neat_expr one)) (as_expr (neat_expr other)))

mutual
  unfolding neat_cond cond_tree

  pub made_cond_ : (ps : Places) (c : CondText) → cond_made (cond_tree ps c) ≡ neat_cond c
  made_cond_ ps (last_conj conj) = made_conj_ ps conj
  made_cond_ ps (next_conj conj more) =
      made-Or _ _ refl ∙ ap made_cond (ap (λ (m : CondMade). or_from (as_conj m) (map cond_made (or_parts (drop (length (conj_words conj) + 1) ps) more))) (made_conj_ ps conj)
      ∙ made_ors (as_conj (neat_conj conj)) (drop (length (conj_words conj) + 1) ps) more)

  made_ors : (k : ConjText) (ps : Places) (c : CondText) → or_from k (map cond_made (or_parts ps c)) ≡ next_conj k (neat_or c)
  made_ors k ps (last_conj conj) = ap (λ (m : CondMade). next_conj k (last_conj (as_conj m))) (made_conj_ ps conj)
  made_ors k ps (next_conj conj more) =
      ap (λ (m : CondMade). next_conj k (or_from (as_conj m) (map cond_made (or_parts (drop (length (conj_words conj) + 1) ps) more)))) (made_conj_ ps conj)
      ∙ ap (next_conj k) (made_ors (as_conj (neat_conj conj)) (drop (length (conj_words conj) + 1) ps) more)

  made_conj_ : (ps : Places) (c : ConjText) → cond_made (conj_tree ps c) ≡ neat_conj c
  made_conj_ ps (last_unit unit) = made_unit_ ps unit
  made_conj_ ps (next_unit unit more) =
      made-And _ _ refl ∙ ap made_conj (ap (λ (m : CondMade). and_from (as_unit m) (map cond_made (and_parts (drop (length (unit_words unit) + 1) ps) more))) (made_unit_ ps unit)
      ∙ made_ands (as_unit (neat_unit unit)) (drop (length (unit_words unit) + 1) ps) more)

  made_ands : (u : UnitText) (ps : Places) (c : ConjText) → and_from u (map cond_made (and_parts ps c)) ≡ next_unit u (neat_and c)
  made_ands u ps (last_unit unit) = ap (λ (m : CondMade). next_unit u (last_unit (as_unit m))) (made_unit_ ps unit)
  made_ands u ps (next_unit unit more) =
      ap (λ (m : CondMade). next_unit u (and_from (as_unit m) (map cond_made (and_parts (drop (length (unit_words unit) + 1) ps) more)))) (made_unit_ ps unit)
      ∙ ap (next_unit u) (made_ands (as_unit (neat_unit unit)) (drop (length (unit_words unit) + 1) ps) more)

  made_unit_ : (ps : Places) (u : UnitText) → cond_made (unit_tree ps u) ≡ neat_unit u
  made_unit_ ps (denied unit) = made-Not _ _ refl ∙ ap (λ (m : CondMade). made_unit (denied (as_unit m))) (made_unit_ (drop 1 ps) unit)
  made_unit_ ps (bracketed cond) = made_cond_ (drop 1 ps) cond
  made_unit_ ps (compared cmp one other) =
      made-Compare _ cmp _ _ refl
      ∙ ap (λ (m : ExprMade). made_unit (compared cmp (as_expr m) (as_expr (expr_made (expr_tree (drop (length (expr_words one) + 1) ps) other))))) (made_expr ps one)
      ∙ ap (λ (m : ExprMade). made_unit (compared cmp (as_expr (neat_expr one)) (as_expr m))) (made_expr (drop (length (expr_words one) + 1) ps) other)

pub only-Compare : (cmp : TreeCmp) (a b : TreeExpr) → cond_only (Compare cmp a b) ≡ Compare cmp (expr_only a) (expr_only b)
unfolding cond_only roll-TreeCond roll
only-Compare cmp a b = fold-roll-TreeCond TreeCond cond_step (TreeCond-F.Compare cmp a b)

pub only-Not : (c : TreeCond) → cond_only (Not c) ≡ Not (cond_only c)
unfolding cond_only roll-TreeCond roll
only-Not c = fold-roll-TreeCond TreeCond cond_step (TreeCond-F.Not c)

pub only-And : (cs : List TreeCond) → cond_only (And cs) ≡ And (map cond_only cs)
unfolding cond_only roll-TreeCond roll
only-And cs = fold-roll-TreeCond TreeCond cond_step (TreeCond-F.And cs)

pub only-Or : (cs : List TreeCond) → cond_only (Or cs) ≡ Or (map cond_only cs)
unfolding cond_only roll-TreeCond roll
only-Or cs = fold-roll-TreeCond TreeCond cond_step (TreeCond-F.Or cs)

cond_before : (a b : TreeCond) (xs ys : List TreeCond) → cond_only a ≡ cond_only b → map cond_only xs ≡ map cond_only ys → map cond_only (a ∷ xs) ≡ map cond_only (b ∷ ys)
cond_before a b xs ys head tail = ap (λ (c : TreeCond). c ∷ map cond_only xs) head ∙ ap (λ (l : List TreeCond). cond_only b ∷ l) tail

compare_same : (cmp : TreeCmp) (a b c d : TreeExpr) → expr_only a ≡ expr_only c → expr_only b ≡ expr_only d → cond_only (Compare cmp a b) ≡ cond_only (Compare cmp c d)
compare_same cmp a b c d one other =
    only-Compare cmp a b ∙ ap (λ (e : TreeExpr). Compare cmp e (expr_only b)) one ∙ ap (λ (e : TreeExpr). Compare cmp (expr_only c) e) other ∙ sym (only-Compare cmp c d)

mutual
  unfolding cond_tree

  pub same_cond : (ps qs : Places) (c : CondText) → cond_only (cond_tree ps c) ≡ cond_only (cond_tree qs c)
  same_cond ps qs (last_conj conj) = same_conj ps qs conj
  same_cond ps qs (next_conj conj more) = only-Or _ ∙ ap Or (cond_before _ _ _ _ (same_conj ps qs conj) (same_ors _ _ more)) ∙ sym (only-Or _)

  same_ors : (ps qs : Places) (c : CondText) → map cond_only (or_parts ps c) ≡ map cond_only (or_parts qs c)
  same_ors ps qs (last_conj conj) = cond_before _ _ [] [] (same_conj ps qs conj) refl
  same_ors ps qs (next_conj conj more) = cond_before _ _ _ _ (same_conj ps qs conj) (same_ors _ _ more)

  same_conj : (ps qs : Places) (c : ConjText) → cond_only (conj_tree ps c) ≡ cond_only (conj_tree qs c)
  same_conj ps qs (last_unit unit) = same_unit ps qs unit
  same_conj ps qs (next_unit unit more) = only-And _ ∙ ap And (cond_before _ _ _ _ (same_unit ps qs unit) (same_ands _ _ more)) ∙ sym (only-And _)

  same_ands : (ps qs : Places) (c : ConjText) → map cond_only (and_parts ps c) ≡ map cond_only (and_parts qs c)
  same_ands ps qs (last_unit unit) = cond_before _ _ [] [] (same_unit ps qs unit) refl
  same_ands ps qs (next_unit unit more) = cond_before _ _ _ _ (same_unit ps qs unit) (same_ands _ _ more)

  same_unit : (ps qs : Places) (u : UnitText) → cond_only (unit_tree ps u) ≡ cond_only (unit_tree qs u)
  same_unit ps qs (denied unit) = only-Not _ ∙ ap Not (same_unit _ _ unit) ∙ sym (only-Not _)
  same_unit ps qs (bracketed cond) = same_cond _ _ cond
  same_unit ps qs (compared cmp one other) = compare_same cmp _ _ _ _ (same_expr _ _ one) (same_expr _ _ other)

conj_room : (m : CondMade) (ps qs : Places) → cond_only (cond_tree ps (as_cond m)) ≡ cond_only (conj_tree qs (as_conj m))
unfolding cond_tree
conj_room (made_unit unit) ps qs = same_unit ps qs unit
conj_room (made_conj conj) ps qs = same_conj ps qs conj
conj_room (made_cond cond) ps qs = same_cond ps (drop 1 qs) cond

unit_room : (m : CondMade) (ps qs : Places) → cond_only (conj_tree ps (as_conj m)) ≡ cond_only (unit_tree qs (as_unit m))
unfolding cond_tree
unit_room (made_unit unit) ps qs = same_unit ps qs unit
unit_room (made_conj conj) ps qs = same_conj ps (drop 1 qs) conj
unit_room (made_cond cond) ps qs = same_cond (drop 1 ps) (drop 1 qs) cond

mutual
  unfolding cond_tree neat_cond cond_words

  pub neat_cond_tree : (ps qs : Places) (c : CondText) → AllByRecursion Good (cond_words c) → cond_only (cond_tree ps (as_cond (neat_cond c))) ≡ cond_only (cond_tree qs c)
  neat_cond_tree ps qs (last_conj conj) good = conj_room (neat_conj conj) ps ps ∙ neat_conj_tree ps qs conj good
  neat_cond_tree ps qs (next_conj conj more) good =
      only-Or _ ∙ ap Or (cond_before _ _ _ _ (neat_conj_tree ps qs conj (all_front (conj_words conj) _ good)) (neat_ors _ _ more (all_back (conj_words conj) _ good).1)) ∙ sym (only-Or _)

  neat_ors : (ps qs : Places) (c : CondText) → AllByRecursion Good (cond_words c) → map cond_only (or_parts ps (neat_or c)) ≡ map cond_only (or_parts qs c)
  neat_ors ps qs (last_conj conj) good = cond_before _ _ [] [] (neat_conj_tree ps qs conj good) refl
  neat_ors ps qs (next_conj conj more) good = cond_before _ _ _ _ (neat_conj_tree ps qs conj (all_front (conj_words conj) _ good)) (neat_ors _ _ more (all_back (conj_words conj) _ good).1)

  neat_conj_tree : (ps qs : Places) (c : ConjText) → AllByRecursion Good (conj_words c) → cond_only (conj_tree ps (as_conj (neat_conj c))) ≡ cond_only (conj_tree qs c)
  neat_conj_tree ps qs (last_unit unit) good = unit_room (neat_unit unit) ps ps ∙ neat_unit_tree ps qs unit good
  neat_conj_tree ps qs (next_unit unit more) good =
      only-And _ ∙ ap And (cond_before _ _ _ _ (neat_unit_tree ps qs unit (all_front (unit_words unit) _ good)) (neat_ands _ _ more (all_back (unit_words unit) _ good).1)) ∙ sym (only-And _)

  neat_ands : (ps qs : Places) (c : ConjText) → AllByRecursion Good (conj_words c) → map cond_only (and_parts ps (neat_and c)) ≡ map cond_only (and_parts qs c)
  neat_ands ps qs (last_unit unit) good = cond_before _ _ [] [] (neat_unit_tree ps qs unit good) refl
  neat_ands ps qs (next_unit unit more) good = cond_before _ _ _ _ (neat_unit_tree ps qs unit (all_front (unit_words unit) _ good)) (neat_ands _ _ more (all_back (unit_words unit) _ good).1)

  neat_unit_tree : (ps qs : Places) (u : UnitText) → AllByRecursion Good (unit_words u) → cond_only (unit_tree ps (as_unit (neat_unit u))) ≡ cond_only (unit_tree qs u)
  neat_unit_tree ps qs (denied unit) good = only-Not _ ∙ ap Not (neat_unit_tree _ _ unit good.1) ∙ sym (only-Not _)
  neat_unit_tree ps qs (bracketed cond) good =
      sym (unit_room (neat_cond cond) ps ps) ∙ sym (conj_room (neat_cond cond) ps ps) ∙ neat_cond_tree ps (drop 1 qs) cond (all_front (cond_words cond) _ good.1)
  neat_unit_tree ps qs (compared cmp one other) good =
      compare_same cmp _ _ _ _ (neat_tree ps qs one (all_front (expr_words one) _ good)) (neat_tree _ _ other (all_back (expr_words one) _ good).1)

conj_deep : (m : CondMade) → cond_depth (as_cond m) ≤ conj_depth (as_conj m)
unfolding cond_depth
conj_deep (made_unit unit) = omega arith
conj_deep (made_conj conj) = omega arith
conj_deep (made_cond cond) = omega arith

unit_deep : (m : CondMade) → conj_depth (as_conj m) ≤ unit_depth (as_unit m)
unfolding cond_depth
unit_deep (made_unit unit) = omega arith
unit_deep (made_conj conj) = omega arith
unit_deep (made_cond cond) = omega arith

bracket_deep : (m : CondMade) → unit_depth (as_unit m) ≤ 1 + cond_depth (as_cond m)
unfolding cond_depth
bracket_deep (made_unit unit) = omega arith
bracket_deep (made_conj conj) = omega arith
bracket_deep (made_cond cond) = omega arith

mutual
  unfolding cond_depth neat_cond

  pub neat_cond_depth : (c : CondText) → cond_depth (as_cond (neat_cond c)) ≤ cond_depth c
  neat_cond_depth (last_conj conj) = omega (arith, conj_deep (neat_conj conj), neat_conj_depth conj)
  neat_cond_depth (next_conj conj more) = omega (arith, neat_conj_depth conj, neat_or_depth more)

  neat_or_depth : (c : CondText) → cond_depth (neat_or c) ≤ cond_depth c
  neat_or_depth (last_conj conj) = neat_conj_depth conj
  neat_or_depth (next_conj conj more) = omega (arith, neat_conj_depth conj, neat_or_depth more)

  neat_conj_depth : (c : ConjText) → conj_depth (as_conj (neat_conj c)) ≤ conj_depth c
  neat_conj_depth (last_unit unit) = omega (arith, unit_deep (neat_unit unit), neat_unit_depth unit)
  neat_conj_depth (next_unit unit more) = omega (arith, neat_unit_depth unit, neat_and_depth more)

  neat_and_depth : (c : ConjText) → conj_depth (neat_and c) ≤ conj_depth c
  neat_and_depth (last_unit unit) = neat_unit_depth unit
  neat_and_depth (next_unit unit more) = omega (arith, neat_unit_depth unit, neat_and_depth more)

  neat_unit_depth : (u : UnitText) → unit_depth (as_unit (neat_unit u)) ≤ unit_depth u
  neat_unit_depth (denied unit) = omega (arith, neat_unit_depth unit)
  neat_unit_depth (bracketed cond) = omega (arith, bracket_deep (neat_cond cond), neat_cond_depth cond)
  neat_unit_depth (compared cmp one other) = omega (arith, neat_depth one, neat_depth other)

in_brackets_good : (ws : List Word) → AllByRecursion Good ws → AllByRecursion Good (sign (codes "[") ∷ ws ++ sign (codes "]") ∷ [])
in_brackets_good ws good = (bracket_good, all_append ws (sign (codes "]") ∷ []) good (end_bracket_good, tt))

cond_from_conj : (m : CondMade) → AllByRecursion Good (conj_words (as_conj m)) → AllByRecursion Good (cond_words (as_cond m))
unfolding cond_words
cond_from_conj (made_unit unit) good = good
cond_from_conj (made_conj conj) good = good
cond_from_conj (made_cond cond) good = all_front (cond_words cond) _ good.1

conj_from_unit : (m : CondMade) → AllByRecursion Good (unit_words (as_unit m)) → AllByRecursion Good (conj_words (as_conj m))
unfolding cond_words
conj_from_unit (made_unit unit) good = good
conj_from_unit (made_conj conj) good = all_front (conj_words conj) _ good.1
conj_from_unit (made_cond cond) good = good

unit_from_cond : (m : CondMade) → AllByRecursion Good (cond_words (as_cond m)) → AllByRecursion Good (unit_words (as_unit m))
unfolding cond_words
unit_from_cond (made_unit unit) good = good
unit_from_cond (made_conj conj) good = in_brackets_good (conj_words conj) good
unit_from_cond (made_cond cond) good = in_brackets_good (cond_words cond) good

mutual
  unfolding cond_words neat_cond

  pub neat_cond_good : (c : CondText) → AllByRecursion Good (cond_words c) → AllByRecursion Good (cond_words (as_cond (neat_cond c)))
  neat_cond_good (last_conj conj) good = cond_from_conj (neat_conj conj) (neat_conj_good conj good)
  neat_cond_good (next_conj conj more) good =
      let back = all_back (conj_words conj) _ good in
      all_append (conj_words (as_conj (neat_conj conj))) _ (neat_conj_good conj (all_front (conj_words conj) _ good)) (back.0, neat_or_good more back.1)

  neat_or_good : (c : CondText) → AllByRecursion Good (cond_words c) → AllByRecursion Good (cond_words (neat_or c))
  neat_or_good (last_conj conj) good = neat_conj_good conj good
  neat_or_good (next_conj conj more) good =
      let back = all_back (conj_words conj) _ good in
      all_append (conj_words (as_conj (neat_conj conj))) _ (neat_conj_good conj (all_front (conj_words conj) _ good)) (back.0, neat_or_good more back.1)

  neat_conj_good : (c : ConjText) → AllByRecursion Good (conj_words c) → AllByRecursion Good (conj_words (as_conj (neat_conj c)))
  neat_conj_good (last_unit unit) good = conj_from_unit (neat_unit unit) (neat_unit_good unit good)
  neat_conj_good (next_unit unit more) good =
      let back = all_back (unit_words unit) _ good in
      all_append (unit_words (as_unit (neat_unit unit))) _ (neat_unit_good unit (all_front (unit_words unit) _ good)) (back.0, neat_and_good more back.1)

  neat_and_good : (c : ConjText) → AllByRecursion Good (conj_words c) → AllByRecursion Good (conj_words (neat_and c))
  neat_and_good (last_unit unit) good = neat_unit_good unit good
  neat_and_good (next_unit unit more) good =
      let back = all_back (unit_words unit) _ good in
      all_append (unit_words (as_unit (neat_unit unit))) _ (neat_unit_good unit (all_front (unit_words unit) _ good)) (back.0, neat_and_good more back.1)

  neat_unit_good : (u : UnitText) → AllByRecursion Good (unit_words u) → AllByRecursion Good (unit_words (as_unit (neat_unit u)))
  neat_unit_good (denied unit) good = (good.0, neat_unit_good unit good.1)
  neat_unit_good (bracketed cond) good = unit_from_cond (neat_cond cond) (neat_cond_good cond (all_front (cond_words cond) _ good.1))
  neat_unit_good (compared cmp one other) good =
      let back = all_back (expr_words one) _ good in
      all_append (expr_words (as_expr (neat_expr one))) _ (neat_good one (all_front (expr_words one) _ good)) (back.0, neat_good other back.1)
