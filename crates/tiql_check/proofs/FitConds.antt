-- what a checked condition compares is alike, and an item has the kind that is told of it
use Rattle.std.proofs.Common.{◌≡◌, Bool, true, false, ◌&&◌, not, List, [], ◌∷◌, ◌++◌, map, refl, sym, ◌∙◌, ap, subst, if◌then◌else◌}
use Rattle.std.specs.Prelude.{Option, Some, None, Ok, Err}
use Rattle.std.proofs.lemmas.Bool.{false≢true}
use Rattle.std.proofs.lemmas.List.{map-append}
use Rattle.std.proofs.lemmas.List.Folds.{list_all-append}
use denote.Hole.Carrier.{roll}
use Rattle.tiql_query.specs.declared.condition.Cond.{Cond}
use Rattle.tiql_query.specs.declared.condition.Cond.TheVariants.{Compare}
use Rattle.tiql_query.specs.declared.condition.Cond.TheViews as conds
use Rattle.tiql_query.specs.declared.view.Item.TheVariants as items
use Rattle.tiql_query.specs.Kinds.{kind, is_fit, are_alike, is_fit_filter}
use Rattle.tiql_query.specs.WellFormed.{aggregate, item_kind}
use Rattle.tiql_query.proofs.KindFacts.{fit-Compare, fit-Not, fit-And, fit-Or}
use Rattle.tiql_tree.specs.declared.condition.TreeCmp.{TreeCmp}
use Rattle.tiql_tree.specs.declared.condition.TreeCond.{TreeCond}
use Rattle.tiql_tree.specs.declared.condition.TreeCond.TheOpen.{TreeCond-F}
use Rattle.tiql_tree.specs.declared.condition.TreeCond.TheFolds.{ind-TreeCond, map-TreeCond, fold-roll-TreeCond}
use Rattle.tiql_tree.specs.declared.condition.TreeCond.TheVariants as trees
use Rattle.tiql_tree.specs.declared.condition.TreeCond.TheViews.{Not, And, Or, roll-TreeCond}
use Rattle.tiql_tree.specs.declared.expression.TreeExpr.{TreeExpr}
use Rattle.tiql_tree.specs.declared.tree.TreeValue.{TreeValue}
use Rattle.tiql_tree.specs.declared.tree.TreeValue.TheVariants as values
use Rattle.tiql_check.specs.declared.fault.SoundFault.TheVariants as fault
use Rattle.tiql_check.specs.declared.item.TypedItem.{TypedItem}
use Rattle.tiql_check.specs.Turns.{◌>>=◌, in_turn}
use Rattle.tiql_check.specs.Scopes.{Scope}
use Rattle.tiql_check.specs.Expressions.{typed_in, number_in}
use Rattle.tiql_check.specs.Conditions.{differ, cmp_of, compared, with_part, cond_in, filter_in}
use Rattle.tiql_check.specs.Selects as selects
use Rattle.tiql_check.specs.Selects.{value_in}
use Rattle.tiql_check.specs.Small.{all_true, small_expr, small_cond_step, small_cond, small_filter, small_value}
use Rattle.tiql_check.proofs.Inverse.{came_of, kept, through_seen}
use Rattle.tiql_check.proofs.Forms.{cond-Compare, cond-Not, cond-And, cond-Or}
use Rattle.tiql_check.proofs.Fit.{cols, as_kind}
use Rattle.tiql_check.proofs.FitExprs.{typed_fit, number_fit}
use Rattle.std.proofs.lemmas.Bool.{and_parts}
use Rattle.std.proofs.lemmas.Bool.{and_from}
use Rattle.base_kit.proofs.Results.{same_Ok}

pub small-Compare : (cmp : TreeCmp) (one other : TreeExpr) → small_cond (trees.Compare cmp one other) ≡ (small_expr one && small_expr other)
unfolding small_cond roll-TreeCond roll
small-Compare cmp one other = fold-roll-TreeCond Bool small_cond_step (TreeCond-F.Compare cmp one other)

pub small-Not : (part : TreeCond) → small_cond (Not part) ≡ small_cond part
unfolding small_cond roll-TreeCond roll
small-Not part = fold-roll-TreeCond Bool small_cond_step (TreeCond-F.Not part)

pub small-And : (parts : List TreeCond) → small_cond (And parts) ≡ all_true (map small_cond parts)
unfolding small_cond roll-TreeCond roll
small-And parts = fold-roll-TreeCond Bool small_cond_step (TreeCond-F.And parts)

pub small-Or : (parts : List TreeCond) → small_cond (Or parts) ≡ all_true (map small_cond parts)
unfolding small_cond roll-TreeCond roll
small-Or parts = fold-roll-TreeCond Bool small_cond_step (TreeCond-F.Or parts)

alike_texts : (one other : Bool) → differ one other ≡ false → (if one then other else not other) ≡ true
alike_texts true true h = refl
alike_texts true false h = absurd (false≢true (sym h))
alike_texts false true h = absurd (false≢true (sym h))
alike_texts false false h = refl

module _ (scope : Scope) where
  compared_fit : (cmp : TreeCmp) (one other : TreeExpr) (cond : Cond) → compared scope cmp one other ≡ Ok cond → small_expr one ≡ true → small_expr other ≡ true → is_fit (cols scope) cond ≡ true
  unfolding compared
  compared_fit cmp one other cond e small_one small_other =
      let left = came_of (typed_in scope one) (λ left. typed_in scope other >>= (λ right. if differ (left.kind).text (right.kind).text then Err (fault.WrongType other.place) else Ok (Compare (cmp_of cmp) left.expr right.expr))) cond e in
      let right = came_of (typed_in scope other) (λ right. if differ ((left.0).kind).text (right.kind).text then Err (fault.WrongType other.place) else Ok (Compare (cmp_of cmp) (left.0).expr right.expr)) cond left.2 in
      let same = kept (differ ((left.0).kind).text ((right.0).kind).text) (fault.WrongType other.place) (Ok (Compare (cmp_of cmp) (left.0).expr (right.0).expr)) cond right.2 in
      subst (λ (c : Cond). is_fit (cols scope) c ≡ true) (same_Ok (Compare (cmp_of cmp) (left.0).expr (right.0).expr) cond same.1)
      (fit-Compare (cols scope) (cmp_of cmp) (left.0).expr (right.0).expr
      ∙ ap (λ k. are_alike k (kind (cols scope) (right.0).expr)) (typed_fit scope one left.0 left.1 small_one)
      ∙ ap (are_alike (Some (as_kind (left.0).kind))) (typed_fit scope other right.0 right.1 small_other)
      ∙ alike_texts ((left.0).kind).text ((right.0).kind).text same.0)

  CondFit : TreeCond → Type 0
  CondFit c = (cond : Cond) → cond_in scope c ≡ Ok cond → small_cond c ≡ true → is_fit (cols scope) cond ≡ true

  abbrev WithCond : Type 0
  WithCond = (c : TreeCond) × CondFit c

  abbrev AllFit : List Cond → Type 0
  AllFit parts = all_true (map (is_fit (cols scope)) parts) ≡ true

  part_step : (before next : List Cond) (c : TreeCond) → CondFit c → small_cond c ≡ true → with_part before (cond_in scope c) ≡ Ok next → AllFit before → AllFit next
  unfolding CondFit
  part_step before next c fit small e p =
      let part = came_of (cond_in scope c) (λ cond. Ok (before ++ cond ∷ [])) next e in
      subst AllFit (same_Ok (before ++ part.0 ∷ []) next part.2)
      (ap all_true (map-append (is_fit (cols scope)) before (part.0 ∷ [])) ∙ list_all-append (λ test. test) (map (is_fit (cols scope)) before) (is_fit (cols scope) part.0 ∷ [])
      ∙ and_from (all_true (map (is_fit (cols scope)) before)) (is_fit (cols scope) part.0 && true) p (and_from (is_fit (cols scope) part.0) true (fit part.0 part.1 small) refl))

  cond_layer : (y : TreeCond-F WithCond) → CondFit (roll-TreeCond (map-TreeCond WithCond TreeCond (λ c. c.0) y))
  unfolding roll-TreeCond roll CondFit
  cond_layer (TreeCond-F.Compare cmp one other) = λ cond e small.
      let tests = and_parts (small_expr one) (small_expr other) (sym (small-Compare cmp one other) ∙ small) in
      compared_fit cmp one other cond (sym (cond-Compare scope _ cmp one other refl) ∙ e) tests.0 tests.1
  cond_layer (TreeCond-F.Not y) = λ cond e small.
      let part = came_of (cond_in scope y.0) (λ cond. Ok (conds.Not cond)) cond (sym (cond-Not scope _ y.0 refl) ∙ e) in
      subst (λ (c : Cond). is_fit (cols scope) c ≡ true) (same_Ok (conds.Not part.0) cond part.2) (fit-Not (cols scope) part.0 ∙ y.1 part.0 part.1 (sym (small-Not y.0) ∙ small))
  cond_layer (TreeCond-F.And ys) = λ cond e small.
      let parts : List TreeCond = map (λ c. c.0) ys in
      let all = came_of (in_turn with_part [] (map (cond_in scope) parts)) (λ all. Ok (conds.And all)) cond (sym (cond-And scope _ parts refl) ∙ e) in
      let fits = through_seen with_part (λ (y : WithCond). y.0) (cond_in scope) small_cond AllFit (λ before next y test h p. part_step before next y.0 y.1 test h p) ys [] all.0 (sym (small-And parts) ∙ small) all.1 refl in
      subst (λ (c : Cond). is_fit (cols scope) c ≡ true) (same_Ok (conds.And all.0) cond all.2) (fit-And (cols scope) all.0 ∙ fits)
  cond_layer (TreeCond-F.Or ys) = λ cond e small.
      let parts : List TreeCond = map (λ c. c.0) ys in
      let all = came_of (in_turn with_part [] (map (cond_in scope) parts)) (λ all. Ok (conds.Or all)) cond (sym (cond-Or scope _ parts refl) ∙ e) in
      let fits = through_seen with_part (λ (y : WithCond). y.0) (cond_in scope) small_cond AllFit (λ before next y test h p. part_step before next y.0 y.1 test h p) ys [] all.0 (sym (small-Or parts) ∙ small) all.1 refl in
      subst (λ (c : Cond). is_fit (cols scope) c ≡ true) (same_Ok (conds.Or all.0) cond all.2) (fit-Or (cols scope) all.0 ∙ fits)

  all_conds_fit : (c : TreeCond) → CondFit c
  all_conds_fit = ind-TreeCond CondFit (λ x y is. subst (λ z. CondFit (roll-TreeCond z)) is (cond_layer y))

  pub cond_fit : (c : TreeCond) (cond : Cond) → cond_in scope c ≡ Ok cond → small_cond c ≡ true → is_fit (cols scope) cond ≡ true
  unfolding CondFit
  cond_fit c = all_conds_fit c

  pub filter_fit : (f : Option TreeCond) (filter : Option Cond) → filter_in scope f ≡ Ok filter → small_filter f ≡ true → is_fit_filter (cols scope) filter ≡ true
  filter_fit None filter e small = subst (λ (o : Option Cond). is_fit_filter (cols scope) o ≡ true) (same_Ok None filter e) refl
  filter_fit (Some c) filter e small =
      let cond = came_of (cond_in scope c) (λ cond. Ok (Some cond)) filter e in
      subst (λ (o : Option Cond). is_fit_filter (cols scope) o ≡ true) (same_Ok (Some cond.0) filter cond.2) (cond_fit c cond.0 cond.1 small)

  abbrev pub ItemFit : TypedItem → Type 0
  ItemFit it = item_kind (cols scope) it.item ≡ Some (as_kind it.kind)

  pub value_fit : (v : TreeValue) (it : TypedItem) → value_in scope v ≡ Ok it → small_value v ≡ true → ItemFit it
  unfolding value_in item_kind
  value_fit (values.Plain expr) it e small =
      let one = came_of (typed_in scope expr) (λ one. Ok (record { item = items.Plain one.expr; kind = one.kind })) it e in
      subst ItemFit (same_Ok _ it one.2) (typed_fit scope expr one.0 one.1 small)
  value_fit (values.Sum expr) it e small =
      let one = came_of (number_in scope expr) (λ one. Ok (selects.aggregate (items.Sum one.expr))) it e in
      subst ItemFit (same_Ok _ it one.2) (ap aggregate (number_fit scope expr one.0 one.1 small))
  value_fit values.Count it e small = subst ItemFit (same_Ok _ it e) refl
  value_fit (values.Min expr) it e small =
      let one = came_of (number_in scope expr) (λ one. Ok (selects.aggregate (items.Min one.expr))) it e in
      subst ItemFit (same_Ok _ it one.2) (ap aggregate (number_fit scope expr one.0 one.1 small))
  value_fit (values.Max expr) it e small =
      let one = came_of (number_in scope expr) (λ one. Ok (selects.aggregate (items.Max one.expr))) it e in
      subst ItemFit (same_Ok _ it one.2) (ap aggregate (number_fit scope expr one.0 one.1 small))
