-- the text of an expression with the signs that group it only where they are needed
use Rattle.std.proofs.Common.{◌≡◌, ℕ, ℤ, pos, ◌+◌, ◌≤◌, Bool, false, List, [], ◌∷◌, map, length, drop, codes, decimal, refl, sym, ◌∙◌, ap, arith}
use Rattle.std.specs.List.{AllByRecursion}
use Rattle.std.specs.Str.Parse.{digits_value}
use Rattle.base_kit.specs.declared.place.Place.{Place}
use denote.Hole.Carrier.{roll}
use Rattle.tiql_tree.specs.declared.expression.TreeRef.{TreeRef}
use Rattle.tiql_tree.specs.declared.expression.TreeExpr.{TreeExpr, fold_out-TreeExpr}
use Rattle.tiql_tree.specs.declared.expression.TreeSigned.{TreeSigned, fold_out-TreeSigned, fold-TreeSigned}
use Rattle.tiql_tree.specs.declared.expression.TreeForm.{TreeForm}
use Rattle.tiql_tree.specs.declared.expression.TreeForm.TheOpen.{TreeForm-F}
use Rattle.tiql_tree.specs.declared.expression.TreeForm.TheFolds.{fold-TreeForm, fold-roll-TreeForm}
use Rattle.tiql_tree.specs.declared.expression.TreeForm.TheVariants.{Number, Text, Ref}
use Rattle.tiql_tree.specs.declared.expression.TreeForm.TheViews.{Sum, Product, Neg, Abs, roll-TreeForm}
use Rattle.tiql_tree.specs.Texts.{RefText, ExprText, TermText, FactorText}
use Rattle.tiql_tree.specs.Texts.RefText.{alone, qualified}
use Rattle.tiql_tree.specs.Texts.ExprText.{last_term, next_term}
use Rattle.tiql_tree.specs.Texts.TermText.{last_factor, next_factor}
use Rattle.tiql_tree.specs.Texts.FactorText.{negated, numeral, value_text, reference, absolute, grouped}
use Rattle.tiql_tree.specs.Words.{Word, sign}
use Rattle.tiql_tree.specs.Grammar.{in_parens, expr_words, term_words, factor_words}
use Rattle.tiql_tree.specs.Nesting.{expr_depth, term_depth, factor_depth}
use Rattle.tiql_tree.specs.Trees.{Places, place, expr_at, form_of, signed, ref_tree, expr_tree, sum_parts, term_tree, product_parts, factor_tree}
use Rattle.tiql_tree.specs.Unplaced.{no_place, ref_only, form_step, expr_step, signed_step, expr_only}
use Rattle.tiql_tree.specs.Printed.{ExprMade, SignedMade, made_factor, made_term, made_sum, as_expr, as_term, as_factor, sum_from, product_from}
use Rattle.tiql_tree.specs.Printed.{ref_text, expr_made, signed_made}
use Rattle.tiql_tree.proofs.GoodWords.{all_append, all_front, all_back, open_good, close_good, decimal_again, decimal_good}
use Rattle.tiql_tree.proofs.Written.{Good}
use Rattle.tiql_tree.proofs.Making.{made-Number, made-Text, made-Ref, made-Sum, made-Product, made-Neg, made-Abs, made-form, signed_made-is}

mutual
  pub neat_expr : ExprText → ExprMade
  neat_expr (last_term term) = neat_term term
  neat_expr (next_term term minus more) = made_sum (next_term (as_term (neat_term term)) minus (neat_sum more))

  pub neat_sum : ExprText → ExprText
  neat_sum (last_term term) = last_term (as_term (neat_term term))
  neat_sum (next_term term minus more) = next_term (as_term (neat_term term)) minus (neat_sum more)

  pub neat_term : TermText → ExprMade
  neat_term (last_factor factor) = neat_factor factor
  neat_term (next_factor factor more) = made_term (next_factor (as_factor (neat_factor factor)) (neat_product more))

  pub neat_product : TermText → TermText
  neat_product (last_factor factor) = last_factor (as_factor (neat_factor factor))
  neat_product (next_factor factor more) = next_factor (as_factor (neat_factor factor)) (neat_product more)

  pub neat_factor : FactorText → ExprMade
  neat_factor (negated factor) = made_factor (negated (as_factor (neat_factor factor)))
  neat_factor (numeral text) = made_factor (numeral (decimal (digits_value 10 text)))
  neat_factor (value_text value) = made_factor (value_text value)
  neat_factor (reference ref) = made_factor (reference ref)
  neat_factor (absolute expr) = made_factor (absolute (as_expr (neat_expr expr)))
  neat_factor (grouped expr) = neat_expr expr

ref_again : (ps : Places) (ref : RefText) → ref_text (ref_tree ps ref) ≡ ref
unfolding ref_tree
ref_again ps (alone column) = refl
ref_again ps (qualified relation column) = refl

mutual
  unfolding neat_expr expr_tree

  -- what is printed of a tree is the neat text of its text
  pub made_expr : (ps : Places) (e : ExprText) → expr_made (expr_tree ps e) ≡ neat_expr e
  made_expr ps (last_term term) = made_term_ ps term
  made_expr ps (next_term term minus more) =
      made-Sum _ _ refl ∙ ap made_sum (ap (λ (s : SignedMade). sum_from (as_term s.1) (map signed_made (sum_parts minus (drop (length (term_words term) + 1) ps) more))) (signed_made-is (signed false (term_tree ps term)))
      ∙ ap (λ (m : ExprMade). sum_from (as_term m) (map signed_made (sum_parts minus (drop (length (term_words term) + 1) ps) more))) (made_term_ ps term)
      ∙ made_parts (as_term (neat_term term)) minus (drop (length (term_words term) + 1) ps) more)

  made_parts : (t : TermText) (minus : Bool) (ps : Places) (e : ExprText) → sum_from t (map signed_made (sum_parts minus ps e)) ≡ next_term t minus (neat_sum e)
  made_parts t minus ps (last_term term) =
      ap (λ (s : SignedMade). next_term t s.0 (last_term (as_term s.1))) (signed_made-is (signed minus (term_tree ps term)))
      ∙ ap (λ (m : ExprMade). next_term t minus (last_term (as_term m))) (made_term_ ps term)
  made_parts t minus ps (next_term term next more) =
      ap (λ (s : SignedMade). next_term t s.0 (sum_from (as_term s.1) (map signed_made (sum_parts next (drop (length (term_words term) + 1) ps) more)))) (signed_made-is (signed minus (term_tree ps term)))
      ∙ ap (λ (m : ExprMade). next_term t minus (sum_from (as_term m) (map signed_made (sum_parts next (drop (length (term_words term) + 1) ps) more)))) (made_term_ ps term)
      ∙ ap (next_term t minus) (made_parts (as_term (neat_term term)) next (drop (length (term_words term) + 1) ps) more)

  pub made_term_ : (ps : Places) (t : TermText) → expr_made (term_tree ps t) ≡ neat_term t
  made_term_ ps (last_factor factor) = made_factor_ ps factor
  made_term_ ps (next_factor factor more) =
      made-Product _ _ refl ∙ ap made_term (ap (λ (m : ExprMade). product_from (as_factor m) (map expr_made (product_parts (drop (length (factor_words factor) + 1) ps) more))) (made_factor_ ps factor)
      ∙ made_factors (as_factor (neat_factor factor)) (drop (length (factor_words factor) + 1) ps) more)

  made_factors : (f : FactorText) (ps : Places) (t : TermText) → product_from f (map expr_made (product_parts ps t)) ≡ next_factor f (neat_product t)
  made_factors f ps (last_factor factor) = ap (λ (m : ExprMade). next_factor f (last_factor (as_factor m))) (made_factor_ ps factor)
  made_factors f ps (next_factor factor more) =
      ap (λ (m : ExprMade). next_factor f (product_from (as_factor m) (map expr_made (product_parts (drop (length (factor_words factor) + 1) ps) more)))) (made_factor_ ps factor)
      ∙ ap (next_factor f) (made_factors (as_factor (neat_factor factor)) (drop (length (factor_words factor) + 1) ps) more)

  pub made_factor_ : (ps : Places) (f : FactorText) → expr_made (factor_tree ps f) ≡ neat_factor f
  made_factor_ ps (negated factor) = made-Neg _ _ refl ∙ ap (λ (m : ExprMade). made_factor (negated (as_factor m))) (made_factor_ (drop 1 ps) factor)
  made_factor_ ps (numeral text) = made-Number _ _ refl
  made_factor_ ps (value_text value) = made-Text _ _ refl
  made_factor_ ps (reference ref) = made-Ref _ _ refl ∙ ap (λ (r : RefText). made_factor (reference r)) (ref_again ps ref)
  made_factor_ ps (absolute expr) = made-Abs _ _ refl ∙ ap (λ (m : ExprMade). made_factor (absolute (as_expr m))) (made_expr (drop 2 ps) expr)
  made_factor_ ps (grouped expr) = made-form _ _ ∙ made_expr (drop 1 ps) expr

-- the parts of a sum without their places
unfoldable pub signed_only : TreeSigned → TreeSigned
signed_only = fold-TreeSigned TreeForm TreeExpr TreeSigned form_step expr_step signed_step

form_only : TreeForm → TreeForm
form_only = fold-TreeForm TreeForm TreeExpr TreeSigned form_step expr_step signed_step

expr_only-is : (e : TreeExpr) (f : TreeForm) → e.form ≡ f → expr_only e ≡ expr_at no_place (form_only f)
unfolding expr_only form_only
expr_only-is e f is = fold_out-TreeExpr TreeForm TreeExpr TreeSigned form_step expr_step signed_step e ∙ ap (λ (g : TreeForm). expr_at no_place (form_only g)) is

pub signed_only-is : (m : Bool) (e : TreeExpr) → signed_only (signed m e) ≡ signed m (expr_only e)
unfolding signed_only expr_only
signed_only-is m e = fold_out-TreeSigned TreeForm TreeExpr TreeSigned form_step expr_step signed_step (signed m e)

pub only-Sum : (p : Place) (parts : List TreeSigned) → expr_only (expr_at p (Sum parts)) ≡ expr_at no_place (Sum (map signed_only parts))
unfolding form_only signed_only roll-TreeForm roll
only-Sum p parts = expr_only-is _ _ refl ∙ ap (expr_at no_place) (fold-roll-TreeForm TreeForm TreeExpr TreeSigned form_step expr_step signed_step (TreeForm-F.Sum parts))

pub only-Product : (p : Place) (parts : List TreeExpr) → expr_only (expr_at p (Product parts)) ≡ expr_at no_place (Product (map expr_only parts))
unfolding form_only expr_only roll-TreeForm roll
only-Product p parts = expr_only-is _ _ refl ∙ ap (expr_at no_place) (fold-roll-TreeForm TreeForm TreeExpr TreeSigned form_step expr_step signed_step (TreeForm-F.Product parts))

pub only-Neg : (p : Place) (e : TreeExpr) → expr_only (expr_at p (Neg e)) ≡ expr_at no_place (Neg (expr_only e))
unfolding form_only expr_only roll-TreeForm roll
only-Neg p e = expr_only-is _ _ refl ∙ ap (expr_at no_place) (fold-roll-TreeForm TreeForm TreeExpr TreeSigned form_step expr_step signed_step (TreeForm-F.Neg e))

pub only-Abs : (p : Place) (e : TreeExpr) → expr_only (expr_at p (Abs e)) ≡ expr_at no_place (Abs (expr_only e))
unfolding form_only expr_only roll-TreeForm roll
only-Abs p e = expr_only-is _ _ refl ∙ ap (expr_at no_place) (fold-roll-TreeForm TreeForm TreeExpr TreeSigned form_step expr_step signed_step (TreeForm-F.Abs e))

pub only-Ref : (p : Place) (r : TreeRef) → expr_only (expr_at p (Ref r)) ≡ expr_at no_place (Ref (ref_only r))
unfolding form_only roll-TreeForm roll
only-Ref p r = expr_only-is _ _ refl ∙ ap (expr_at no_place) (fold-roll-TreeForm TreeForm TreeExpr TreeSigned form_step expr_step signed_step (TreeForm-F.Ref r))

pub only-Number : (p : Place) (n : ℤ) → expr_only (expr_at p (Number n)) ≡ expr_at no_place (Number n)
unfolding form_only roll-TreeForm roll
only-Number p n = expr_only-is _ _ refl ∙ ap (expr_at no_place) (fold-roll-TreeForm TreeForm TreeExpr TreeSigned form_step expr_step signed_step (TreeForm-F.Number n))

pub only-Text : (p : Place) (t : List ℕ) → expr_only (expr_at p (Text t)) ≡ expr_at no_place (Text t)
unfolding form_only roll-TreeForm roll
only-Text p t = expr_only-is _ _ refl ∙ ap (expr_at no_place) (fold-roll-TreeForm TreeForm TreeExpr TreeSigned form_step expr_step signed_step (TreeForm-F.Text t))

-- the place is left out
pub only-place : (p q : Place) (f : TreeForm) → expr_only (expr_at p f) ≡ expr_only (expr_at q f)
only-place p q f = expr_only-is _ _ refl ∙ sym (expr_only-is _ _ refl)

only-form : (p : Place) (e : TreeExpr) → expr_only (expr_at p (form_of e)) ≡ expr_only e
only-form p e = expr_only-is _ _ refl ∙ sym (expr_only-is e _ refl)

pub ref_only-same : (ps qs : Places) (ref : RefText) → ref_only (ref_tree ps ref) ≡ ref_only (ref_tree qs ref)
unfolding ref_tree
ref_only-same ps qs (alone column) = refl
ref_only-same ps qs (qualified relation column) = refl

-- a part of a sum before others
signed_before : (minus : Bool) (a b : TreeExpr) (xs ys : List TreeSigned) → expr_only a ≡ expr_only b → map signed_only xs ≡ map signed_only ys → map signed_only (signed minus a ∷ xs) ≡ map signed_only (signed minus b ∷ ys)
signed_before minus a b xs ys head tail =
    ap (λ (s : TreeSigned). s ∷ map signed_only xs) (signed_only-is minus a ∙ ap (signed minus) head ∙ sym (signed_only-is minus b)) ∙ ap (λ (l : List TreeSigned). signed_only (signed minus b) ∷ l) tail

factor_before : (a b : TreeExpr) (xs ys : List TreeExpr) → expr_only a ≡ expr_only b → map expr_only xs ≡ map expr_only ys → map expr_only (a ∷ xs) ≡ map expr_only (b ∷ ys)
factor_before a b xs ys head tail = ap (λ (e : TreeExpr). e ∷ map expr_only xs) head ∙ ap (λ (l : List TreeExpr). expr_only b ∷ l) tail

mutual
  unfolding expr_tree

  -- a text gives one tree, places aside
  pub same_expr : (ps qs : Places) (e : ExprText) → expr_only (expr_tree ps e) ≡ expr_only (expr_tree qs e)
  same_expr ps qs (last_term term) = same_term ps qs term
  same_expr ps qs (next_term term minus more) =
      only-Sum _ _ ∙ ap (λ (l : List TreeSigned). expr_at no_place (Sum l)) (signed_before false _ _ _ _ (same_term ps qs term) (same_parts minus (drop (length (term_words term) + 1) ps) (drop (length (term_words term) + 1) qs) more)) ∙ sym (only-Sum _ _)

  same_parts : (minus : Bool) (ps qs : Places) (e : ExprText) → map signed_only (sum_parts minus ps e) ≡ map signed_only (sum_parts minus qs e)
  same_parts minus ps qs (last_term term) = signed_before minus _ _ [] [] (same_term ps qs term) refl
  same_parts minus ps qs (next_term term next more) = signed_before minus _ _ _ _ (same_term ps qs term) (same_parts next (drop (length (term_words term) + 1) ps) (drop (length (term_words term) + 1) qs) more)

  pub same_term : (ps qs : Places) (t : TermText) → expr_only (term_tree ps t) ≡ expr_only (term_tree qs t)
  same_term ps qs (last_factor factor) = same_factor ps qs factor
  same_term ps qs (next_factor factor more) =
      only-Product _ _ ∙ ap (λ (l : List TreeExpr). expr_at no_place (Product l)) (factor_before _ _ _ _ (same_factor ps qs factor) (same_factors (drop (length (factor_words factor) + 1) ps) (drop (length (factor_words factor) + 1) qs) more)) ∙ sym (only-Product _ _)

  same_factors : (ps qs : Places) (t : TermText) → map expr_only (product_parts ps t) ≡ map expr_only (product_parts qs t)
  same_factors ps qs (last_factor factor) = ap (λ (e : TreeExpr). e ∷ []) (same_factor ps qs factor)
  same_factors ps qs (next_factor factor more) = factor_before _ _ _ _ (same_factor ps qs factor) (same_factors (drop (length (factor_words factor) + 1) ps) (drop (length (factor_words factor) + 1) qs) more)

  pub same_factor : (ps qs : Places) (f : FactorText) → expr_only (factor_tree ps f) ≡ expr_only (factor_tree qs f)
  same_factor ps qs (negated factor) = only-Neg _ _ ∙ ap (λ (e : TreeExpr). expr_at no_place (Neg e)) (same_factor (drop 1 ps) (drop 1 qs) factor) ∙ sym (only-Neg _ _)
  same_factor ps qs (numeral text) = only-place _ _ _
  same_factor ps qs (value_text value) = only-place _ _ _
  same_factor ps qs (reference ref) = only-Ref _ _ ∙ ap (λ (r : TreeRef). expr_at no_place (Ref r)) (ref_only-same ps qs ref) ∙ sym (only-Ref _ _)
  same_factor ps qs (absolute expr) = only-Abs _ _ ∙ ap (λ (e : TreeExpr). expr_at no_place (Abs e)) (same_expr (drop 2 ps) (drop 2 qs) expr) ∙ sym (only-Abs _ _)
  same_factor ps qs (grouped expr) = only-form _ _ ∙ same_expr (drop 1 ps) (drop 1 qs) expr ∙ sym (only-form _ _)

-- the same where a product may stand, and where a sum may
term_room : (m : ExprMade) (ps qs : Places) → expr_only (expr_tree ps (as_expr m)) ≡ expr_only (term_tree qs (as_term m))
unfolding expr_tree
term_room (made_factor factor) ps qs = same_factor ps qs factor
term_room (made_term term) ps qs = same_term ps qs term
term_room (made_sum expr) ps qs = same_expr ps (drop 1 qs) expr ∙ sym (only-form _ _)

factor_room : (m : ExprMade) (ps qs : Places) → expr_only (term_tree ps (as_term m)) ≡ expr_only (factor_tree qs (as_factor m))
unfolding expr_tree
factor_room (made_factor factor) ps qs = same_factor ps qs factor
factor_room (made_term term) ps qs = same_term ps (drop 1 qs) term ∙ sym (only-form _ _)
factor_room (made_sum expr) ps qs = same_factor ps qs (grouped expr)

mutual
  unfolding expr_tree neat_expr expr_words

  -- the neat text gives the same tree, places aside
  pub neat_tree : (ps qs : Places) (e : ExprText) → AllByRecursion Good (expr_words e) → expr_only (expr_tree ps (as_expr (neat_expr e))) ≡ expr_only (expr_tree qs e)
  neat_tree ps qs (last_term term) good = term_room (neat_term term) ps ps ∙ neat_term_tree ps qs term good
  neat_tree ps qs (next_term term minus more) good =
      only-Sum _ _ ∙ ap (λ (l : List TreeSigned). expr_at no_place (Sum l)) (signed_before false _ _ _ _ (neat_term_tree ps qs term (all_front (term_words term) _ good)) (neat_parts minus _ _ more (all_back (term_words term) _ good).1)) ∙ sym (only-Sum _ _)

  neat_parts : (minus : Bool) (ps qs : Places) (e : ExprText) → AllByRecursion Good (expr_words e) → map signed_only (sum_parts minus ps (neat_sum e)) ≡ map signed_only (sum_parts minus qs e)
  neat_parts minus ps qs (last_term term) good = signed_before minus _ _ [] [] (neat_term_tree ps qs term good) refl
  neat_parts minus ps qs (next_term term next more) good = signed_before minus _ _ _ _ (neat_term_tree ps qs term (all_front (term_words term) _ good)) (neat_parts next _ _ more (all_back (term_words term) _ good).1)

  pub neat_term_tree : (ps qs : Places) (t : TermText) → AllByRecursion Good (term_words t) → expr_only (term_tree ps (as_term (neat_term t))) ≡ expr_only (term_tree qs t)
  neat_term_tree ps qs (last_factor factor) good = factor_room (neat_factor factor) ps ps ∙ neat_factor_tree ps qs factor good
  neat_term_tree ps qs (next_factor factor more) good =
      only-Product _ _ ∙ ap (λ (l : List TreeExpr). expr_at no_place (Product l)) (factor_before _ _ _ _ (neat_factor_tree ps qs factor (all_front (factor_words factor) _ good)) (neat_factors _ _ more (all_back (factor_words factor) _ good).1)) ∙ sym (only-Product _ _)

  neat_factors : (ps qs : Places) (t : TermText) → AllByRecursion Good (term_words t) → map expr_only (product_parts ps (neat_product t)) ≡ map expr_only (product_parts qs t)
  neat_factors ps qs (last_factor factor) good = factor_before _ _ [] [] (neat_factor_tree ps qs factor good) refl
  neat_factors ps qs (next_factor factor more) good = factor_before _ _ _ _ (neat_factor_tree ps qs factor (all_front (factor_words factor) _ good)) (neat_factors _ _ more (all_back (factor_words factor) _ good).1)

  pub neat_factor_tree : (ps qs : Places) (f : FactorText) → AllByRecursion Good (factor_words f) → expr_only (factor_tree ps (as_factor (neat_factor f))) ≡ expr_only (factor_tree qs f)
  neat_factor_tree ps qs (negated factor) good = only-Neg _ _ ∙ ap (λ (e : TreeExpr). expr_at no_place (Neg e)) (neat_factor_tree (drop 1 ps) (drop 1 qs) factor good.1) ∙ sym (only-Neg _ _)
  neat_factor_tree ps qs (numeral text) good = ap (λ n. expr_only (expr_at (place 0 ps) (Number (pos n)))) (decimal_again (digits_value 10 text) (good.0).fits) ∙ only-place _ _ _
  neat_factor_tree ps qs (value_text value) good = only-place _ _ _
  neat_factor_tree ps qs (reference ref) good = same_factor ps qs (reference ref)
  neat_factor_tree ps qs (absolute expr) good = only-Abs _ _ ∙ ap (λ (e : TreeExpr). expr_at no_place (Abs e)) (neat_tree (drop 2 ps) (drop 2 qs) expr (all_front (expr_words expr) _ good.1.1)) ∙ sym (only-Abs _ _)
  neat_factor_tree ps qs (grouped expr) good =
      sym (factor_room (neat_expr expr) ps ps) ∙ sym (term_room (neat_expr expr) ps ps) ∙ neat_tree ps (drop 1 qs) expr (all_front (expr_words expr) _ good.1) ∙ sym (only-form _ _)

-- a sign that groups adds one at most
term_deep : (m : ExprMade) → expr_depth (as_expr m) ≤ term_depth (as_term m)
unfolding expr_depth
term_deep (made_factor factor) = omega arith
term_deep (made_term term) = omega arith
term_deep (made_sum expr) = omega arith

factor_deep : (m : ExprMade) → term_depth (as_term m) ≤ factor_depth (as_factor m)
unfolding expr_depth
factor_deep (made_factor factor) = omega arith
factor_deep (made_term term) = omega arith
factor_deep (made_sum expr) = omega arith

group_deep : (m : ExprMade) → factor_depth (as_factor m) ≤ 1 + expr_depth (as_expr m)
unfolding expr_depth
group_deep (made_factor factor) = omega arith
group_deep (made_term term) = omega arith
group_deep (made_sum expr) = omega arith

mutual
  unfolding expr_depth neat_expr

  -- the neat text is nested no deeper
  pub neat_depth : (e : ExprText) → expr_depth (as_expr (neat_expr e)) ≤ expr_depth e
  neat_depth (last_term term) = omega (arith, term_deep (neat_term term), neat_term_depth term)
  neat_depth (next_term term minus more) = omega (arith, neat_term_depth term, neat_sum_depth more)

  neat_sum_depth : (e : ExprText) → expr_depth (neat_sum e) ≤ expr_depth e
  neat_sum_depth (last_term term) = neat_term_depth term
  neat_sum_depth (next_term term minus more) = omega (arith, neat_term_depth term, neat_sum_depth more)

  pub neat_term_depth : (t : TermText) → term_depth (as_term (neat_term t)) ≤ term_depth t
  neat_term_depth (last_factor factor) = omega (arith, factor_deep (neat_factor factor), neat_factor_depth factor)
  neat_term_depth (next_factor factor more) = omega (arith, neat_factor_depth factor, neat_product_depth more)

  neat_product_depth : (t : TermText) → term_depth (neat_product t) ≤ term_depth t
  neat_product_depth (last_factor factor) = neat_factor_depth factor
  neat_product_depth (next_factor factor more) = omega (arith, neat_factor_depth factor, neat_product_depth more)

  pub neat_factor_depth : (f : FactorText) → factor_depth (as_factor (neat_factor f)) ≤ factor_depth f
  neat_factor_depth (negated factor) = omega (arith, neat_factor_depth factor)
  neat_factor_depth (numeral text) = omega arith
  neat_factor_depth (value_text value) = omega arith
  neat_factor_depth (reference ref) = omega arith
  neat_factor_depth (absolute expr) = omega (arith, neat_depth expr)
  neat_factor_depth (grouped expr) = omega (arith, group_deep (neat_expr expr), neat_depth expr)

-- the signs that group are tokens
pub in_parens_good : (ws : List Word) → AllByRecursion Good ws → AllByRecursion Good (in_parens ws)
in_parens_good ws good = (open_good, all_append ws (sign (codes ")") ∷ []) good (close_good, tt))

expr_from_term : (m : ExprMade) → AllByRecursion Good (term_words (as_term m)) → AllByRecursion Good (expr_words (as_expr m))
unfolding expr_words
expr_from_term (made_factor factor) good = good
expr_from_term (made_term term) good = good
expr_from_term (made_sum expr) good = all_front (expr_words expr) _ good.1

term_from_factor : (m : ExprMade) → AllByRecursion Good (factor_words (as_factor m)) → AllByRecursion Good (term_words (as_term m))
unfolding expr_words
term_from_factor (made_factor factor) good = good
term_from_factor (made_term term) good = all_front (term_words term) _ good.1
term_from_factor (made_sum expr) good = good

factor_from_expr : (m : ExprMade) → AllByRecursion Good (expr_words (as_expr m)) → AllByRecursion Good (factor_words (as_factor m))
unfolding expr_words
factor_from_expr (made_factor factor) good = good
factor_from_expr (made_term term) good = in_parens_good (term_words term) good
factor_from_expr (made_sum expr) good = in_parens_good (expr_words expr) good

mutual
  unfolding expr_words neat_expr

  -- the words of the neat text are tokens
  pub neat_good : (e : ExprText) → AllByRecursion Good (expr_words e) → AllByRecursion Good (expr_words (as_expr (neat_expr e)))
  neat_good (last_term term) good = expr_from_term (neat_term term) (neat_term_good term good)
  neat_good (next_term term minus more) good =
      let back = all_back (term_words term) _ good in
      all_append (term_words (as_term (neat_term term))) _ (neat_term_good term (all_front (term_words term) _ good)) (back.0, neat_sum_good more back.1)

  neat_sum_good : (e : ExprText) → AllByRecursion Good (expr_words e) → AllByRecursion Good (expr_words (neat_sum e))
  neat_sum_good (last_term term) good = neat_term_good term good
  neat_sum_good (next_term term minus more) good =
      let back = all_back (term_words term) _ good in
      all_append (term_words (as_term (neat_term term))) _ (neat_term_good term (all_front (term_words term) _ good)) (back.0, neat_sum_good more back.1)

  pub neat_term_good : (t : TermText) → AllByRecursion Good (term_words t) → AllByRecursion Good (term_words (as_term (neat_term t)))
  neat_term_good (last_factor factor) good = term_from_factor (neat_factor factor) (neat_factor_good factor good)
  neat_term_good (next_factor factor more) good =
      let back = all_back (factor_words factor) _ good in
      all_append (factor_words (as_factor (neat_factor factor))) _ (neat_factor_good factor (all_front (factor_words factor) _ good)) (back.0, neat_product_good more back.1)

  neat_product_good : (t : TermText) → AllByRecursion Good (term_words t) → AllByRecursion Good (term_words (neat_product t))
  neat_product_good (last_factor factor) good = neat_factor_good factor good
  neat_product_good (next_factor factor more) good =
      let back = all_back (factor_words factor) _ good in
      all_append (factor_words (as_factor (neat_factor factor))) _ (neat_factor_good factor (all_front (factor_words factor) _ good)) (back.0, neat_product_good more back.1)

  pub neat_factor_good : (f : FactorText) → AllByRecursion Good (factor_words f) → AllByRecursion Good (factor_words (as_factor (neat_factor f)))
  neat_factor_good (negated factor) good = (good.0, neat_factor_good factor good.1)
  neat_factor_good (numeral text) good = (decimal_good (digits_value 10 text) (good.0).fits, tt)
  neat_factor_good (value_text value) good = good
  neat_factor_good (reference ref) good = good
  neat_factor_good (absolute expr) good = (good.0, in_parens_good (expr_words (as_expr (neat_expr expr))) (neat_good expr (all_front (expr_words expr) _ good.1.1)))
  neat_factor_good (grouped expr) good = factor_from_expr (neat_expr expr) (neat_good expr (all_front (expr_words expr) _ good.1))
