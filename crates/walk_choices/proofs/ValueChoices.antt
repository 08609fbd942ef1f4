-- the numbers of expressions and the truths of conditions
use Rattle.std.proofs.Common.{◌≡◌, refl, sym, subst, ap, ℕ, ◌+◌, ℤ, pos, negsuc, Bool, true, false, cond, List, [], ◌∷◌, map, filter, Option, Some, None}
use Rattle.std.specs.Prelude.{◌||◌}
use denote.Hole.Carrier.{roll}
use Rattle.ip_rows.specs.declared.Bounds.{Bounds}
use Rattle.tiql_query.specs.Kinds.{Scope}
use Rattle.tiql_query.specs.declared.expression.Signed.{Signed, roll-Signed}
use Rattle.tiql_query.specs.declared.expression.Expr.{Expr}
use Rattle.tiql_query.specs.declared.expression.Expr.TheOpen.{Expr-F}
use Rattle.tiql_query.specs.declared.expression.Expr.TheFolds.{map-Expr, ind-Expr}
use Rattle.tiql_query.specs.declared.expression.Expr.TheVariants.{Int, Text, Column}
use Rattle.tiql_query.specs.declared.expression.Expr.TheViews.{Sum, Product, Neg, Abs, roll-Expr}
use Rattle.tiql_query.specs.declared.condition.Cmp.{Cmp}
use Rattle.tiql_query.specs.declared.condition.Cmp.TheVariants as cmp
use Rattle.tiql_query.specs.declared.condition.Cond.{Cond}
use Rattle.tiql_query.specs.declared.condition.Cond.TheOpen.{Cond-F}
use Rattle.tiql_query.specs.declared.condition.Cond.TheFolds.{fold-roll-Cond, map-Cond, ind-Cond}
use Rattle.tiql_query.specs.declared.condition.Cond.TheVariants.{Compare}
use Rattle.tiql_query.specs.declared.condition.Cond.TheViews.{Not, And, Or, roll-Cond}
use Rattle.row_values.specs.Values.{number}
use Rattle.view_select.specs.Asking.{is_unknown}
use Rattle.prov_fold.specs.declared.span.Scaled.{Scaled}
use Rattle.prov_fold.specs.Graphs.{Graph}
use Rattle.prov_fold.specs.Rules as rule
use Rattle.sym_rows.specs.declared.row.Cell.{Cell}
use Rattle.sym_rows.specs.declared.row.Cell.TheVariants as cells
use Rattle.sym_rows.specs.declared.row.SymRow.{SymRow}
use Rattle.sym_rows.specs.Walks.{Walked, Walk, ◌>>=◌, each, by_rule, told, truth_of}
use Rattle.sym_values.specs.Numbers.{number_of, fixed_number, plain, fixed_rows, cell_number, cell_there, times, first_of, signed}
use Rattle.sym_values.specs.Steps.{fixed_product, first_unknown, product_walk, part_walk}
use Rattle.sym_values.specs.Steps as steps
use Rattle.sym_values.specs.Conditions.{at_least, both_ways, compared, compare_plain, compare_of, test_step, test_of}
use Rattle.sym_values.specs.Tests.{tests_walk}
use Rattle.sym_values.proofs.Making.{number-fixed, number-Int, number-Text, number-Column, number-Sum, number-Product, number-Neg, number-Abs}
use Rattle.walk_choices.proofs.RuleChoices.{IsOver}
use Rattle.walk_choices.proofs.WalkChoices.{WalkedOver, ok_over, bind_over, cond_over, each_over, told_over, constant_walk, sum_walk, abs_walk, pos_walk, not_walk, and_walk, or_walk}

-- items in turn, of each of which it is known
each_held : {X A : Type 0} (sides : List Bounds) (f : ℕ → X → Walk A) (i : ℕ) (held : List ((x : X) × ((i : ℕ) (g : Graph) → IsOver sides g → WalkedOver sides (f i x g)))) (g : Graph) → IsOver sides g → WalkedOver sides (each f i (map (λ y. y.0) held) g)
unfolding each
each_held sides f i [] g over = ok_over sides ([], g) over
each_held sides f i (y ∷ ys) g over =
    bind_over sides (f i y.0 g) _ (y.1 i g over) (λ made more. bind_over sides (each f (i + 1) (map (λ y. y.0) ys) made.1) _ (each_held sides f (i + 1) ys made.1 more) (λ rest last. ok_over sides (made.0 ∷ rest.0, rest.1) last))

-- items in turn that are walks
each_walk : {X A : Type 0} (sides : List Bounds) (f : X → Walk A) (i : ℕ) (held : List ((x : X) × ((g : Graph) → IsOver sides g → WalkedOver sides (f x g)))) (g : Graph) → IsOver sides g → WalkedOver sides (each (λ i part. part) i (map f (map (λ y. y.0) held)) g)
unfolding each
each_walk sides f i [] g over = ok_over sides ([], g) over
each_walk sides f i (y ∷ ys) g over =
    bind_over sides (f y.0 g) _ (y.1 g over) (λ made more. bind_over sides (each (λ i part. part) (i + 1) (map f (map (λ y. y.0) ys)) made.1) _ (each_walk sides f (i + 1) ys made.1 more) (λ rest last. ok_over sides (made.0 ∷ rest.0, rest.1) last))

-- ---- numbers

module _ (sides : List Bounds) (scope : Scope) (rows : List SymRow) where
  times_over : (factor : ℤ) (id : ℕ) (g : Graph) → IsOver sides g → WalkedOver sides (times factor id g)
  times_over factor id g over = sum_walk sides (pos 0) (record { factor = factor; number = id } ∷ []) g over

  cell_number_over : (o : Option Cell) (g : Graph) → IsOver sides g → WalkedOver sides (cell_number o g)
  cell_number_over None g over = constant_walk sides (pos 0) g over
  cell_number_over (Some (cells.Fixed value)) g over = constant_walk sides (number value) g over
  cell_number_over (Some (cells.Number id)) g over = ok_over sides (id, g) over

  fixed_over : (whole : Expr) (g : Graph) → IsOver sides g → WalkedOver sides (fixed_number rows whole g)
  fixed_over whole g over = bind_over sides (told (plain (fixed_rows rows) whole) g) _ (told_over sides (plain (fixed_rows rows) whole) g over) (λ made more. constant_walk sides made.0 made.1 more)

  abbrev IsNumberOver : Expr → Type 0
  IsNumberOver e = (g : Graph) → IsOver sides g → WalkedOver sides (number_of scope rows e g)

  abbrev IsPartOver : Signed → Type 0
  IsPartOver s = (i : ℕ) (g : Graph) → IsOver sides g → WalkedOver sides (part_walk scope rows i s g)

  abbrev NumberOver : Type 0
  NumberOver = (e : Expr) × IsNumberOver e

  abbrev PartOver : Type 0
  PartOver = (s : Signed) × IsPartOver s

  walked_as : (w z : Walked ℕ) → w ≡ z → WalkedOver sides z → WalkedOver sides w
  walked_as w z same over = subst (λ (w : Walked ℕ). WalkedOver sides w) (sym same) over

  -- a fixed expression is a constant
  by_kind : (e : Expr) (g : Graph) → IsOver sides g → (is_unknown scope e ≡ true → WalkedOver sides (number_of scope rows e g)) → WalkedOver sides (number_of scope rows e g)
  by_kind e g over h = by_test (is_unknown scope e) refl
    where
      by_test : (b : Bool) → is_unknown scope e ≡ b → WalkedOver sides (number_of scope rows e g)
      by_test true is = h is
      by_test false is = walked_as (number_of scope rows e g) (fixed_number rows e g) (number-fixed scope rows e g is) (fixed_over e g over)

  -- the first of the walks that pass a test
  first_over : (p : Expr → Bool) (ys : List NumberOver) (g : Graph) → IsOver sides g → WalkedOver sides (first_of (map (number_of scope rows) (filter p (map (λ y. y.0) ys))) g)
  first_over p [] g over = constant_walk sides (pos 0) g over
  first_over p (y ∷ ys) g over = by_test (p y.0) (first_over p ys g over)
    where
      by_test : (b : Bool) → WalkedOver sides (first_of (map (number_of scope rows) (filter p (map (λ y. y.0) ys))) g) → WalkedOver sides (first_of (map (number_of scope rows) (cond b (y.0 ∷ filter p (map (λ y. y.0) ys)) (filter p (map (λ y. y.0) ys)))) g)
      by_test true more = y.1 g over
      by_test false more = more

  sum_over : (ys : List PartOver) (g : Graph) → IsOver sides g → WalkedOver sides (steps.sum_walk scope rows (map (λ y. y.0) ys) g)
  unfolding steps.sum_walk
  sum_over ys g over = bind_over sides (each (part_walk scope rows) 0 (map (λ y. y.0) ys) g) _ (each_held sides (part_walk scope rows) 0 ys g over) (λ made more. sum_walk sides (pos 0) made.0 made.1 more)

  product_over : (ys : List NumberOver) (g : Graph) → IsOver sides g → WalkedOver sides (product_walk scope rows (map (λ y. y.0) ys) g)
  unfolding product_walk first_unknown
  product_over ys g over =
      bind_over sides (told (fixed_product scope rows (map (λ y. y.0) ys)) g) _ (told_over sides (fixed_product scope rows (map (λ y. y.0) ys)) g over)
      (λ factor more. bind_over sides (first_of (map (number_of scope rows) (filter (is_unknown scope) (map (λ y. y.0) ys))) factor.1) _ (first_over (is_unknown scope) ys factor.1 more)
      (λ id last. times_over factor.0 id.0 id.1 last))

  neg_over : (e : Expr) → IsNumberOver e → (g : Graph) → IsOver sides g → WalkedOver sides (number_of scope rows e g >>= times (negsuc 0))
  neg_over e h g over = bind_over sides (number_of scope rows e g) _ (h g over) (λ made more. times_over (negsuc 0) made.0 made.1 more)

  absolute_over : (e : Expr) → IsNumberOver e → (g : Graph) → IsOver sides g → WalkedOver sides (number_of scope rows e g >>= λ id g. by_rule (rule.abs id) g)
  absolute_over e h g over = bind_over sides (number_of scope rows e g) _ (h g over) (λ made more. abs_walk sides made.0 made.1 more)

  number_layer : (y : Expr-F NumberOver PartOver) → IsNumberOver (roll-Expr (map-Expr NumberOver PartOver Expr Signed (λ e. e.0) (λ s. s.0) y))
  unfolding roll-Expr roll
  number_layer (Expr-F.Int n) = λ g over. by_kind (Int n) g over (λ u. walked_as _ _ (number-Int scope rows n g u) (constant_walk sides (pos 0) g over))
  number_layer (Expr-F.Text t) = λ g over. by_kind (Text t) g over (λ u. walked_as _ _ (number-Text scope rows t g u) (constant_walk sides (pos 0) g over))
  number_layer (Expr-F.Column at) = λ g over. by_kind (Column at) g over (λ u. walked_as _ _ (number-Column scope rows at g u) (cell_number_over (cell_there rows at) g over))
  number_layer (Expr-F.Sum ys) = λ g over. by_kind (Sum (map (λ y. y.0) ys)) g over (λ u. walked_as _ _ (number-Sum scope rows (map (λ y. y.0) ys) g u) (sum_over ys g over))
  number_layer (Expr-F.Product ys) = λ g over. by_kind (Product (map (λ y. y.0) ys)) g over (λ u. walked_as _ _ (number-Product scope rows (map (λ y. y.0) ys) g u) (product_over ys g over))
  number_layer (Expr-F.Neg y) = λ g over. by_kind (Neg y.0) g over (λ u. walked_as _ _ (number-Neg scope rows y.0 g u) (neg_over y.0 y.1 g over))
  number_layer (Expr-F.Abs y) = λ g over. by_kind (Abs y.0) g over (λ u. walked_as _ _ (number-Abs scope rows y.0 g u) (absolute_over y.0 y.1 g over))

  part_over : (minus : Bool) (e : Expr) → IsNumberOver e → IsPartOver (record { minus = minus; part = e })
  part_over minus e h i g over = bind_over sides (number_of scope rows e g) _ (h g over) (λ made more. ok_over sides (signed minus made.0, made.1) more)

  -- the number of an expression
  pub number_over : (e : Expr) (g : Graph) → IsOver sides g → WalkedOver sides (number_of scope rows e g)
  number_over = ind-Expr IsNumberOver IsPartOver
      (λ x y is. subst (λ z. IsNumberOver (roll-Expr z)) is (number_layer y))
      (λ x y is. subst (λ z. IsPartOver (roll-Signed z)) is (part_over y.minus y.part.0 y.part.1))

-- ---- truths

module _ (sides : List Bounds) where
  at_least_over : (constant : ℤ) (one other : ℕ) (g : Graph) → IsOver sides g → WalkedOver sides (at_least constant one other g)
  at_least_over constant one other g over =
      let parts : List Scaled = record { factor = pos 1; number = one } ∷ record { factor = negsuc 0; number = other } ∷ [] in
      bind_over sides (by_rule (rule.sum constant parts) g) _ (sum_walk sides constant parts g over) (λ made more. pos_walk sides made.0 made.1 more)

  both_over : (constant : ℤ) (word : List ℕ → rule.Rule) → ((kids : List ℕ) (g : Graph) → IsOver sides g → WalkedOver sides (by_rule (word kids) g)) → (one other : ℕ) (g : Graph) → IsOver sides g → WalkedOver sides (both_ways constant word one other g)
  both_over constant word h one other g over =
      bind_over sides (at_least constant one other g) _ (at_least_over constant one other g over)
      (λ p more. bind_over sides (at_least constant other one p.1) _ (at_least_over constant other one p.1 more)
      (λ q last. h (p.0 ∷ q.0 ∷ []) q.1 last))

  compared_over : (test : Cmp) (one other : ℕ) (g : Graph) → IsOver sides g → WalkedOver sides (compared test one other g)
  unfolding compared
  compared_over cmp.Eq one other g over = both_over (pos 0) rule.and_of (and_walk sides) one other g over
  compared_over cmp.Ne one other g over = both_over (negsuc 0) rule.or_of (or_walk sides) one other g over
  compared_over cmp.Lt one other g over = at_least_over (negsuc 0) other one g over
  compared_over cmp.Le one other g over = at_least_over (pos 0) other one g over
  compared_over cmp.Gt one other g over = at_least_over (negsuc 0) one other g over
  compared_over cmp.Ge one other g over = at_least_over (pos 0) one other g over

module _ (sides : List Bounds) (scope : Scope) (rows : List SymRow) where
  compare_over : (test : Cmp) (one other : Expr) (g : Graph) → IsOver sides g → WalkedOver sides (compare_of scope rows test one other g)
  unfolding compare_of
  compare_over test one other g over =
      cond_over sides (is_unknown scope one || is_unknown scope other) _ _
      (bind_over sides (number_of scope rows one g) _ (number_over sides scope rows one g over)
      (λ m more. bind_over sides (number_of scope rows other m.1) _ (number_over sides scope rows other m.1 more)
      (λ n last. compared_over sides test m.0 n.0 n.1 last)))
      (bind_over sides (told (compare_plain (fixed_rows rows) test one other) g) _ (told_over sides (compare_plain (fixed_rows rows) test one other) g over) (λ b more. ok_over sides (truth_of b.0, b.1) more))

  abbrev IsTestOver : Cond → Type 0
  IsTestOver c = (g : Graph) → IsOver sides g → WalkedOver sides (test_of scope rows c g)

  abbrev TestOver : Type 0
  TestOver = (c : Cond) × IsTestOver c

  test-Compare : (test : Cmp) (one other : Expr) (g : Graph) → test_of scope rows (Compare test one other) g ≡ compare_of scope rows test one other g
  unfolding test_of roll-Cond roll
  test-Compare test one other g = ap (λ (w : Walk ℕ). w g) (fold-roll-Cond (Walk ℕ) (test_step scope rows) (Cond-F.Compare test one other))

  test-Not : (part : Cond) (g : Graph) → test_of scope rows (Not part) g ≡ (test_of scope rows part g >>= λ id g. by_rule (rule.not_of id) g)
  unfolding test_of roll-Cond roll
  test-Not part g = ap (λ (w : Walk ℕ). w g) (fold-roll-Cond (Walk ℕ) (test_step scope rows) (Cond-F.Not part))

  test-And : (parts : List Cond) (g : Graph) → test_of scope rows (And parts) g ≡ (each (λ i part. part) 0 (map (test_of scope rows) parts) g >>= λ ids g. by_rule (rule.and_of ids) g)
  unfolding test_of roll-Cond roll
  test-And parts g = ap (λ (w : Walk ℕ). w g) (fold-roll-Cond (Walk ℕ) (test_step scope rows) (Cond-F.And parts))

  test-Or : (parts : List Cond) (g : Graph) → test_of scope rows (Or parts) g ≡ (each (λ i part. part) 0 (map (test_of scope rows) parts) g >>= λ ids g. by_rule (rule.or_of ids) g)
  unfolding test_of roll-Cond roll
  test-Or parts g = ap (λ (w : Walk ℕ). w g) (fold-roll-Cond (Walk ℕ) (test_step scope rows) (Cond-F.Or parts))

  walk_as : (w z : Walked ℕ) → w ≡ z → WalkedOver sides z → WalkedOver sides w
  walk_as w z same over = subst (λ (w : Walked ℕ). WalkedOver sides w) (sym same) over

  test_layer : (y : Cond-F TestOver) → IsTestOver (roll-Cond (map-Cond TestOver Cond (λ c. c.0) y))
  unfolding roll-Cond roll
  test_layer (Cond-F.Compare test one other) = λ g over. walk_as _ _ (test-Compare test one other g) (compare_over test one other g over)
  test_layer (Cond-F.Not y) = λ g over. walk_as _ _ (test-Not y.0 g) (bind_over sides (test_of scope rows y.0 g) _ (y.1 g over) (λ made more. not_walk sides made.0 made.1 more))
  test_layer (Cond-F.And ys) = λ g over.
      walk_as _ _ (test-And (map (λ y. y.0) ys) g)
      (bind_over sides (each (λ i part. part) 0 (map (test_of scope rows) (map (λ y. y.0) ys)) g) _ (each_walk sides (test_of scope rows) 0 ys g over) (λ made more. and_walk sides made.0 made.1 more))
  test_layer (Cond-F.Or ys) = λ g over.
      walk_as _ _ (test-Or (map (λ y. y.0) ys) g)
      (bind_over sides (each (λ i part. part) 0 (map (test_of scope rows) (map (λ y. y.0) ys)) g) _ (each_walk sides (test_of scope rows) 0 ys g over) (λ made more. or_walk sides made.0 made.1 more))

  -- the truth of a condition
  pub test_over : (c : Cond) (g : Graph) → IsOver sides g → WalkedOver sides (test_of scope rows c g)
  test_over = ind-Cond IsTestOver (λ x y is. subst (λ z. IsTestOver (roll-Cond z)) is (test_layer y))

  -- the truths of conditions in turn
  pub tests_over : (tests : List Cond) (g : Graph) → IsOver sides g → WalkedOver sides (tests_walk scope rows tests g)
  tests_over tests g over = each_over sides (λ place test. test_of scope rows test) (λ place test g more. test_over test g more) 0 tests g over
