-- the numbers of expressions, by their variants
use Rattle.std.proofs.Common.{◌≡◌, ◌∙◌, sym, ap, ap₂, subst, refl, ℕ, ◌+◌, ℤ, pos, negsuc, Bool, true, false, cond, not, List, [], ◌∷◌, map, filter, Result}
use denote.Hole.Carrier.{roll}
use Rattle.tiql_query.specs.Kinds.{Scope}
use Rattle.row_values.specs.declared.fault.Wide.{Wide}
use Rattle.prov_fold.specs.declared.span.Scaled.{Scaled}
use Rattle.tiql_query.specs.declared.expression.At.{At}
use Rattle.tiql_query.specs.declared.expression.Signed.{Signed, fold-Signed, fold_out-Signed, roll-Signed}
use Rattle.tiql_query.specs.declared.expression.Expr.{Expr}
use Rattle.tiql_query.specs.declared.expression.Expr.TheOpen.{Expr-F}
use Rattle.tiql_query.specs.declared.expression.Expr.TheFolds.{fold-roll-Expr, map-Expr, ind-Expr}
use Rattle.tiql_query.specs.declared.expression.Expr.TheVariants.{Int, Text, Column}
use Rattle.tiql_query.specs.declared.expression.Expr.TheViews.{Sum, Product, Neg, Abs, roll-Expr}
use Rattle.view_select.specs.Asking.{is_unknown}
use Rattle.prov_fold.specs.Graphs.{Graph}
use Rattle.prov_fold.specs.Rules as rule
use Rattle.sym_rows.specs.declared.row.SymRow.{SymRow}
use Rattle.sym_values.specs.Numbers.{Making, MakingPart, making_step, making_part_step, making, number_of, number_by, unknown_by, fixed_number, plain, fixed_rows, cell_number, cell_there, times, first_of, product_of, signed}
use Rattle.sym_values.specs.Steps.{fixed_product, first_unknown, product_walk, part_walk, sum_made, sum_walk}
use Rattle.sym_rows.specs.Walks.{Walked, Walk, gives, ◌>>=◌, each, by_rule, told}

unfoldable making_part : Scope → List SymRow → Signed → MakingPart
making_part scope rows = fold-Signed Making MakingPart (making_step scope rows) making_part_step

-- items in turn that are made of others
pub each_of : {X Y A : Type 0} (f : ℕ → Y → Walk A) (h : X → Y) (i : ℕ) (xs : List X) (g : Graph) → each f i (map h xs) g ≡ each (λ i x. f i (h x)) i xs g
unfolding each
each_of f h i [] g = refl
each_of {X} {Y} {A} f h i (x ∷ xs) g = ap (λ (k : A → Walk (List A)). f i (h x) g >>= k) (λ p made g. each_of f h (i + 1) xs g p >>= λ more g. gives (made ∷ more) g)

module _ (scope : Scope) (rows : List SymRow) where
  part_made : (s : Signed) → making_part scope rows s ≡ record { whole = record { minus = s.minus; part = (making scope rows s.part).whole }; number = (making scope rows s.part).number }
  unfolding making_part making
  part_made s = fold_out-Signed Making MakingPart (making_step scope rows) making_part_step s

  made-Sum : (parts : List Signed) → making scope rows (Sum parts) ≡ making_step scope rows (Expr-F.Sum (map (making_part scope rows) parts))
  unfolding making making_part roll-Expr roll
  made-Sum parts = fold-roll-Expr Making MakingPart (making_step scope rows) making_part_step (Expr-F.Sum parts)

  made-Product : (factors : List Expr) → making scope rows (Product factors) ≡ making_step scope rows (Expr-F.Product (map (making scope rows) factors))
  unfolding making roll-Expr roll
  made-Product factors = fold-roll-Expr Making MakingPart (making_step scope rows) making_part_step (Expr-F.Product factors)

  made-Int : (n : ℤ) → making scope rows (Int n) ≡ making_step scope rows (Expr-F.Int n)
  unfolding making roll-Expr roll
  made-Int n = fold-roll-Expr Making MakingPart (making_step scope rows) making_part_step (Expr-F.Int n)

  made-Text : (t : List ℕ) → making scope rows (Text t) ≡ making_step scope rows (Expr-F.Text t)
  unfolding making roll-Expr roll
  made-Text t = fold-roll-Expr Making MakingPart (making_step scope rows) making_part_step (Expr-F.Text t)

  made-Column : (at : At) → making scope rows (Column at) ≡ making_step scope rows (Expr-F.Column at)
  unfolding making roll-Expr roll
  made-Column at = fold-roll-Expr Making MakingPart (making_step scope rows) making_part_step (Expr-F.Column at)

  made-Neg : (part : Expr) → making scope rows (Neg part) ≡ making_step scope rows (Expr-F.Neg (making scope rows part))
  unfolding making roll-Expr roll
  made-Neg part = fold-roll-Expr Making MakingPart (making_step scope rows) making_part_step (Expr-F.Neg part)

  made-Abs : (part : Expr) → making scope rows (Abs part) ≡ making_step scope rows (Expr-F.Abs (making scope rows part))
  unfolding making roll-Expr roll
  made-Abs part = fold-roll-Expr Making MakingPart (making_step scope rows) making_part_step (Expr-F.Abs part)

  -- ---- what is made is the expression

  abbrev IsWhole : Expr → Type 0
  IsWhole e = (making scope rows e).whole ≡ e

  abbrev IsWholePart : Signed → Type 0
  IsWholePart s = (making_part scope rows s).whole ≡ s

  abbrev Whole : Type 0
  Whole = (e : Expr) × IsWhole e

  abbrev WholePart : Type 0
  WholePart = (s : Signed) × IsWholePart s

  all_whole : (ys : List Whole) → map (λ m. m.whole) (map (making scope rows) (map (λ y. y.0) ys)) ≡ map (λ y. y.0) ys
  all_whole [] = refl
  all_whole (y ∷ ys) = ap₂ (λ (e : Expr) (l : List Expr). e ∷ l) y.1 (all_whole ys)

  all_whole_parts : (ys : List WholePart) → map (λ m. m.whole) (map (making_part scope rows) (map (λ y. y.0) ys)) ≡ map (λ y. y.0) ys
  all_whole_parts [] = refl
  all_whole_parts (y ∷ ys) = ap₂ (λ (s : Signed) (l : List Signed). s ∷ l) y.1 (all_whole_parts ys)

  whole_layer : (y : Expr-F Whole WholePart) → IsWhole (roll-Expr (map-Expr Whole WholePart Expr Signed (λ e. e.0) (λ s. s.0) y))
  unfolding roll-Expr roll
  whole_layer (Expr-F.Int n) = ap (λ (m : Making). m.whole) (made-Int n)
  whole_layer (Expr-F.Text t) = ap (λ (m : Making). m.whole) (made-Text t)
  whole_layer (Expr-F.Column at) = ap (λ (m : Making). m.whole) (made-Column at)
  whole_layer (Expr-F.Sum ys) = ap (λ (m : Making). m.whole) (made-Sum (map (λ y. y.0) ys)) ∙ ap (λ (l : List Signed). Sum l) (all_whole_parts ys)
  whole_layer (Expr-F.Product ys) = ap (λ (m : Making). m.whole) (made-Product (map (λ y. y.0) ys)) ∙ ap (λ (l : List Expr). Product l) (all_whole ys)
  whole_layer (Expr-F.Neg y) = ap (λ (m : Making). m.whole) (made-Neg y.0) ∙ ap (λ (e : Expr). Neg e) y.1
  whole_layer (Expr-F.Abs y) = ap (λ (m : Making). m.whole) (made-Abs y.0) ∙ ap (λ (e : Expr). Abs e) y.1

  whole_part : (minus : Bool) (e : Expr) → IsWhole e → IsWholePart (record { minus = minus; part = e })
  whole_part minus e is = ap (λ (m : MakingPart). m.whole) (part_made (record { minus = minus; part = e })) ∙ ap (λ (e : Expr). record { minus = minus; part = e }) is

  pub whole : (e : Expr) → (making scope rows e).whole ≡ e
  whole = ind-Expr IsWhole IsWholePart
      (λ x y is. subst (λ z. IsWhole (roll-Expr z)) is (whole_layer y))
      (λ x y is. subst (λ z. IsWholePart (roll-Signed z)) is (whole_part y.minus y.part.0 y.part.1))

  -- ---- numbers, by the variants of expressions

  number_by_of : (e : Expr) (parts : Expr-F Making MakingPart) (g : Graph) → making scope rows e ≡ making_step scope rows parts → number_of scope rows e g ≡ number_by scope rows e parts g
  unfolding number_of
  number_by_of e parts g is = ap (λ (m : Making). m.number g) is ∙ ap (λ (w : Expr). number_by scope rows w parts g) (sym (ap (λ (m : Making). m.whole) is) ∙ whole e)

  unknown_of : (e : Expr) (parts : Expr-F Making MakingPart) (g : Graph) → making scope rows e ≡ making_step scope rows parts → is_unknown scope e ≡ true → number_of scope rows e g ≡ unknown_by scope rows parts g
  unknown_of e parts g is unknown = number_by_of e parts g is ∙ ap (λ (b : Bool). cond b (unknown_by scope rows parts g) (fixed_number rows e g)) unknown

  abbrev IsFixedOf : Expr → Type 0
  IsFixedOf e = (g : Graph) → is_unknown scope e ≡ false → number_of scope rows e g ≡ fixed_number rows e g

  fixed_of : (e : Expr) (parts : Expr-F Making MakingPart) → making scope rows e ≡ making_step scope rows parts → IsFixedOf e
  fixed_of e parts is g fixed = number_by_of e parts g is ∙ ap (λ (b : Bool). cond b (unknown_by scope rows parts g) (fixed_number rows e g)) fixed

  abbrev Fixed : Type 0
  Fixed = (e : Expr) × IsFixedOf e

  abbrev AnySigned : Type 0
  AnySigned = (s : Signed) × Unit {0}

  fixed_layer : (y : Expr-F Fixed AnySigned) → IsFixedOf (roll-Expr (map-Expr Fixed AnySigned Expr Signed (λ e. e.0) (λ s. s.0) y))
  unfolding roll-Expr roll
  fixed_layer (Expr-F.Int n) = fixed_of (Int n) (Expr-F.Int n) (made-Int n)
  fixed_layer (Expr-F.Text t) = fixed_of (Text t) (Expr-F.Text t) (made-Text t)
  fixed_layer (Expr-F.Column at) = fixed_of (Column at) (Expr-F.Column at) (made-Column at)
  fixed_layer (Expr-F.Sum ys) = fixed_of (Sum (map (λ y. y.0) ys)) (Expr-F.Sum (map (making_part scope rows) (map (λ y. y.0) ys))) (made-Sum (map (λ y. y.0) ys))
  fixed_layer (Expr-F.Product ys) = fixed_of (Product (map (λ y. y.0) ys)) (Expr-F.Product (map (making scope rows) (map (λ y. y.0) ys))) (made-Product (map (λ y. y.0) ys))
  fixed_layer (Expr-F.Neg y) = fixed_of (Neg y.0) (Expr-F.Neg (making scope rows y.0)) (made-Neg y.0)
  fixed_layer (Expr-F.Abs y) = fixed_of (Abs y.0) (Expr-F.Abs (making scope rows y.0)) (made-Abs y.0)

  pub number-fixed : (e : Expr) (g : Graph) → is_unknown scope e ≡ false → number_of scope rows e g ≡ fixed_number rows e g
  number-fixed = ind-Expr IsFixedOf (λ s. Unit {0})
      (λ x y is. subst (λ z. IsFixedOf (roll-Expr z)) is (fixed_layer y))
      (λ x y is. tt)

  -- ---- those with an unknown column

  pub number-Int : (n : ℤ) (g : Graph) → is_unknown scope (Int n) ≡ true → number_of scope rows (Int n) g ≡ by_rule (rule.constant (pos 0)) g
  number-Int n g u = unknown_of (Int n) (Expr-F.Int n) g (made-Int n) u

  pub number-Text : (t : List ℕ) (g : Graph) → is_unknown scope (Text t) ≡ true → number_of scope rows (Text t) g ≡ by_rule (rule.constant (pos 0)) g
  number-Text t g u = unknown_of (Text t) (Expr-F.Text t) g (made-Text t) u

  pub number-Column : (at : At) (g : Graph) → is_unknown scope (Column at) ≡ true → number_of scope rows (Column at) g ≡ cell_number (cell_there rows at) g
  number-Column at g u = unknown_of (Column at) (Expr-F.Column at) g (made-Column at) u

  part_walk_is : (λ (i : ℕ) (s : Signed) (g : Graph). (making_part scope rows s).number g >>= λ id g. gives (signed (making_part scope rows s).whole.minus id) g) ≡ part_walk scope rows
  unfolding number_of
  part_walk_is p i s g = (part_made s p).number g >>= λ id g. gives (signed (part_made s p).whole.minus id) g

  pub number-Sum : (parts : List Signed) (g : Graph) → is_unknown scope (Sum parts) ≡ true → number_of scope rows (Sum parts) g ≡ sum_walk scope rows parts g
  unfolding sum_walk
  number-Sum parts g u =
      unknown_of (Sum parts) (Expr-F.Sum (map (making_part scope rows) parts)) g (made-Sum parts) u
      ∙ ap (λ (w : Walked (List Scaled)). w >>= sum_made) (each_of (λ i part g. part.number g >>= λ id g. gives (signed part.whole.minus id) g) (making_part scope rows) 0 parts g ∙ ap (λ (f : ℕ → Signed → Walk Scaled). each f 0 parts g) part_walk_is)

  filter_of : {X Y : Type 0} (p : Y → Bool) (h : X → Y) (xs : List X) → filter p (map h xs) ≡ map h (filter (λ x. p (h x)) xs)
  filter_of p h [] = refl
  filter_of p h (x ∷ xs) = by_test (p (h x)) refl (filter_of p h xs)
    where
      by_test : (b : Bool) → p (h x) ≡ b → filter p (map h xs) ≡ map h (filter (λ x. p (h x)) xs) → filter p (map h (x ∷ xs)) ≡ map h (filter (λ x. p (h x)) (x ∷ xs))
      by_test true e more = rw e (ap (λ l. h x ∷ l) more)
      by_test false e more = rw e more

  map_of : {X Y Z : Type 0} (f : Y → Z) (h : X → Y) (xs : List X) → map f (map h xs) ≡ map (λ x. f (h x)) xs
  map_of f h [] = refl
  map_of {X} {Y} {Z} f h (x ∷ xs) = ap (λ (l : List Z). f (h x) ∷ l) (map_of f h xs)

  wholes : ◌≡◌ {A = Expr → Expr} (λ e. (making scope rows e).whole) (λ e. e)
  wholes p e = whole e p

  fixed_factors : (factors : List Expr) → map (λ (m : Making). plain (fixed_rows rows) m.whole) (filter (λ (m : Making). not (is_unknown scope m.whole)) (map (making scope rows) factors)) ≡ map (plain (fixed_rows rows)) (filter (λ factor. not (is_unknown scope factor)) factors)
  fixed_factors factors =
      ap (map (λ (m : Making). plain (fixed_rows rows) m.whole)) (filter_of (λ (m : Making). not (is_unknown scope m.whole)) (making scope rows) factors)
      ∙ map_of (λ (m : Making). plain (fixed_rows rows) m.whole) (making scope rows) (filter (λ e. not (is_unknown scope (making scope rows e).whole)) factors)
      ∙ ap (λ (w : Expr → Expr). map (λ e. plain (fixed_rows rows) (w e)) (filter (λ e. not (is_unknown scope (w e))) factors)) wholes

  unknown_factors : (factors : List Expr) → map (λ (m : Making). m.number) (filter (λ (m : Making). is_unknown scope m.whole) (map (making scope rows) factors)) ≡ map (number_of scope rows) (filter (is_unknown scope) factors)
  unfolding number_of
  unknown_factors factors =
      ap (map (λ (m : Making). m.number)) (filter_of (λ (m : Making). is_unknown scope m.whole) (making scope rows) factors)
      ∙ map_of (λ (m : Making). m.number) (making scope rows) (filter (λ e. is_unknown scope (making scope rows e).whole) factors)
      ∙ ap (λ (w : Expr → Expr). map (λ e. (making scope rows e).number) (filter (λ e. is_unknown scope (w e)) factors)) wholes

  pub number-Product : (factors : List Expr) (g : Graph) → is_unknown scope (Product factors) ≡ true → number_of scope rows (Product factors) g ≡ product_walk scope rows factors g
  unfolding product_walk fixed_product first_unknown
  number-Product factors g u =
      unknown_of (Product factors) (Expr-F.Product (map (making scope rows) factors)) g (made-Product factors) u
      ∙ ap₂ (λ (fixed : List (Result ℤ Wide)) (unknown : List (Walk ℕ)). told (product_of fixed) g >>= λ factor g. first_of unknown g >>= λ id g. times factor id g) (fixed_factors factors) (unknown_factors factors)

  pub number-Neg : (part : Expr) (g : Graph) → is_unknown scope (Neg part) ≡ true → number_of scope rows (Neg part) g ≡ (number_of scope rows part g >>= times (negsuc 0))
  unfolding number_of
  number-Neg part g u = unknown_of (Neg part) (Expr-F.Neg (making scope rows part)) g (made-Neg part) u

  pub number-Abs : (part : Expr) (g : Graph) → is_unknown scope (Abs part) ≡ true → number_of scope rows (Abs part) g ≡ (number_of scope rows part g >>= λ id g. by_rule (rule.abs id) g)
  unfolding number_of
  number-Abs part g u = unknown_of (Abs part) (Expr-F.Abs (making scope rows part)) g (made-Abs part) u
