-- the numbers that are made, step by step
use Rattle.std.proofs.Common.{◌≡◌, ◌∙◌, sym, ap, ap₂, subst, refl, ℕ, zero, suc, ◌+◌, ◌<◌, ◌≤◌, ℤ, pos, negsuc, neg_ℤ, ◌+ℤ◌, ◌*ℤ◌, unsigned_abs, Bool, true, false, not, cond, List, [], ◌∷◌, ◌++◌, length, get_or, drop, take, map, filter, All, Result, Ok, Err, arith, Option, Some, None}
use Rattle.std.specs.Prelude.{slice_get, int_lt, if◌then◌else◌}
use Rattle.std.proofs.lemmas.Int.{ints}
use Rattle.std.proofs.lemmas.List.{take_all, take_more, map-append, drop_more, drop_all}
use Rattle.std.proofs.lemmas.List.Elements.{All-nil, All-cons}
use Rattle.base_kit.specs.declared.value.Value.{Value}
use Rattle.tiql_query.specs.Kinds.{Scope}
use Rattle.tiql_query.specs.declared.expression.At.{At}
use Rattle.tiql_query.specs.declared.expression.Signed.{Signed}
use Rattle.tiql_query.specs.declared.expression.Expr.{Expr}
use Rattle.tiql_query.specs.declared.expression.Expr.TheVariants.{Int, Text, Column}
use Rattle.tiql_query.specs.declared.expression.Expr.TheViews.{Sum, Product, Neg, Abs}
use Rattle.row_values.specs.declared.fault.Wide.{Wide}
use Rattle.row_values.specs.Values.{Combination, number, total, product, value}
use Rattle.row_values.specs.Values as plain_values
use Rattle.prov_arena.specs.Formulas.{Formula, FalseNode, TrueNode, PresNode, CellNode, PosNode, NotNode, AndNode, OrNode, LinNode, GuardNode, AbsNode, TotNode, MinNode}
use Rattle.prov_fold.specs.Kinds.{is_number, is_summand}
use Rattle.prov_fold.specs.Graphs.{Graph, Keeps, node, HasNumber, HasSummand}
use Rattle.prov_fold.specs.Meanings.{values_in}
use Rattle.prov_fold.specs.Sums.{total_by, added_by}
use Rattle.prov_fold.specs.declared.span.Scaled.{Scaled}
use Rattle.prov_fold.specs.Rules as rule
use Rattle.prov_fold.proofs.StandLemmas.{keeps_same}
use Rattle.view_select.specs.Asking.{is_unknown}
use Rattle.view_select.proofs.Conditions.{unknown-Int, unknown-Text}
use Rattle.sym_rows.specs.declared.fault.WalkFault.{WalkFault}
use Rattle.sym_rows.specs.declared.fault.WalkFault.TheVariants as fault
use Rattle.sym_rows.specs.declared.row.Cell.{Cell}
use Rattle.sym_rows.specs.declared.row.Cell.TheVariants as cells
use Rattle.sym_rows.specs.declared.row.SymRow.{SymRow}
use Rattle.sym_rows.specs.Cells.{AreRowsOf, IsCellOf, IsCellThere}
use Rattle.sym_rows.specs.Walks.{Walked, Walk, gives, ◌>>=◌, each, by_rule, told, Makes}
use Rattle.sym_rows.proofs.Makes.{makes_gives, makes_is, makes_so, makes_then, makes_stop, number_kept, still}
use Rattle.sym_values.specs.Meanings.{AreRowsFit, HasKind, combination_in, IsNumberOf}
use Rattle.sym_values.specs.Numbers.{plain, fixed_rows, cell_of, cell_there, cell_number, fixed_number, number_of, signed, times, first_of}
use Rattle.sym_values.specs.Steps.{fixed_product, first_unknown, product_walk, part_walk, sum_made, sum_walk, IsPlainOf, IsCellNumber, IsTimes, scaled_in, IsSumMade, part_on, ArePartsOf, IsSumOf, factor_on, first_number, IsFirstOf, IsProductOf, IsPart}
use Rattle.sym_values.proofs.Making.{number-fixed, number-Column, number-Sum, number-Product, number-Neg, number-Abs}
use Rattle.sym_values.proofs.Equations.{value-Column, value-Sum, value-Product, value-Neg, value-Abs}
use Rattle.sym_values.proofs.PlainValues.{cell_value, plain-Product}
use Rattle.sym_values.proofs.Checked.{has-Sum, has-Product, has-Neg, has-Abs, one_unknown, fixed_value}
use Rattle.sym_values.proofs.Agreed.{plain_value}

-- one step, and then another, with what both mean
module _ {A B : Type 0} (Good : Graph → A → Type 0) (T : A → List ℤ → (ℕ → ℤ) → Type 0) (Good' : Graph → B → Type 0) (T' TL : B → List ℤ → (ℕ → ℤ) → Type 0) (walked : Walked A) (next : A → Walk B) (g mid : Graph) where
  pub makes_on : (a : A) (after : Graph) (r : Result B WalkFault) → ((b : B) (world : List ℤ) (v : ℕ → ℤ) → T a world v → TL b world v → T' b world v) → Makes walked Good T g (Ok a) mid → Makes (next a mid) Good' TL mid r after → Makes (walked >>= next) Good' T' g r after
  makes_on a after r so h k =
      makes_then Good T Good' T' walked next g mid a after r h
      (makes_so Good' TL (next a mid) Good' T' mid after r (λ b good. good) (λ b l world later tells. so b world (values_in l world) (still mid after l world (T a) k.kept later h.means) tells) k)

-- the same of one step
module _ {A : Type 0} (Good : Graph → A → Type 0) (T T' : A → List ℤ → (ℕ → ℤ) → Type 0) (walked other : Walked A) (g after : Graph) (r : Result A WalkFault) where
  pub makes_as : walked ≡ other → ((a : A) (world : List ℤ) (v : ℕ → ℤ) → T a world v → T' a world v) → Makes walked Good T g r after → Makes other Good T' g r after
  makes_as same so h = makes_is Good T' walked other g after r same (makes_so Good T walked Good T' g after r (λ a good. good) (λ a l world later tells. so a world (values_in l world) tells) h)

-- ---- parts of sums

number_summand : (f : Formula) → is_number f ≡ true → is_summand f ≡ true
number_summand FalseNode e = absurd (let k : false ≡ true = e in cc)
number_summand TrueNode e = absurd (let k : false ≡ true = e in cc)
number_summand (PresNode column) e = absurd (let k : false ≡ true = e in cc)
number_summand (CellNode column) e = absurd (let k : false ≡ true = e in cc)
number_summand (PosNode n) e = absurd (let k : false ≡ true = e in cc)
number_summand (NotNode t) e = absurd (let k : false ≡ true = e in cc)
number_summand (AndNode kids) e = absurd (let k : false ≡ true = e in cc)
number_summand (OrNode kids) e = absurd (let k : false ≡ true = e in cc)
number_summand (LinNode c terms) e = refl
number_summand (GuardNode t n) e = absurd (let k : false ≡ true = e in cc)
number_summand (AbsNode n) e = absurd (let k : false ≡ true = e in cc)
number_summand (TotNode n) e = absurd (let k : false ≡ true = e in cc)
number_summand (MinNode pairs) e = absurd (let k : false ≡ true = e in cc)

pub summand : (g : Graph) (id : ℕ) → HasNumber g id → HasSummand g id
summand g id has = record { below = has.below; kind = number_summand (node g id) has.kind }

pub one_summand : (g : Graph) (factor : ℤ) (id : ℕ) → HasNumber g id → All (λ (part : Scaled). HasSummand g part.number) (record { factor = factor; number = id } ∷ [])
one_summand g factor id has = All-cons (λ (part : Scaled). HasSummand g part.number) (record { factor = factor; number = id }) [] (summand g id has) (All-nil (λ (part : Scaled). HasSummand g part.number))

pub summands : (g : Graph) (made : List Scaled) → All (IsPart g) made → All (λ (part : Scaled). HasSummand g part.number) made
summands g made are = λ k d lt. summand g (get_or made k d).number (are k d lt).number

pub few_factors : (g : Graph) (made : List Scaled) → All (IsPart g) made → added_by (λ (part : Scaled). unsigned_abs part.factor) made ≤ length made
few_factors g [] are = omega arith
few_factors g (part ∷ made) are =
    let one : unsigned_abs part.factor ≤ 1 = (are 0 part (omega arith)).one in
    let rest = few_factors g made (λ k d lt. are (suc k) d (omega arith)) in
    omega (arith, one, rest)

plus_zero : (n : ℤ) → pos 0 +ℤ (n +ℤ pos 0) ≡ n
plus_zero n = omega (arith, ints)

zero_plus : (n : ℤ) → pos 0 +ℤ n ≡ n
zero_plus n = omega (arith, ints)

pub times_so : (factor : ℤ) (id : ℕ) (g after : Graph) (r : Result ℕ WalkFault) → Makes (by_rule (rule.sum (pos 0) (record { factor = factor; number = id } ∷ [])) g) HasNumber (λ id' _ v. v id' ≡ pos 0 +ℤ total_by (λ (part : Scaled). part.factor *ℤ v part.number) (record { factor = factor; number = id } ∷ [])) g r after
    → Makes (times factor id g) HasNumber (IsTimes factor id) g r after
times_so factor id g after r h =
    makes_as HasNumber (λ id' _ v. v id' ≡ pos 0 +ℤ (factor *ℤ v id +ℤ pos 0)) (IsTimes factor id) (times factor id g) (times factor id g) g after r refl (λ made world v e. e ∙ plus_zero (factor *ℤ v id)) h

total_is : (v : ℕ → ℤ) (made : List Scaled) → total_by (λ (part : Scaled). part.factor *ℤ v part.number) made ≡ total (map (scaled_in v) made)
total_is v [] = refl
total_is v (part ∷ made) = ap (λ (n : ℤ). scaled_in v part +ℤ n) (total_is v made)

pub sum_so : (made : List Scaled) (g after : Graph) (r : Result ℕ WalkFault) → Makes (by_rule (rule.sum (pos 0) made) g) HasNumber (λ id _ v. v id ≡ pos 0 +ℤ total_by (λ (part : Scaled). part.factor *ℤ v part.number) made) g r after
    → Makes (sum_made made g) HasNumber (IsSumMade made) g r after
sum_so made g after r h =
    makes_as HasNumber (λ id _ v. v id ≡ pos 0 +ℤ total_by (λ (part : Scaled). part.factor *ℤ v part.number) made) (IsSumMade made) (sum_made made g) (sum_made made g) g after r refl (λ id world v e. e ∙ zero_plus (total_by (λ (part : Scaled). part.factor *ℤ v part.number) made) ∙ total_is v made) h

-- ---- cells

cell_good : (g : Graph) (row : List Cell) (i : ℕ) → All (IsCellOf g) row → IsCellThere g (slice_get row i)
cell_good g [] i are = tt
cell_good g (cell ∷ row) zero are = are 0 cell (omega arith)
cell_good g (cell ∷ row) (suc i) are = cell_good g row i (λ k d lt. are (suc k) d (omega arith))

cell_in_row : (g : Graph) (rows : List SymRow) (source column : ℕ) → AreRowsOf g rows → IsCellThere g (cell_of column (slice_get rows source))
cell_in_row g [] source column are = tt
cell_in_row g (row ∷ rows) zero column are = cell_good g row.cells column (are 0 row (omega arith)).cells
cell_in_row g (row ∷ rows) (suc source) column are = cell_in_row g rows source column (λ k d lt. are (suc k) d (omega arith))

pub cell_is_there : (g : Graph) (rows : List SymRow) (at : At) → AreRowsOf g rows → IsCellThere g (cell_there rows at)
unfolding cell_there
cell_is_there g rows at are = cell_in_row g rows at.source at.column are

module _ (cell : Option Cell) (g after : Graph) (r : Result ℕ WalkFault) where
  pub cell_none : cell ≡ None → Makes (by_rule (rule.constant (pos 0)) g) HasNumber (λ id _ v. v id ≡ pos 0) g r after → Makes (cell_number cell g) HasNumber (IsCellNumber cell) g r after
  cell_none is h = subst (λ (c : Option Cell). Makes (cell_number c g) HasNumber (IsCellNumber c) g r after) (sym is) h

  pub cell_fixed : (x : Value) (n : ℤ) → cell ≡ Some (cells.Fixed x) → n ≡ number x → Makes (by_rule (rule.constant n) g) HasNumber (λ id _ v. v id ≡ n) g r after → Makes (cell_number cell g) HasNumber (IsCellNumber cell) g r after
  cell_fixed x n is same h =
      subst (λ (c : Option Cell). Makes (cell_number c g) HasNumber (IsCellNumber c) g r after) (sym is)
      (subst (λ (n : ℤ). Makes (by_rule (rule.constant n) g) HasNumber (λ id _ v. v id ≡ n) g r after) same h)

pub cell_given : (cell : Option Cell) (g : Graph) (id : ℕ) → cell ≡ Some (cells.Number id) → IsCellThere g cell → Makes (cell_number cell g) HasNumber (IsCellNumber cell) g (Ok id) g
cell_given cell g id is there =
    subst (λ (c : Option Cell). Makes (cell_number c g) HasNumber (IsCellNumber c) g (Ok id) g) (sym is)
    (makes_gives HasNumber (λ made _ v. v made ≡ v id) id g (subst (IsCellThere g) is there) (λ h world later. refl))

pub cell_as : (one other : Option Cell) (g after : Graph) (r : Result ℕ WalkFault) → one ≡ other → Makes (cell_number one g) HasNumber (IsCellNumber one) g r after → Makes (cell_number other g) HasNumber (IsCellNumber other) g r after
cell_as one other g after r same h = subst (λ (c : Option Cell). Makes (cell_number c g) HasNumber (IsCellNumber c) g r after) same h

-- ---- fixed expressions

module _ (rows : List SymRow) (e : Expr) (g : Graph) where
  pub fixed_err : (w : Wide) → plain (fixed_rows rows) e ≡ Err w → Makes (fixed_number rows e g) HasNumber (IsPlainOf rows e) g (Err (fault.Wide w.number)) g
  fixed_err w is = record { follows = λ ne. ap (λ (r : Result ℤ Wide). told r g >>= λ n g. by_rule (rule.constant n) g) is; kept = keeps_same g; good = tt; means = tt }

  pub fixed_ok : (n m : ℤ) (after : Graph) (r : Result ℕ WalkFault) → plain (fixed_rows rows) e ≡ Ok n → m ≡ n → Makes (by_rule (rule.constant m) g) HasNumber (λ id _ v. v id ≡ m) g r after → Makes (fixed_number rows e g) HasNumber (IsPlainOf rows e) g r after
  fixed_ok n m after r is same h =
      makes_as HasNumber (λ id _ v. v id ≡ n) (IsPlainOf rows e) (by_rule (rule.constant n) g) (fixed_number rows e g) g after r (sym (ap (λ (r : Result ℤ Wide). told r g >>= λ n g. by_rule (rule.constant n) g) is))
      (λ id world v e. is ∙ ap (λ (k : ℤ). Ok k) (sym e)) (subst (λ (n : ℤ). Makes (by_rule (rule.constant n) g) HasNumber (λ id _ v. v id ≡ n) g r after) same h)

  pub number_fixed : (scope : Scope) (after : Graph) (r : Result ℕ WalkFault) → is_unknown scope e ≡ false → Makes (fixed_number rows e g) HasNumber (IsPlainOf rows e) g r after → Makes (number_of scope rows e g) HasNumber (IsNumberOf scope rows e) g r after
  number_fixed scope after r fixed h =
      makes_as HasNumber (IsPlainOf rows e) (IsNumberOf scope rows e) (fixed_number rows e g) (number_of scope rows e g) g after r (sym (number-fixed scope rows e g fixed))
      (λ id world v is fit has. sym (plain_value (fixed_rows rows) e (v id) is) ∙ ap number (fixed_value scope rows fit (λ id. pos 0) v e fixed)) h

-- ---- expressions with an unknown column

module _ (scope : Scope) (rows : List SymRow) (g after : Graph) (r : Result ℕ WalkFault) where
  pub unknown_int : (n : ℤ) → is_unknown scope (Int n) ≡ true → Makes (number_of scope rows (Int n) g) HasNumber (IsNumberOf scope rows (Int n)) g r after
  unknown_int n unknown = absurd (let k : false ≡ true = sym (unknown-Int scope n) ∙ unknown in cc)

  pub unknown_text : (t : List ℕ) → is_unknown scope (Text t) ≡ true → Makes (number_of scope rows (Text t) g) HasNumber (IsNumberOf scope rows (Text t)) g r after
  unknown_text t unknown = absurd (let k : false ≡ true = sym (unknown-Text scope t) ∙ unknown in cc)

  pub unknown_column : (at : At) → is_unknown scope (Column at) ≡ true → Makes (cell_number (cell_there rows at) g) HasNumber (IsCellNumber (cell_there rows at)) g r after → Makes (number_of scope rows (Column at) g) HasNumber (IsNumberOf scope rows (Column at)) g r after
  unknown_column at unknown h =
      makes_as HasNumber (IsCellNumber (cell_there rows at)) (IsNumberOf scope rows (Column at)) (cell_number (cell_there rows at) g) (number_of scope rows (Column at) g) g after r (sym (number-Column scope rows at g unknown))
      (λ id world v is fit has. is ∙ ap number (sym (cell_value v rows at) ∙ sym (value-Column (combination_in v rows) at))) h

  pub unknown_sum : (parts : List Signed) → is_unknown scope (Sum parts) ≡ true → Makes (sum_walk scope rows parts g) HasNumber (IsSumOf scope rows parts) g r after → Makes (number_of scope rows (Sum parts) g) HasNumber (IsNumberOf scope rows (Sum parts)) g r after
  unknown_sum parts unknown h =
      makes_as HasNumber (IsSumOf scope rows parts) (IsNumberOf scope rows (Sum parts)) (sum_walk scope rows parts g) (number_of scope rows (Sum parts) g) g after r (sym (number-Sum scope rows parts g unknown))
      (λ id world v is fit has. is fit (has-Sum scope parts has) ∙ ap number (sym (value-Sum (combination_in v rows) parts))) h

  pub unknown_product : (factors : List Expr) → is_unknown scope (Product factors) ≡ true → Makes (product_walk scope rows factors g) HasNumber (IsProductOf scope rows factors) g r after → Makes (number_of scope rows (Product factors) g) HasNumber (IsNumberOf scope rows (Product factors)) g r after
  unknown_product factors unknown h =
      makes_as HasNumber (IsProductOf scope rows factors) (IsNumberOf scope rows (Product factors)) (product_walk scope rows factors g) (number_of scope rows (Product factors) g) g after r (sym (number-Product scope rows factors g unknown))
      (λ id world v is fit has. is fit (has-Product scope factors has) ∙ sym (one_unknown scope (factor_on (combination_in v rows)) factors has unknown) ∙ ap number (sym (value-Product (combination_in v rows) factors))) h

  module _ (part : Expr) (mid : Graph) (id : ℕ) where
    minus_one : (n : ℤ) → negsuc 0 *ℤ n ≡ neg_ℤ n
    minus_one n = grind (arith, ints)

    size_is : (n : ℤ) → (if int_lt n (pos 0) then neg_ℤ n else n) ≡ pos (unsigned_abs n)
    size_is n = by_test (int_lt n (pos 0)) refl
      where
        by_test : (below : Bool) → int_lt n (pos 0) ≡ below → (if below then neg_ℤ n else n) ≡ pos (unsigned_abs n)
        by_test true e = grind (arith, ints)
        by_test false e = grind (arith, ints)

    pub unknown_neg : is_unknown scope (Neg part) ≡ true → Makes (number_of scope rows part g) HasNumber (IsNumberOf scope rows part) g (Ok id) mid → Makes (times (negsuc 0) id mid) HasNumber (IsTimes (negsuc 0) id) mid r after → Makes (number_of scope rows (Neg part) g) HasNumber (IsNumberOf scope rows (Neg part)) g r after
    unknown_neg unknown h k =
        makes_is HasNumber (IsNumberOf scope rows (Neg part)) (number_of scope rows part g >>= times (negsuc 0)) (number_of scope rows (Neg part) g) g after r (sym (number-Neg scope rows part g unknown))
        (makes_on HasNumber (IsNumberOf scope rows part) HasNumber (IsNumberOf scope rows (Neg part)) (IsTimes (negsuc 0) id) (number_of scope rows part g) (times (negsuc 0)) g mid id after r
        (λ made world v is e fit has. e ∙ minus_one (v id) ∙ ap neg_ℤ (is fit (has-Neg scope part has)) ∙ ap number (sym (value-Neg (combination_in v rows) part))) h k)

    pub unknown_abs : is_unknown scope (Abs part) ≡ true → Makes (number_of scope rows part g) HasNumber (IsNumberOf scope rows part) g (Ok id) mid → Makes (by_rule (rule.abs id) mid) HasNumber (λ made _ v. v made ≡ (if int_lt (v id) (pos 0) then neg_ℤ (v id) else v id)) mid r after
        → Makes (number_of scope rows (Abs part) g) HasNumber (IsNumberOf scope rows (Abs part)) g r after
    unknown_abs unknown h k =
        makes_is HasNumber (IsNumberOf scope rows (Abs part)) (number_of scope rows part g >>= λ id g. by_rule (rule.abs id) g) (number_of scope rows (Abs part) g) g after r (sym (number-Abs scope rows part g unknown))
        (makes_on HasNumber (IsNumberOf scope rows part) HasNumber (IsNumberOf scope rows (Abs part)) (λ made _ v. v made ≡ (if int_lt (v id) (pos 0) then neg_ℤ (v id) else v id)) (number_of scope rows part g) (λ id g. by_rule (rule.abs id) g) g mid id after r
        (λ made world v is e fit has. e ∙ size_is (v id) ∙ ap (λ (n : ℤ). pos (unsigned_abs n)) (is fit (has-Abs scope part has)) ∙ ap number (sym (value-Abs (combination_in v rows) part))) h k)

  module _ (part : Expr) (e : WalkFault) where
    pub neg_stop : is_unknown scope (Neg part) ≡ true → Makes (number_of scope rows part g) HasNumber (IsNumberOf scope rows part) g (Err e) after → Makes (number_of scope rows (Neg part) g) HasNumber (IsNumberOf scope rows (Neg part)) g (Err e) after
    neg_stop unknown h =
        makes_is HasNumber (IsNumberOf scope rows (Neg part)) (number_of scope rows part g >>= times (negsuc 0)) (number_of scope rows (Neg part) g) g after (Err e) (sym (number-Neg scope rows part g unknown))
        (makes_stop HasNumber (IsNumberOf scope rows part) HasNumber (IsNumberOf scope rows (Neg part)) (number_of scope rows part g) (times (negsuc 0)) g after e h)

    pub abs_stop : is_unknown scope (Abs part) ≡ true → Makes (number_of scope rows part g) HasNumber (IsNumberOf scope rows part) g (Err e) after → Makes (number_of scope rows (Abs part) g) HasNumber (IsNumberOf scope rows (Abs part)) g (Err e) after
    abs_stop unknown h =
        makes_is HasNumber (IsNumberOf scope rows (Abs part)) (number_of scope rows part g >>= λ id g. by_rule (rule.abs id) g) (number_of scope rows (Abs part) g) g after (Err e) (sym (number-Abs scope rows part g unknown))
        (makes_stop HasNumber (IsNumberOf scope rows part) HasNumber (IsNumberOf scope rows (Abs part)) (number_of scope rows part g) (λ id g. by_rule (rule.abs id) g) g after e h)

-- an expression by its variant
pub of_variant : (scope : Scope) (rows : List SymRow) (e e' : Expr) (g after : Graph) (r : Result ℕ WalkFault) → e ≡ e' → is_unknown scope e ≡ true → (is_unknown scope e' ≡ true → Makes (number_of scope rows e' g) HasNumber (IsNumberOf scope rows e') g r after)
    → Makes (number_of scope rows e g) HasNumber (IsNumberOf scope rows e) g r after
of_variant scope rows e e' g after r is unknown h =
    subst (λ (e : Expr). Makes (number_of scope rows e g) HasNumber (IsNumberOf scope rows e) g r after) (sym is) (h (sym (ap (is_unknown scope) is) ∙ unknown))

-- ---- sums

module _ (scope : Scope) (rows : List SymRow) (parts : List Signed) (g mid : Graph) where
  pub sum_then : (made items : List Scaled) (after : Graph) (r : Result ℕ WalkFault) → items ≡ made → Makes (each (part_walk scope rows) 0 parts g) (λ g made. All (IsPart g) made) (ArePartsOf scope rows parts) g (Ok made) mid → Makes (sum_made items mid) HasNumber (IsSumMade items) mid r after
      → Makes (sum_walk scope rows parts g) HasNumber (IsSumOf scope rows parts) g r after
  unfolding sum_walk
  sum_then made items after r same h k =
      makes_on (λ g made. All (IsPart g) made) (ArePartsOf scope rows parts) HasNumber (IsSumOf scope rows parts) (IsSumMade made) (each (part_walk scope rows) 0 parts g) sum_made g mid made after r
      (λ id world v are is fit has. is ∙ ap total (are fit has)) h (subst (λ (l : List Scaled). Makes (sum_made l mid) HasNumber (IsSumMade l) mid r after) same k)

  pub sum_stop : (e : WalkFault) → Makes (each (part_walk scope rows) 0 parts g) (λ g made. All (IsPart g) made) (ArePartsOf scope rows parts) g (Err e) mid → Makes (sum_walk scope rows parts g) HasNumber (IsSumOf scope rows parts) g (Err e) mid
  unfolding sum_walk
  sum_stop e h = makes_stop (λ g made. All (IsPart g) made) (ArePartsOf scope rows parts) HasNumber (IsSumOf scope rows parts) (each (part_walk scope rows) 0 parts g) sum_made g mid e h

-- what a part of a sum means
abbrev pub IsPartOf : Scope → List SymRow → Signed → Scaled → List ℤ → (ℕ → ℤ) → Type 0
IsPartOf scope rows part made numbers v = AreRowsFit scope rows → HasKind scope part.part → scaled_in v made ≡ part_on (combination_in v rows) part

module _ (scope : Scope) (rows : List SymRow) (part : Signed) (i : ℕ) (g after : Graph) where
  signed_value : (minus : Bool) (n : ℤ) → cond minus (negsuc 0) (pos 1) *ℤ n ≡ plain_values.signed minus n
  signed_value true n = grind (arith, ints)
  signed_value false n = grind (arith, ints)

  one_factor : (minus : Bool) → unsigned_abs (cond minus (negsuc 0) (pos 1)) ≤ 1
  one_factor true = omega arith
  one_factor false = omega arith

  abbrev PartMade : Result Scaled WalkFault → Type 0
  PartMade r = Makes (part_walk scope rows i part g) IsPart (IsPartOf scope rows part) g r after

  pub part_ok : (id : ℕ) (made : Scaled) → made ≡ signed part.minus id → Makes (number_of scope rows part.part g) HasNumber (IsNumberOf scope rows part.part) g (Ok id) after → PartMade (Ok made)
  part_ok id made same h =
      subst (λ (made : Scaled). PartMade (Ok made)) (sym same)
      (makes_on HasNumber (IsNumberOf scope rows part.part) IsPart (IsPartOf scope rows part) (λ made _ v. made ≡ signed part.minus id) (number_of scope rows part.part g) (λ id g. gives (signed part.minus id) g) g after id after (Ok (signed part.minus id))
      (λ made world v is same fit has. ap (scaled_in v) same ∙ signed_value part.minus (v id) ∙ ap (plain_values.signed part.minus) (is fit has)) h
      (makes_gives IsPart (λ made _ v. made ≡ signed part.minus id) (signed part.minus id) after (record { number = h.good; one = one_factor part.minus }) (λ l world later. refl)))

  pub part_err : (e : WalkFault) → Makes (number_of scope rows part.part g) HasNumber (IsNumberOf scope rows part.part) g (Err e) after → PartMade (Err e)
  part_err e h = makes_stop HasNumber (IsNumberOf scope rows part.part) IsPart (IsPartOf scope rows part) (number_of scope rows part.part g) (λ id g. gives (signed part.minus id) g) g after e h

-- the parts so far
module _ (scope : Scope) (rows : List SymRow) (parts : List Signed) where
  abbrev pub PartsSo : ℕ → List Scaled → List ℤ → (ℕ → ℤ) → Type 0
  PartsSo i made numbers v = AreRowsFit scope rows → All (λ part. HasKind scope part.part) parts → map (scaled_in v) made ≡ map (part_on (combination_in v rows)) (take i parts)

  pub parts_step : (i : ℕ) (part : Signed) (made : List Scaled) (one : Scaled) (numbers : List ℤ) (v : ℕ → ℤ) → i < length parts → part ≡ get_or parts i part → PartsSo i made numbers v → IsPartOf scope rows part one numbers v
      → PartsSo (i + 1) (made ++ one ∷ []) numbers v
  parts_step i part made one numbers v lt is so mine fit has =
      map-append (scaled_in v) made (one ∷ [])
      ∙ ap₂ (λ (l : List ℤ) (n : ℤ). l ++ n ∷ []) (so fit has) (mine fit (subst (λ (s : Signed). HasKind scope s.part) (sym is) (has i part lt)))
      ∙ sym (map-append (part_on (combination_in v rows)) (take i parts) (part ∷ []))
      ∙ ap (λ (l : List Signed). map (part_on (combination_in v rows)) l) (ap (λ (s : Signed). take i parts ++ s ∷ []) is ∙ sym (take_more parts i part lt))

  pub parts_end : (i : ℕ) (made : List Scaled) (numbers : List ℤ) (v : ℕ → ℤ) → length parts ≤ i → PartsSo i made numbers v → ArePartsOf scope rows parts made numbers v
  parts_end i made numbers v le so fit has = so fit has ∙ ap (map (part_on (combination_in v rows))) (take_all i parts le)

pub part_kept : (g h : Graph) (part : Scaled) → Keeps g h → IsPart g part → IsPart h part
part_kept g h part kept is = record { number = number_kept g h part.number kept is.number; one = is.one }

-- ---- products

module _ (scope : Scope) (rows : List SymRow) (factors : List Expr) (g : Graph) where
  pub product_err : (w : Wide) → fixed_product scope rows factors ≡ Err w → Makes (product_walk scope rows factors g) HasNumber (IsProductOf scope rows factors) g (Err (fault.Wide w.number)) g
  unfolding product_walk
  product_err w is = record { follows = λ ne. ap (λ (r : Result ℤ Wide). told r g >>= λ factor g. first_unknown scope rows factors g >>= λ id g. times factor id g) is; kept = keeps_same g; good = tt; means = tt }

  walk_is : (factor : ℤ) → fixed_product scope rows factors ≡ Ok factor → product_walk scope rows factors g ≡ (first_unknown scope rows factors g >>= times factor)
  unfolding product_walk
  walk_is factor is = ap (λ (r : Result ℤ Wide). told r g >>= λ factor g. first_unknown scope rows factors g >>= λ id g. times factor id g) is

  abbrev fixed_ones : List Expr
  fixed_ones = filter (λ factor. not (is_unknown scope factor)) factors

  fixed_same : (v w : ℕ → ℤ) → AreRowsFit scope rows → (l : List Expr) → map (factor_on (combination_in v rows)) (filter (λ factor. not (is_unknown scope factor)) l) ≡ map (factor_on (combination_in w rows)) (filter (λ factor. not (is_unknown scope factor)) l)
  fixed_same v w fit [] = refl
  fixed_same v w fit (e ∷ l) = by_test (is_unknown scope e) refl (fixed_same v w fit l)
    where
      by_test : (b : Bool) → is_unknown scope e ≡ b → map (factor_on (combination_in v rows)) (filter (λ factor. not (is_unknown scope factor)) l) ≡ map (factor_on (combination_in w rows)) (filter (λ factor. not (is_unknown scope factor)) l)
          → map (factor_on (combination_in v rows)) (filter (λ factor. not (is_unknown scope factor)) (e ∷ l)) ≡ map (factor_on (combination_in w rows)) (filter (λ factor. not (is_unknown scope factor)) (e ∷ l))
      by_test true b more = rw b more
      by_test false b more = rw b (ap₂ (λ (n : ℤ) (k : List ℤ). n ∷ k) (ap number (fixed_value scope rows fit v w e b)) more)

  fixed_is : (factor : ℤ) → fixed_product scope rows factors ≡ Ok factor → product (map (factor_on (fixed_rows rows)) fixed_ones) ≡ factor
  unfolding fixed_product
  fixed_is factor is =
      ap number (sym (value-Product (fixed_rows rows) fixed_ones)) ∙ plain_value (fixed_rows rows) (Product fixed_ones) factor (plain-Product (fixed_rows rows) fixed_ones ∙ is)

  pub product_ok : (factor m : ℤ) (id : ℕ) (mid after : Graph) (r : Result ℕ WalkFault) → fixed_product scope rows factors ≡ Ok factor → m ≡ factor → Makes (first_unknown scope rows factors g) HasNumber (IsFirstOf scope rows factors) g (Ok id) mid → Makes (times m id mid) HasNumber (IsTimes m id) mid r after
      → Makes (product_walk scope rows factors g) HasNumber (IsProductOf scope rows factors) g r after
  product_ok factor m id mid after r is same h k =
      makes_is HasNumber (IsProductOf scope rows factors) (first_unknown scope rows factors g >>= times factor) (product_walk scope rows factors g) g after r (sym (walk_is factor is))
      (makes_on HasNumber (IsFirstOf scope rows factors) HasNumber (IsProductOf scope rows factors) (IsTimes factor id) (first_unknown scope rows factors g) (times factor) g mid id after r
      (λ made world v first e fit has. e ∙ ap₂ (λ (m n : ℤ). m *ℤ n) (sym (fixed_is factor is) ∙ ap product (fixed_same (λ id. pos 0) v fit factors)) (first fit has)) h (subst (λ (n : ℤ). Makes (times n id mid) HasNumber (IsTimes n id) mid r after) same k))

  pub product_stop : (factor : ℤ) (after : Graph) (e : WalkFault) → fixed_product scope rows factors ≡ Ok factor → Makes (first_unknown scope rows factors g) HasNumber (IsFirstOf scope rows factors) g (Err e) after → Makes (product_walk scope rows factors g) HasNumber (IsProductOf scope rows factors) g (Err e) after
  product_stop factor after e is h =
      makes_is HasNumber (IsProductOf scope rows factors) (first_unknown scope rows factors g >>= times factor) (product_walk scope rows factors g) g after (Err e) (sym (walk_is factor is))
      (makes_stop HasNumber (IsFirstOf scope rows factors) HasNumber (IsProductOf scope rows factors) (first_unknown scope rows factors g) (times factor) g after e h)

  -- the first unknown factor is met, behind others that are fixed
  pub first_found : (i : ℕ) (factor : Expr) (after : Graph) (r : Result ℕ WalkFault) → i < length factors → factor ≡ get_or factors i factor → is_unknown scope factor ≡ true → filter (is_unknown scope) (drop i factors) ≡ filter (is_unknown scope) factors
      → Makes (number_of scope rows factor g) HasNumber (IsNumberOf scope rows factor) g r after → Makes (first_unknown scope rows factors g) HasNumber (IsFirstOf scope rows factors) g r after
  unfolding first_unknown
  first_found i factor after r lt at unknown left h =
      let found : factor ∷ filter (is_unknown scope) (drop (i + 1) factors) ≡ filter (is_unknown scope) factors = sym (rw (drop_more factors i factor lt, ← at, unknown) refl) ∙ left in
      makes_as HasNumber (IsNumberOf scope rows factor) (IsFirstOf scope rows factors) (number_of scope rows factor g) (first_of (map (number_of scope rows) (filter (is_unknown scope) factors)) g) g after r
      (ap (λ (l : List Expr). first_of (map (number_of scope rows) l) g) found)
      (λ id world v is fit has. is fit (subst (HasKind scope) (sym at) (has i factor lt)) ∙ ap (λ (l : List Expr). first_number (map (factor_on (combination_in v rows)) l)) found) h

  pub first_missing : (i : ℕ) (after : Graph) (r : Result ℕ WalkFault) → length factors ≤ i → filter (is_unknown scope) (drop i factors) ≡ filter (is_unknown scope) factors → Makes (by_rule (rule.constant (pos 0)) g) HasNumber (λ id _ v. v id ≡ pos 0) g r after
      → Makes (first_unknown scope rows factors g) HasNumber (IsFirstOf scope rows factors) g r after
  unfolding first_unknown
  first_missing i after r le left h =
      let none : [] ≡ filter (is_unknown scope) factors = sym (ap (filter (is_unknown scope)) (drop_all i factors le)) ∙ left in
      makes_as HasNumber (λ id _ v. v id ≡ pos 0) (IsFirstOf scope rows factors) (by_rule (rule.constant (pos 0)) g) (first_of (map (number_of scope rows) (filter (is_unknown scope) factors)) g) g after r
      (ap (λ (l : List Expr). first_of (map (number_of scope rows) l) g) none)
      (λ id world v is fit has. is ∙ ap (λ (l : List Expr). first_number (map (factor_on (combination_in v rows)) l)) none) h

pub none_found : (scope : Scope) (factors : List Expr) (i : ℕ) (factor : Expr) → i < length factors → factor ≡ get_or factors i factor → is_unknown scope factor ≡ false → filter (is_unknown scope) (drop i factors) ≡ filter (is_unknown scope) factors
    → filter (is_unknown scope) (drop (i + 1) factors) ≡ filter (is_unknown scope) factors
none_found scope factors i factor lt at fixed left = sym (rw (drop_more factors i factor lt, ← at, fixed) refl) ∙ left
