-- expressions that have a kind: which parts are unknown, and which are numbers
use Rattle.std.proofs.Common.{◌≡◌, ℕ, ℤ, pos, neg_ℤ, ◌*ℤ◌, Bool, true, false, not, ◌||◌, ◌&&◌, List, [], ◌∷◌, map, filter, cond, refl, sym, ◌∙◌, ap, ap₂, subst, All, Option, Some, None}
use Rattle.std.specs.Prelude.{if◌then◌else◌, nat_le, unsigned_abs, ◌^◌}
use Rattle.std.specs.List.{list_any}
use Rattle.std.proofs.Math.IntN.{*ℤ_comm}
use Rattle.std.proofs.lemmas.List.Elements.{All-nil, All-cons}
use denote.Hole.Carrier.{roll}
use Rattle.base_kit.specs.declared.value.Value.{Value}
use Rattle.base_kit.specs.declared.value.Value.TheVariants as values
use Rattle.tiql_query.specs.Kinds.{Scope, Kind, kind_at, with_part, arithmetic, with_factor, multiplied, kind}
use Rattle.tiql_query.specs.Kinds as kinds
use Rattle.tiql_query.specs.declared.expression.Signed.{Signed, roll-Signed}
use Rattle.tiql_query.specs.declared.expression.Expr.{Expr}
use Rattle.tiql_query.specs.declared.expression.Expr.TheOpen.{Expr-F}
use Rattle.tiql_query.specs.declared.expression.Expr.TheFolds.{map-Expr, ind-Expr}
use Rattle.tiql_query.specs.declared.expression.Expr.TheVariants.{Int}
use Rattle.tiql_query.specs.declared.expression.Expr.TheViews.{Sum, Product, Neg, Abs, roll-Expr}
use Rattle.row_values.specs.Values.{number, total, product, value}
use Rattle.row_values.specs.Values as plain
use Rattle.prov_fold.proofs.Rings.{*ℤ_assoc}
use Rattle.view_select.specs.Asking.{is_unknown}
use Rattle.view_select.proofs.Conditions.{unknown-Int, unknown-Text, unknown-Column, unknown-Sum, unknown-Product, unknown-Neg, unknown-Abs}
use Rattle.sym_rows.specs.declared.row.SymRow.{SymRow}
use Rattle.sym_values.specs.Meanings.{AreRowsFit, HasKind, combination_in}
use Rattle.sym_values.specs.Steps.{first_number, part_on}
use Rattle.sym_values.proofs.Equations.{kind-Int, kind-Text, kind-Column, kind-Sum, kind-Product, kind-Neg, kind-Abs, value-Int, value-Text, value-Column, value-Sum, value-Product, value-Neg, value-Abs}
use Rattle.sym_values.proofs.Fits.{fixed_there, unknown_kind_at, unknown_number_at, number_there}
use Rattle.sym_values.proofs.PlainValues.{cell_value}

-- ---- what parts have, where the whole has a kind

no_kind : {X : Type 0} (it : Kind) → ◌≡◌ {A = Option Kind} None (Some it) → X
no_kind it e = absurd (let k : ◌≡◌ {A = Option Kind} None (Some it) = e in cc)

same_kind : (a b : Kind) → ◌≡◌ {A = Option Kind} (Some a) (Some b) → a ≡ b
same_kind a b e = cc

-- one part before others
record HasFirst (before : List (Option Kind) → Option Kind) (part : Option Kind) (rest : List (Option Kind)) (it : Kind) : Type 0 where
  one : Kind
  others : Kind
  is : part ≡ Some one
  more : before rest ≡ Some others
  text : it.text ≡ false
  unknown : it.unknown ≡ (one.unknown || others.unknown)

first_part : (part : Option Kind) (rest : List (Option Kind)) (it : Kind) → arithmetic (part ∷ rest) ≡ Some it → HasFirst arithmetic part rest it
unfolding arithmetic
first_part None rest it e = no_kind it e
first_part (Some one) rest it e = by_rest (arithmetic rest) refl e
  where
    by_text : (others : Kind) (text : Bool) → arithmetic rest ≡ Some others → (if text then None else Some (kinds.number (one.unknown || others.unknown))) ≡ Some it → HasFirst arithmetic (Some one) rest it
    by_text others true r h = no_kind it h
    by_text others false r h = let same = same_kind (kinds.number (one.unknown || others.unknown)) it h in record { one = one; others = others; is = refl; more = r; text = sym (ap (λ (k : Kind). k.text) same); unknown = sym (ap (λ (k : Kind). k.unknown) same) }

    by_rest : (others : Option Kind) → arithmetic rest ≡ others → with_part one others ≡ Some it → HasFirst arithmetic (Some one) rest it
    by_rest None r h = no_kind it h
    by_rest (Some others) r h = by_text others one.text r h

record HasFactor (part : Option Kind) (rest : List (Option Kind)) (it : Kind) : Type 0 where
  first : HasFirst multiplied part rest it
  apart : (first.one.unknown && first.others.unknown) ≡ false

first_factor : (part : Option Kind) (rest : List (Option Kind)) (it : Kind) → multiplied (part ∷ rest) ≡ Some it → HasFactor part rest it
unfolding multiplied
first_factor None rest it e = no_kind it e
first_factor (Some one) rest it e = by_rest (multiplied rest) refl e
  where
    by_tests : (others : Kind) (text both : Bool) → one.unknown && others.unknown ≡ both → multiplied rest ≡ Some others → (if text || both then None else Some (kinds.number (one.unknown || others.unknown))) ≡ Some it → HasFactor (Some one) rest it
    by_tests others true both b r h = no_kind it h
    by_tests others false true b r h = no_kind it h
    by_tests others false false b r h =
        let same = same_kind (kinds.number (one.unknown || others.unknown)) it h in
        record { first = record { one = one; others = others; is = refl; more = r; text = sym (ap (λ (k : Kind). k.text) same); unknown = sym (ap (λ (k : Kind). k.unknown) same) }; apart = b }

    by_rest : (others : Option Kind) → multiplied rest ≡ others → with_factor one others ≡ Some it → HasFactor (Some one) rest it
    by_rest None r h = no_kind it h
    by_rest (Some others) r h = by_tests others one.text (one.unknown && others.unknown) refl r h

module _ (scope : Scope) where
  parts_have : (parts : List Signed) (it : Kind) → arithmetic (map (λ part. kind scope part.part) parts) ≡ Some it → All (λ part. HasKind scope part.part) parts
  parts_have [] it e = All-nil (λ part. HasKind scope part.part)
  parts_have (part ∷ parts) it e =
      let first = first_part (kind scope part.part) (map (λ part. kind scope part.part) parts) it e in
      All-cons (λ part. HasKind scope part.part) part parts (first.one, first.is) (parts_have parts first.others first.more)

  factors_have : (factors : List Expr) (it : Kind) → multiplied (map (kind scope) factors) ≡ Some it → All (HasKind scope) factors
  factors_have [] it e = All-nil (HasKind scope)
  factors_have (factor ∷ factors) it e =
      let first = (first_factor (kind scope factor) (map (kind scope) factors) it e).first in
      All-cons (HasKind scope) factor factors (first.one, first.is) (factors_have factors first.others first.more)

  pub has-Sum : (parts : List Signed) → HasKind scope (Sum parts) → All (λ part. HasKind scope part.part) parts
  has-Sum parts has = parts_have parts has.0 (sym (kind-Sum scope parts) ∙ has.1)

  pub has-Product : (factors : List Expr) → HasKind scope (Product factors) → All (HasKind scope) factors
  has-Product factors has = factors_have factors has.0 (sym (kind-Product scope factors) ∙ has.1)

  pub has-Neg : (part : Expr) → HasKind scope (Neg part) → HasKind scope part
  has-Neg part has = let first = first_part (kind scope part) [] has.0 (sym (kind-Neg scope part) ∙ has.1) in (first.one, first.is)

  pub has-Abs : (part : Expr) → HasKind scope (Abs part) → HasKind scope part
  has-Abs part has = let first = first_part (kind scope part) [] has.0 (sym (kind-Abs scope part) ∙ has.1) in (first.one, first.is)

  -- ---- an expression is unknown exactly where its kind is

  abbrev IsKnown : Expr → Type 0
  IsKnown e = (it : Kind) → kind scope e ≡ Some it → is_unknown scope e ≡ it.unknown

  abbrev IsKnownPart : Signed → Type 0
  IsKnownPart s = IsKnown s.part

  abbrev Known : Type 0
  Known = (e : Expr) × IsKnown e

  abbrev KnownPart : Type 0
  KnownPart = (s : Signed) × IsKnownPart s

  none_left : (before : List (Option Kind) → Option Kind) (it : Kind) → before [] ≡ Some (kinds.number false) → before [] ≡ Some it → false ≡ it.unknown
  none_left before it e is = ap (λ (k : Kind). k.unknown) (same_kind (kinds.number false) it (sym e ∙ is))

  known_parts : (ys : List KnownPart) (it : Kind) → arithmetic (map (λ part. kind scope part.part) (map (λ y. y.0) ys)) ≡ Some it → list_any (λ part. is_unknown scope part.part) (map (λ y. y.0) ys) ≡ it.unknown
  unfolding arithmetic
  known_parts [] it e = ap (λ (k : Kind). k.unknown) (same_kind (kinds.number false) it e)
  known_parts (y ∷ ys) it e =
      let first = first_part (kind scope y.0.part) (map (λ part. kind scope part.part) (map (λ y. y.0) ys)) it e in
      ap₂ (λ (b c : Bool). b || c) (y.1 first.one first.is) (known_parts ys first.others first.more) ∙ sym first.unknown

  known_factors : (ys : List Known) (it : Kind) → multiplied (map (kind scope) (map (λ y. y.0) ys)) ≡ Some it → list_any (is_unknown scope) (map (λ y. y.0) ys) ≡ it.unknown
  unfolding multiplied
  known_factors [] it e = ap (λ (k : Kind). k.unknown) (same_kind (kinds.number false) it e)
  known_factors (y ∷ ys) it e =
      let first = (first_factor (kind scope y.0) (map (kind scope) (map (λ y. y.0) ys)) it e).first in
      ap₂ (λ (b c : Bool). b || c) (y.1 first.one first.is) (known_factors ys first.others first.more) ∙ sym first.unknown

  known_one : (e : Expr) (it : Kind) → IsKnown e → arithmetic (kind scope e ∷ []) ≡ Some it → is_unknown scope e ≡ it.unknown
  unfolding arithmetic
  known_one e it known is =
      let first = first_part (kind scope e) [] it is in
      known first.one first.is ∙ or_false first.one.unknown ∙ ap (λ (k : Kind). first.one.unknown || k.unknown) (same_kind (kinds.number false) first.others first.more) ∙ sym first.unknown
    where
      or_false : (b : Bool) → b ≡ (b || false)
      or_false true = refl
      or_false false = refl

  int_kind : (small : Bool) (it : Kind) → (if small then Some (kinds.number false) else None) ≡ Some it → false ≡ it.unknown
  int_kind true it e = ap (λ (k : Kind). k.unknown) (same_kind (kinds.number false) it e)
  int_kind false it e = no_kind it e

  known_layer : (y : Expr-F Known KnownPart) → IsKnown (roll-Expr (map-Expr Known KnownPart Expr Signed (λ e. e.0) (λ s. s.0) y))
  unfolding roll-Expr roll
  known_layer (Expr-F.Int n) = λ it e. unknown-Int scope n ∙ int_kind (nat_le (unsigned_abs n) (10 ^ 15)) it (sym (kind-Int scope n) ∙ e)
  known_layer (Expr-F.Text t) = λ it e. unknown-Text scope t ∙ ap (λ (k : Kind). k.unknown) (same_kind (record { text = true; unknown = false }) it (sym (kind-Text scope t) ∙ e))
  known_layer (Expr-F.Column at) = λ it e. unknown-Column scope at ∙ unknown_kind_at scope [] at it (sym (kind-Column scope at) ∙ e)
  known_layer (Expr-F.Sum ys) = λ it e. unknown-Sum scope (map (λ y. y.0) ys) ∙ known_parts ys it (sym (kind-Sum scope (map (λ y. y.0) ys)) ∙ e)
  known_layer (Expr-F.Product ys) = λ it e. unknown-Product scope (map (λ y. y.0) ys) ∙ known_factors ys it (sym (kind-Product scope (map (λ y. y.0) ys)) ∙ e)
  known_layer (Expr-F.Neg y) = λ it e. unknown-Neg scope y.0 ∙ known_one y.0 it y.1 (sym (kind-Neg scope y.0) ∙ e)
  known_layer (Expr-F.Abs y) = λ it e. unknown-Abs scope y.0 ∙ known_one y.0 it y.1 (sym (kind-Abs scope y.0) ∙ e)

  pub unknown_kind : (e : Expr) (it : Kind) → kind scope e ≡ Some it → is_unknown scope e ≡ it.unknown
  unknown_kind = ind-Expr IsKnown IsKnownPart
      (λ x y is. subst (λ z. IsKnown (roll-Expr z)) is (known_layer y))
      (λ x y is. subst (λ z. IsKnownPart (roll-Signed z)) is y.part.1)

  -- ---- products with one unknown factor

  module _ (f : Expr → ℤ) where
    abbrev fixed_of : List Expr → List Expr
    fixed_of factors = filter (λ factor. not (is_unknown scope factor)) factors

    abbrev unknown_of : List Expr → List Expr
    unknown_of factors = filter (is_unknown scope) factors

    none_unknown : (factors : List Expr) → list_any (is_unknown scope) factors ≡ false → fixed_of factors ≡ factors
    none_unknown [] e = refl
    none_unknown (factor ∷ factors) e = by_test (is_unknown scope factor) refl (none_unknown factors)
      where
        by_test : (b : Bool) → is_unknown scope factor ≡ b → (list_any (is_unknown scope) factors ≡ false → fixed_of factors ≡ factors) → fixed_of (factor ∷ factors) ≡ factor ∷ factors
        by_test true b more = absurd (let k : true ≡ false = sym (ap (λ (c : Bool). c || list_any (is_unknown scope) factors) b) ∙ e in cc)
        by_test false b more = ap (λ (c : Bool). cond (not c) (factor ∷ fixed_of factors) (fixed_of factors)) b ∙ ap (λ (l : List Expr). factor ∷ l) (more (sym (ap (λ (c : Bool). c || list_any (is_unknown scope) factors) b) ∙ e))

    split : (factors : List Expr) (it : Kind) → multiplied (map (kind scope) factors) ≡ Some it → list_any (is_unknown scope) factors ≡ true → product (map f factors) ≡ product (map f (fixed_of factors)) *ℤ first_number (map f (unknown_of factors))
    split [] it e any = absurd (let k : false ≡ true = any in cc)
    split (factor ∷ factors) it e any = by_test (is_unknown scope factor) refl (λ any. split factors there.first.others there.first.more any)
      where
        there : HasFactor (kind scope factor) (map (kind scope) factors) it
        there = first_factor (kind scope factor) (map (kind scope) factors) it e

        rest_unknown : list_any (is_unknown scope) factors ≡ there.first.others.unknown
        rest_unknown = sym (unknown-Product scope factors) ∙ unknown_kind (Product factors) there.first.others (kind-Product scope factors ∙ there.first.more)

        by_test : (b : Bool) → is_unknown scope factor ≡ b → (list_any (is_unknown scope) factors ≡ true → product (map f factors) ≡ product (map f (fixed_of factors)) *ℤ first_number (map f (unknown_of factors)))
            → product (map f (factor ∷ factors)) ≡ product (map f (fixed_of (factor ∷ factors))) *ℤ first_number (map f (unknown_of (factor ∷ factors)))
        by_test true b more =
            let none : list_any (is_unknown scope) factors ≡ false = rest_unknown ∙ ap (λ (c : Bool). c && there.first.others.unknown) (sym b ∙ unknown_kind factor there.first.one there.first.is) ∙ there.apart in
            *ℤ_comm (f factor) (product (map f factors)) ∙ ap (λ (l : List Expr). product (map f l) *ℤ f factor) (sym (none_unknown factors none))
            ∙ sym (ap (λ (c : Bool). product (map f (cond (not c) (factor ∷ fixed_of factors) (fixed_of factors))) *ℤ first_number (map f (cond c (factor ∷ unknown_of factors) (unknown_of factors)))) b)
        by_test false b more =
            ap (λ (n : ℤ). f factor *ℤ n) (more (sym (ap (λ (c : Bool). c || list_any (is_unknown scope) factors) b) ∙ any)) ∙ sym (*ℤ_assoc (f factor) (product (map f (fixed_of factors))) (first_number (map f (unknown_of factors))))
            ∙ sym (ap (λ (c : Bool). product (map f (cond (not c) (factor ∷ fixed_of factors) (fixed_of factors))) *ℤ first_number (map f (cond c (factor ∷ unknown_of factors) (unknown_of factors)))) b)

    pub one_unknown : (factors : List Expr) → HasKind scope (Product factors) → is_unknown scope (Product factors) ≡ true → product (map f factors) ≡ product (map f (fixed_of factors)) *ℤ first_number (map f (unknown_of factors))
    one_unknown factors has unknown = split factors has.0 (sym (kind-Product scope factors) ∙ has.1) (sym (unknown-Product scope factors) ∙ unknown)

module _ (scope : Scope) (rows : List SymRow) (fit : AreRowsFit scope rows) where
  -- ---- a fixed expression is the same, whatever the values of the formulas

  module _ (v w : ℕ → ℤ) where
    abbrev IsSame : Expr → Type 0
    IsSame e = is_unknown scope e ≡ false → value (combination_in v rows) e ≡ value (combination_in w rows) e

    abbrev IsSamePart : Signed → Type 0
    IsSamePart s = IsSame s.part

    abbrev Same : Type 0
    Same = (e : Expr) × IsSame e

    abbrev SamePart : Type 0
    SamePart = (s : Signed) × IsSamePart s

    neither : (a b : Bool) → (a || b) ≡ false → (a ≡ false) × (b ≡ false)
    neither true b e = absurd (let k : true ≡ false = e in cc)
    neither false b e = (refl, e)

    same_parts : (ys : List SamePart) → list_any (λ part. is_unknown scope part.part) (map (λ y. y.0) ys) ≡ false → map (part_on (combination_in v rows)) (map (λ y. y.0) ys) ≡ map (part_on (combination_in w rows)) (map (λ y. y.0) ys)
    same_parts [] e = refl
    same_parts (y ∷ ys) e =
        let both = neither (is_unknown scope y.0.part) (list_any (λ part. is_unknown scope part.part) (map (λ y. y.0) ys)) e in
        ap₂ (λ (n : ℤ) (l : List ℤ). n ∷ l) (ap (λ (x : Value). plain.signed y.0.minus (number x)) (y.1 both.0)) (same_parts ys both.1)

    same_factors : (ys : List Same) → list_any (is_unknown scope) (map (λ y. y.0) ys) ≡ false → map (λ factor. number (value (combination_in v rows) factor)) (map (λ y. y.0) ys) ≡ map (λ factor. number (value (combination_in w rows) factor)) (map (λ y. y.0) ys)
    same_factors [] e = refl
    same_factors (y ∷ ys) e =
        let both = neither (is_unknown scope y.0) (list_any (is_unknown scope) (map (λ y. y.0) ys)) e in
        ap₂ (λ (n : ℤ) (l : List ℤ). n ∷ l) (ap number (y.1 both.0)) (same_factors ys both.1)

    same_layer : (y : Expr-F Same SamePart) → IsSame (roll-Expr (map-Expr Same SamePart Expr Signed (λ e. e.0) (λ s. s.0) y))
    unfolding roll-Expr roll
    same_layer (Expr-F.Int n) = λ fixed. value-Int (combination_in v rows) n ∙ sym (value-Int (combination_in w rows) n)
    same_layer (Expr-F.Text t) = λ fixed. value-Text (combination_in v rows) t ∙ sym (value-Text (combination_in w rows) t)
    same_layer (Expr-F.Column at) = λ fixed.
        value-Column (combination_in v rows) at ∙ cell_value v rows at ∙ fixed_there scope rows at fit (sym (unknown-Column scope at) ∙ fixed) v w ∙ sym (cell_value w rows at) ∙ sym (value-Column (combination_in w rows) at)
    same_layer (Expr-F.Sum ys) = λ fixed.
        value-Sum (combination_in v rows) (map (λ y. y.0) ys) ∙ ap (λ (l : List ℤ). values.Int (total l)) (same_parts ys (sym (unknown-Sum scope (map (λ y. y.0) ys)) ∙ fixed)) ∙ sym (value-Sum (combination_in w rows) (map (λ y. y.0) ys))
    same_layer (Expr-F.Product ys) = λ fixed.
        value-Product (combination_in v rows) (map (λ y. y.0) ys) ∙ ap (λ (l : List ℤ). values.Int (product l)) (same_factors ys (sym (unknown-Product scope (map (λ y. y.0) ys)) ∙ fixed)) ∙ sym (value-Product (combination_in w rows) (map (λ y. y.0) ys))
    same_layer (Expr-F.Neg y) = λ fixed.
        value-Neg (combination_in v rows) y.0 ∙ ap (λ (x : Value). values.Int (neg_ℤ (number x))) (y.1 (sym (unknown-Neg scope y.0) ∙ fixed)) ∙ sym (value-Neg (combination_in w rows) y.0)
    same_layer (Expr-F.Abs y) = λ fixed.
        value-Abs (combination_in v rows) y.0 ∙ ap (λ (x : Value). values.Int (pos (unsigned_abs (number x)))) (y.1 (sym (unknown-Abs scope y.0) ∙ fixed)) ∙ sym (value-Abs (combination_in w rows) y.0)

    pub fixed_value : (e : Expr) → is_unknown scope e ≡ false → value (combination_in v rows) e ≡ value (combination_in w rows) e
    fixed_value = ind-Expr IsSame IsSamePart
        (λ x y is. subst (λ z. IsSame (roll-Expr z)) is (same_layer y))
        (λ x y is. subst (λ z. IsSamePart (roll-Signed z)) is y.part.1)

  -- ---- numbers

  abbrev AnyPart : Type 0
  AnyPart = (s : Signed) × Unit {0}

  abbrev IsNumberIfUnknown : Expr → Type 0
  IsNumberIfUnknown e = (it : Kind) → kind scope e ≡ Some it → is_unknown scope e ≡ true → it.text ≡ false

  abbrev AnyIfUnknown : Type 0
  AnyIfUnknown = (e : Expr) × IsNumberIfUnknown e

  sum_number : (parts : List (Option Kind)) (it : Kind) → arithmetic parts ≡ Some it → it.text ≡ false
  unfolding arithmetic
  sum_number [] it e = sym (ap (λ (k : Kind). k.text) (same_kind (kinds.number false) it e))
  sum_number (part ∷ parts) it e = (first_part part parts it e).text

  product_number : (factors : List (Option Kind)) (it : Kind) → multiplied factors ≡ Some it → it.text ≡ false
  unfolding multiplied
  product_number [] it e = sym (ap (λ (k : Kind). k.text) (same_kind (kinds.number false) it e))
  product_number (factor ∷ factors) it e = (first_factor factor factors it e).first.text

  unknown_layer : (y : Expr-F AnyIfUnknown AnyPart) → IsNumberIfUnknown (roll-Expr (map-Expr AnyIfUnknown AnyPart Expr Signed (λ e. e.0) (λ s. s.0) y))
  unfolding roll-Expr roll
  unknown_layer (Expr-F.Int n) = λ it e unknown. absurd (let k : false ≡ true = sym (unknown-Int scope n) ∙ unknown in cc)
  unknown_layer (Expr-F.Text t) = λ it e unknown. absurd (let k : false ≡ true = sym (unknown-Text scope t) ∙ unknown in cc)
  unknown_layer (Expr-F.Column at) = λ it e unknown. unknown_number_at scope rows at it fit (sym (kind-Column scope at) ∙ e) (sym (unknown-Column scope at) ∙ unknown)
  unknown_layer (Expr-F.Sum ys) = λ it e unknown. sum_number (map (λ part. kind scope part.part) (map (λ y. y.0) ys)) it (sym (kind-Sum scope (map (λ y. y.0) ys)) ∙ e)
  unknown_layer (Expr-F.Product ys) = λ it e unknown. product_number (map (kind scope) (map (λ y. y.0) ys)) it (sym (kind-Product scope (map (λ y. y.0) ys)) ∙ e)
  unknown_layer (Expr-F.Neg y) = λ it e unknown. sum_number (kind scope y.0 ∷ []) it (sym (kind-Neg scope y.0) ∙ e)
  unknown_layer (Expr-F.Abs y) = λ it e unknown. sum_number (kind scope y.0 ∷ []) it (sym (kind-Abs scope y.0) ∙ e)

  -- an expression with an unknown column is a number
  pub unknown_number : (e : Expr) (it : Kind) → kind scope e ≡ Some it → is_unknown scope e ≡ true → it.text ≡ false
  unknown_number = ind-Expr IsNumberIfUnknown (λ s. Unit {0})
      (λ x y is. subst (λ z. IsNumberIfUnknown (roll-Expr z)) is (unknown_layer y))
      (λ x y is. tt)

  module _ (v : ℕ → ℤ) where
    abbrev IsNumberIfSo : Expr → Type 0
    IsNumberIfSo e = (it : Kind) → kind scope e ≡ Some it → it.text ≡ false → value (combination_in v rows) e ≡ values.Int (number (value (combination_in v rows) e))

    abbrev AnyIfSo : Type 0
    AnyIfSo = (e : Expr) × IsNumberIfSo e

    as_number : (x : Value) (n : ℤ) → x ≡ values.Int n → x ≡ values.Int (number x)
    as_number x n e = e ∙ ap (λ (k : Value). values.Int (number k)) (sym e)

    number_layer : (y : Expr-F AnyIfSo AnyPart) → IsNumberIfSo (roll-Expr (map-Expr AnyIfSo AnyPart Expr Signed (λ e. e.0) (λ s. s.0) y))
    unfolding roll-Expr roll
    number_layer (Expr-F.Int n) = λ it e no_text. as_number (value (combination_in v rows) (Int n)) n (value-Int (combination_in v rows) n)
    number_layer (Expr-F.Text t) = λ it e no_text. absurd (let k : true ≡ false = ap (λ (k : Kind). k.text) (same_kind (record { text = true; unknown = false }) it (sym (kind-Text scope t) ∙ e)) ∙ no_text in cc)
    number_layer (Expr-F.Column at) = λ it e no_text.
        let is = value-Column (combination_in v rows) at ∙ cell_value v rows at in
        is ∙ number_there scope rows at it fit (sym (kind-Column scope at) ∙ e) no_text v ∙ ap (λ (k : Value). values.Int (number k)) (sym is)
    number_layer (Expr-F.Sum ys) = λ it e no_text. as_number (value (combination_in v rows) (Sum (map (λ y. y.0) ys))) (total (map (part_on (combination_in v rows)) (map (λ y. y.0) ys))) (value-Sum (combination_in v rows) (map (λ y. y.0) ys))
    number_layer (Expr-F.Product ys) = λ it e no_text. as_number (value (combination_in v rows) (Product (map (λ y. y.0) ys))) (product (map (λ factor. number (value (combination_in v rows) factor)) (map (λ y. y.0) ys))) (value-Product (combination_in v rows) (map (λ y. y.0) ys))
    number_layer (Expr-F.Neg y) = λ it e no_text. as_number (value (combination_in v rows) (Neg y.0)) (neg_ℤ (number (value (combination_in v rows) y.0))) (value-Neg (combination_in v rows) y.0)
    number_layer (Expr-F.Abs y) = λ it e no_text. as_number (value (combination_in v rows) (Abs y.0)) (pos (unsigned_abs (number (value (combination_in v rows) y.0)))) (value-Abs (combination_in v rows) y.0)

    -- an expression whose kind is a number is one
    pub number_value : (e : Expr) (it : Kind) → kind scope e ≡ Some it → it.text ≡ false → value (combination_in v rows) e ≡ values.Int (number (value (combination_in v rows) e))
    number_value = ind-Expr IsNumberIfSo (λ s. Unit {0})
        (λ x y is. subst (λ z. IsNumberIfSo (roll-Expr z)) is (number_layer y))
        (λ x y is. tt)
