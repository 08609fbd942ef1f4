-- single steps of plain values and of numbers that are made, which private contracts cite
use Rattle.std.specs.Prelude.{◌≡◌, ℕ, ℤ, pos, ◌*ℤ◌, ◌≤◌, unsigned_abs, not, if◌then◌else◌, List, [], ◌∷◌, map, filter, Option, Some, None, All, Result, Ok, Err}
use Rattle.tiql_query.specs.Kinds.{Scope}
use Rattle.tiql_query.specs.declared.expression.Expr.{Expr}
use Rattle.tiql_query.specs.declared.expression.Signed.{Signed}
use Rattle.row_values.specs.declared.fault.Wide.{Wide}
use Rattle.base_kit.specs.Asking.{and_then}
use Rattle.base_kit.specs.declared.value.Value.{Value}
use Rattle.base_kit.specs.declared.value.Value.TheVariants.{Int}
use Rattle.row_values.specs.Values.{Combination, number, value, total, product}
use Rattle.row_values.specs.Values as values
use Rattle.row_values.specs.Asked.{passes, within}
use Rattle.view_select.specs.Asking.{is_unknown}
use Rattle.prov_fold.specs.Graphs.{Graph, HasNumber}
use Rattle.prov_fold.specs.declared.span.Scaled.{Scaled}
use Rattle.prov_fold.specs.Rules as rule
use Rattle.sym_rows.specs.declared.row.Cell.{Cell}
use Rattle.sym_rows.specs.declared.row.SymRow.{SymRow}
use Rattle.sym_rows.specs.Cells.{cell_in}
use Rattle.sym_values.specs.Meanings.{AreRowsFit, HasKind, combination_in}
use Rattle.sym_values.specs.Numbers.{plain, fixed_rows, number_of, product_of, signed, times, first_of}
use Rattle.std.specs.Global.{Vec}
use Rattle.sym_rows.specs.declared.fault.WalkFault.{WalkFault}
use Rattle.sym_rows.specs.Walks.{Makes, Walk, gives, ◌>>=◌, each, by_rule, told}

-- a partial product with one more factor: one that passes stays
unfoldable pub next : ℤ → ℤ → ℤ
next partial n = if passes partial then partial else partial *ℤ n

-- the products that follow
abbrev pub run : ℤ → List ℤ → Result ℤ Wide
run partial [] = within partial
run partial (n ∷ ns) = run (next partial n) ns

-- a partial product with one more factor, where that is fixed
unfoldable pub with_fixed : Scope → List SymRow → Expr → ℤ → Result ℤ Wide
with_fixed scope rows factor partial = if is_unknown scope factor then Ok partial else and_then (plain (fixed_rows rows) factor) (λ n. Ok (next partial n))

-- the product of the fixed factors
unfoldable pub fixed_product : Scope → List SymRow → List Expr → Result ℤ Wide
fixed_product scope rows factors = product_of (map (plain (fixed_rows rows)) (filter (λ factor. not (is_unknown scope factor)) factors))

-- the first unknown factor
unfoldable pub first_unknown : Scope → List SymRow → List Expr → Walk ℕ
first_unknown scope rows factors g = first_of (map (number_of scope rows) (filter (is_unknown scope) factors)) g

-- a product with an unknown factor
unfoldable pub product_walk : Scope → List SymRow → List Expr → Walk ℕ
product_walk scope rows factors g = told (fixed_product scope rows factors) g >>= λ factor g. first_unknown scope rows factors g >>= λ id g. times factor id g

-- a part of a sum
abbrev pub part_walk : Scope → List SymRow → ℕ → Signed → Walk Scaled
part_walk scope rows i part g = number_of scope rows part.part g >>= λ id g. gives (signed part.minus id) g

-- a sum of parts that are made
abbrev pub sum_made : List Scaled → Walk ℕ
sum_made made g = by_rule (rule.sum (pos 0) made) g

-- a sum with an unknown part
unfoldable pub sum_walk : Scope → List SymRow → List Signed → Walk ℕ
sum_walk scope rows parts g = each (part_walk scope rows) 0 parts g >>= sum_made

-- ---- what the steps mean

-- a number is the plain value of a fixed expression
abbrev pub IsPlainOf : List SymRow → Expr → ℕ → List ℤ → (ℕ → ℤ) → Type 0
IsPlainOf rows part id numbers v = plain (fixed_rows rows) part ≡ Ok (v id)

-- what stands in a cell, 0 where it is not there
abbrev pub value_there : (ℕ → ℤ) → Option Cell → Value
value_there v None = Int (pos 0)
value_there v (Some cell) = cell_in v cell

-- a number is that of a cell
abbrev pub IsCellNumber : Option Cell → ℕ → List ℤ → (ℕ → ℤ) → Type 0
IsCellNumber cell id numbers v = v id ≡ number (value_there v cell)

-- a number is a factor times another
abbrev pub IsTimes : ℤ → ℕ → ℕ → List ℤ → (ℕ → ℤ) → Type 0
IsTimes factor id made numbers v = v made ≡ factor *ℤ v id

-- what a part of a sum is by the values of the formulas
abbrev pub scaled_in : (ℕ → ℤ) → Scaled → ℤ
scaled_in v part = part.factor *ℤ v part.number

-- a number is the sum of these parts
abbrev pub IsSumMade : List Scaled → ℕ → List ℤ → (ℕ → ℤ) → Type 0
IsSumMade made id numbers v = v id ≡ total (map (scaled_in v) made)

-- what a part of a sum is on a combination
abbrev pub part_on : Combination → Signed → ℤ
part_on rows part = values.signed part.minus (number (value rows part.part))

-- the parts are those of the sum on the combination
abbrev pub ArePartsOf : Scope → List SymRow → List Signed → List Scaled → List ℤ → (ℕ → ℤ) → Type 0
ArePartsOf scope rows parts made numbers v = AreRowsFit scope rows → All (λ part. HasKind scope part.part) parts → map (scaled_in v) made ≡ map (part_on (combination_in v rows)) parts

-- a number is the sum on the combination
abbrev pub IsSumOf : Scope → List SymRow → List Signed → ℕ → List ℤ → (ℕ → ℤ) → Type 0
IsSumOf scope rows parts id numbers v = AreRowsFit scope rows → All (λ part. HasKind scope part.part) parts → v id ≡ total (map (part_on (combination_in v rows)) parts)

-- the number of a factor on a combination
abbrev pub factor_on : Combination → Expr → ℤ
factor_on rows factor = number (value rows factor)

-- the first of some numbers
abbrev pub first_number : List ℤ → ℤ
first_number [] = pos 0
first_number (n ∷ ns) = n

-- a number is that of the first unknown factor on the combination
abbrev pub IsFirstOf : Scope → List SymRow → List Expr → ℕ → List ℤ → (ℕ → ℤ) → Type 0
IsFirstOf scope rows factors id numbers v = AreRowsFit scope rows → All (HasKind scope) factors → v id ≡ first_number (map (factor_on (combination_in v rows)) (filter (is_unknown scope) factors))

-- a number is the fixed factors' product times the first unknown factor
abbrev pub IsProductOf : Scope → List SymRow → List Expr → ℕ → List ℤ → (ℕ → ℤ) → Type 0
IsProductOf scope rows factors id numbers v = AreRowsFit scope rows → All (HasKind scope) factors
    → v id ≡ product (map (factor_on (combination_in v rows)) (filter (λ factor. not (is_unknown scope factor)) factors)) *ℤ first_number (map (factor_on (combination_in v rows)) (filter (is_unknown scope) factors))

-- a part of a sum by a number of the list, with a factor of one
pub record IsPart (g : Graph) (part : Scaled) : Type 0 where
  pub number : HasNumber g part.number
  pub one : unsigned_abs part.factor ≤ 1

-- the parts of a sum are made in turn
abbrev pub items_of : Result (Vec Scaled) WalkFault → Result (List Scaled) WalkFault
items_of (Ok made) = Ok made.items
items_of (Err e) = Err e

abbrev pub MakesParts : Scope → List SymRow → List Signed → Graph → Result (Vec Scaled) WalkFault → Graph → Type 0
MakesParts scope rows parts before result after = Makes (each (part_walk scope rows) 0 parts before) (λ g made. All (IsPart g) made) (ArePartsOf scope rows parts) before (items_of result) after
