-- expressions: their columns, their types and their marks
use Rattle.std.specs.Prelude.{Bool, true, false, ◌||◌, ◌&&◌, if◌then◌else◌, List, [], ◌∷◌, ◌++◌, Result, Ok, Err}
use Rattle.base_kit.specs.declared.place.Place.{Place}
use Rattle.tiql_query.specs.declared.expression.Signed.{Signed, roll-Signed}
use Rattle.tiql_query.specs.declared.expression.Expr.{Expr}
use Rattle.tiql_query.specs.declared.expression.Expr.TheVariants.{Int, Text, Column}
use Rattle.tiql_query.specs.declared.expression.Expr.TheViews.{Sum, Product, Neg, Abs}
use Rattle.tiql_tree.specs.declared.expression.TreeRef.{TreeRef}
use Rattle.tiql_tree.specs.declared.expression.TreeExpr.{TreeExpr, TreeExpr-F, fold-TreeExpr}
use Rattle.tiql_tree.specs.declared.expression.TreeSigned.{TreeSigned, TreeSigned-F, fold-TreeSigned}
use Rattle.tiql_tree.specs.declared.expression.TreeForm.{TreeForm}
use Rattle.tiql_tree.specs.declared.expression.TreeForm.TheOpen.{TreeForm-F}
use Rattle.tiql_tree.specs.declared.expression.TreeForm.TheFolds.{fold-TreeForm}
use Rattle.tiql_check.specs.declared.fault.SoundFault.{SoundFault}
use Rattle.tiql_check.specs.declared.fault.SoundFault.TheVariants as fault
use Rattle.tiql_check.specs.declared.expression.Typed.{Typed}
use Rattle.tiql_check.specs.declared.expression.Terms.{Terms}
use Rattle.tiql_check.specs.declared.expression.Factors.{Factors}
use Rattle.tiql_check.specs.Turns.{◌>>=◌, in_turn}
use Rattle.tiql_check.specs.Scopes.{Scope, number, meant}

-- an expression at its place, with what its check comes to
pub record Part : Type 0 where
  pub place : Place
  pub typed : Result Typed SoundFault

-- a part of a sum
pub record SignedPart : Type 0 where
  pub minus : Bool
  pub part : Part

-- a text is no operand
abbrev pub as_number : Place → Typed → Result Typed SoundFault
as_number place typed = if typed.kind.text then Err (fault.WrongType place) else Ok typed

-- what has to be a whole number
abbrev pub whole_number : Part → Result Typed SoundFault
whole_number part = part.typed >>= as_number part.place

-- a part of a sum with its sign
abbrev pub signed : Bool → Expr → Signed
signed minus part = roll-Signed (record { minus = minus; part = part })

-- before the first part of a sum
abbrev pub no_terms : Terms
no_terms = record { parts = []; unknown = false }

-- a sum is unknown where a part of it is
abbrev pub add_term : Terms → Bool → Typed → Terms
add_term before minus term = record { parts = before.parts ++ signed minus term.expr ∷ []; unknown = before.unknown || term.kind.unknown }

-- one more part of a sum, which has to be a whole number
abbrev pub with_term : Terms → SignedPart → Result Terms SoundFault
with_term before part = do
  term ← whole_number part.part
  Ok (add_term before part.minus term)

-- before the first factor of a product
abbrev pub no_factors : Factors
no_factors = record { parts = []; unknown = false }

-- a product has one unknown factor at most
abbrev pub is_second_unknown : Factors → Typed → Bool
is_second_unknown before factor = before.unknown && factor.kind.unknown

-- one more factor of a product; a second unknown one is refused
abbrev pub add_factor : Factors → Place → Typed → Result Factors SoundFault
add_factor before place factor =
    if is_second_unknown before factor then Err (fault.NotLinear place)
    else Ok (record { parts = before.parts ++ factor.expr ∷ []; unknown = before.unknown || factor.kind.unknown })

-- one more factor of a product, which has to be a whole number
abbrev pub with_factor : Factors → Part → Result Factors SoundFault
with_factor before part = do
  factor ← whole_number part
  add_factor before part.place factor

-- a column, with its type and mark
abbrev pub named_in : Scope → TreeRef → Result Typed SoundFault
named_in scope ref = do
  it ← meant scope ref
  Ok (record { expr = Column it.at; kind = it.kind })

-- the sum of these parts
abbrev pub sum_of : List SignedPart → Result Typed SoundFault
sum_of parts = do
  all ← in_turn with_term no_terms parts
  Ok (record { expr = Sum all.parts; kind = number all.unknown })

-- the product of these factors
abbrev pub product_of : List Part → Result Typed SoundFault
product_of parts = do
  all ← in_turn with_factor no_factors parts
  Ok (record { expr = Product all.parts; kind = number all.unknown })

-- a number behind a minus sign
abbrev pub negated : Typed → Typed
negated one = record { expr = Neg one.expr; kind = number one.kind.unknown }

-- the size of a number
abbrev pub absolute : Typed → Typed
absolute one = record { expr = Abs one.expr; kind = number one.kind.unknown }

-- a form whose parts are checked
abbrev pub form_typed : Scope → TreeForm-F (Result Typed SoundFault) Part SignedPart → Result Typed SoundFault
form_typed scope (TreeForm-F.Number n) = Ok (record { expr = Int n; kind = number false })
form_typed scope (TreeForm-F.Text t) = Ok (record { expr = Text t; kind = record { text = true; unknown = false } })
form_typed scope (TreeForm-F.Ref ref) = named_in scope ref
form_typed scope (TreeForm-F.Sum parts) = sum_of parts
form_typed scope (TreeForm-F.Product parts) = product_of parts
form_typed scope (TreeForm-F.Neg part) = do
  one ← whole_number part
  Ok (negated one)
form_typed scope (TreeForm-F.Abs part) = do
  one ← whole_number part
  Ok (absolute one)

-- an expression whose form is checked
abbrev pub expr_part : TreeExpr-F (Result Typed SoundFault) Part SignedPart → Part
expr_part expr = record { place = expr.place; typed = expr.form }

-- a part of a sum whose expression is checked
abbrev pub signed_part : TreeSigned-F (Result Typed SoundFault) Part SignedPart → SignedPart
signed_part part = record { minus = part.minus; part = part.part }

-- the expression at its place, as a part
unfoldable pub part_in : Scope → TreeExpr → Part
part_in scope = fold-TreeExpr (Result Typed SoundFault) Part SignedPart (form_typed scope) expr_part signed_part

-- the part of a sum
unfoldable pub signed_in : Scope → TreeSigned → SignedPart
signed_in scope = fold-TreeSigned (Result Typed SoundFault) Part SignedPart (form_typed scope) expr_part signed_part

-- the form over these sources, with its type and mark
unfoldable pub form_in : Scope → TreeForm → Result Typed SoundFault
form_in scope = fold-TreeForm (Result Typed SoundFault) Part SignedPart (form_typed scope) expr_part signed_part

-- the expression over these sources, with its type and mark
unfoldable pub typed_in : Scope → TreeExpr → Result Typed SoundFault
typed_in scope expr = form_in scope expr.form

-- the expression, which has to be a whole number
unfoldable pub number_in : Scope → TreeExpr → Result Typed SoundFault
number_in scope expr = typed_in scope expr >>= as_number expr.place
