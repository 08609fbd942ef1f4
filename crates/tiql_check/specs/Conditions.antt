-- conditions
use Rattle.std.specs.Prelude.{Bool, not, if◌then◌else◌, List, [], ◌∷◌, ◌++◌, Option, Some, None, Result, Ok, Err}
use Rattle.tiql_query.specs.declared.condition.Cmp.{Cmp}
use Rattle.tiql_query.specs.declared.condition.Cmp.TheVariants as cmps
use Rattle.tiql_query.specs.declared.condition.Cond.{Cond}
use Rattle.tiql_query.specs.declared.condition.Cond.TheVariants.{Compare}
use Rattle.tiql_query.specs.declared.condition.Cond.TheViews.{Not, And, Or}
use Rattle.tiql_tree.specs.declared.condition.TreeCmp.{TreeCmp}
use Rattle.tiql_tree.specs.declared.condition.TreeCmp.TheVariants as written
use Rattle.tiql_tree.specs.declared.condition.TreeCond.{TreeCond}
use Rattle.tiql_tree.specs.declared.condition.TreeCond.TheOpen.{TreeCond-F}
use Rattle.tiql_tree.specs.declared.condition.TreeCond.TheFolds.{fold-TreeCond}
use Rattle.tiql_tree.specs.declared.expression.TreeExpr.{TreeExpr}
use Rattle.tiql_check.specs.declared.fault.SoundFault.{SoundFault}
use Rattle.tiql_check.specs.declared.fault.SoundFault.TheVariants as fault
use Rattle.tiql_check.specs.Turns.{◌>>=◌, in_turn}
use Rattle.tiql_check.specs.Scopes.{Scope}
use Rattle.tiql_check.specs.Expressions.{typed_in}

-- the comparison of a query that is written so
abbrev pub cmp_of : TreeCmp → Cmp
cmp_of written.Eq = cmps.Eq
cmp_of written.Ne = cmps.Ne
cmp_of written.Lt = cmps.Lt
cmp_of written.Le = cmps.Le
cmp_of written.Gt = cmps.Gt
cmp_of written.Ge = cmps.Ge

-- one is a text and the other a whole number
abbrev pub differ : Bool → Bool → Bool
differ one other = if one then not other else other

-- both sides have one type
unfoldable pub compared : Scope → TreeCmp → TreeExpr → TreeExpr → Result Cond SoundFault
compared scope cmp one other = do
  left ← typed_in scope one
  right ← typed_in scope other
  if differ left.kind.text right.kind.text then Err (fault.WrongType other.place) else Ok (Compare (cmp_of cmp) left.expr right.expr)

-- one more part of an AND or an OR
abbrev pub with_part : List Cond → Result Cond SoundFault → Result (List Cond) SoundFault
with_part before part = do
  cond ← part
  Ok (before ++ cond ∷ [])

-- a condition whose parts are checked
abbrev pub cond_checked : Scope → TreeCond-F (Result Cond SoundFault) → Result Cond SoundFault
cond_checked scope (TreeCond-F.Compare cmp one other) = compared scope cmp one other
cond_checked scope (TreeCond-F.Not part) = do
  cond ← part
  Ok (Not cond)
cond_checked scope (TreeCond-F.And parts) = do
  all ← in_turn with_part [] parts
  Ok (And all)
cond_checked scope (TreeCond-F.Or parts) = do
  all ← in_turn with_part [] parts
  Ok (Or all)

-- the condition over these sources
unfoldable pub cond_in : Scope → TreeCond → Result Cond SoundFault
cond_in scope = fold-TreeCond (Result Cond SoundFault) (cond_checked scope)

-- the condition behind WHERE, where there is one
abbrev pub filter_in : Scope → Option TreeCond → Result (Option Cond) SoundFault
filter_in scope None = Ok None
filter_in scope (Some cond) = do
  filter ← cond_in scope cond
  Ok (Some filter)
