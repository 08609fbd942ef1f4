-- how the text of a query is made: for each rule of the grammar the choices that it leaves. Braces of the grammar are lists,
-- and its square brackets are options or truths
use Rattle.std.specs.Prelude.{ℕ, Bool, List}
use Rattle.std.specs.declared.option.Option.{Option}
use Rattle.tiql_tree.specs.declared.condition.TreeCmp.{TreeCmp}
use Rattle.tiql_tree.specs.Words.{Several}

-- ref = name [ "." name ]
pub data RefText : Type 0 where
  alone : List ℕ → RefText
  qualified : List ℕ → List ℕ → RefText

mutual
  -- expr = term { ( "+" | "-" ) term }: the last term, or a term, whether a minus follows, and the rest
  pub data ExprText : Type 0 where
    last_term : TermText → ExprText
    next_term : TermText → Bool → ExprText → ExprText

  -- term = factor { "*" factor }
  pub data TermText : Type 0 where
    last_factor : FactorText → TermText
    next_factor : FactorText → TermText → TermText

  -- factor = "-" factor | number | text | ref | "ABS" "(" expr ")" | "(" expr ")"
  pub data FactorText : Type 0 where
    negated : FactorText → FactorText
    numeral : List ℕ → FactorText
    value_text : List ℕ → FactorText
    reference : RefText → FactorText
    absolute : ExprText → FactorText
    grouped : ExprText → FactorText

mutual
  -- cond = conj { "OR" conj }
  pub data CondText : Type 0 where
    last_conj : ConjText → CondText
    next_conj : ConjText → CondText → CondText

  -- conj = unit { "AND" unit }
  pub data ConjText : Type 0 where
    last_unit : UnitText → ConjText
    next_unit : UnitText → ConjText → ConjText

  -- unit = "NOT" unit | "[" cond "]" | expr cmp expr
  pub data UnitText : Type 0 where
    denied : UnitText → UnitText
    bracketed : CondText → UnitText
    compared : TreeCmp → ExprText → ExprText → UnitText

-- column = name ( "INT" | "TEXT" )
pub record ColumnText : Type 0 where
  pub name : List ℕ
  pub is_text : Bool

-- table = "TABLE" name "(" column { "," column } ")" [ "KEY" "(" name { "," name } ")" ] ";"
pub record TableText : Type 0 where
  pub name : List ℕ
  pub columns : Several ColumnText
  pub key_names : Option (Several (List ℕ))

-- bound = name "IN" expr ".." expr
pub record BoundText : Type 0 where
  pub name : List ℕ
  pub lo : ExprText
  pub hi : ExprText

-- hypo = "HYPO" name "FROM" name [ "SET" bound { "," bound } ] [ "WHERE" cond ] [ "DROP" ] ";"
pub record HypoText : Type 0 where
  pub name : List ℕ
  pub table : List ℕ
  pub bounds : Option (Several BoundText)
  pub filter : Option CondText
  pub is_dropped : Bool

-- item = ref | expr "AS" name | agg "AS" name,  agg = ( "SUM" | "MIN" | "MAX" ) "(" expr ")" | "COUNT" "(" "*" ")"
pub data ItemText : Type 0 where
  lone_ref : RefText → ItemText
  plain_item : ExprText → List ℕ → ItemText
  sum_item : ExprText → List ℕ → ItemText
  min_item : ExprText → List ℕ → ItemText
  max_item : ExprText → List ℕ → ItemText
  count_item : List ℕ → ItemText

-- source = name [ "AS" name ]
pub record SourceText : Type 0 where
  pub relation : List ℕ
  pub alias : Option (List ℕ)

-- select = "SELECT" [ "DISTINCT" ] item { "," item } "FROM" source { "," source }
--          [ "WHERE" cond ] [ "GROUP" "BY" ref { "," ref } ]
pub record SelectText : Type 0 where
  pub is_distinct : Bool
  pub items : Several ItemText
  pub sources : Several SourceText
  pub filter : Option CondText
  pub group : Option (Several RefText)

-- view = "VIEW" name "AS" select { "UNION" "ALL" select } ";"
pub record ViewText : Type 0 where
  pub name : List ℕ
  pub arms : Several SelectText

-- require = "REQUIRE" ( "ALL" name "HAVE" cond | "SOME" name "HAVE" cond | "NONE" name ) ";"
pub data RequireText : Type 0 where
  all_have : List ℕ → CondText → RequireText
  some_have : List ℕ → CondText → RequireText
  none_is : List ℕ → RequireText

-- decl = table | hypo | view | require
pub data DeclText : Type 0 where
  table_decl : TableText → DeclText
  hypo_decl : HypoText → DeclText
  view_decl : ViewText → DeclText
  require_decl : RequireText → DeclText

-- goal = ( "MINIMIZE" | "MAXIMIZE" ) "SUM" "(" expr ")" "FROM" name ";" | "FIND" ";"
pub data GoalText : Type 0 where
  find_goal : GoalText
  sum_goal : Bool → ExprText → List ℕ → GoalText

-- query = { decl } goal
pub record QueryText : Type 0 where
  pub decls : List DeclText
  pub goal : GoalText
