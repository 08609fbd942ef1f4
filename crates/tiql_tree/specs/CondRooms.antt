-- the bytes of what is printed of conditions
use Rattle.std.specs.Prelude.{ℕ, Bool, true, false, List, [], ◌∷◌, ◌++◌, codes}
use Rattle.tiql_tree.specs.declared.condition.TreeCmp.{TreeCmp}
use Rattle.tiql_tree.specs.declared.expression.TreeExpr.{TreeExpr}
use Rattle.tiql_tree.specs.declared.write_condition.CondRoom.{CondRoom}
use Rattle.tiql_tree.specs.declared.write_condition.CondRoom.TheVariants as room
use Rattle.tiql_tree.specs.declared.write_expression.Room.TheVariants as expr_room
use Rattle.tiql_tree.specs.Grammar.{cmp_text, cond_words, conj_words, unit_words}
use Rattle.tiql_tree.specs.Printed.{written, CondMade, as_cond, as_conj, as_unit, or_made, and_made, expr_made}
use Rattle.tiql_tree.specs.Rooms.{expr_bytes}

-- an OR may stand there without brackets
abbrev pub takes_or : CondRoom → Bool
takes_or room.Or = true
takes_or room.And = false
takes_or room.Unit = false

-- an AND may stand there without brackets
abbrev pub takes_and : CondRoom → Bool
takes_and room.Or = true
takes_and room.And = true
takes_and room.Unit = false

-- a condition, in square brackets where it is more than there is room for
unfoldable pub cond_bytes : CondRoom → CondMade → List ℕ
cond_bytes room.Or made = written (cond_words (as_cond made))
cond_bytes room.And made = written (conj_words (as_conj made))
cond_bytes room.Unit made = written (unit_words (as_unit made))

-- two expressions with the sign of their comparison between them
abbrev pub compare_bytes : TreeCmp → TreeExpr → TreeExpr → List ℕ
compare_bytes cmp one other =
    expr_bytes expr_room.Sum (expr_made one) ++ (cmp_text cmp ++ 32 ∷ []) ++ expr_bytes expr_room.Sum (expr_made other)

-- the parts of an OR, and of an AND
unfoldable pub or_bytes : List CondMade → List ℕ
or_bytes parts = written (cond_words (or_made parts))

-- the parts of an AND
unfoldable pub and_bytes : List CondMade → List ℕ
and_bytes parts = written (conj_words (and_made parts))

-- a part behind the first one
abbrev pub or_part : CondMade → List ℕ
or_part part = codes "OR " ++ cond_bytes room.And part

-- a part of an AND behind the first one
abbrev pub and_part : CondMade → List ℕ
and_part part = codes "AND " ++ cond_bytes room.Unit part
