-- the bytes of what is printed of expressions and conditions
use Rattle.std.specs.Prelude.{ℕ, Bool, true, false, if◌then◌else◌, List, ◌++◌, codes}
use Rattle.tiql_tree.specs.declared.write_expression.Room.{Room}
use Rattle.tiql_tree.specs.declared.write_expression.Room.TheVariants as room
use Rattle.tiql_tree.specs.Grammar.{expr_words, term_words, factor_words}
use Rattle.tiql_tree.specs.Printed.{written, ExprMade, SignedMade, as_expr, as_term, as_factor, sum_made, product_made}

-- a sum may stand there without parentheses
abbrev pub takes_sum : Room → Bool
takes_sum room.Sum = true
takes_sum room.Product = false
takes_sum room.Factor = false

-- a product may stand there without parentheses
abbrev pub takes_product : Room → Bool
takes_product room.Sum = true
takes_product room.Product = true
takes_product room.Factor = false

-- an expression, in parentheses where it is more than there is room for
unfoldable pub expr_bytes : Room → ExprMade → List ℕ
expr_bytes room.Sum made = written (expr_words (as_expr made))
expr_bytes room.Product made = written (term_words (as_term made))
expr_bytes room.Factor made = written (factor_words (as_factor made))

-- the parts of a sum
unfoldable pub sum_bytes : List SignedMade → List ℕ
sum_bytes parts = written (expr_words (sum_made parts))

-- the factors of a product
unfoldable pub product_bytes : List ExprMade → List ℕ
product_bytes parts = written (term_words (product_made parts))

-- the sign before a part of a sum
abbrev pub plus_or_minus : Bool → List ℕ
plus_or_minus minus = if minus then codes "- " else codes "+ "

-- a part of a sum, behind its sign
abbrev pub signed_bytes : SignedMade → List ℕ
signed_bytes part = plus_or_minus part.0 ++ expr_bytes room.Product part.1

-- a factor, behind a star
abbrev pub star_bytes : ExprMade → List ℕ
star_bytes part = codes "* " ++ expr_bytes room.Factor part
