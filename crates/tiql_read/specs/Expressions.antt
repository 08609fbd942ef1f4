-- how references and expressions are read
use Rattle.std.specs.Prelude.{ℕ, zero, suc, pos, Bool, true, false, ◌&&◌, ◌||◌, ◌==◌, nat_le, if◌then◌else◌, List, [], ◌∷◌, length, codes, Ok, Err}
use Rattle.std.specs.Str.{is_utf8}
use Rattle.std.specs.Str.Parse.{digits_value}
use Rattle.std.specs.declared.option.Option.{Option}
use Rattle.std.specs.declared.option.Option.TheVariants.{None, Some}
use Rattle.base_kit.specs.declared.place.Place.{Place}
use Rattle.tiql_lex.specs.declared.token.TokenKind.TheVariants as kinds
use Rattle.tiql_tree.specs.Words.{Word}
use Rattle.tiql_lex.specs.Kinds.{is_number}
use Rattle.tiql_lex.specs.Scan.{value_from}
use Rattle.tiql_tree.specs.declared.tree.Spot.{Spot}
use Rattle.tiql_tree.specs.declared.expression.TreeRef.{TreeRef}
use Rattle.tiql_tree.specs.declared.expression.TreeExpr.{TreeExpr, out-TreeExpr}
use Rattle.tiql_tree.specs.declared.expression.TreeSigned.{TreeSigned}
use Rattle.tiql_tree.specs.declared.expression.TreeForm.TheVariants.{Number, Text, Ref}
use Rattle.tiql_tree.specs.declared.expression.TreeForm.TheViews.{Sum, Product, Neg, Abs}
use Rattle.tiql_tree.specs.Trees.{expr_at, form_of, signed}
use Rattle.tiql_read.specs.declared.word.Seen.{Seen}
use Rattle.tiql_read.specs.Steps.{Words, Reading, word_of, ◌>>=◌, begins, need, take_as, is_kind, is_key, is_sign, is_named, spot_at, mark_at, next_at, many_at}

-- a name behind a point
unfoldable pub point_at : Words → Reading (Option Spot)
point_at words =
    if begins (is_sign (codes ".")) words
    then (need (is_sign (codes ".")) words >>= λ rest. spot_at rest >>= λ column. Ok (Some column.0, column.1))
    else Ok (None, words)

-- the column of this first name and what stands behind a point
abbrev pub ref_of : Spot → Option Spot → TreeRef
ref_of first None = record { place = first.place; relation = None; column = first.name }
ref_of first (Some column) = record { place = first.place; relation = Some first.name; column = column.name }

-- the last name of them
abbrev pub last_of : Spot → Option Spot → Spot
last_of first None = first
last_of first (Some column) = column

-- a column
unfoldable pub ref_at : Words → Reading TreeRef
ref_at words = spot_at words >>= λ first. point_at first.1 >>= λ more. Ok (ref_of first.0 more.0, more.1)

-- the last name of a column
unfoldable pub ref_name_at : Words → Reading Spot
ref_name_at words = spot_at words >>= λ first. point_at first.1 >>= λ more. Ok (last_of first.0 more.0, more.1)

-- a value that is UTF-8 and has at most 1,000 bytes
abbrev pub short_text : Option (List ℕ) → Option (List ℕ)
short_text None = None
short_text (Some value) = if is_utf8 value && nat_le (length value) 1000 then Some value else None

-- what a text in quotes says
unfoldable pub value_of_text : List ℕ → Option (List ℕ)
value_of_text [] = None
value_of_text (b ∷ bs) = if b == 39 then short_text (value_from [] false bs) else None

-- a text of this value
abbrev pub text_expr : Place → Option (List ℕ) → Option TreeExpr
text_expr place None = None
text_expr place (Some value) = Some (expr_at place (Text value))

-- the number that the word is
abbrev pub number_of : Seen → Option TreeExpr
number_of seen = if is_number seen.text then Some (expr_at seen.place (Number (pos (digits_value 10 seen.text)))) else None

-- the number or text that the word is
unfoldable pub literal_of : Seen → Option TreeExpr
literal_of seen =
    if is_kind kinds.Number seen.kind
    then number_of seen
    else (if is_kind kinds.Text seen.kind then text_expr seen.place (value_of_text seen.text) else None)

-- the place of an expression
abbrev pub place_of : TreeExpr → Place
place_of expr = (out-TreeExpr expr).place

-- a factor that opens nothing: a column, a number or a text
unfoldable pub simple_at : Words → Reading TreeExpr
simple_at words =
    if begins is_named words
    then (ref_at words >>= λ column. Ok (expr_at column.0.place (Ref column.0), column.1))
    else take_as literal_of words

-- a minus sign, a grouping sign or ABS
unfoldable pub opens : Word → Bool
opens word = is_sign (codes "-") word || (is_sign (codes "(") word || is_key (codes "ABS") word)

-- the product of a first factor and these more
abbrev pub product_of : TreeExpr → List TreeExpr → TreeExpr
product_of first [] = first
product_of first (factor ∷ factors) = expr_at (place_of first) (Product (first ∷ factor ∷ factors))

-- the sum of a first part and these more
abbrev pub sum_of : TreeExpr → List TreeSigned → TreeExpr
sum_of first [] = first
sum_of first (part ∷ parts) = expr_at (place_of first) (Sum (signed false first ∷ part ∷ parts))

-- whether the word is a minus sign, and not a plus sign
unfoldable pub minus_of : Seen → Option Bool
minus_of seen = if is_sign (codes "-") (word_of seen) then Some true else (if is_sign (codes "+") (word_of seen) then Some false else None)

-- a plus or minus sign
unfoldable pub adds : Word → Bool
adds word = is_sign (codes "+") word || is_sign (codes "-") word

-- factors of this kind
unfoldable pub term_by : (Words → Reading TreeExpr) → Words → Reading TreeExpr
term_by factor words =
    factor words >>= λ first.
    many_at (is_sign (codes "*")) (next_at (is_sign (codes "*")) factor) first.1 >>= λ more.
    Ok (product_of first.0 more.0, more.1)

-- a term with the sign before it
unfoldable pub signed_by : (Words → Reading TreeExpr) → Words → Reading TreeSigned
signed_by term words = take_as minus_of words >>= λ minus. term minus.1 >>= λ part. Ok (signed minus.0 part.0, part.1)

-- terms of this kind
unfoldable pub sum_by : (Words → Reading TreeExpr) → Words → Reading TreeExpr
sum_by term words = term words >>= λ first. many_at adds (signed_by term) first.1 >>= λ more. Ok (sum_of first.0 more.0, more.1)

-- an expression of factors of this kind
abbrev pub expr_by : (Words → Reading TreeExpr) → Words → Reading TreeExpr
expr_by factor words = sum_by (term_by factor) words

-- behind a minus sign, a grouping sign or ABS, with factors of this kind within
unfoldable pub opened_by : (Words → Reading TreeExpr) → Words → Reading TreeExpr
opened_by factor words =
    if begins (is_sign (codes "-")) words
    then (mark_at (is_sign (codes "-")) words >>= λ place. factor place.1 >>= λ part. Ok (expr_at place.0 (Neg part.0), part.1))
    else (if begins (is_sign (codes "(")) words
    then (mark_at (is_sign (codes "(")) words >>= λ place. expr_by factor place.1 >>= λ part.
    need (is_sign (codes ")")) part.1 >>= λ rest. Ok (expr_at place.0 (form_of part.0), rest))
    else (mark_at (is_key (codes "ABS")) words >>= λ place. need (is_sign (codes "(")) place.1 >>= λ inner. expr_by factor inner >>= λ part.
    need (is_sign (codes ")")) part.1 >>= λ rest. Ok (expr_at place.0 (Abs part.0), rest)))

-- a factor, in which so many more signs and words may open something
unfoldable pub factor_at : ℕ → Words → Reading TreeExpr
factor_at zero words = if begins opens words then Err (length words) else simple_at words
factor_at (suc room) words = if begins opens words then opened_by (factor_at room) words else simple_at words

-- an expression, in which so many more may open something
unfoldable pub expression_at : ℕ → Words → Reading TreeExpr
expression_at room words = expr_by (factor_at room) words
