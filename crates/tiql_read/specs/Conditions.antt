-- how conditions are read
use Rattle.std.specs.Prelude.{ℕ, zero, suc, Bool, ◌||◌, if◌then◌else◌, List, [], ◌∷◌, length, codes, Ok, Err}
use Rattle.std.specs.declared.option.Option.{Option}
use Rattle.std.specs.declared.option.Option.TheVariants.{None, Some}
use Rattle.tiql_tree.specs.declared.expression.TreeExpr.{TreeExpr}
use Rattle.tiql_tree.specs.declared.condition.TreeCmp.{TreeCmp}
use Rattle.tiql_tree.specs.declared.condition.TreeCmp.TheVariants.{Eq, Ne, Lt, Le, Gt, Ge}
use Rattle.tiql_tree.specs.declared.condition.TreeCond.{TreeCond}
use Rattle.tiql_tree.specs.declared.condition.TreeCond.TheVariants.{Compare}
use Rattle.tiql_tree.specs.declared.condition.TreeCond.TheViews.{Not, And, Or}
use Rattle.tiql_tree.specs.Words.{Word}
use Rattle.tiql_read.specs.declared.word.Seen.{Seen}
use Rattle.tiql_read.specs.Steps.{Words, Reading, word_of, ◌>>=◌, begins, need, take_as, is_key, is_sign, next_at, many_at}
use Rattle.tiql_read.specs.Expressions.{expression_at}

-- the comparison that the word is
unfoldable pub cmp_of : Seen → Option TreeCmp
cmp_of seen =
    if is_sign (codes "=") (word_of seen) then Some Eq else (
    if is_sign (codes "<>") (word_of seen) then Some Ne else (
    if is_sign (codes "<") (word_of seen) then Some Lt else (
    if is_sign (codes "<=") (word_of seen) then Some Le else (
    if is_sign (codes ">") (word_of seen) then Some Gt else (
    if is_sign (codes ">=") (word_of seen) then Some Ge else None)))))

-- two expressions of this kind, compared
unfoldable pub compare_by : (Words → Reading TreeExpr) → Words → Reading TreeCond
compare_by expr words =
    expr words >>= λ one. take_as cmp_of one.1 >>= λ cmp. expr cmp.1 >>= λ other. Ok (Compare cmp.0 one.0 other.0, other.1)

-- a first part and these more, all of which are to hold
abbrev pub and_of : TreeCond → List TreeCond → TreeCond
and_of first [] = first
and_of first (part ∷ parts) = And (first ∷ part ∷ parts)

-- a first part and these more, one of which is to hold
abbrev pub or_of : TreeCond → List TreeCond → TreeCond
or_of first [] = first
or_of first (part ∷ parts) = Or (first ∷ part ∷ parts)

-- parts of this kind between AND
unfoldable pub and_by : (Words → Reading TreeCond) → Words → Reading TreeCond
and_by unit words =
    unit words >>= λ first.
    many_at (is_key (codes "AND")) (next_at (is_key (codes "AND")) unit) first.1 >>= λ more.
    Ok (and_of first.0 more.0, more.1)

-- parts of this kind between OR
unfoldable pub or_by : (Words → Reading TreeCond) → Words → Reading TreeCond
or_by conj words =
    conj words >>= λ first.
    many_at (is_key (codes "OR")) (next_at (is_key (codes "OR")) conj) first.1 >>= λ more.
    Ok (or_of first.0 more.0, more.1)

-- a condition of parts of this kind
abbrev pub cond_by : (Words → Reading TreeCond) → Words → Reading TreeCond
cond_by unit words = or_by (and_by unit) words

-- NOT or a grouping sign
unfoldable pub opens_cond : Word → Bool
opens_cond word = is_key (codes "NOT") word || is_sign (codes "[") word

-- behind NOT or a grouping sign, with parts of this kind within
unfoldable pub enclosed_by : (Words → Reading TreeCond) → Words → Reading TreeCond
enclosed_by unit words =
    if begins (is_key (codes "NOT")) words
    then (need (is_key (codes "NOT")) words >>= λ inner. unit inner >>= λ part. Ok (Not part.0, part.1))
    else (need (is_sign (codes "[")) words >>= λ inner. cond_by unit inner >>= λ part. need (is_sign (codes "]")) part.1 >>= λ rest. Ok (part.0, rest))

-- a part of a condition, in which so many more signs and words may open something
unfoldable pub unit_at : ℕ → Words → Reading TreeCond
unit_at zero words = if begins opens_cond words then Err (length words) else compare_by (expression_at zero) words
unit_at (suc room) words = if begins opens_cond words then enclosed_by (unit_at room) words else compare_by (expression_at (suc room)) words

-- a condition, in which so many more may open something
unfoldable pub condition_at : ℕ → Words → Reading TreeCond
condition_at room words = cond_by (unit_at room) words
