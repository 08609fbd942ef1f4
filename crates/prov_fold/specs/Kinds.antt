-- The kinds of formulas.
use Rattle.std.specs.Prelude.{◌<◌, Bool, true, false, length}
use Rattle.prov_arena.specs.Formulas.{Formula, FalseNode, TrueNode, PresNode, CellNode, PosNode, NotNode, AndNode, OrNode, LinNode, GuardNode, AbsNode, TotNode, MinNode}

-- numbers
abbrev pub is_number : Formula → Bool
is_number (LinNode constant terms) = true
is_number _ = false

-- truths that are not folded into another
abbrev pub is_plain : Formula → Bool
is_plain (PresNode column) = true
is_plain (PosNode number) = true
is_plain (AndNode kids) = true
is_plain (OrNode kids) = true
is_plain _ = false

-- truths
abbrev pub is_truth : Formula → Bool
is_truth FalseNode = true
is_truth TrueNode = true
is_truth (NotNode truth) = true
is_truth f = is_plain f

-- what stands in terms: atoms and plain truths
abbrev pub is_term : Formula → Bool
is_term (CellNode column) = true
is_term (GuardNode truth number) = true
is_term (AbsNode number) = true
is_term (TotNode number) = true
is_term (MinNode pairs) = true
is_term f = is_plain f

-- what may be a part of a sum
abbrev pub is_summand : Formula → Bool
is_summand (NotNode truth) = false
is_summand (LinNode constant terms) = true
is_summand f = is_truth f

-- numbers with a term or more
abbrev pub HasTerms : Formula → Type 0
HasTerms (LinNode constant terms) = 0 < length terms
HasTerms _ = ⊥
