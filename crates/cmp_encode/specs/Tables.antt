-- The rows of each kind of node, each a form that is to be 0 or above.
use Rattle.std.specs.Prelude.{ℕ, suc, ℤ, pos, negsuc, ◌+ℤ◌, ◌-ℤ◌, ◌*ℤ◌, neg_ℤ, Bool, true, false, Option, Some, None, Result, Ok, Err, List, [], ◌∷◌, ◌++◌, map}
use Rattle.prov_arena.specs.declared.part.Pair.{Pair}
use Rattle.prov_arena.specs.Formulas.{Formula, PosNode, GuardNode, AbsNode, TotNode, MinNode, kids_of}
use Rattle.prov_arena.specs.Graphs.{place_of}
use Rattle.prov_fold.specs.declared.fault.FoldFault.{FoldFault}
use Rattle.prov_fold.specs.declared.span.Span.{Span}
use Rattle.prov_fold.specs.Graphs.{Graph, range}
use Rattle.prov_fold.specs.Rules.{or_of}
use Rattle.bool_encode.specs.declared.form.Key.TheVariants as key
use Rattle.bool_encode.specs.declared.form.Piece.{Piece}
use Rattle.bool_encode.specs.Forms.{Form, form}
use Rattle.bool_encode.specs.Tables.{times, bool_forms}
use Rattle.cmp_encode.specs.Spans.{narrow_span}

-- n - lo (1 - z) and (hi + 1) z - 1 - n
abbrev pub pos_forms : Span → ℕ → ℕ → List Form
pos_forms s n z = form (neg_ℤ s.lo) (times (pos 1) n ∷ times s.lo z ∷ []) ∷ form (negsuc 0) (times (s.hi +ℤ pos 1) z ∷ times (negsuc 0) n ∷ []) ∷ []

-- z - lo t, hi t - z, z - n + hi (1 - t) and n - lo (1 - t) - z
abbrev pub guard_forms : Span → ℕ → ℕ → ℕ → List Form
guard_forms s t n z =
    form (pos 0) (times (pos 1) z ∷ times (neg_ℤ s.lo) t ∷ [])
    ∷ form (pos 0) (times s.hi t ∷ times (negsuc 0) z ∷ [])
    ∷ form s.hi (times (pos 1) z ∷ times (negsuc 0) n ∷ times (neg_ℤ s.hi) t ∷ [])
    ∷ form (neg_ℤ s.lo) (times (pos 1) n ∷ times s.lo t ∷ times (negsuc 0) z ∷ [])
    ∷ []

-- with b the truth that n is 0 or above: z - n, z + n, n - 2 lo (1 - b) - z and 2 hi b - n - z
abbrev pub abs_forms : Span → ℕ → ℕ → ℕ → List Form
abs_forms s n b z =
    form (pos 0) (times (pos 1) z ∷ times (negsuc 0) n ∷ [])
    ∷ form (pos 0) (times (pos 1) z ∷ times (pos 1) n ∷ [])
    ∷ form (neg_ℤ (pos 2 *ℤ s.lo)) (times (pos 1) n ∷ times (pos 2 *ℤ s.lo) b ∷ times (negsuc 0) z ∷ [])
    ∷ form (pos 0) (times (negsuc 0) n ∷ times (pos 2 *ℤ s.hi) b ∷ times (negsuc 0) z ∷ [])
    ∷ []

-- z - n and n - z
abbrev pub tot_forms : ℕ → ℕ → List Form
tot_forms n z = form (pos 0) (times (pos 1) z ∷ times (negsuc 0) n ∷ []) ∷ form (pos 0) (times (pos 1) n ∷ times (negsuc 0) z ∷ []) ∷ []

-- ---- the least of the pairs of z, each with its selector: s is the range of z, h that where a pair is there, r that of a number, and
-- b the truth that a pair is there

abbrev pub selects : ℤ → ℕ → ℕ → Piece
selects k z i = record { factor = k; key = key.Selector z i }

-- t - w of each pair
abbrev pub present_forms : ℕ → ℕ → List Pair → List Form
present_forms z i [] = []
present_forms z i (p ∷ ps) = form (pos 0) (times (pos 1) p.truth ∷ selects (negsuc 0) z i ∷ []) ∷ present_forms z (suc i) ps

abbrev pub selectors : ℤ → ℕ → ℕ → List Pair → List Piece
selectors k z i [] = []
selectors k z i (p ∷ ps) = selects k z i ∷ selectors k z (suc i) ps

-- the selectors' sum - b, and b - the sum
abbrev pub sum_forms : ℕ → ℕ → List Pair → List Form
sum_forms b z pairs = form (pos 0) (times (negsuc 0) b ∷ selectors (pos 1) z 0 pairs) ∷ form (pos 0) (times (pos 1) b ∷ selectors (negsuc 0) z 0 pairs) ∷ []

-- n + (s.hi - lo) (1 - t) - z of each pair, lo the lower end of n
abbrev pub above_forms : Span → (ℕ → Span) → ℕ → List Pair → List Form
above_forms s r z [] = []
above_forms s r z (p ∷ ps) = form (s.hi -ℤ (r p.number).lo) (times (pos 1) p.number ∷ times (neg_ℤ (s.hi -ℤ (r p.number).lo)) p.truth ∷ times (negsuc 0) z ∷ []) ∷ above_forms s r z ps

-- z - n + (hi - s.lo) (1 - w) of each pair, hi the upper end of n
abbrev pub below_forms : Span → (ℕ → Span) → ℕ → ℕ → List Pair → List Form
below_forms s r z i [] = []
below_forms s r z i (p ∷ ps) = form ((r p.number).hi -ℤ s.lo) (times (pos 1) z ∷ times (negsuc 0) p.number ∷ selects (neg_ℤ ((r p.number).hi -ℤ s.lo)) z i ∷ []) ∷ below_forms s r z (suc i) ps

-- z - h.lo b and h.hi b - z
abbrev pub end_forms : Span → ℕ → ℕ → List Form
end_forms h b z = form (pos 0) (times (pos 1) z ∷ times (neg_ℤ h.lo) b ∷ []) ∷ form (pos 0) (times h.hi b ∷ times (negsuc 0) z ∷ []) ∷ []

abbrev pub min_forms : Span → Span → (ℕ → Span) → ℕ → ℕ → List Pair → List Form
min_forms s h r b z pairs = present_forms z 0 pairs ++ (sum_forms b z pairs ++ (above_forms s r z pairs ++ (below_forms s r z 0 pairs ++ end_forms h b z)))

-- ---- by kind

abbrev pub found : Option ℕ → ℕ
found (Some place) = place
found None = 0

abbrev pub made : Result ℕ FoldFault → ℕ
made (Ok place) = place
made (Err fault) = 0

-- the truth that the rows of a node name beside its kids: of an Abs the Pos of its number, of a Min the `or` of its truths
abbrev pub aid_of : Graph → Formula → ℕ
aid_of g (AbsNode n) = found (place_of g.parts (PosNode n))
aid_of g (MinNode pairs) = made (or_of (map (λ (p : Pair). p.truth) pairs) g).gives
aid_of g _ = 0

-- the forms of a node with a column of its own, at the place z
abbrev pub forms_of : Graph → ℕ → Formula → List Form
forms_of g z (PosNode n) = pos_forms (range g n) n z
forms_of g z (GuardNode t n) = guard_forms (range g n) t n z
forms_of g z (AbsNode n) = abs_forms (range g n) n (aid_of g (AbsNode n)) z
forms_of g z (TotNode n) = tot_forms n z
forms_of g z (MinNode pairs) = min_forms (range g z) (narrow_span (range g) pairs) (range g) (aid_of g (MinNode pairs)) z pairs
forms_of g z m = bool_forms z m

-- the kinds whose rows `number_rows` gives
abbrev pub is_compared : Formula → Bool
is_compared (PosNode n) = true
is_compared (GuardNode t n) = true
is_compared (AbsNode n) = true
is_compared (TotNode n) = true
is_compared _ = false

-- the places that the rows of a node name beside it
abbrev pub named_by : Graph → Formula → List ℕ
named_by g (AbsNode n) = n ∷ aid_of g (AbsNode n) ∷ []
named_by g (MinNode pairs) = aid_of g (MinNode pairs) ∷ kids_of (MinNode pairs)
named_by g m = kids_of m
