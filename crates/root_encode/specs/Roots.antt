-- What is asked of a truth, as forms that are to be 0 or above: that it holds, or that it does not.
use Rattle.std.specs.Prelude.{ℕ, zero, suc, ℤ, pos, negsuc, ◌-ℤ◌, Bool, true, false, not, List, [], ◌∷◌, map, flat_map, length}
use Rattle.prov_arena.specs.Formulas.{Formula, FalseNode, TrueNode, PresNode, PosNode, NotNode, AndNode, OrNode}
use Rattle.prov_fold.specs.Graphs.{Graph, node}
use Rattle.bool_encode.specs.declared.stand.Stand.{Stand}
use Rattle.bool_encode.specs.Forms.{Form, form}
use Rattle.bool_encode.specs.Rows.{IsJoinedOn}
use Rattle.bool_encode.specs.Tables.{times}

-- a constant and the sum of the nodes, with a sign
abbrev pub sum_form : ℤ → ℤ → List ℕ → Form
sum_form c sign kids = form c (map (times sign) kids)

-- n, or -1 - n
abbrev pub pos_form : Bool → ℕ → Form
pos_form true n = form (pos 0) (times (pos 1) n ∷ [])
pos_form false n = form (negsuc 0) (times (negsuc 0) n ∷ [])

-- z - 1, or -z
abbrev pub pres_form : Bool → ℕ → Form
pres_form true z = form (negsuc 0) (times (pos 1) z ∷ [])
pres_form false z = form (pos 0) (times (negsuc 0) z ∷ [])

-- what is asked of the truth at the place z by what is asked of those that it names: of an And that holds each of them holds, of one
-- that does not one of them does not, and likewise of an Or
abbrev pub asked_by : (Bool → ℕ → List Form) → Bool → ℕ → Formula → List Form
asked_by ask true z FalseNode = form (negsuc 0) [] ∷ []
asked_by ask false z TrueNode = form (negsuc 0) [] ∷ []
asked_by ask holds z (PresNode column) = pres_form holds z ∷ []
asked_by ask holds z (PosNode n) = pos_form holds n ∷ []
asked_by ask holds z (NotNode t) = ask (not holds) t
asked_by ask true z (AndNode kids) = flat_map (ask true) kids
asked_by ask false z (AndNode kids) = sum_form (pos (length kids) -ℤ pos 1) (negsuc 0) kids ∷ []
asked_by ask true z (OrNode kids) = sum_form (negsuc 0) (pos 1) kids ∷ []
asked_by ask false z (OrNode kids) = flat_map (ask false) kids
asked_by ask holds z m = []

-- the same in so many steps
unfoldable pub asked : Graph → ℕ → Bool → ℕ → List Form
asked g zero holds z = []
asked g (suc n) holds z = asked_by (asked g n) holds z (node g z)

-- what is asked of the truth at the place z. It names truths before it alone, so that z steps more than one lead to the end
unfoldable pub root_forms : Graph → Bool → ℕ → List Form
root_forms g holds z = asked g (suc z) holds z

-- of each form, with like columns joined, no factor is left at a column that is not there
abbrev pub AreJoinedOn : Graph → List Stand → List Form → Type 0
AreJoinedOn g stands [] = Unit {0}
AreJoinedOn g stands (r ∷ rs) = IsJoinedOn g stands r.pieces × AreJoinedOn g stands rs
