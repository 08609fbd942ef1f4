-- What an answer carries can be spelled: the nodes of a tree over a box whose sides are small, and the sections of a text that is not
-- too long.
use Rattle.std.proofs.Common.{ℕ, zero, suc, ◌^◌, ◌<◌, ◌≤◌, ℤ, pos, ◌≤ℤ◌, ◌<ℤ◌, ◌+ℤ◌, unsigned_abs, List, [], ◌∷◌, ◌++◌, length, arith, Option}
use Rattle.std.specs.Prelude.{All, codes, decimal, flat_map, set}
use mir.Syntax.{w64}
use Rattle.std.proofs.lemmas.Int.{ints, fits_signed_from_abs}
use Rattle.std.proofs.lemmas.List.{length-append, length-set}
use Rattle.std.proofs.lemmas.List.Elements.{All-append, All-cons, All-nil}
use Rattle.ip_rows.specs.declared.Bounds.{Bounds}
use Rattle.branch_tree.specs.declared.node.Node.TheVariants as node
use Rattle.branch_tree.specs.Boxes.{high_box, high_side, low_box, low_side, side_at}
use Rattle.branch_tree.specs.Listing.{Closes}
use Rattle.branch_tree.specs.Tree.{Tree, closed, preorder, split}
use Rattle.tiql_query.specs.declared.relation.QHypo.{QHypo}
use Rattle.tiql_query.specs.declared.query.Query.{Query}
use Rattle.world_def.specs.Columns.{Tables}
use Rattle.world_def.specs.declared.world.WorldTable.{WorldTable}
use Rattle.answer_text.specs.Answers.{IsNode, IsWorld}
use Rattle.answer_text.specs.Text.{answer_bytes, found_bytes, part_bytes, program_line, verdict_line, world_bytes}
use Rattle.answer_text.specs.Worlds as read
use Rattle.answer_text.specs.Written.{AreWritten, IsWritten}
use Rattle.answer_text.specs.declared.answer.Answer.{Answer}
use Rattle.answer_text.specs.declared.answer.PartAnswer.{PartAnswer}
use Rattle.answer_text.specs.declared.answer.Verdict.TheVariants as verdict
use Rattle.answer_text.specs.declared.answer.WorldText.{WorldText}

-- ---- the nodes of a tree

-- every side is at most 10^15 in size
abbrev pub AreSmall : List Bounds → Type 0
AreSmall [] = Unit {0}
AreSmall (side ∷ sides) = (unsigned_abs side.lo ≤ 10 ^ 15) × (unsigned_abs side.hi ≤ 10 ^ 15) × AreSmall sides

small_set : (sides : List Bounds) (column : ℕ) (side : Bounds) → AreSmall sides → unsigned_abs side.lo ≤ 10 ^ 15 → unsigned_abs side.hi ≤ 10 ^ 15 → AreSmall (set sides column side)
small_set [] column side small lo hi = tt
small_set (first ∷ sides) zero side small lo hi = (lo, hi, small.2)
small_set (first ∷ sides) (suc column) side small lo hi = (small.0, small.1, small_set sides column side small.2 lo hi)

small_at : (sides : List Bounds) (column : ℕ) → column < length sides → AreSmall sides → (unsigned_abs (side_at sides column).lo ≤ 10 ^ 15) × (unsigned_abs (side_at sides column).hi ≤ 10 ^ 15)
small_at [] column there small = absurd (omega (arith, there))
small_at (side ∷ sides) zero there small = (small.0, small.1)
small_at (side ∷ sides) (suc column) there small = small_at sides column (omega (arith, there)) small.2

at_small : (lo at hi : ℤ) (most : ℕ) → unsigned_abs lo ≤ most → lo ≤ℤ at → at <ℤ hi → unsigned_abs hi ≤ most → unsigned_abs at ≤ most
at_small lo at hi most low above below high = omega (arith, ints, low, above, below, high)

next_small : (lo at hi : ℤ) (most : ℕ) → unsigned_abs lo ≤ most → lo ≤ℤ at → at <ℤ hi → unsigned_abs hi ≤ most → unsigned_abs (at +ℤ pos 1) ≤ most
next_small lo at hi most low above below high = omega (arith, ints, low, above, below, high)

module _ (value : List ℤ → Option ℤ) (best : Option ℤ) where
  pub tree_nodes : (tree : Tree) (sides : List Bounds) → length sides ≤ 20000000 → AreSmall sides → Closes value best tree sides → All IsNode (preorder tree)
  tree_nodes (closed leaf) sides few small closes = All-cons IsNode (node.Closed leaf) [] tt (All-nil IsNode)
  tree_nodes (split column at reason low high) sides few small closes =
      let parted = closes.0 in
      let here = side_at sides column in
      let both = small_at sides column parted.there small in
      let within = at_small here.lo at here.hi (10 ^ 15) both.0 parted.low parted.high both.1 in
      let above = next_small here.lo at here.hi (10 ^ 15) both.0 parted.low parted.high both.1 in
      let low_long : length (low_box sides column at) ≤ 20000000 = (let long = length-set sides column (low_side here at) in omega (arith, long, few)) in
      let high_long : length (high_box sides column at) ≤ 20000000 = (let long = length-set sides column (high_side here at) in omega (arith, long, few)) in
      All-cons IsNode (node.Split column at reason) (preorder low ++ preorder high) (omega (arith, few, parted.there), fits_signed_from_abs w64 at (omega (arith, within)))
      (All-append IsNode (preorder low) (preorder high)
      (tree_nodes low (low_box sides column at) low_long (small_set sides column (low_side here at) small both.0 within) closes.1)
      (tree_nodes high (high_box sides column at) high_long (small_set sides column (high_side here at) small above both.1) closes.2))

-- ---- a part of a longer text

first_part : (xs ys : List ℕ) → length xs ≤ length (xs ++ ys)
first_part xs ys = let long = length-append xs ys in omega (arith, long)

last_part : (xs ys : List ℕ) → length ys ≤ length (xs ++ ys)
last_part xs ys = let long = length-append xs ys in omega (arith, long)

through : (k m n : ℕ) → k ≤ m → m ≤ n → k ≤ n
through k m n one other = omega (arith, one, other)

section_within : (text : WorldText) → length text.bytes ≤ length (world_bytes text)
unfolding world_bytes
section_within text = last_part (codes "world " ++ text.name ++ codes " " ++ decimal text.rows ++ codes " " ++ decimal (length text.bytes) ++ codes "\n") text.bytes

pub worlds_within : (objective : ℤ) (worlds : List WorldText) (parts : List PartAnswer) → length (flat_map world_bytes worlds) ≤ length (found_bytes (verdict.Optimal objective worlds parts))
unfolding found_bytes
worlds_within objective worlds parts = first_part (flat_map world_bytes worlds) (flat_map part_bytes parts)

pub answer_within : (answer : Answer) → length (found_bytes answer.verdict) ≤ length (answer_bytes answer)
unfolding answer_bytes
answer_within answer =
    let before = codes "tiresias answer 1\n" ++ verdict_line answer.verdict ++ program_line answer in
    through _ _ _ (last_part before (found_bytes answer.verdict)) (first_part (before ++ found_bytes answer.verdict) (codes "end\n"))

-- ---- sections

-- a section that is written, read again and not too long can be spelled
world_spelled : (query : Query) (tables : Tables) (hypo : QHypo) (table : WorldTable) (text : WorldText) → IsWritten hypo table text → read.IsSectionOf query tables hypo text table → length text.bytes < 2 ^ 32 → IsWorld text
world_spelled query tables hypo table text said given short =
    let rows = given.right.count in
    let few = given.right.rows.given.few in
    record { name = said.named; rows = omega (arith, rows, few); size = short }

-- and all of them
pub worlds_spelled : (query : Query) (tables : Tables) (hypos : List QHypo) (rest : List WorldTable) (texts : List WorldText) → AreWritten hypos rest texts → read.AreSections query tables hypos texts rest → length (flat_map world_bytes texts) < 2 ^ 32 → All IsWorld texts
unfolding AreWritten
worlds_spelled query tables [] [] [] said given short = All-nil IsWorld
worlds_spelled query tables [] [] (text ∷ texts) said given short = absurd said
worlds_spelled query tables [] (table ∷ rest) texts said given short = absurd said
worlds_spelled query tables (hypo ∷ hypos) [] texts said given short = absurd said
worlds_spelled query tables (hypo ∷ hypos) (table ∷ rest) [] said given short = absurd said
worlds_spelled query tables (hypo ∷ hypos) (table ∷ rest) (text ∷ texts) said given short =
    let whole = length-append (world_bytes text) (flat_map world_bytes texts) in
    let inside = section_within text in
    All-cons IsWorld text texts (world_spelled query tables hypo table text said.0 given.0 (omega (arith, whole, inside, short))) (worlds_spelled query tables hypos rest texts said.1 given.1 (omega (arith, whole, short)))
