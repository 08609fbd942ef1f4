-- The text of an answer: each production of its grammar as a function from what it spells to its bytes.
use Rattle.std.specs.Prelude.{ℕ, ℤ, List, ◌++◌, length, codes, decimal, flat_map, Option, Some, None}
use Rattle.std.specs.Fmt.{signed_decimal}
use Rattle.branch_tree.specs.declared.node.Node.{Node}
use Rattle.branch_tree.specs.declared.node.Node.TheVariants as node
use Rattle.branch_tree.specs.declared.node.Leaf.{Leaf}
use Rattle.branch_tree.specs.declared.node.Leaf.TheVariants as leaf
use Rattle.branch_tree.specs.declared.node.Reason.{Reason}
use Rattle.branch_tree.specs.declared.node.Reason.TheVariants as reason
use Rattle.answer_text.specs.declared.answer.WorldText.{WorldText}
use Rattle.answer_text.specs.declared.answer.PartAnswer.{PartAnswer}
use Rattle.answer_text.specs.declared.answer.Verdict.{Verdict}
use Rattle.answer_text.specs.declared.answer.Verdict.TheVariants as verdict
use Rattle.answer_text.specs.declared.answer.Answer.{Answer}

-- the word of a split's reason
abbrev pub reason_word : Reason → List ℕ
reason_word reason.Plain = codes "plain"

-- the line of a split
unfoldable pub split_line : ℕ → ℤ → Reason → List ℕ
split_line column at reason = codes "split " ++ decimal column ++ codes " " ++ signed_decimal at ++ codes " " ++ reason_word reason ++ codes "\n"

-- the line of a leaf
abbrev pub leaf_line : Leaf → List ℕ
leaf_line leaf.Fixed = codes "fixed\n"
leaf_line leaf.Pending = codes "open\n"

-- the line of a node
abbrev pub node_line : Node → List ℕ
node_line (node.Split column at reason) = split_line column at reason
node_line (node.Closed leaf) = leaf_line leaf

-- the line of the best value
unfoldable pub best_line : Option ℤ → List ℕ
best_line (Some best) = codes "best " ++ signed_decimal best ++ codes "\n"
best_line None = codes "best none\n"

-- a column behind a space
abbrev pub column_word : ℕ → List ℕ
column_word column = codes " " ++ decimal column

-- a part: the line of its columns, the line of its best value, and a line for each node of its tree in preorder
unfoldable pub part_bytes : PartAnswer → List ℕ
part_bytes part =
    codes "part " ++ decimal part.number ++ codes " columns" ++ flat_map column_word part.columns ++ codes "\n"
    ++ best_line part.best
    ++ flat_map node_line part.tree

-- the section of a hypothetical table: a line with its name, its number of rows and its number of bytes, and then the bytes
unfoldable pub world_bytes : WorldText → List ℕ
world_bytes world =
    codes "world " ++ world.name ++ codes " " ++ decimal world.rows ++ codes " " ++ decimal (length world.bytes) ++ codes "\n"
    ++ world.bytes

-- the line of the program's numbers
unfoldable pub program_line : Answer → List ℕ
program_line answer = codes "program " ++ decimal answer.columns ++ codes " " ++ decimal answer.rows ++ codes " " ++ decimal answer.formulas ++ codes "\n"

-- the line of the verdict
unfoldable pub verdict_line : Verdict → List ℕ
verdict_line (verdict.Optimal objective worlds parts) = codes "optimal " ++ signed_decimal objective ++ codes "\n"
verdict_line (verdict.FalseRow row) = codes "impossible\n"
verdict_line (verdict.NoWorld part) = codes "impossible\n"
verdict_line (verdict.Unfinished nodes parts) = codes "unfinished " ++ decimal nodes ++ codes "\n"

-- what a verdict carries: the worlds and the parts, the line of a false row, or one part
unfoldable pub found_bytes : Verdict → List ℕ
found_bytes (verdict.Optimal objective worlds parts) = flat_map world_bytes worlds ++ flat_map part_bytes parts
found_bytes (verdict.FalseRow row) = codes "row " ++ decimal row ++ codes "\n"
found_bytes (verdict.NoWorld part) = part_bytes part
found_bytes (verdict.Unfinished nodes parts) = flat_map part_bytes parts

-- the text of an answer
unfoldable pub answer_bytes : Answer → List ℕ
answer_bytes answer = codes "tiresias answer 1\n" ++ verdict_line answer.verdict ++ program_line answer ++ found_bytes answer.verdict ++ codes "end\n"
